-- Networks in order, and one that occurs twice.
use Rattle.std.specs.Prelude.{◌≡◌, ℕ, ◌+◌, ◌<◌, ◌≤◌, List, [], ◌∷◌, length, map, nat_le, if◌then◌else◌, Option, Some, None}
use Rattle.prefix_table.specs.declared.network.Network.{Network}
use Rattle.prefix_table.specs.declared.rows.Row.{Row}
use Rattle.prefix_table.specs.Rows.{network_of, row_at}

abbrev pub row_with : ℕ → Network → Row
row_with place network =
    record { number = network.number; place = place; version = network.version; length = network.length }

-- networks with their places, counted from this one
abbrev pub numbered : ℕ → List Network → List Row
numbered place [] = []
numbered place (network ∷ networks) = row_with place network ∷ numbered (place + 1) networks

abbrev pub place_of : Row → ℕ
place_of row = row.place

-- the networks of rows, each with its index as its place
abbrev pub in_order : List Row → List Row
in_order rows = numbered 0 (map network_of rows)

-- A row is not after another one: by version, number, length, and then by place.
pub record IsUpToRow (a b : Row) : Type 0 where
  pub version : a.version ≤ b.version
  pub number : a.version ≡ b.version → a.number ≤ b.number
  pub length : a.version ≡ b.version → a.number ≡ b.number → a.length ≤ b.length
  pub place : a.version ≡ b.version → a.number ≡ b.number → a.length ≡ b.length → a.place ≤ b.place

-- no row is after the next one
abbrev pub AreSorted : List Row → Type 0
AreSorted rows = (k : ℕ) → k + 1 < length rows → IsUpToRow (row_at rows k) (row_at rows (k + 1))

-- the rows at an index and the next have one network
abbrev pub AreSame : List Row → ℕ → Type 0
AreSame rows k = network_of (row_at rows k) ≡ network_of (row_at rows (k + 1))

-- These are the places of two rows in a row among the first `upto`, with one network, and no other second one is before
-- this one.
pub record IsFirstPair (rows : List Row) (upto : ℕ) (pair : ℕ × ℕ) : Type 0 where
  pub at : ℕ
  pub fits : at + 1 < upto
  pub same : AreSame rows at
  pub first_is : (row_at rows at).place ≡ pair.0
  pub second_is : (row_at rows (at + 1)).place ≡ pair.1
  pub least : (k : ℕ) → k + 1 < upto → AreSame rows k → pair.1 ≤ (row_at rows (k + 1)).place

-- the first pair of rows with one network; none where no network occurs twice in a row
abbrev pub IsFirstPairOf : List Row → ℕ → Option (ℕ × ℕ) → Type 0
IsFirstPairOf rows upto None = (k : ℕ) → k + 1 < upto → ¬ AreSame rows k
IsFirstPairOf rows upto (Some pair) = IsFirstPair rows upto pair

-- these places, unless a pair has an earlier second one
abbrev pub nearer : Option (ℕ × ℕ) → ℕ → ℕ → Option (ℕ × ℕ)
nearer None first second = Some (first, second)
nearer (Some pair) first second = if nat_le pair.1 second then Some pair else Some (first, second)
