-- Networks in order, each with the place of its value in the list that it comes from.
use Rattle.std.specs.Prelude.{◌≡◌, ℕ, ◌-◌, ◌<◌, ◌≤◌, true, false, List, length, count_by, slice_index_or, take}
use Rattle.std.specs.declared.net.ip_addr.IpAddr.{IpAddr}
use Rattle.prefix_table.specs.declared.network.Address.{Address}
use Rattle.prefix_table.specs.declared.network.Network.{Network}
use Rattle.prefix_table.specs.declared.rows.Row.{Row}
use Rattle.prefix_table.specs.Networks.{IsNetwork, IsUpTo, Precedes, address_of, covers_at, start_of}

-- the network of a row
abbrev pub network_of : Row → Network
network_of row = record { number = row.number; version = row.version; length = row.length }

abbrev pub row_at : List Row → ℕ → Row
row_at rows k = slice_index_or rows k (record { number = 0; place = 0; version = 0; length = 0 })

-- The rows are those of networks, each before the later ones.
pub record AreInOrder (rows : List Row) : Type 0 where
  pub networks : (k : ℕ) → k < length rows → IsNetwork (network_of (row_at rows k))
  pub sorted : (j k : ℕ) → j < k → k < length rows → Precedes (network_of (row_at rows j)) (network_of (row_at rows k))

-- So many rows reach to the last one of the first `upto` that covers the address.
pub record IsLast (rows : List Row) (address : Address) (upto found : ℕ) : Type 0 where
  pub bounded : found ≤ upto
  pub covering : 0 < found → covers_at (network_of (row_at rows (found - 1))) address ≡ true
  pub none_after : (k : ℕ) → found ≤ k → k < upto → covers_at (network_of (row_at rows k)) address ≡ false

-- The first so many rows start at the address or before it, and the others after it.
pub record IsRowCount (rows : List Row) (address : Address) (count : ℕ) : Type 0 where
  pub bounded : count ≤ length rows
  pub first : (k : ℕ) → k < count → IsUpTo (start_of (network_of (row_at rows k))) address
  pub others : (k : ℕ) → count ≤ k → k < length rows → ¬ IsUpTo (start_of (network_of (row_at rows k))) address

-- so many rows start at an address or before it
abbrev pub IsCountFor : List Row → IpAddr → ℕ → Type 0
IsCountFor rows address count = IsRowCount rows (address_of address) count

-- The first so many rows are before the network in order, and no other one is.
pub record IsPosition (rows : List Row) (network : Network) (at : ℕ) : Type 0 where
  pub bounded : at ≤ length rows
  pub before : (k : ℕ) → k < at → Precedes (network_of (row_at rows k)) network
  pub after : (k : ℕ) → at ≤ k → k < length rows → ¬ Precedes (network_of (row_at rows k)) network

-- No more rows were looked at than there are networks around the last one of the first `upto`, itself included.
pub record IsNestedIn (rows : List Row) (upto looked : ℕ) : Type 0 where
  pub few : looked ≤ count_by (λ row. covers_at (network_of row) (start_of (network_of (row_at rows (upto - 1))))) (take upto rows)
