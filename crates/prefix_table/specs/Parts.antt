-- Parts of a table that are iterated over.
use Rattle.std.specs.Prelude.{◌≡◌, ℕ, ◌-◌, ◌<◌, ◌≤◌, ◌&&◌, Bool, true, false, List, length, filter, map, reverse, slice_index_or, nat_le}
use Rattle.prefix_table.specs.declared.network.Address.{Address}
use Rattle.prefix_table.specs.declared.network.Network.{Network}
use Rattle.prefix_table.specs.Networks.{IsUpTo, Precedes, covers_at, start_of}

-- the entries whose networks cover an address, the last one first
abbrev pub covering : {V : Type 0} → Address → List (Network × V) → List (Network × V)
covering address entries = reverse (filter (λ entry. covers_at entry.0 address) entries)

-- the network at an index
abbrev pub network_in : {V : Type 0} → List (Network × V) → ℕ → Network
network_in entries k =
    slice_index_or (map (λ entry. entry.0) entries) k (record { number = 0; version = 0; length = 0 })

-- The first so many networks start at the address or before it.
pub record AreStarted {V : Type 0} (entries : List (Network × V)) (address : Address) (upto : ℕ) : Type 0 where
  pub within : upto ≤ length entries
  pub started : (k : ℕ) → k < upto → IsUpTo (start_of (network_in entries k)) address

-- So many entries reach to the last one of the first `upto` whose network covers the address.
pub record IsLastEntry {V : Type 0} (entries : List (Network × V)) (address : Address) (upto found : ℕ) : Type 0 where
  pub bounded : found ≤ upto
  pub covering : 0 < found → covers_at (network_in entries (found - 1)) address ≡ true
  pub none_after : (k : ℕ) → found ≤ k → k < upto → covers_at (network_in entries k) address ≡ false

-- whether all addresses of the second network are of the first
abbrev pub is_inside : Network → Network → Bool
is_inside outer inner = covers_at outer (start_of inner) && nat_le outer.length inner.length

-- The networks of the first so many entries are before this one, and no other one is.
pub record IsPositionIn {V : Type 0} (entries : List (Network × V)) (network : Network) (at : ℕ) : Type 0 where
  pub bounded : at ≤ length entries
  pub before : (k : ℕ) → k < at → Precedes (network_in entries k) network
  pub after : (k : ℕ) → at ≤ k → k < length entries → ¬ Precedes (network_in entries k) network
