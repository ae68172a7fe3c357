-- Networks with values, and the keys that they have in trees.
use Rattle.std.specs.Prelude.{◌≡◌, ◌≢◌, ℕ, Bool, ◌&&◌, ◌==◌, if◌then◌else◌, List, [], ◌∷◌, ◌++◌, map, Option, Some, None}
use Rattle.std.specs.List.{All, Contains}
use Rattle.art_keyed.specs.KeyedPairs.{HaveKeys}
use Rattle.prefix_table.specs.declared.network.Network.{Network}
use Rattle.prefix_table.specs.Networks.{IsNetwork}
use Rattle.prefix_table.specs.Steps.{IsUpToNetwork}

-- the key of a network: its number, and then its length
abbrev pub key_of : Network → ℕ × ℕ
key_of network = (network.number, network.length)

-- the network of a version that has a key
abbrev pub network_of : ℕ → ℕ × ℕ → Network
network_of version key = record { number = key.0; version = version; length = key.1 }

-- the entry of a pair of a tree
abbrev pub entry_of : {V : Type 0} → ℕ → (ℕ × ℕ) × V → Network × V
entry_of version pair = (network_of version pair.0, pair.1)

-- the entries of the pairs of two trees, of version 4 and of version 6
abbrev pub entries_of : {V : Type 0} → List ((ℕ × ℕ) × V) → List ((ℕ × ℕ) × V) → List (Network × V)
entries_of four six = map (entry_of 4) four ++ map (entry_of 6) six

-- The keys of two trees are those of networks.
pub record AreNetworks {V : Type 0} (four six : List ((ℕ × ℕ) × V)) : Type 0 where
  pub of_four : HaveKeys (λ key. IsNetwork (network_of 4 key)) four
  pub of_six : HaveKeys (λ key. IsNetwork (network_of 6 key)) six

-- whether two networks are the same
abbrev pub is_same : Network → Network → Bool
is_same a b = a.version == b.version && (a.number == b.number && a.length == b.length)

-- the value of a network, if it has one
abbrev pub value_of : {V : Type 0} → Network → List (Network × V) → Option V
value_of network [] = None
value_of network (entry ∷ entries) = if is_same network entry.0 then Some entry.1 else value_of network entries

-- each other network has the value that it had
abbrev pub KeepsOthers : {V : Type 0} → Network → List (Network × V) → List (Network × V) → Type 0
KeepsOthers network old new = (other : Network) → IsNetwork other → other ≢ network → value_of other new ≡ value_of other old

-- This entry is in the list, its network is up to that one, and so far is no later one.
pub record IsLastEntryUpTo {V : Type 0} (entries : List (Network × V)) (network : Network) (entry : Network × V) : Type 0 where
  pub there : Contains entries entry
  pub up : IsUpToNetwork entry.0 network
  pub last : All (λ other. IsUpToNetwork other.0 network → IsUpToNetwork other.0 entry.0) entries

-- the last entry up to a network of its version; none where none is up to it
abbrev pub IsLastUpTo : {V : Type 0} → List (Network × V) → Network → Option (Network × V) → Type 0
IsLastUpTo entries network None = All (λ entry. ¬ IsUpToNetwork entry.0 network) entries
IsLastUpTo entries network (Some entry) = IsLastEntryUpTo entries network entry
