-- Steps from network to network outwards.
use Rattle.std.specs.Prelude.{◌≡◌, ℕ, ◌-◌, ◌≤◌, Option, Some, None}
use Rattle.prefix_table.specs.declared.network.Address.{Address}
use Rattle.prefix_table.specs.declared.network.Network.{Network}
use Rattle.prefix_table.specs.Networks.{cleared, width}

-- the network of the first bits of an address
abbrev pub cut : Address → ℕ → Network
cut address length = record {
  number = cleared (width address.version - length) address.number;
  version = address.version;
  length = length;
}

-- A network is not after another one of its version: by number, and then by length.
pub record IsUpToNetwork (a b : Network) : Type 0 where
  pub version : a.version ≡ b.version
  pub number : a.number ≤ b.number
  pub length : a.number ≡ b.number → a.length ≤ b.length

-- a length is at most this one; none is where there is no bound
abbrev pub IsBound : Option ℕ → ℕ → Type 0
IsBound None length = ⊥
IsBound (Some bound) length = length ≤ bound
