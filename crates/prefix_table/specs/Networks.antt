-- Addresses as numbers, and networks that cover them.
use Rattle.std.specs.Prelude.{◌≡◌, ℕ, ◌+◌, ◌-◌, ◌*◌, ◌/◌, ◌^◌, ◌<◌, ◌≤◌, ◌⊎◌, Bool, ◌&&◌, ◌==◌, if◌then◌else◌}
use Rattle.std.specs.Net.Addr.{ipv4_bits, ipv6_bits}
use Rattle.std.specs.declared.net.ip_addr.IpAddr.{IpAddr}
use Rattle.std.specs.declared.net.ip_addr.IpAddr.TheVariants.{V4, V6}
use Rattle.prefix_table.specs.declared.network.Address.{Address}
use Rattle.prefix_table.specs.declared.network.Network.{Network}

-- the version of an address
abbrev pub version_of : IpAddr → ℕ
version_of (V4 ip) = 4
version_of (V6 ip) = 6

-- an address as a number, with its version
abbrev pub address_of : IpAddr → Address
address_of (V4 ip) = record { number = ipv4_bits ip; version = 4 }
address_of (V6 ip) = record { number = ipv6_bits ip; version = 6 }

-- how many bits an address of a version has
abbrev pub width : ℕ → ℕ
width version = if version == 4 then 32 else 128

-- a number with its last bits zero
abbrev pub cleared : ℕ → ℕ → ℕ
cleared count number = number / 2 ^ count * 2 ^ count

-- how many bits of an address a network leaves open
abbrev pub host_bits : Network → ℕ
host_bits network = width network.version - network.length

-- the first address of a network
abbrev pub start_of : Network → Address
start_of network = record { number = network.number; version = network.version }

-- the last address of a network
abbrev pub last_of : Network → Address
last_of network =
    record { number = network.number + (2 ^ host_bits network - 1); version = network.version }

-- the network of an address and a length
abbrev pub network_with : Address → ℕ → Network
network_with address length =
    record { number = address.number; version = address.version; length = length }

-- whether an address without its last bits is the network's number, and of its version
abbrev pub covers_at : Network → Address → Bool
covers_at network address =
    network.version == address.version
    && network.number == cleared (host_bits network) address.number

-- whether a network covers an address
abbrev pub covers : Network → IpAddr → Bool
covers network address = covers_at network (address_of address)

-- The version is 4 or 6, and the number has no more bits than an address of it.
pub record IsAddress (address : Address) : Type 0 where
  pub version_is : (address.version ≡ 4) ⊎ (address.version ≡ 6)
  pub fits : address.number < 2 ^ width address.version

-- The number and the length fit an address, and no bit after the prefix is set.
pub record IsNetwork (network : Network) : Type 0 where
  pub version_is : (network.version ≡ 4) ⊎ (network.version ≡ 6)
  pub number_fits : network.number < 2 ^ width network.version
  pub length_fits : network.length ≤ width network.version
  pub no_host_bits : cleared (host_bits network) network.number ≡ network.number

-- An address is not after another one: by version, and then by number.
pub record IsUpTo (a b : Address) : Type 0 where
  pub version : a.version ≤ b.version
  pub number : a.version ≡ b.version → a.number ≤ b.number

-- A network is before another one: by version, then by number, then by length.
pub record Precedes (a b : Network) : Type 0 where
  pub version : a.version ≤ b.version
  pub number : a.version ≡ b.version → a.number ≤ b.number
  pub length : a.version ≡ b.version → a.number ≡ b.number → a.length < b.length
