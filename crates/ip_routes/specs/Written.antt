-- How the lines of a table write networks.
use Rattle.std.specs.Prelude.{◌≡◌, ◌≢◌, ℕ, ◌<◌, ◌≤◌, ◌⊎◌, List, ◌∷◌, ◌++◌, length, slice_index}
use Rattle.std.specs.Net.Grammar.{IsIpText, IsNumber}
use Rattle.std.specs.declared.net.ip_addr.IpAddr.{IpAddr}
use Rattle.prefix_table.specs.declared.network.Network.{Network}
use Rattle.prefix_table.specs.Networks.{address_of, cleared, host_bits, start_of, version_of, width}
use Rattle.ip_routes.specs.declared.route.RouteError.{RouteError}
use Rattle.ip_routes.specs.declared.route.RouteError.TheVariants.{Form, Length, HostBits}

-- the first of several digits is zero
abbrev pub LeadsWithZero : List ℕ → Type 0
LeadsWithZero digits = (1 < length digits) × (slice_index digits 0 ≡ 48)

-- decimal digits that write this number, without a leading zero
abbrev pub IsLength : List ℕ → ℕ → Type 0
IsLength digits number = IsNumber 10 digits number × ¬ LeadsWithZero digits

-- The text is an address, a slash, and the length in decimal.
pub record IsPrefixText (text : List ℕ) (address : IpAddr) (length : ℕ) : Type 0 where
  pub start : List ℕ
  pub digits : List ℕ
  pub text_is : text ≡ start ++ 47 ∷ digits
  pub address_is : IsIpText start address
  pub length_is : IsLength digits length

-- that, or an address alone, whose length is that of all its bits
abbrev pub IsNetworkText : List ℕ → IpAddr → ℕ → Type 0
IsNetworkText text address length =
    IsPrefixText text address length ⊎ (IsIpText text address × (length ≡ width (version_of address)))

-- the line is the text, or continues after it with a space and a name
abbrev pub StartsWith : List ℕ → List ℕ → Type 0
StartsWith line text = (line ≡ text) ⊎ ((name : List ℕ) × (line ≡ text ++ 32 ∷ name))

-- the line starts with the text of a network
abbrev pub IsWrittenAt : List ℕ → IpAddr → ℕ → Type 0
IsWrittenAt line address length = (text : List ℕ) × StartsWith line text × IsNetworkText text address length

-- the line writes this network
abbrev pub IsWritten : List ℕ → Network → Type 0
IsWritten line network =
    (address : IpAddr) × IsWrittenAt line address network.length × (start_of network ≡ address_of address)

-- why a line is not a route
abbrev pub IsFaultOf : List ℕ → RouteError → Type 0
IsFaultOf line Form = (network : Network) → ¬ IsWritten line network
IsFaultOf line Length =
    (network : Network) × IsWritten line network × (width network.version < network.length)
IsFaultOf line HostBits =
    (network : Network) × IsWritten line network × (network.length ≤ width network.version)
    × (cleared (host_bits network) network.number ≢ network.number)
