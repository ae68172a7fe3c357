-- Routes, and which of them an address gets.
use Rattle.std.specs.Prelude.{◌≡◌, ◌≢◌, ℕ, List, map, flat_map, AllPairs, Contains, Option, Some, None}
use Rattle.std.specs.List.Sorted.{IsPermutation}
use Rattle.std.specs.declared.net.ip_addr.IpAddr.{IpAddr}
use Rattle.prefix_table.specs.declared.network.Network.{Network}
use Rattle.prefix_table.specs.Entries.{IsLongestMatch}

-- A network, the line that writes it, and this line's number.
pub record Route : Type 0 where
  pub network : Network
  pub line : List ℕ
  pub number : ℕ

-- the network of a route with its line
abbrev pub answer_of : Route → Network × List ℕ
answer_of route = (route.network, route.line)

-- the line of the longest network that covers an address; none where none does
abbrev pub IsAnswer : List (Network × List ℕ) → IpAddr → Option (List ℕ) → Type 0
IsAnswer answers address None = IsLongestMatch answers address None
IsAnswer answers address (Some line) = (network : Network) × IsLongestMatch answers address (Some (network, line))

-- the lines of routes, one after another
abbrev pub text_of : List Route → List ℕ
text_of routes = flat_map (λ route. route.line) routes

-- The networks of all routes with their lines, in some order, none of them twice.
pub record AreAnswersOf (routes : List Route) (answers : List (Network × List ℕ)) : Type 0 where
  pub same : IsPermutation (map answer_of routes) answers
  pub distinct : AllPairs (λ a b. a.0 ≢ b.0) answers

-- no two routes have one network
abbrev pub AreDistinct : List Route → Type 0
AreDistinct routes = AllPairs (λ a b. a.network ≢ b.network) routes

-- A route that is there has this network and number.
pub record HasNetwork (routes : List Route) (network : Network) (number : ℕ) : Type 0 where
  pub route : Route
  pub there : Contains routes route
  pub network_is : route.network ≡ network
  pub number_is : route.number ≡ number
