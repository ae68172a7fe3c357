-- What is written in reply to addresses.
use Rattle.std.specs.Prelude.{◌≡◌, ℕ, List, ◌++◌, codes, Option, Some, None}
use Rattle.std.specs.Net.Grammar.{IsIpText}
use Rattle.std.specs.declared.net.ip_addr.IpAddr.{IpAddr}
use Rattle.prefix_table.specs.declared.network.Network.{Network}
use Rattle.ip_routes.specs.Routes.{IsAnswer}

-- the line of a route, or none
abbrev pub reply_with : Option (List ℕ) → List ℕ
reply_with None = codes "none\n"
reply_with (Some line) = line ++ codes "\n"

-- the line is the text of an address, and this is the line of the route that it gets, or none
abbrev pub IsRouteReply : List (Network × List ℕ) → List ℕ → List ℕ → Type 0
IsRouteReply routes line reply =
    (address : IpAddr) × (found : Option (List ℕ)) × IsIpText line address × IsAnswer routes address found × (reply ≡ reply_with found)

-- the line is the text of an address that a route covers
abbrev pub HasAnswer : List (Network × List ℕ) → List ℕ → Type 0
HasAnswer routes line = (address : IpAddr) × (found : List ℕ) × IsIpText line address × IsAnswer routes address (Some found)

-- the line is the text of no address
abbrev pub IsNoAddress : List ℕ → Type 0
IsNoAddress line = (address : IpAddr) → ¬ IsIpText line address
