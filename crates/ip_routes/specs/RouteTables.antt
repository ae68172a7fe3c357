-- What a table of routes has of the entries of a text, and why there is none.
use Rattle.std.specs.Prelude.{◌≡◌, ℕ, List, map, All}
use Rattle.prefix_table.specs.declared.network.Network.{Network}
use Rattle.prefix_table.specs.Networks.{IsNetwork}
use Rattle.ip_routes.specs.declared.lines.LineError.{LineError}
use Rattle.ip_routes.specs.Faults.{IsFaultBeside}
use Rattle.ip_routes.specs.Routes.{AreAnswersOf, Route}
use Rattle.ip_routes.specs.Written.{IsWritten}

-- the line of a route with its number
abbrev pub numbered_line : Route → ℕ × List ℕ
numbered_line route = (route.number, route.line)

-- The line writes the network of the route.
pub record IsRoute (route : Route) : Type 0 where
  pub written : IsWritten route.line route.network
  pub network_is : IsNetwork route.network

-- The entries are the lines of these routes.
pub record AreRoutesOf (entries : List (ℕ × List ℕ)) (routes : List Route) : Type 0 where
  pub entries_are : entries ≡ map numbered_line routes
  pub are : All IsRoute routes

-- The entries are the lines of routes, which are those of the table, and no network occurs twice.
pub record IsRouteTable (entries : List (ℕ × List ℕ)) (table : List (Network × List ℕ)) : Type 0 where
  pub routes : List Route
  pub entries_are : AreRoutesOf entries routes
  pub table_is : AreAnswersOf routes table

-- the entries before this one are the lines of routes, and it has this fault
abbrev pub IsRouteFault : List (ℕ × List ℕ) → List ℕ → LineError → Type 0
IsRouteFault before line fault = (routes : List Route) × AreRoutesOf before routes × IsFaultBeside routes line fault
