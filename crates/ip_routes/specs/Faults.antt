-- Why a line is not added, and why lines are no table.
use Rattle.std.specs.Prelude.{◌≡◌, ℕ, ◌+◌, ◌^◌, ◌≤◌, ◌⊎◌, List, [], ◌∷◌, ◌++◌, length, ⊤}
use Rattle.prefix_table.specs.declared.network.Network.{Network}
use Rattle.prefix_table.specs.Networks.{IsNetwork}
use Rattle.ip_routes.specs.declared.lines.LineError.{LineError}
use Rattle.ip_routes.specs.declared.lines.LineError.TheVariants as Why
use Rattle.ip_routes.specs.Routes.{AreDistinct, HasNetwork, Route, text_of}
use Rattle.ip_routes.specs.Written.{IsFaultOf, IsWritten}

-- The line of this number is that of a route, which was added at the end.
pub record Adds (line : List ℕ) (number : ℕ) (old new : List Route) : Type 0 where
  pub network : Network
  pub written : IsWritten line network
  pub network_is : IsNetwork network
  pub added : new ≡ old ++ record { network = network; line = line; number = number } ∷ []

-- with this line there are 2^32 bytes or more, or as many lines
abbrev pub IsTooLong : List Route → List ℕ → Type 0
IsTooLong routes line = (2 ^ 32 ≤ length (text_of routes) + length line) ⊎ (2 ^ 32 ≤ length routes + 1)

-- The line writes the network of an earlier route, and no two earlier ones have one network.
pub record IsTwice (routes : List Route) (line : List ℕ) (earlier : ℕ) : Type 0 where
  pub network : Network
  pub written : IsWritten line network
  pub same : HasNetwork routes network earlier
  pub first : AreDistinct routes

-- why a line can't follow those of these routes
abbrev pub IsFaultBeside : List Route → List ℕ → LineError → Type 0
IsFaultBeside routes line (Why.Route error) = IsFaultOf line error
IsFaultBeside routes line (Why.Twice earlier) = IsTwice routes line earlier
IsFaultBeside routes line Why.TooLong = IsTooLong routes line
IsFaultBeside routes line Why.NoMemory = ⊤

-- A route of this number has the network of an earlier one, and no two before it have one network.
pub record IsRepeated (routes : List Route) (number earlier : ℕ) : Type 0 where
  pub before : List Route
  pub route : Route
  pub after : List Route
  pub routes_are : routes ≡ before ++ route ∷ after
  pub number_is : route.number ≡ number
  pub same : HasNetwork before route.network earlier
  pub first : AreDistinct before

-- why routes are no table
abbrev pub IsRefusal : List Route → ℕ → LineError → Type 0
IsRefusal routes number (Why.Twice earlier) = IsRepeated routes number earlier
IsRefusal routes number Why.NoMemory = ⊤
IsRefusal routes number (Why.Route error) = ⊥
IsRefusal routes number Why.TooLong = ⊥

-- the fault is that an allocation failed
abbrev pub IsOutOfMemory : LineError → Type 0
IsOutOfMemory Why.NoMemory = ⊤
IsOutOfMemory (Why.Route error) = ⊥
IsOutOfMemory (Why.Twice earlier) = ⊥
IsOutOfMemory Why.TooLong = ⊥
