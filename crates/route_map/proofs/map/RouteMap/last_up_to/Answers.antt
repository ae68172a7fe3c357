use Rattle.std.proofs.Common.{inl, inr}
use Rattle.route_map.proofs.map.RouteMap.last_up_to.Goals as goal

pub last_six-requires-clause-version : goal.last_six-requires-clause-version
last_six-requires-clause-version g c =
    elim c.requires.version_is [ inl four ↦ absurd (c.if-network-eq4.false four) | inr six ↦ six ]
