use Rattle.std.proofs.Common.{ap, sym, ◌∙◌, Some}
use Rattle.art_map.proofs.EnteredLeaves.{leaf_of_point}
use Rattle.art_map.proofs.map.position.position_of.Goals as goal

pub returns-in-Exact : goal.returns-in-Exact
returns-in-Exact g c =
    leaf_of_point g.K.AsBytes.bytes g.row.P c.in-Ok.ensures.applies c.in-Exact.is (c.in-Some.is ∙ ap Some (sym c.in-Ok.ensures.root))
