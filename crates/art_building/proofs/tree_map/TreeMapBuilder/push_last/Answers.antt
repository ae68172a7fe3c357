use Rattle.std.proofs.lemmas.Bool.{true≢false}
use Rattle.std.proofs.Common.{sym, ◌∙◌}
use Rattle.art_building.proofs.Lasts.{only_memory}
use Rattle.art_building.proofs.tree_map.TreeMapBuilder.push_last.Goals as goal
use Rattle.art_building.proofs.tree_map.TreeMapBuilder.push_last.Goals.{in-Memory, in_default}

pub prove-unreachable-requires : goal.prove-unreachable-requires
prove-unreachable-requires g c =
    let is = only_memory g.K.AsBytes.bytes c.args.self.now c.args.pair c.requires c.in-Err.error.reason c.in-Err.ensures.error.2 in
    elim c.match-matches.branch [ in-Memory w ↦ absurd (true≢false (sym w.matches-is ∙ c.if-prove.true)) | in_default w ↦ w.in_default.not-Memory is ]
