use Rattle.std.proofs.Common.{length, ap, ◌∙◌}
use Rattle.text_programs.proofs.PathParts.{all_came}
use Rattle.text_programs.proofs.path_indexes.parts.count_below.Goals as goal

pub returns : goal.returns
returns c =
    let (pairs, drained, is) = c.count.ensures.ran in
    is ∙ all_came c.part_below.result pairs drained ∙ ap length c.part_below.ensures.paths
