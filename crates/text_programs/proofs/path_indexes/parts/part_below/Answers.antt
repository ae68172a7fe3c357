use Rattle.std.proofs.Common.{ap, ◌∙◌}
use Rattle.art_operations.specs.Ended.{ended}
use Rattle.art_operations.specs.MapItems.{keys_of}
use Rattle.art_operations.specs.Pairs.{of_key}
use Rattle.art_operations.specs.Parts.{below}
use Rattle.text_programs.proofs.PathParts.{below_is}
use Rattle.text_programs.proofs.path_indexes.parts.part_below.Goals as goal

pub returns-clause-paths : goal.returns-clause-paths
returns-clause-paths c =
    ap keys_of (c.prefix.ensures.pairs ∙ ap (below (of_key ended) c.args.prefix.now) c.as_byte_map.ensures.pairs)
    ∙ below_is c.args.prefix.now c.args.index.now c.requires
