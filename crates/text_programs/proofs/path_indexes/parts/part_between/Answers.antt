use Rattle.std.proofs.Common.{ap, ◌∙◌}
use Rattle.std.specs.declared.ops.Bound.TheVariants.{Included, Excluded}
use Rattle.art_operations.specs.Ended.{ended}
use Rattle.art_operations.specs.MapItems.{keys_of}
use Rattle.art_operations.specs.Pairs.{of_key}
use Rattle.art_operations.specs.Parts.{between}
use Rattle.text_programs.proofs.PathParts.{between_is}
use Rattle.text_programs.proofs.path_indexes.parts.part_between.Goals as goal

pub returns : goal.returns
returns c =
    ap keys_of (c.range.ensures.pairs tt ∙ ap (between (of_key ended) (Included c.args.from.now) (Excluded c.args.to.now)) c.as_byte_map.ensures.pairs)
    ∙ between_is c.args.from.now c.args.to.now c.args.index.now c.requires.from c.requires.to
