use Rattle.std.proofs.Common.{refl}
use Rattle.art_keyed.proofs.ExtractedKeys.{range_all}
use Rattle.art_keyed.proofs.map.TreeMap.extract_range.Goals as goal

pub returns-clause-all : goal.returns-clause-all
returns-clause-all g c has =
    range_all g.K.AsBytes.bytes g.K.OrderedBytes.order g.R.RangeBounds.has_bounds g.R.RangeBounds.start_bound g.R.RangeBounds.end_bound c.args.range has
    record { map = c.args.self; range = c.args.range } refl
