use Rattle.std.specs.Range.Bound.{bound_map}
use Rattle.art_map.proofs.Extracted.{bound_read, range_all}
use Rattle.art_map.proofs.map.ByteMap.extract_range.Goals as goal

pub returns-clause-all : goal.returns-clause-all
returns-clause-all g c has =
    range_all g.K.AsBytes.bytes (bound_map (λ b. b.now) (g.R.RangeBounds.start_bound c.args.range))
    (bound_map (λ b. b.now) (g.R.RangeBounds.end_bound c.args.range))
    record { map = c.args.self; from = c.bound_of-from.result; to = c.bound_of-to.result } (
      bound_read c.start_bound.result c.bound_of-from.result (g.R.RangeBounds.start_bound c.args.range) c.bound_of-from.ensures (c.start_bound.ensures has),
      bound_read c.end_bound.result c.bound_of-to.result (g.R.RangeBounds.end_bound c.args.range) c.bound_of-to.ensures (c.end_bound.ensures has),
    )
