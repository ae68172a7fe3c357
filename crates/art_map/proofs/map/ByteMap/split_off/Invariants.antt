use Rattle.std.proofs.Common.{length}
use Rattle.std.specs.declared.ops.Bound.TheVariants.{Included, Unbounded}
use Rattle.art_model.specs.Prelude.{of_key, is_between}
use Rattle.art_map.proofs.FirstOut.{passing}
use Rattle.art_map.proofs.Moved.{Moving}
use Rattle.art_map.proofs.map.ByteMap.split_off.Given as goal

abbrev pub invariant-loop-key : goal.invariant-loop-key
invariant-loop-key g l = Moving g.K.AsBytes.bytes (is_between (Included l.fn.key_bytes) Unbounded) l.initial.self l.self l.moved

abbrev pub decreases-loop-key : goal.decreases-loop-key
decreases-loop-key g l = length (passing (of_key g.K.AsBytes.bytes) (is_between (Included l.fn.key_bytes) Unbounded) l.self)
