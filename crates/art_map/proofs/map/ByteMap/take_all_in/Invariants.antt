use Rattle.std.proofs.Common.{◌≡◌, length}
use Rattle.std.specs.Range.Bound.{bound_map}
use Rattle.art_model.specs.Prelude.{of_key, is_between}
use Rattle.art_map.proofs.FirstOut.{failing, passing}
use Rattle.art_map.proofs.map.ByteMap.take_all_in.Given as goal

abbrev pub invariant-loop-pair : goal.invariant-loop-pair
invariant-loop-pair g l =
    let others = failing (of_key g.K.AsBytes.bytes) (is_between (bound_map (λ b. b.now) l.fn.from) (bound_map (λ b. b.now) l.fn.to)) in
    others l.self ≡ others l.initial.self

abbrev pub decreases-loop-pair : goal.decreases-loop-pair
decreases-loop-pair g l = length (passing (of_key g.K.AsBytes.bytes) (is_between (bound_map (λ b. b.now) l.fn.from) (bound_map (λ b. b.now) l.fn.to)) l.self)
