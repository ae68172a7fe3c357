use Rattle.std.proofs.Common.{ap, ap₂, sym, ◌∙◌}
use Rattle.std.specs.declared.ops.Bound.TheVariants.{Included, Unbounded}
use Rattle.art_model.specs.Prelude.{of_key, is_between}
use Rattle.art_map.specs.MapParts.{without}
use Rattle.art_map.proofs.FirstOut.{fewer}
use Rattle.art_map.proofs.Moved.{begins, done, goes_on, stopped}
use Rattle.art_map.proofs.map.ByteMap.split_off.Goals as goal

pub loop-key-init : goal.loop-key-init
loop-key-init g c = rw c.new-moved.ensures (begins g.K.AsBytes.bytes (is_between (Included c.args.key_bytes.now) Unbounded) c.args.self.now)

pub loop-key-smaller : goal.loop-key-smaller
loop-key-smaller g c =
    let B = of_key g.K.AsBytes.bytes in
    let test = is_between (Included c.args.key_bytes.now) Unbounded in
    let took = c.take_first_in.ensures in
    rw (took.pairs, c.in-Some.is) (fewer B test c.args.self.now c.loop-key.self took.sorted c.loop-key.invariant.kept
    (c.in-Some.key, c.in-Some.value) (sym c.in-Some.is ∙ took.removed))

pub loop-key-preserved : goal.loop-key-preserved
loop-key-preserved g c =
    let test = is_between (Included c.args.key_bytes.now) Unbounded in
    let took = c.take_first_in.ensures in
    rw (took.pairs, c.in-Some.is, c.in-Ok.ensures.pairs)
    (goes_on g.K.AsBytes.bytes test c.args.self.now c.loop-key.invariant took.sorted (c.in-Some.key, c.in-Some.value) (sym c.in-Some.is ∙ took.removed))

pub returns-in-Err-Conflict-clause-refused : goal.returns-in-Err-Conflict-clause-refused
returns-in-Err-Conflict-clause-refused g c =
    let took = c.take_first_in.ensures in
    let refused = rw c.in-Err-Conflict.field-0-is at c.in-Err-Conflict.ensures.refused in
    (stopped g.K.AsBytes.bytes c.args.key_bytes.now c.args.self.now c.loop-key.invariant took.sorted (sym c.in-Some.is ∙ took.removed)
    (ap₂ (λ k v. (k, v)) refused.0 refused.1)
    (took.pairs ∙ ap (λ o. without (of_key g.K.AsBytes.bytes) o c.loop-key.self) c.in-Some.is) c.in-Err-Conflict.ensures.kept).0

pub returns-in-Err-Conflict-clause-kept : goal.returns-in-Err-Conflict-clause-kept
returns-in-Err-Conflict-clause-kept g c =
    let took = c.take_first_in.ensures in
    let refused = rw c.in-Err-Conflict.field-0-is at c.in-Err-Conflict.ensures.refused in
    (stopped g.K.AsBytes.bytes c.args.key_bytes.now c.args.self.now c.loop-key.invariant took.sorted (sym c.in-Some.is ∙ took.removed)
    (ap₂ (λ k v. (k, v)) refused.0 refused.1)
    (took.pairs ∙ ap (λ o. without (of_key g.K.AsBytes.bytes) o c.loop-key.self) c.in-Some.is) c.in-Err-Conflict.ensures.kept).1

pub returns-in-Err-Memory-clause-refused : goal.returns-in-Err-Memory-clause-refused
returns-in-Err-Memory-clause-refused g c =
    let took = c.take_first_in.ensures in
    let refused = rw c.in-Err-Memory.field-0-is at c.in-Err-Memory.ensures.refused in
    (stopped g.K.AsBytes.bytes c.args.key_bytes.now c.args.self.now c.loop-key.invariant took.sorted (sym c.in-Some.is ∙ took.removed)
    (ap₂ (λ k v. (k, v)) refused.0 refused.1)
    (took.pairs ∙ ap (λ o. without (of_key g.K.AsBytes.bytes) o c.loop-key.self) c.in-Some.is) c.in-Err-Memory.ensures.kept).0

pub returns-in-Err-Memory-clause-kept : goal.returns-in-Err-Memory-clause-kept
returns-in-Err-Memory-clause-kept g c =
    let took = c.take_first_in.ensures in
    let refused = rw c.in-Err-Memory.field-0-is at c.in-Err-Memory.ensures.refused in
    (stopped g.K.AsBytes.bytes c.args.key_bytes.now c.args.self.now c.loop-key.invariant took.sorted (sym c.in-Some.is ∙ took.removed)
    (ap₂ (λ k v. (k, v)) refused.0 refused.1)
    (took.pairs ∙ ap (λ o. without (of_key g.K.AsBytes.bytes) o c.loop-key.self) c.in-Some.is) c.in-Err-Memory.ensures.kept).1

pub returns-clause-stay : goal.returns-clause-stay
returns-clause-stay g c =
    let took = c.take_first_in.ensures in
    (done g.K.AsBytes.bytes c.args.key_bytes.now c.args.self.now c.loop-key.invariant (sym c.in_default.is ∙ took.removed)
    (took.pairs ∙ ap (λ o. without (of_key g.K.AsBytes.bytes) o c.loop-key.self) c.in_default.is)).0

pub returns-clause-moved : goal.returns-clause-moved
returns-clause-moved g c =
    let took = c.take_first_in.ensures in
    (done g.K.AsBytes.bytes c.args.key_bytes.now c.args.self.now c.loop-key.invariant (sym c.in_default.is ∙ took.removed)
    (took.pairs ∙ ap (λ o. without (of_key g.K.AsBytes.bytes) o c.loop-key.self) c.in_default.is)).1
