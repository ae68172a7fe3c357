use Rattle.std.proofs.Common.{◌≡◌, ◌+◌, ◌∙◌, Bool, true, false, ap, arith, is_some, not, refl, slice_get, sym}
use Rattle.std.proofs.lemmas.Bool.{false≢true, true≢false}
use Rattle.art_reading.proofs.Shared.{shared_short, some_left}
use Rattle.art_reading.proofs.lookup.query.starts_with.Goals as goal

pub byte_after-requires : goal.byte_after-requires
byte_after-requires g c =
    let short = shared_short c.args.slice.now (g.B.KeyBytes.key c.args.bytes.now) in
    let shared = c.shared_after-shared.ensures.shared in
    rw c.shared_after-shared.ensures.same (omega arith)

not_same : (a b : Bool) → not a ≡ not b → a ≡ b
not_same true true e = refl
not_same true false e = absurd (false≢true e)
not_same false true e = absurd (true≢false e)
not_same false false e = refl

pub returns-clause-starts : goal.returns-clause-starts
returns-clause-starts g c =
    let key = g.B.KeyBytes.key c.args.bytes.now in
    let there = c.shared_after-shared.ensures.shared in
    not_same _ _ (sym c.is_none.ensures
    ∙ ap is_some (c.byte_after.ensures.byte ∙ ap (λ k. slice_get k (c.shared_after-shared.result + 0)) c.shared_after-shared.ensures.same
    ∙ ap (slice_get key) (omega arith))
    ∙ some_left c.args.slice.now key)
