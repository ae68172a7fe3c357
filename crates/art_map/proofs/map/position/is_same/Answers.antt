use Rattle.std.proofs.Common.{◌≡◌, ◌+◌, ◌&&◌, ◌∙◌, Bool, true, false, ap, ap₂, arith, is_some, not, refl, slice_get, sym}
use Rattle.std.proofs.lemmas.Bool.{false≢true}
use Rattle.art_model.specs.Prelude.{is_front}
use Rattle.art_model.proofs.keys.Keys.{same_equal}
use Rattle.art_model.proofs.keys.Texts.{true_front}
use Rattle.art_reading.proofs.Shared.{shared_short, some_left}
use Rattle.art_reading.proofs.Partings.{all_shared}
use Rattle.art_map.proofs.map.position.is_same.Goals as goal

pub byte_after-requires : goal.byte_after-requires
byte_after-requires g c =
    let short = shared_short c.args.slice.now (g.B.KeyBytes.key c.args.bytes.now) in
    let shared = c.shared_after-shared.ensures.shared in
    rw c.shared_after-shared.ensures.same (omega arith)

from_not : (a : Bool) → false ≡ not a → a ≡ true
from_not true e = refl
from_not false e = absurd (false≢true e)

pub returns-then-shared-slice-clause-is_same : goal.returns-then-shared-slice-clause-is_same
returns-then-shared-slice-clause-is_same g c none =
    let slice = c.args.slice.now in
    let key = g.B.KeyBytes.key c.args.bytes.now in
    let shared = c.shared_after-shared.ensures.shared in
    let whole = all_shared slice key c.shared_after-shared.result shared (omega arith) in
    let left = sym (ap not none) ∙ sym c.is_none.ensures
    ∙ ap is_some (c.byte_after.ensures.byte
    ∙ ap (λ k. slice_get k (c.shared_after-shared.result + 0)) c.shared_after-shared.ensures.same ∙ ap (slice_get key) (omega arith))
    ∙ some_left slice key in
    sym (same_equal slice key (ap₂ (λ a b. a && b) (true_front slice key whole.1) (from_not (is_front key slice) left)))
