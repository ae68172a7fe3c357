use Rattle.std.proofs.Common.{◌≡◌, ◌≤◌, ◌++◌, ◌∷◌, [], ◌∙◌, List, ℕ, ap, arith, drop, get_or, length, length-append, length-drop, sym, slice_range}
use Rattle.std.proofs.lemmas.List.{drop-append-le, take_rest}
use Rattle.art_reading.specs.Matching.{shared_len}
use Rattle.art_reading.proofs.Shared.{shared_short, end_apart, end_shared}
use Rattle.art_reading.proofs.lookup.query.shared_with_ended.Goals as goal
use Rattle.art_reading.proofs.lookup.query.shared_with_ended.Goals.{else-shared-rest-via-then-shared-rest+then-shared-bytes+else-bytes-shared, else-shared-rest-via-then-shared-rest+else-shared-bytes, else-shared-rest-via-else-shared-rest}

pub returns-in_default : goal.returns-in_default
returns-in_default c =
    let key = c.args.text.now ++ c.args.end ∷ [] in
    let short = shared_short c.args.bytes.now (drop c.args.place key) in
    let len = length-drop c.args.place key in
    let count = length-append c.args.text.now (c.args.end ∷ []) in
    let past = c.in_default.ensures.lookup in
    omega arith

-- the text from a place on, with its end
with_rest : (text rest : List ℕ) (end place : ℕ) → place ≤ length text → rest ≡ slice_range text place (length text) →
    drop place (text ++ end ∷ []) ≡ rest ++ end ∷ []
with_rest text rest end place within is =
    drop-append-le place text (end ∷ []) within ∙ ap (λ r. r ++ end ∷ []) (sym (is ∙ take_rest text place))

pub returns-then-bytes-shared : goal.returns-then-bytes-shared
returns-then-bytes-shared c =
    let (within, last, is, len) = c.in-Some.ensures.lookup.0 in
    let rest = c.in-Some.rest.now in
    let whole = c.shared_len-shared.ensures in
    let all = c.if-shared-rest.true in
    let more = end_shared c.args.end c.args.bytes.now rest (
      sym whole ∙ all,
      (let there = c.if-shared-bytes.true in omega arith),
      ap (λ n. get_or c.args.bytes.now n 0) (sym all) ∙ c.if-bytes-shared.true,
    ) in
    let same = ap (shared_len c.args.bytes.now) (with_rest c.args.text.now rest c.args.end c.args.place within is) in
    omega arith

pub returns : goal.returns
returns c =
    let (within, last, is, len) = c.in-Some.ensures.lookup.0 in
    let rest = c.in-Some.rest.now in
    let same = ap (shared_len c.args.bytes.now) (with_rest c.args.text.now rest c.args.end c.args.place within is) in
    let whole = c.shared_len-shared.ensures in
    let apart = end_apart c.args.end c.args.bytes.now rest (λ (all, there, byte). elim c.else-shared-rest.branch [
      | else-shared-rest-via-then-shared-rest+then-shared-bytes+else-bytes-shared w ↦
          w.if-bytes-shared.false (ap (λ n. get_or c.args.bytes.now n 0) (whole ∙ all) ∙ byte)
      | else-shared-rest-via-then-shared-rest+else-shared-bytes w ↦ let past = w.if-shared-bytes.false in omega arith
      | else-shared-rest-via-else-shared-rest w ↦ w.if-shared-rest.false (whole ∙ all)
    ]) in
    whole ∙ sym (same ∙ apart)
