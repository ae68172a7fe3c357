use Rattle.std.proofs.Common.{rules, ◌≡◌, ℕ, List, [], ◌∷◌, ◌++◌, map, eqb, ap, sym, ◌∙◌}
use Rattle.std.proofs.Math.Logic.{∥∥₁_elim}
use Rattle.std.specs.Fmt.{decimal}
use Rattle.std.specs.Slice.Iter.{split_rest, split_done, split_callee}
use Rattle.std.proofs.lemmas.List.{map-append}
use Rattle.std.proofs.lemmas.Iterator.Consumers.{YieldsList-turn, YieldsList-end}
use Rattle.std.proofs.lemmas.Iterator.Splits.{YieldsList-from_slice_split}
use Rattle.art_engine.proofs.lines.read_bytes.Goals as goal

one_more : {A : Type 0} (f : A → List ℕ) (xs : List A) (x : A) (bs : List ℕ) (b : ℕ) → map f xs ≡ map decimal bs → f x ≡ decimal b →
    map f (xs ++ x ∷ []) ≡ map decimal (bs ++ b ∷ [])
one_more f xs x bs b e h = let k = map-append f xs (x ∷ []) in let m = map-append decimal bs (b ∷ []) in cc

pub loop-digits-init : goal.loop-digits-init
loop-digits-init c = ap (map decimal) (sym c.new-key.ensures.items)

pub loop-digits-preserved-in-Continue-1 : goal.loop-digits-preserved-in-Continue-1
loop-digits-preserved-in-Continue-1 c =
    one_more (λ d. d.now) c.loop-digits.yielded c.in-Some.digits c.loop-digits.key.items c.in-Some-parse_byte.byte c.loop-digits.invariant
    c.in-Some-parse_byte.ensures.value
    ∙ ap (map decimal) (sym c.in_ok-push.ensures.items)

pub loop-digits-preserved : goal.loop-digits-preserved
loop-digits-preserved c =
    let turn = YieldsList-turn (YieldsList-from_slice_split _ (λ b. eqb b 46) c.args.word.now
    (ap split_rest c.into_iter-digits-iterator.ensures.into_iter_gives ∙ c.split-digits-items.ensures.rest)
    (ap split_done c.into_iter-digits-iterator.ensures.into_iter_gives ∙ c.split-digits-items.ensures.done)
    (ap split_callee c.into_iter-digits-iterator.ensures.into_iter_gives ∙ c.split-digits-items.ensures.closure) (λ x b q h. search rules))
    c.loop-digits.yielded _ c.loop-digits.yielded_by _ _ c.in-Some.digits c.in-Some.is c.next.ensures.steps in
    let no : ⊥ =
    ∥∥₁_elim c.requires (λ x y. absurd x) (λ all. c.in_default.ensures.none (all _ c.in-Some.digits.now turn.0).0
    (all _ c.in-Some.digits.now turn.0).1 (turn.1 ∙ (all _ c.in-Some.digits.now turn.0).2)) in
    absurd no

pub returns : goal.returns
returns c =
    let all = YieldsList-end (YieldsList-from_slice_split _ (λ b. eqb b 46) c.args.word.now
    (ap split_rest c.into_iter-digits-iterator.ensures.into_iter_gives ∙ c.split-digits-items.ensures.rest)
    (ap split_done c.into_iter-digits-iterator.ensures.into_iter_gives ∙ c.split-digits-items.ensures.done)
    (ap split_callee c.into_iter-digits-iterator.ensures.into_iter_gives ∙ c.split-digits-items.ensures.closure) (λ x b q h. search rules))
    c.loop-digits.yielded _ c.loop-digits.yielded_by _ _ c.in-None.is c.next.ensures.steps in
    sym all.0 ∙ c.loop-digits.invariant
