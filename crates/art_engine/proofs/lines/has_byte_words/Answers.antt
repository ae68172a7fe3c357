use Rattle.std.proofs.Common.{rules, ℕ, ◌<◌, List, [], length, refl, Bool, true, false, eqb, arith}
use Rattle.std.specs.Bool.{IsTrue, MatchBool}
use Rattle.std.specs.List.{All, AllWithin, HoldsAt}
use Rattle.std.specs.Prelude.{◌↔◌}
use Rattle.std.proofs.lemmas.Iterator.{cases_from_all}
use Rattle.std.proofs.lemmas.Iterator.Splits.{YieldsList-from_slice_split}
use Rattle.art_engine.specs.KeyTexts.{IsByteWord}
use Rattle.art_engine.proofs.lines.has_byte_words.Goals as goal

decided : (P : List ℕ → Type 0) (xs : List (List ℕ)) (r : Bool) →
    MatchBool r (AllWithin P xs 0 (length xs)) ((k : ℕ) × (k < length xs) × HoldsAt (λ x. P x → ⊥) xs k) → IsTrue r ↔ All P xs
decided P xs true h = ((λ t k d below. h k d (omega arith) below), (λ all. refl))
decided P xs false h = ((λ t. let no : ⊥ = cc in absurd no), (λ all. absurd (h.2 [] (all h.0 [] h.1))))

pub returns : goal.returns
returns c =
    decided IsByteWord _ c.all.result (cases_from_all _ _ c.all.result IsByteWord (λ w. IsByteWord w → ⊥) c.all.ensures.ran
    (YieldsList-from_slice_split _ (λ b. eqb b 46) c.args.word.now c.split.ensures.rest c.split.ensures.done c.split.ensures.closure
    (λ x b q h. search rules)) (λ x q k. search rules) (λ x q k. search rules))
