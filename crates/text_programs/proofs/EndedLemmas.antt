-- Strings with their ends.
use Rattle.std.proofs.Common.{◌≡◌, ℕ, Bool, true, false, List, [], ◌∷◌, refl, sym, ◌∙◌, subst}
use Rattle.std.proofs.lemmas.Bool.{false≢true}
use Rattle.std.proofs.lemmas.List.{append_cancel_right}
use Rattle.art_model.proofs.keys.Keys.{front_same, not_same, same_equal}
use Rattle.art_operations.specs.Ended.{ended}
use Rattle.art_operations.specs.Keys.{are_same}

-- strings are equal where they are with their ends
pub ended_equal : (a b : List ℕ) → ended a ≡ ended b → a ≡ b
ended_equal a b e = append_cancel_right a b (0 ∷ []) e

pub same_ended : (a b : List ℕ) → are_same (ended a) (ended b) ≡ are_same a b
same_ended a b = go (are_same a b) refl
  where
    go : (t : Bool) → are_same a b ≡ t → are_same (ended a) (ended b) ≡ t
    go true e = subst (λ c. are_same (ended a) (ended c) ≡ true) (sym (same_equal a b e)) (front_same (ended a))
    go false e = not_same (ended a) (ended b) (λ h. false≢true (sym e ∙ subst (λ c. are_same a c ≡ true) (ended_equal a b h) (front_same a)))
