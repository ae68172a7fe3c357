-- The test for a zero, and strings without one that are ended.
use Rattle.std.proofs.Common.{◌≡◌, ℕ, List, [], ◌∷◌, ◌++◌, Bool, true, false, ◌||◌, eqb, eqb-true, eq-eqb, refl, sym, ◌∙◌}
use Rattle.std.specs.List.{list_any}
use Rattle.std.proofs.lemmas.Bool.{true≢false, false≢true}
use Rattle.art_keys.specs.Ended.{HasNoZero, IsEnded, without_end}
use Rattle.art_keys.specs.EndedLaws.{ended_is, without_end-ended}

abbrev pub is_zero : ℕ → Bool
is_zero byte = eqb byte 0

-- if the test fails, no byte is zero
pub none_found : (bytes : List ℕ) → list_any is_zero bytes ≡ false → HasNoZero bytes
none_found [] h = tt
none_found (x ∷ bytes) h = go (none_found bytes) (eqb x 0) refl h
  where
    go : (list_any is_zero bytes ≡ false → HasNoZero bytes) → (s : Bool) → eqb x 0 ≡ s → (s || list_any is_zero bytes) ≡ false → HasNoZero (x ∷ bytes)
    go ih true e h = absurd (true≢false h)
    go ih false e h = ((λ z. true≢false (sym (eq-eqb x 0 z) ∙ e)), ih h)

-- if the test passes, a byte is zero
pub one_found : (bytes : List ℕ) → list_any is_zero bytes ≡ true → HasNoZero bytes → ⊥
one_found [] h of = false≢true h
one_found (x ∷ bytes) h of = go (λ k. one_found bytes k of.1) (eqb x 0) refl h
  where
    go : (list_any is_zero bytes ≡ true → ⊥) → (s : Bool) → eqb x 0 ≡ s → (s || list_any is_zero bytes) ≡ true → ⊥
    go ih true e h = of.0 (eqb-true x 0 e)
    go ih false e h = ih h

-- a string to which a zero is pushed is ended
pub pushed : (bytes text : List ℕ) → HasNoZero text → bytes ≡ text ++ 0 ∷ [] → IsEnded bytes × (without_end bytes ≡ text)
pushed bytes text h e = rw e (ended_is text h, without_end-ended text)
