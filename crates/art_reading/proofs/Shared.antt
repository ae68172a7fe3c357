-- What a list shares with another one, and with that one and a byte after it.
use Rattle.std.proofs.Common.{◌≡◌, ℕ, suc, ◌<◌, ◌≤◌, List, [], ◌∷◌, ◌++◌, length, get_or, slice_get, is_some, refl, ap, sym, ◌∙◌, arith, Bool, true, false, not, eqb, eq-eqb, eqb-true}
use Rattle.std.proofs.lemmas.Bool.{false≢true, ne_eqb}
use Rattle.art_model.specs.Prelude.{common_front, is_front}
use Rattle.art_model.proofs.keys.Texts.{front_short}
use Rattle.art_model.proofs.lists.Lists.{common_front_left, common_front_right}
use Rattle.art_reading.specs.Matching.{shared_len}

pub shared_short : (a b : List ℕ) → length (common_front a b) ≤ length b
shared_short a b = front_short (common_front a b) b (common_front_right a b)

pub shared_within : (a b : List ℕ) → length (common_front a b) ≤ length a
shared_within a b = front_short (common_front a b) a (common_front_left a b)

none_with : (a : List ℕ) → shared_len a [] ≡ 0
none_with [] = refl
none_with (x ∷ a) = refl

module _ (end : ℕ) where
  -- the byte after a list is shared where the whole list is and the byte stands there
  abbrev IsEndShared : List ℕ → List ℕ → Type 0
  IsEndShared bytes rest = (shared_len bytes rest ≡ length rest) × (length rest < length bytes) × (get_or bytes (length rest) 0 ≡ end)

  pub end_shared : (bytes rest : List ℕ) → IsEndShared bytes rest → shared_len bytes (rest ++ end ∷ []) ≡ suc (length rest)
  end_shared [] rest (whole, there, same) = absurd (omega arith)
  end_shared (x ∷ bytes) [] (whole, there, same) = rw (eq-eqb x end same) (ap suc (none_with bytes))
  end_shared (x ∷ bytes) (y ∷ rest) (whole, there, same) = go (end_shared bytes rest) (eqb x y) refl
    where
      go : (IsEndShared bytes rest → shared_len bytes (rest ++ end ∷ []) ≡ suc (length rest)) →
          (t : Bool) → eqb x y ≡ t → shared_len (x ∷ bytes) (y ∷ rest ++ end ∷ []) ≡ suc (suc (length rest))
      go ih true e = rw e (ap suc (ih ((let w = rw e at whole in omega arith), omega arith, same)))
      go ih false e = absurd (let w = rw e at whole in omega arith)

  -- and else nothing more is
  pub end_apart : (bytes rest : List ℕ) → (IsEndShared bytes rest → ⊥) → shared_len bytes (rest ++ end ∷ []) ≡ shared_len bytes rest
  end_apart [] rest apart = refl
  end_apart (x ∷ bytes) [] apart = rw (ne_eqb x end (λ same. apart (refl, omega arith, same))) refl
  end_apart (x ∷ bytes) (y ∷ rest) apart = go (end_apart bytes rest) (eqb x y) refl
    where
      go : ((IsEndShared bytes rest → ⊥) → shared_len bytes (rest ++ end ∷ []) ≡ shared_len bytes rest) →
          (t : Bool) → eqb x y ≡ t → shared_len (x ∷ bytes) (y ∷ rest ++ end ∷ []) ≡ shared_len (x ∷ bytes) (y ∷ rest)
      go ih true e = rw e (ap suc (ih (λ w. apart (rw e (ap suc w.0), omega arith, w.2))))
      go ih false e = rw e refl

-- a byte of a list is left after what it shares with another one, except where it is a prefix of that one
pub some_left : (a b : List ℕ) → is_some (slice_get b (shared_len a b)) ≡ not (is_front b a)
some_left [] [] = refl
some_left [] (y ∷ b) = refl
some_left (x ∷ a) [] = refl
some_left (x ∷ a) (y ∷ b) = go (some_left a b) (eqb x y) refl
  where
    go : is_some (slice_get b (shared_len a b)) ≡ not (is_front b a) → (t : Bool) → eqb x y ≡ t →
        is_some (slice_get (y ∷ b) (shared_len (x ∷ a) (y ∷ b))) ≡ not (is_front (y ∷ b) (x ∷ a))
    go ih true e = rw (e, eq-eqb y x (sym (eqb-true x y e))) ih
    go ih false e = rw (e, ne_eqb y x (λ same. false≢true (sym e ∙ eq-eqb x y (sym same)))) refl
