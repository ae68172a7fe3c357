-- on which side of a key others are that start alike
use Rattle.std.proofs.Common.{◌≡◌, ℕ, ◌<◌, ◌≤◌, ◌⊎◌, List, [], ◌∷◌, ◌++◌, length, refl, ap, sym, ◌∙◌, arith, inl, inr}
use Rattle.std.specs.Cmp.Lexicographic.{slice_cmp}
use Rattle.std.specs.Ordering.{nat_cmp, ordering_then}
use Rattle.std.proofs.lemmas.Bool.{cases_order, le-ltb, lt-ltb, ne_eqb}
use Rattle.art_model.specs.Prelude.{IsFront}

-- a byte that is not the key's decides
decided_left : (a k : ℕ) (w v s : List ℕ) → (a ≡ k → slice_cmp nat_cmp w s ≡ slice_cmp nat_cmp v s) →
    slice_cmp nat_cmp (a ∷ w) (k ∷ s) ≡ slice_cmp nat_cmp (a ∷ v) (k ∷ s)
decided_left a k w v s h = go (cases_order a k)
  where
    go : (a ≡ k) ⊎ ((a < k) ⊎ (k < a)) → slice_cmp nat_cmp (a ∷ w) (k ∷ s) ≡ slice_cmp nat_cmp (a ∷ v) (k ∷ s)
    go (inl e) = ap (ordering_then (nat_cmp a k)) (h e)
    go (inr (inl l)) = rw (lt-ltb a k l) refl
    go (inr (inr l)) = rw (le-ltb a k (omega arith), ne_eqb a k (λ p. omega arith)) refl

decided_right : (a k : ℕ) (w v s : List ℕ) → (a ≡ k → slice_cmp nat_cmp s w ≡ slice_cmp nat_cmp s v) →
    slice_cmp nat_cmp (k ∷ s) (a ∷ w) ≡ slice_cmp nat_cmp (k ∷ s) (a ∷ v)
decided_right a k w v s h = go (cases_order k a)
  where
    go : (k ≡ a) ⊎ ((k < a) ⊎ (a < k)) → slice_cmp nat_cmp (k ∷ s) (a ∷ w) ≡ slice_cmp nat_cmp (k ∷ s) (a ∷ v)
    go (inl e) = ap (ordering_then (nat_cmp k a)) (h (sym e))
    go (inr (inl l)) = rw (lt-ltb k a l) refl
    go (inr (inr l)) = rw (le-ltb k a (omega arith), ne_eqb k a (λ p. omega arith)) refl

longer : (a k : ℕ) (w key : List ℕ) → (IsFront (a ∷ w) (k ∷ key) → ⊥) → a ≡ k → IsFront w key → ⊥
longer a k w key off e (r, f) = off (r, ap (λ z. z ∷ key) (sym e) ∙ ap (λ z. a ∷ z) f)

-- what starts with bytes that the key does not start with is on the side of these bytes
pub apart_left : (w r key : List ℕ) → (IsFront w key → ⊥) → slice_cmp nat_cmp (w ++ r) key ≡ slice_cmp nat_cmp w key
apart_left [] r key off = absurd (off (key, refl))
apart_left (a ∷ w) r [] off = refl
apart_left (a ∷ w) r (k ∷ key) off = decided_left a k (w ++ r) w key (λ e. apart_left w r key (longer a k w key off e))

pub apart_right : (w r key : List ℕ) → (IsFront w key → ⊥) → slice_cmp nat_cmp key (w ++ r) ≡ slice_cmp nat_cmp key w
apart_right [] r key off = absurd (off (key, refl))
apart_right (a ∷ w) r [] off = refl
apart_right (a ∷ w) r (k ∷ key) off = decided_right a k (w ++ r) w key (λ e. apart_right w r key (longer a k w key off e))

-- what continues after bytes that are no fewer than the key's is on one side
pub ended_left : (w key r : List ℕ) (c : ℕ) → length key ≤ length w → slice_cmp nat_cmp (w ++ c ∷ r) key ≡ slice_cmp nat_cmp (w ++ 0 ∷ []) key
ended_left [] [] r c h = refl
ended_left [] (k ∷ key) r c h = absurd (omega arith)
ended_left (a ∷ w) [] r c h = refl
ended_left (a ∷ w) (k ∷ key) r c h = ap (ordering_then (nat_cmp a k)) (ended_left w key r c (omega arith))

pub ended_right : (w key r : List ℕ) (c : ℕ) → length key ≤ length w → slice_cmp nat_cmp key (w ++ c ∷ r) ≡ slice_cmp nat_cmp key (w ++ 0 ∷ [])
ended_right [] [] r c h = refl
ended_right [] (k ∷ key) r c h = absurd (omega arith)
ended_right (a ∷ w) [] r c h = refl
ended_right (a ∷ w) (k ∷ key) r c h = ap (ordering_then (nat_cmp k a)) (ended_right w key r c (omega arith))
