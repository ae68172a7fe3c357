-- fewer keys are left to try once a further one passes the test
use Rattle.std.proofs.Common.{◌≡◌, ℕ, suc, ◌<◌, ◌≤◌, Bool, true, false, cond, not, ◌||◌, List, [], ◌∷◌, refl, ap, sym, ◌∙◌, arith, Some, is_some, inl, inr, Ordering, Less, Equal, Greater}
use Rattle.std.proofs.lemmas.Bool.{cases_Bool, true≢false, false≢true}
use Rattle.std.specs.FinMap as map
use Rattle.std.specs.List.{list_any}
use Rattle.std.specs.Ordering.{is_eq, eq_by_cmp}
use Rattle.art_parts.proofs.NameLemmas.{inner_cmp-IsAntisymmetric}
use Rattle.art_model.specs.Prelude.{Inner, inner_cmp, InnerPtr, IsIn}
use Rattle.art_checking.specs.Untried.{untried}

module _ {K : Type 0} (f g : K → Bool) (more : (k : K) → f k ≡ true → g k ≡ true) where
  step : (k : K) (m n : ℕ) → m ≤ n → cond (g k) m (suc m) ≤ cond (f k) n (suc n)
  step k m n l = go (f k) refl (g k) refl
    where
      go : (a : Bool) → f k ≡ a → (b : Bool) → g k ≡ b → cond b m (suc m) ≤ cond a n (suc n)
      go true e true h = l
      go true e false h = absurd (true≢false (sym (more k e) ∙ h))
      go false e true h = omega arith
      go false e false h = omega arith

  pub untried_no_more : (ks : List K) → untried g ks ≤ untried f ks
  untried_no_more [] = omega arith
  untried_no_more (k ∷ ks) = step k (untried g ks) (untried f ks) (untried_no_more ks)

  pub untried_less : (ks : List K) (k : K) → IsIn k ks → f k ≡ false → g k ≡ true → untried g ks < untried f ks
  untried_less [] k i e h = absurd i
  untried_less (l ∷ ks) k (inl same) e h =
      let fewer = untried_no_more ks in
      let this : f l ≡ false = ap f same ∙ e in
      let that : g l ≡ true = ap g same ∙ h in
      rw (this, that) (omega arith)
  untried_less (l ∷ ks) k (inr i) e h =
      let ih = untried_less ks k i e h in
      go (f l) refl (g l) refl ih
    where
      go : (a : Bool) → f l ≡ a → (b : Bool) → g l ≡ b → untried g ks < untried f ks →
          cond b (untried g ks) (suc (untried g ks)) < cond a (untried f ks) (suc (untried f ks))
      go true e true h l = l
      go true d false h m = absurd (true≢false (sym (more l d) ∙ h))
      go false e true h l = omega arith
      go false e false h l = omega arith

-- what passed still passes
pub still : (b x : Bool) → x ≡ true → cond b true x ≡ true
still true x e = refl
still false x e = e

-- what was added was not in the set
pub was_new : (b added : Bool) → added ≡ not b → added ≡ true → b ≡ false
was_new true added e h = absurd (false≢true (sym e ∙ h))
was_new false added e h = refl

is_equal : (o : Ordering) → is_eq o ≡ true → o ≡ Equal
is_equal Less e = absurd (false≢true e)
is_equal Equal e = refl
is_equal Greater e = absurd (false≢true e)

-- a name in use is among the keys
pub key_of_inner : (m : map.FinMap inner_cmp Inner) (p : InnerPtr) (node : Inner) → map.get m p ≡ Some node → IsIn p (map.keys m)
key_of_inner m p node there = go (map.keys m) (sym (map.contains_key-keys m p) ∙ ap is_some there)
  where
    go : (ks : List InnerPtr) → list_any (eq_by_cmp inner_cmp p) ks ≡ true → IsIn p ks
    go [] e = absurd (false≢true e)
    go (k ∷ ks) e = elim (cases_Bool (eq_by_cmp inner_cmp p k)) [
      | inl h ↦ inl (sym (inner_cmp-IsAntisymmetric p k (is_equal (inner_cmp p k) h)))
      | inr h ↦ inr (go ks (sym (ap (λ b. b || list_any (eq_by_cmp inner_cmp p) ks) h) ∙ e))
    ]
