-- the order of keys
use Rattle.std.proofs.Common.{◌≡◌, ◌≢◌, ℕ, ◌<◌, ◌≤◌, List, [], ◌∷◌, ◌++◌, refl, sym, arith, eqb, eq-eqb, eqb-true, length, length-append, ap, ap₂, ◌∙◌, true, false, Bool, ◌&&◌, ◌||◌, append-nil, ◌⊎◌, inl, inr, nat_cmp}
use Rattle.std.specs.List.{AllByRecursion as Each}
use Rattle.std.specs.Cmp.Lexicographic.{slice_cmp}
use Rattle.std.proofs.lemmas.Bool.{and_parts, ne_eqb, le-ltb, lt-ltb, true≢false, false≢true, cases_order}
use Rattle.art_model.specs.Prelude.{IsFront, is_before, is_front, are_related, are_same, Precedes, IsMap}
use Rattle.art_model.proofs.lists.Lists.{Each-append, Each-left}

pub cmp-append : (p a b : List ℕ) → slice_cmp nat_cmp (p ++ a) (p ++ b) ≡ slice_cmp nat_cmp a b
cmp-append [] a b = refl
cmp-append (x ∷ p) a b = rw (le-ltb x x (omega arith), eq-eqb x x refl) (cmp-append p a b)

is_front-append : (p a b : List ℕ) → is_front (p ++ a) (p ++ b) ≡ is_front a b
is_front-append [] a b = refl
is_front-append (x ∷ p) a b = rw (eq-eqb x x refl) (is_front-append p a b)

precedes-append : (p a b : List ℕ) → Precedes a b → Precedes (p ++ a) (p ++ b)
precedes-append p a b h = (rw (cmp-append p a b) h.0, rw (is_front-append p a b, is_front-append p b a) h.1)

precedes_rest : (p a b : List ℕ) → Precedes (p ++ a) (p ++ b) → Precedes a b
precedes_rest p a b h = (rw (cmp-append p a b) at h.0, rw (is_front-append p a b, is_front-append p b a) at h.1)

-- keys that differ at a byte
pub precedes_at : (front : List ℕ) (b c : ℕ) (k l x y : List ℕ) → x ≡ front ++ b ∷ k → y ≡ front ++ c ∷ l → b < c → Precedes x y
precedes_at front b c k l x y e f h =
    rw (e, f) (precedes-append front (b ∷ k) (c ∷ l)
    (rw (lt-ltb b c h) refl, rw (ne_eqb b c (λ p. omega arith), ne_eqb c b (λ p. omega arith)) refl))

first_byte : (b c : ℕ) (k l : List ℕ) → Precedes (b ∷ k) (c ∷ l) → b ≤ c
first_byte b c k l h = go (cases_order b c)
  where
    go : (b ≡ c) ⊎ ((b < c) ⊎ (c < b)) → b ≤ c
    go (inl e) = omega arith
    go (inr (inl e)) = omega arith
    go (inr (inr e)) = let p = rw (le-ltb b c (omega arith), ne_eqb b c (λ p. omega arith)) at h.0 in absurd (false≢true p)

pub precedes_byte : (front : List ℕ) (b c : ℕ) (k l x y : List ℕ) → x ≡ front ++ b ∷ k → y ≡ front ++ c ∷ l → Precedes x y → b ≤ c
precedes_byte front b c k l x y e f h = first_byte b c k l (precedes_rest front (b ∷ k) (c ∷ l) (rw (e, f) at h))

-- keys of a map end at no common prefix
pub parts_left : (front k x y : List ℕ) → x ≡ front ++ [] → y ≡ front ++ k → Precedes x y → ⊥
parts_left front k x y e f h = let p = precedes_rest front [] k (rw (e, f) at h) in true≢false p.1

pub parts_right : (front k x y : List ℕ) → x ≡ front ++ k → y ≡ front ++ [] → Precedes x y → ⊥
parts_right front [] x y e f h = let p = precedes_rest front [] [] (rw (e, f) at h) in true≢false p.1
parts_right front (b ∷ k) x y e f h = let p = precedes_rest front (b ∷ k) [] (rw (e, f) at h) in true≢false p.1

module _ {A : Type 0} (bytes : A → List ℕ) where
  pub IsMap-left : (xs ys : List A) → IsMap bytes (xs ++ ys) → IsMap bytes xs
  IsMap-left [] ys h = tt
  IsMap-left (x ∷ xs) ys h = (Each-left (λ y. Precedes (bytes x) (bytes y)) xs ys h.0, IsMap-left xs ys h.1)

  pub IsMap-right : (xs ys : List A) → IsMap bytes (xs ++ ys) → IsMap bytes ys
  IsMap-right [] ys h = h
  IsMap-right (x ∷ xs) ys h = IsMap-right xs ys h.1

  pub IsMap-append : (xs ys : List A) → IsMap bytes xs → IsMap bytes ys → Each (λ x. Each (λ y. Precedes (bytes x) (bytes y)) ys) xs → IsMap bytes (xs ++ ys)
  IsMap-append [] ys h k o = k
  IsMap-append (x ∷ xs) ys h k o = (Each-append (λ y. Precedes (bytes x) (bytes y)) xs ys h.0 o.0, IsMap-append xs ys h.1 k o.1)

pub first_less : (a b : ℕ) (r s : List ℕ) → is_before (a ∷ r) (b ∷ s) ≡ true → (a < b) ⊎ ((a ≡ b) × (is_before r s ≡ true))
first_less a b r s h = go (cases_order a b)
  where
    go : (a ≡ b) ⊎ ((a < b) ⊎ (b < a)) → (a < b) ⊎ ((a ≡ b) × (is_before r s ≡ true))
    go (inl e) = let p = rw (le-ltb a b (omega arith), eq-eqb a b e) at h in inr (e, p)
    go (inr (inl e)) = inl e
    go (inr (inr e)) = let p = rw (le-ltb a b (omega arith), ne_eqb a b (λ p. omega arith)) at h in absurd (false≢true p)

pub before_apart : (a b : List ℕ) → is_before a b ≡ true → is_before b a ≡ false
before_apart [] [] h = absurd (false≢true h)
before_apart [] (b ∷ bs) h = refl
before_apart (a ∷ r) [] h = absurd (false≢true h)
before_apart (a ∷ r) (b ∷ s) h = go (before_apart r s) (first_less a b r s h)
  where
    go : (is_before r s ≡ true → is_before s r ≡ false) → (a < b) ⊎ ((a ≡ b) × (is_before r s ≡ true)) → is_before (b ∷ s) (a ∷ r) ≡ false
    go ih (inl l) = rw (le-ltb b a (omega arith), ne_eqb b a (λ p. omega arith)) refl
    go ih (inr (e, q)) = rw (le-ltb b a (omega arith), eq-eqb b a (sym e)) (ih q)

pub precedes_apart : (a b : List ℕ) → Precedes a b → is_before b a ≡ false
precedes_apart a b h = before_apart a b h.0

pub related_sym : (a b : List ℕ) → are_related a b ≡ are_related b a
related_sym a b = or_comm (is_front a b) (is_front b a)
  where
    or_comm : (s t : Bool) → (s || t) ≡ (t || s)
    or_comm true true = refl
    or_comm true false = refl
    or_comm false true = refl
    or_comm false false = refl

pub same_related : (a b : List ℕ) → are_related a b ≡ false → are_same a b ≡ false
same_related a b h = go (is_front a b) (is_front b a) h
  where
    go : (s t : Bool) → (s || t) ≡ false → (s && t) ≡ false
    go true t e = absurd (true≢false e)
    go false t e = refl

pub front_is : (a r : List ℕ) → is_front a (a ++ r) ≡ true
front_is [] r = refl
front_is (x ∷ a) r = rw (eq-eqb x x refl) (front_is a r)

pub front_related : (a b : List ℕ) → IsFront a b → are_related a b ≡ true
front_related a b (r, e) = rw (e, front_is a r) refl

pub front_same : (a : List ℕ) → are_same a a ≡ true
front_same a = let e : is_front a a ≡ true = rw append-nil at (front_is a []) in rw e refl

pub front_from : (a b : List ℕ) → is_front a b ≡ true → IsFront a b
front_from [] b h = (b, refl)
front_from (x ∷ a) [] h = absurd (false≢true h)
front_from (x ∷ a) (y ∷ b) h =
    let p = and_parts (eqb x y) (is_front a b) h in
    let e : x ≡ y = eqb-true x y p.0 in
    let r = front_from a b p.1 in
    (r.0, ap₂ (λ z s. z ∷ s) (sym e) r.1)

pub same_equal : (a b : List ℕ) → are_same a b ≡ true → b ≡ a
same_equal a b h =
    let p = and_parts (is_front a b) (is_front b a) h in
    let (r, e) = front_from a b p.0 in
    let (s, f) = front_from b a p.1 in
    let l = ap length e in
    let k = ap length f in
    go r e (omega (arith, simp length-append at l, simp length-append at k))
  where
    go : (r : List ℕ) → b ≡ a ++ r → length r ≡ 0 → b ≡ a
    go [] e z = e ∙ append-nil a
    go (x ∷ r) e z = absurd (omega arith)

-- unequal keys are not the same
pub not_same : (a b : List ℕ) → a ≢ b → are_same a b ≡ false
not_same a b off = go (are_same a b) refl
  where
    go : (t : Bool) → are_same a b ≡ t → t ≡ false
    go true e = absurd (off (sym (same_equal a b e)))
    go false e = refl
