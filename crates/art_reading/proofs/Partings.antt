-- keys that differ at a byte, and keys that are related
use Rattle.std.proofs.Common.{◌≡◌, ◌≢◌, ℕ, suc, eqb, eqb-true, eq-eqb, ◌<◌, ◌≤◌, List, [], ◌∷◌, ◌++◌, length, refl, ap, sym, ◌∙◌, subst, arith, append_assoc, append-nil, length-append, Bool, true, false, ◌||◌, ◌&&◌, not, ◌⊎◌, inl, inr}
use Rattle.std.specs.List.{AllByRecursion as Each}
use Rattle.std.proofs.lemmas.Bool.{cases_order, eqb-false, ne_eqb}
use Rattle.art_model.specs.Prelude.{IsFront, are_related, are_same, common_front, is_conflict, related_to}
use Rattle.art_model.proofs.lists.Lists.{common_front_left, common_front_right}
use Rattle.art_model.proofs.keys.Keys.{related_sym, front_related, front_same, not_same, precedes_at}
use Rattle.art_model.proofs.keys.Texts.{front_short}
use Rattle.art_model.proofs.keys.Fronts.{ArePart, front_right, part_where, shared_whole}
use Rattle.art_reading.specs.Matching.{shared_len}

-- keys that continue after a prefix with different bytes are not related
pub unrelated_after : (front : List ℕ) (x y : ℕ) (a b : List ℕ) → IsFront (front ++ x ∷ []) a → IsFront (front ++ y ∷ []) b → x ≢ y → are_related a b ≡ false
unrelated_after front x y a b f g differ = go (cases_order x y)
  where
    go : (x ≡ y) ⊎ ((x < y) ⊎ (y < x)) → are_related a b ≡ false
    go (inl e) = absurd (differ e)
    go (inr (inl l)) = (precedes_at front x y f.0 g.0 a b (f.1 ∙ append_assoc front (x ∷ []) f.0) (g.1 ∙ append_assoc front (y ∷ []) g.0) l).1
    go (inr (inr l)) = related_sym a b ∙ (precedes_at front y x g.0 f.0 b a (g.1 ∙ append_assoc front (y ∷ []) g.0) (f.1 ∙ append_assoc front (x ∷ []) f.0) l).1

pub parted_unrelated : {a b : List ℕ} → ArePart a b → are_related a b ≡ false
parted_unrelated {a} {b} p = unrelated_after p.front p.x p.y a b (p.r, p.a_is ∙ sym (append_assoc p.front (p.x ∷ []) p.r))
    (p.s, p.b_is ∙ sym (append_assoc p.front (p.y ∷ []) p.s)) p.differ

-- as many as all of the first key's bytes are shared
pub all_shared : (a b : List ℕ) (n : ℕ) → n ≡ shared_len a b → length a ≤ n → (n ≡ length a) × IsFront a b
all_shared a b n e h =
    let (r, f) = common_front_left a b in
    let l = ap length f in
    (omega (arith, simp length-append at l), shared_whole a b (omega arith))

whole_same : (a b : List ℕ) → IsFront a b → length a ≡ length b → b ≡ a
whole_same a b ([], e) same = e ∙ append-nil a
whole_same a b (x ∷ r, e) same = absurd (let l = ap length e in omega (arith, simp length-append at l))

some_related : (a b : List ℕ) → (length a ≤ shared_len a b) ⊎ (length b ≤ shared_len a b) → are_related a b ≡ true
some_related a b (inl h) = front_related a b (shared_whole a b h)
some_related a b (inr h) = related_sym a b ∙ front_related b a (front_right a b h)

-- equal keys share all bytes
some_equal : (a b : List ℕ) → (length a ≤ shared_len a b) ⊎ (length b ≤ shared_len a b) → length a ≡ length b → b ≡ a
some_equal a b (inl h) same = whole_same a b (shared_whole a b h) same
some_equal a b (inr h) same = whole_same a b (shared_whole a b (omega arith)) same

-- two keys share as much in either order
shared_flip : (a b : List ℕ) → shared_len a b ≡ shared_len b a
shared_flip [] [] = refl
shared_flip [] (y ∷ b) = refl
shared_flip (x ∷ a) [] = refl
shared_flip (x ∷ a) (y ∷ b) = go (shared_flip a b) (eqb x y) refl
  where
    go : shared_len a b ≡ shared_len b a → (t : Bool) → eqb x y ≡ t → shared_len (x ∷ a) (y ∷ b) ≡ shared_len (y ∷ b) (x ∷ a)
    go ih true e = rw (e, eq-eqb y x (sym (eqb-true x y e))) (ap suc ih)
    go ih false e = rw (e, ne_eqb y x (λ same. eqb-false x y e (sym same))) refl

-- what is shared of a key `a` and the bytes `c` of another one `b` decides how the keys relate
module _ (a : List ℕ) {b c : List ℕ} {n : ℕ} (shared : n ≡ shared_len c a) (same : c ≡ b) where
  pub both_go_on : n < length a → n < length c → (are_related a b ≡ false) × (n ≡ shared_len a b)
  both_go_on h k =
      let e = shared ∙ shared_flip c a in
      subst (λ l. (are_related a l ≡ false) × (n ≡ shared_len a l)) same
      (parted_unrelated (part_where a c (omega arith) (omega arith)), e)

  pub both_end : length a ≤ n → length c ≤ n → b ≡ a
  both_end h k =
      let e = shared ∙ shared_flip c a in
      let short = front_short (common_front a c) a (common_front_left a c) in
      let short' = front_short (common_front a c) c (common_front_right a c) in
      subst (λ l. l ≡ a) same (some_equal a c (inl (omega arith)) (omega arith))

  pub one_ends : ((n < length a) × (length c ≤ n)) ⊎ ((length a ≤ n) × (n < length c)) → (are_related a b ≡ true) × (a ≢ b)
  one_ends h = (
    subst (λ l. are_related a l ≡ true) same (some_related a c (ended h)),
    λ e. unequal h (ap length (e ∙ sym same)),
  )
    where
      ended : ((n < length a) × (length c ≤ n)) ⊎ ((length a ≤ n) × (n < length c)) →
          (length a ≤ shared_len a c) ⊎ (length c ≤ shared_len a c)
      ended (inl h) = inr (let l = h.1 in let e = shared ∙ shared_flip c a in omega arith)
      ended (inr h) = inl (let l = h.0 in let e = shared ∙ shared_flip c a in omega arith)

      unequal : ((n < length a) × (length c ≤ n)) ⊎ ((length a ≤ n) × (n < length c)) → length a ≡ length c → ⊥
      unequal (inl h) e = let l = h in omega arith
      unequal (inr h) e = let l = h in omega arith

module _ {A : Type 0} (bytes : A → List ℕ) (key : List ℕ) where
  -- only related keys are in conflict
  pub conflict-related : (xs : List A) → is_conflict bytes key (related_to bytes key xs) ≡ is_conflict bytes key xs
  conflict-related [] = refl
  conflict-related (x ∷ xs) = go (conflict-related xs) (are_related key (bytes x)) refl
    where
      go : is_conflict bytes key (related_to bytes key xs) ≡ is_conflict bytes key xs → (t : Bool) → are_related key (bytes x) ≡ t →
          is_conflict bytes key (related_to bytes key (x ∷ xs)) ≡ is_conflict bytes key (x ∷ xs)
      go ih true e = rw (e, e) (ap (λ t. not (are_same key (bytes x)) || t) ih)
      go ih false e = rw e ih

  pub no_conflict : (xs : List A) → Each (λ x. are_related key (bytes x) ≡ false) xs → is_conflict bytes key xs ≡ false
  no_conflict [] h = refl
  no_conflict (x ∷ xs) h = rw h.0 (no_conflict xs h.1)

  pub first_conflict : (x : A) (xs : List A) → are_related key (bytes x) ≡ true → key ≢ bytes x → is_conflict bytes key (x ∷ xs) ≡ true
  first_conflict x xs related unequal = rw (related, not_same key (bytes x) unequal) refl

  pub same_conflict : (x : A) → bytes x ≡ key → is_conflict bytes key (x ∷ []) ≡ false
  same_conflict x e =
      let same : are_same key (bytes x) ≡ true = ap (are_same key) e ∙ front_same key in
      rw same (and_false (are_related key (bytes x)))
    where
      and_false : (t : Bool) → ((t && false) || false) ≡ false
      and_false true = refl
      and_false false = refl
