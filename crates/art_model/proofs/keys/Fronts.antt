-- The length of the common prefix of two keys, and where they differ.
use Rattle.std.proofs.Common.{◌≡◌, ◌≢◌, ℕ, suc, zero, ◌<◌, ◌≤◌, List, [], ◌∷◌, ◌++◌, length, drop, refl, ap, ap₂, sym, ◌∙◌, arith, append_assoc, append-nil, length-append, eqb, eq-eqb, eqb-true, cond, Bool, true, false, ◌⊎◌, inl, inr}
use Rattle.std.proofs.lemmas.Bool.{cases_lt, true≢false}
use Rattle.art_model.specs.Prelude.{are_related, common_front, IsFront}
use Rattle.art_model.proofs.keys.KeyLaws.{common_front_is_longest}
use Rattle.art_model.proofs.keys.Keys.{front_related, related_sym}
use Rattle.art_model.proofs.lists.Lists.{common_front_left, common_front_right}

-- nor where one of them has ended
pub shared_end : (i : ℕ) (a b : List ℕ) → (length a ≤ i) ⊎ (length b ≤ i) → length (common_front (drop i a) (drop i b)) ≡ 0
shared_end zero [] b h = refl
shared_end (suc i) [] b h = refl
shared_end zero (x ∷ a) [] h = refl
shared_end (suc i) (x ∷ a) [] h = go (drop i a)
  where
    go : (xs : List ℕ) → length (common_front xs []) ≡ 0
    go [] = refl
    go (x ∷ xs) = refl
shared_end zero (x ∷ a) (y ∷ b) (inl h) = absurd (omega arith)
shared_end zero (x ∷ a) (y ∷ b) (inr h) = absurd (omega arith)
shared_end (suc i) (x ∷ a) (y ∷ b) (inl h) = shared_end i a b (inl (omega arith))
shared_end (suc i) (x ∷ a) (y ∷ b) (inr h) = shared_end i a b (inr (omega arith))

-- a key all of whose bytes are shared is a prefix
pub shared_whole : (a b : List ℕ) → length a ≤ length (common_front a b) → IsFront a b
shared_whole [] b h = (b, refl)
shared_whole (x ∷ a) [] h = absurd (omega arith)
shared_whole (x ∷ a) (y ∷ b) h = go (λ k. shared_whole a b (omega arith)) (eqb x y) refl h
  where
    go : (suc (length a) ≤ suc (length (common_front a b)) → IsFront a b) → (t : Bool) → eqb x y ≡ t →
        suc (length a) ≤ length (cond t (x ∷ common_front a b) []) → IsFront (x ∷ a) (y ∷ b)
    go ih true e k = let (r, f) = ih k in (r, ap₂ (λ z s. z ∷ s) (sym (eqb-true x y e)) f)
    go ih false e k = absurd (omega arith)

-- a prefix shares all its bytes
pub whole_shared : (a b : List ℕ) → IsFront a b → length (common_front a b) ≡ length a
whole_shared [] b h = refl
whole_shared (x ∷ a) [] (r, e) = absurd cc
whole_shared (x ∷ a) (y ∷ b) (r, e) = let h : y ≡ x = cc in let t : b ≡ a ++ r = cc in rw (eq-eqb x y (sym h)) (ap suc (whole_shared a b (r, t)))

-- and so is the second one, where all of its bytes are
pub front_right : (a b : List ℕ) → length b ≤ length (common_front a b) → IsFront b a
front_right a b h = go (common_front_left a b) (common_front_right a b)
  where
    go : IsFront (common_front a b) a → IsFront (common_front a b) b → IsFront b a
    go (r, e) ([], f) = (r, e ∙ ap (λ l. l ++ r) (sym (f ∙ append-nil (common_front a b))))
    go (r, e) (x ∷ s, f) = absurd (let l = ap length f in omega (arith, simp length-append at l))

-- a common prefix does not make keys related
pub related_after : (front a b : List ℕ) → are_related (front ++ a) (front ++ b) ≡ are_related a b
related_after [] a b = refl
related_after (x ∷ front) a b = rw (eq-eqb x x refl) (related_after front a b)

-- ---- keys that differ

-- After the bytes that they share the keys continue with different ones.
pub record ArePart (a b : List ℕ) : Type 0 where
  pub front : List ℕ
  pub is_shared : front ≡ common_front a b
  pub x : ℕ
  pub y : ℕ
  pub r : List ℕ
  pub s : List ℕ
  pub a_is : a ≡ front ++ x ∷ r
  pub b_is : b ≡ front ++ y ∷ s
  pub differ : x ≢ y

-- keys differ where neither has ended
pub part_where : (a b : List ℕ) → length (common_front a b) < length a → length (common_front a b) < length b → ArePart a b
part_where a b h k = go (common_front_left a b) (common_front_right a b)
  where
    go : IsFront (common_front a b) a → IsFront (common_front a b) b → ArePart a b
    go ([], e) f = absurd (let l = ap length e in let m = length-append (common_front a b) [] in omega arith)
    go (x ∷ r, e) ([], f) = absurd (let l = ap length f in let m = length-append (common_front a b) [] in omega arith)
    go (x ∷ r, e) (y ∷ s, f) = record {
      front = common_front a b;
      is_shared = refl;
      x = x;
      y = y;
      r = r;
      s = s;
      a_is = e;
      b_is = f;
      differ = λ same.
          let front = common_front a b ++ x ∷ [] in
          let (q, longer) =
          (common_front_is_longest a b).2 front (r, e ∙ sym (append_assoc (common_front a b) (x ∷ []) r))
          (s, f ∙ ap (λ z. common_front a b ++ z ∷ s) (sym same) ∙ sym (append_assoc (common_front a b) (x ∷ []) s)) in
          let l = ap length longer in
          absurd (omega (arith, simp length-append at l));
    }

-- keys that are not related do
pub unrelated_part : (a b : List ℕ) → are_related a b ≡ false → ArePart a b
unrelated_part a b apart =
    part_where a b (short (length (common_front a b)) (length a) (λ h. true≢false (sym (front_related a b (shared_whole a b h)) ∙ apart)))
    (short (length (common_front a b)) (length b) (λ h. true≢false (sym (related_sym a b ∙ front_related b a (front_right a b h)) ∙ apart)))
  where
    short : (m n : ℕ) → (n ≤ m → ⊥) → m < n
    short m n never = elim (cases_lt m n) [ inl l ↦ l | inr o ↦ absurd (never o) ]
