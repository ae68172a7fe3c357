-- Texts and their end byte, and prefixes of texts.
use Rattle.std.proofs.Common.{◌≡◌, ℕ, ◌<◌, ◌≤◌, ◌⊎◌, List, [], ◌∷◌, ◌++◌, length, length-append, append-nil, append_assoc, refl, ap, ap₂, sym, ◌∙◌, subst, arith, Bool, true, false, inl, inr}
use Rattle.std.specs.List.{AllByRecursion as Each}
use Rattle.art_model.specs.Prelude.{IsFront, Precedes, is_front, without_last}
use Rattle.art_model.proofs.keys.Keys.{front_from, front_is, parts_left, precedes_byte}
use Rattle.art_model.proofs.lists.Lists.{Each-left, Each-right}

-- what the test of prefixes returns
pub true_front : (a b : List ℕ) → IsFront a b → is_front a b ≡ true
true_front a b (r, e) = ap (is_front a) e ∙ front_is a r

pub not_front : (a b : List ℕ) → (IsFront a b → ⊥) → is_front a b ≡ false
not_front a b off = go (is_front a b) refl
  where
    go : (t : Bool) → is_front a b ≡ t → t ≡ false
    go true e = absurd (off (front_from a b e))
    go false e = refl

-- the bytes before the last of a text and its end
pub ended_text : {A : Type 0} (t : List A) (z : A) → without_last (t ++ z ∷ []) ≡ t
ended_text [] z = refl
ended_text (x ∷ []) z = refl
ended_text (x ∷ y ∷ t) z = ap (λ l. x ∷ l) (ended_text (y ∷ t) z)

-- a prefix of a text and its end, with a last byte, is the whole, or a prefix of the text
pub goes_within : (w : List ℕ) (c : ℕ) (r t : List ℕ) (end : ℕ) → t ++ end ∷ [] ≡ (w ++ c ∷ []) ++ r → ((t ≡ w) × (c ≡ end)) ⊎ IsFront (w ++ c ∷ []) t
goes_within [] c r [] end e = let same : c ≡ end = cc in inl (refl, same)
goes_within [] c r (b ∷ t) end e = let same : b ∷ t ≡ c ∷ t = cc in inr (t, same)
goes_within (a ∷ w) c r [] end e = absurd (let l = ap length e in omega (arith, simp length-append at l))
goes_within (a ∷ w) c r (b ∷ t) end e = go (goes_within w c r t end rest)
  where
    first : b ≡ a
    first = cc

    rest : t ++ end ∷ [] ≡ (w ++ c ∷ []) ++ r
    rest = cc

    go : ((t ≡ w) × (c ≡ end)) ⊎ IsFront (w ++ c ∷ []) t → ((b ∷ t ≡ a ∷ w) × (c ≡ end)) ⊎ IsFront (a ∷ w ++ c ∷ []) (b ∷ t)
    go (inl (same, mark)) = inl (ap₂ (λ z l. z ∷ l) first same, mark)
    go (inr (s, f)) = inr (s, ap₂ (λ z l. z ∷ l) first f)

-- the end byte is only at the end
pub mark_ends : (w r t : List ℕ) (end : ℕ) → Each (λ byte. end < byte) t → t ++ end ∷ [] ≡ (w ++ end ∷ []) ++ r → t ≡ w
mark_ends w r t end above e = go (goes_within w end r t end e)
  where
    go : ((t ≡ w) × (end ≡ end)) ⊎ IsFront (w ++ end ∷ []) t → t ≡ w
    go (inl (same, mark)) = same
    go (inr (s, f)) =
        let less =
        (Each-right (λ byte. end < byte) w (end ∷ [])
        (Each-left (λ byte. end < byte) (w ++ end ∷ []) s (subst (Each (λ byte. end < byte)) f above))).0 in
        absurd (omega arith)

-- a prefix of a text and its end that has no end byte is a prefix of the text
pub front_in_text : (f t : List ℕ) (end : ℕ) → Each (λ byte. end < byte) f → IsFront f (t ++ end ∷ []) → IsFront f t
front_in_text [] t end above front = (t, refl)
front_in_text (a ∷ f) [] end above (r, e) = let same : end ≡ a = cc in let less = above.0 in absurd (omega arith)
front_in_text (a ∷ f) (b ∷ t) end above (r, e) =
    let first : b ≡ a = cc in
    let rest : t ++ end ∷ [] ≡ f ++ r = cc in
    let (s, g) = front_in_text f t end above.1 (r, rest) in
    (s, ap₂ (λ z l. z ∷ l) first g)

-- of two prefixes of a key the shorter one is a prefix of the other
pub front_of_fronts : (a b k : List ℕ) → IsFront a k → IsFront b k → length a ≤ length b → IsFront a b
front_of_fronts [] b k f g h = (b, refl)
front_of_fronts (x ∷ a) [] k f g h = absurd (omega arith)
front_of_fronts (x ∷ a) (y ∷ b) k (r, e) (s, g) h =
    let first : y ≡ x = cc in
    let rest : b ++ s ≡ a ++ r = cc in
    let (q, i) = front_of_fronts a b (b ++ s) (r, rest) (s, refl) (omega arith) in
    (q, ap₂ (λ z l. z ∷ l) first i)

-- a prefix is no longer than the whole
pub front_short : (a k : List ℕ) → IsFront a k → length a ≤ length k
front_short a k (r, e) = let l = ap length e in omega (arith, simp length-append at l)

-- a text is after its prefixes
pub fronts_first : (end : ℕ) (x y : List ℕ) (t u : List ℕ) → x ≡ t ++ end ∷ [] → y ≡ u ++ end ∷ [] → Each (λ byte. end < byte) t →
    IsFront u t → Precedes x y → ⊥
fronts_first end x y t u e f above ([], g) before =
    let same : x ≡ (u ++ end ∷ []) ++ [] = e ∙ ap (λ z. z ++ end ∷ []) (g ∙ append-nil u) ∙ sym (append-nil (u ++ end ∷ [])) in
    parts_left (u ++ end ∷ []) [] x y same (f ∙ sym (append-nil (u ++ end ∷ []))) before
fronts_first end x y t u e f above (c ∷ r, g) before =
    let longer : x ≡ u ++ c ∷ (r ++ end ∷ []) = e ∙ ap (λ z. z ++ end ∷ []) g ∙ append_assoc u (c ∷ r) (end ∷ []) in
    let low = precedes_byte u c end (r ++ end ∷ []) [] x y longer f before in
    let high = (Each-right (λ byte. end < byte) u (c ∷ r) (subst (Each (λ byte. end < byte)) g above)).0 in
    absurd (omega arith)
