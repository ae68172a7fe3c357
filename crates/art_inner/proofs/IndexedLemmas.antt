-- What a write does to names in places with a table of the places of bytes.
use Rattle.std.proofs.Common.{◌≡◌, ◌≢◌, ◌⊎◌, ℕ, zero, suc, ◌+◌, ◌-◌, ◌<◌, ◌≤◌, cond, List, [], length, get_or, set, replicate, Some, refl, sym, ap, ◌∙◌, inl, inr, arith, get_or-set_same, get_or-set_other}
use Rattle.std.proofs.lemmas.Bool.{cases_eq, eq-eqb, ne_eqb}
use Rattle.art_inner.specs.Inner.{put_child, remove_child}
use Rattle.art_inner.specs.Tables.{names_by_byte}
use Rattle.art_inner.specs.Indexed.{numbered, indexed_at, IsIndex, number_after_move}
use Rattle.art_parts.specs.declared.names.NodeType.{NodeType}
use Rattle.art_parts.specs.declared.names.NodeType.TheVariants.{Node4}
use Rattle.art_parts.specs.declared.names.OpaqueNodePtr.{OpaqueNodePtr}
use Rattle.art_inner.proofs.Extent.{listed_put, listed_remove, listed_none}

same_place : (v n k : ℕ) → v ≡ 0 → get_or (replicate n v) k 0 ≡ 0
same_place v zero k h = refl
same_place v (suc n) zero h = h
same_place v (suc n) (suc k) h = same_place v n k h

module _ (index : List ℕ) (is : index ≡ replicate 256 0) where
  none_numbered : (k : ℕ) → get_or index k 0 ≡ 0
  none_numbered k = ap (λ (ns : List ℕ). get_or ns k 0) is ∙ same_place 0 256 k refl

  pub all_zero : (slots : List ℕ) (kinds : List NodeType) → names_by_byte (indexed_at slots kinds index) ≡ []
  all_zero slots kinds = listed_none (indexed_at slots kinds index) (λ k h. ap (numbered slots kinds) (none_numbered k))

  pub IsIndex-zero : IsIndex index 0
  IsIndex-zero = (λ b. omega (arith, none_numbered b), λ a b e n. absurd (n (none_numbered a)))

pub numbered_some : (slots : List ℕ) (kinds : List NodeType) (place : ℕ) → place ≢ 0 →
    numbered slots kinds place ≡ Some (record { kind = get_or kinds (place - 1) Node4; slot = get_or slots (place - 1) 0 })
numbered_some slots kinds zero n = absurd (n refl)
numbered_some slots kinds (suc place) n =
    let back : place ≡ suc place - 1 = omega arith in
    ap (λ (p : ℕ). Some (record { kind = get_or kinds p Node4; slot = get_or slots p 0 })) back

pub nonzero : (slots : List ℕ) (kinds : List NodeType) (place : ℕ) (name : OpaqueNodePtr) → numbered slots kinds place ≡ Some name → 1 ≤ place
nonzero slots kinds zero name is = absurd (cc)
nonzero slots kinds (suc place) name is = omega arith

module _ (slots : List ℕ) (kinds : List NodeType) (at : ℕ) (child : OpaqueNodePtr) (slots_fit : at < length slots) (kinds_fit : at < length kinds) where
  -- the place that is written has the name, and the others have what they had
  written_here : (place : ℕ) → place ≡ at + 1 → numbered (set slots at child.slot) (set kinds at child.kind) place ≡ Some child
  written_here place is =
      numbered_some _ _ place (λ e. omega (arith, e, is))
      ∙ (let back : place - 1 ≡ at = omega (arith, is) in
      ap (λ (p : ℕ). Some (record { kind = get_or (set kinds at child.kind) p Node4; slot = get_or (set slots at child.slot) p 0 })) back)
      ∙ (λ i. Some (record { kind = get_or-set_same kinds at child.kind Node4 kinds_fit i; slot = get_or-set_same slots at child.slot 0 slots_fit i }))

  written_other : (place : ℕ) → place ≢ at + 1 → numbered (set slots at child.slot) (set kinds at child.kind) place ≡ numbered slots kinds place
  written_other zero n = refl
  written_other (suc place) n =
      let other : place ≢ at = λ e. n (omega (arith, e)) in
      λ i. Some (record { kind = get_or-set_other kinds at place child.kind Node4 other i; slot = get_or-set_other slots at place child.slot 0 other i })

  module _ (index : List ℕ) (len b : ℕ) (within : b < 256) (sound : IsIndex index len) where
    pub indexed_replaced : get_or index b 0 ≡ at + 1 →
        names_by_byte (indexed_at (set slots at child.slot) (set kinds at child.kind) index) ≡ put_child (names_by_byte (indexed_at slots kinds index)) b child
    indexed_replaced here = listed_put (indexed_at slots kinds index) (indexed_at (set slots at child.slot) (set kinds at child.kind) index) b within
        (λ k h d. written_other (get_or index k 0) (λ e. d (sound.1 k b (e ∙ sym here) (λ z. omega (arith, z, e)))))
        child
        (written_here (get_or index b 0) here)

    pub indexed_added : at ≡ len → length index ≡ 256 →
        names_by_byte (indexed_at (set slots at child.slot) (set kinds at child.kind) (set index b (at + 1)))
        ≡ put_child (names_by_byte (indexed_at slots kinds index)) b child
    indexed_added last as_many =
        listed_put (indexed_at slots kinds index)
        (indexed_at (set slots at child.slot) (set kinds at child.kind) (set index b (at + 1))) b within
        (λ k h d. ap (numbered (set slots at child.slot) (set kinds at child.kind)) (get_or-set_other index b k (at + 1) 0 d)
        ∙ written_other (get_or index k 0) (λ e. absurd (omega (arith, e, last, sound.0 k))))
        child
        (written_here _ (get_or-set_same index b (at + 1) 0 (omega (arith, within, as_many))))

-- a new place
pub IsIndex-added : (index : List ℕ) (len b : ℕ) → b < length index → IsIndex index len → IsIndex (set index b (len + 1)) (len + 1)
IsIndex-added index len b within sound = (λ k. bound k (cases_eq k b), λ j k e n. apart j k e n (cases_eq j b) (cases_eq k b))
  where
    new_here : (k : ℕ) → k ≡ b → get_or (set index b (len + 1)) k 0 ≡ len + 1
    new_here k e = ap (λ j. get_or (set index b (len + 1)) j 0) e ∙ get_or-set_same index b (len + 1) 0 within

    bound : (k : ℕ) → (k ≡ b) ⊎ (k ≡ b → ⊥) → get_or (set index b (len + 1)) k 0 ≤ len + 1
    bound k (inl e) = omega (arith, new_here k e)
    bound k (inr d) = omega (arith, get_or-set_other index b k (len + 1) 0 d, sound.0 k)

    apart : (j k : ℕ) → get_or (set index b (len + 1)) j 0 ≡ get_or (set index b (len + 1)) k 0 → get_or (set index b (len + 1)) j 0 ≢ 0 →
        (j ≡ b) ⊎ (j ≡ b → ⊥) → (k ≡ b) ⊎ (k ≡ b → ⊥) → j ≡ k
    apart j k e n (inl x) (inl y) = x ∙ sym y
    apart j k e n (inl x) (inr y) = absurd (omega (arith, e, new_here j x, get_or-set_other index b k (len + 1) 0 y, sound.0 k))
    apart j k e n (inr x) (inl y) = absurd (omega (arith, e, new_here k y, get_or-set_other index b j (len + 1) 0 x, sound.0 j))
    apart j k e n (inr x) (inr y) = sound.1 j k
        (sym (get_or-set_other index b j (len + 1) 0 x) ∙ e ∙ get_or-set_other index b k (len + 1) 0 y)
        (λ z. n (get_or-set_other index b j (len + 1) 0 x ∙ z))

moved_last : (last to number : ℕ) → number ≡ last → number_after_move last to number ≡ to
moved_last last to number e = ap (λ b. cond b to number) (eq-eqb number last e)

moved_other : (last to number : ℕ) → number ≢ last → number_after_move last to number ≡ number
moved_other last to number n = ap (λ b. cond b to number) (ne_eqb number last n)

-- the place of a byte is freed, and the last place moves there
module _ (slots : List ℕ) (kinds : List NodeType) (index new : List ℕ) (len b place : ℕ) (within : b < 256) (sound : IsIndex index len)
    (here : get_or index b 0 ≡ place) (there : place ≢ 0)
    (slots_fit : len ≤ length slots) (kinds_fit : len ≤ length kinds) (gone : get_or new b 0 ≡ 0)
    (others : (k : ℕ) → k ≢ b → get_or new k 0 ≡ number_after_move len place (get_or index k 0)) where
  place_fits : place ≤ len
  place_fits = omega (arith, sound.0 b, here)

  last : OpaqueNodePtr
  last = record { kind = get_or kinds (len - 1) Node4; slot = get_or slots (len - 1) 0 }

  another : (k : ℕ) → k ≢ b → get_or index k 0 ≢ 0 → get_or index k 0 ≢ place
  another k d n e = d (sound.1 k b (e ∙ sym here) n)

  kept : (k : ℕ) → k ≢ b → (number : ℕ) → number ≡ get_or index k 0 → (number ≡ len) ⊎ (number ≡ len → ⊥) →
      numbered (set slots (place - 1) (get_or slots (len - 1) 0)) (set kinds (place - 1) (get_or kinds (len - 1) Node4))
      (number_after_move len place number) ≡ numbered slots kinds number
  kept k d number is (inl e) =
      let at : place ≡ place - 1 + 1 = omega (arith, there) in
      ap (numbered (set slots (place - 1) (get_or slots (len - 1) 0)) (set kinds (place - 1) (get_or kinds (len - 1) Node4))) (moved_last len place number e)
      ∙ written_here slots kinds (place - 1) (record { kind = get_or kinds (len - 1) Node4; slot = get_or slots (len - 1) 0 })
      (omega (arith, there, place_fits, slots_fit))
      (omega (arith, there, place_fits, kinds_fit)) place at
      ∙ sym (ap (numbered slots kinds) e ∙ numbered_some slots kinds len (λ z. there (omega (arith, z, place_fits))))
  kept k d number is (inr n) =
      ap (numbered (set slots (place - 1) (get_or slots (len - 1) 0)) (set kinds (place - 1) (get_or kinds (len - 1) Node4))) (moved_other len place number n)
      ∙ by_number (cases_eq number 0)
    where
      by_number : (number ≡ 0) ⊎ (number ≡ 0 → ⊥) →
          numbered (set slots (place - 1) (get_or slots (len - 1) 0)) (set kinds (place - 1) (get_or kinds (len - 1) Node4)) number
          ≡ numbered slots kinds number
      by_number (inl z) = ap (numbered (set slots (place - 1) (get_or slots (len - 1) 0))
          (set kinds (place - 1) (get_or kinds (len - 1) Node4))) z ∙ sym (ap (numbered slots kinds) z)
      by_number (inr z) = written_other slots kinds (place - 1) (record { kind = get_or kinds (len - 1) Node4; slot = get_or slots (len - 1) 0 })
          (omega (arith, there, place_fits, slots_fit)) (omega (arith, there, place_fits, kinds_fit)) number
          (λ e. another k d (λ y. z (is ∙ y)) (omega (arith, sym is ∙ e, there)))

  pub indexed_removed : names_by_byte (indexed_at (set slots (place - 1) (get_or slots (len - 1) 0))
      (set kinds (place - 1) (get_or kinds (len - 1) Node4)) new) ≡ remove_child
      (names_by_byte (indexed_at slots kinds index)) b
  indexed_removed = listed_remove (indexed_at slots kinds index)
      (indexed_at (set slots (place - 1) (get_or slots (len - 1) 0)) (set kinds (place - 1) (get_or kinds (len - 1) Node4)) new) b within
      (λ k h d. ap (numbered (set slots (place - 1) (get_or slots (len - 1) 0)) (set kinds (place - 1) (get_or kinds (len - 1) Node4))) (others k d)
      ∙ kept k d (get_or index k 0) refl (cases_eq (get_or index k 0) len))
      (ap (numbered (set slots (place - 1) (get_or slots (len - 1) 0)) (set kinds (place - 1) (get_or kinds (len - 1) Node4))) gone)

  pub IsIndex-removed : IsIndex new (len - 1)
  IsIndex-removed = (
    λ k. bound k (cases_eq k b) (cases_eq (get_or index k 0) len),
    λ j k e n. apart j k e n (cases_eq j b) (cases_eq k b) (cases_eq (get_or index j 0) len) (cases_eq (get_or index k 0) len),
  )
    where
      bound : (k : ℕ) → (k ≡ b) ⊎ (k ≡ b → ⊥) → (get_or index k 0 ≡ len) ⊎ (get_or index k 0 ≡ len → ⊥) → get_or new k 0 ≤ len - 1
      bound k (inl e) m = omega (arith, ap (λ j. get_or new j 0) e ∙ gone)
      bound k (inr d) (inl m) =
          omega (
            arith,
            others k d ∙ moved_last len place _ m,
            place_fits,
            there,
            m,
            another k d (λ z. there (omega (arith, z, m, place_fits))),
          )
      bound k (inr d) (inr m) = omega (arith, others k d ∙ moved_other len place _ m, sound.0 k, m)

      apart : (j k : ℕ) → get_or new j 0 ≡ get_or new k 0 → get_or new j 0 ≢ 0 → (j ≡ b) ⊎ (j ≡ b → ⊥) → (k ≡ b) ⊎ (k ≡ b → ⊥) →
          (get_or index j 0 ≡ len) ⊎ (get_or index j 0 ≡ len → ⊥) →
          (get_or index k 0 ≡ len) ⊎ (get_or index k 0 ≡ len → ⊥) → j ≡ k
      apart j k e n (inl x) y l m = absurd (n (ap (λ i. get_or new i 0) x ∙ gone))
      apart j k e n (inr x) (inl y) l m = absurd (n (e ∙ ap (λ i. get_or new i 0) y ∙ gone))
      apart j k e n (inr x) (inr y) (inl l) (inl m) = sound.1 j k (l ∙ sym m) (λ z. there (omega (arith, z, l, place_fits)))
      apart j k e n (inr x) (inr y) (inl l) (inr m) = absurd
          (another k y (λ z. there (sym (moved_last len place _ l) ∙ sym (others j x) ∙ e ∙ others k y ∙ moved_other len place _ m ∙ z))
          (sym (moved_other len place _ m) ∙ sym (others k y)
          ∙ sym e ∙ others j x ∙ moved_last len place _ l))
      apart j k e n (inr x) (inr y) (inr l) (inl m) = absurd
          (another j x (λ z. there (sym (moved_last len place _ m) ∙ sym (others k y) ∙ sym e ∙ others j x ∙ moved_other len place _ l ∙ z))
          (sym (moved_other len place _ l)
          ∙ sym (others j x) ∙ e ∙ others k y ∙ moved_last len place _ m))
      apart j k e n (inr x) (inr y) (inr l) (inr m) =
          sound.1 j k (sym (moved_other len place _ l) ∙ sym (others j x) ∙ e ∙ others k y ∙ moved_other len place _ m)
          (λ z. n (others j x ∙ moved_other len place _ l ∙ z))
