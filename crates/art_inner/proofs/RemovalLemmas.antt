-- What a removal does to a sorted table.
use Rattle.std.proofs.Common.{◌≡◌, ◌≢◌, ℕ, zero, suc, ◌+◌, ◌-◌, ◌<◌, ◌≤◌, List, [], ◌∷◌, ◌++◌, length, get_or, set, take, drop, remove, Option, Some, None, is_some, refl, sym, ap, ◌∙◌, inl, inr, arith, subst, add-one}
use Rattle.std.proofs.lemmas.List.{length-take-le, take-append-le, take_all, length-append, length-drop}
use Rattle.std.proofs.lemmas.List.Edits.{get_or-remove_above}
use Rattle.art_inner.specs.Inner.{Children, IsRising, child_at, remove_child, count_below}
use Rattle.art_parts.specs.declared.names.OpaqueNodePtr.{OpaqueNodePtr}
use Rattle.art_inner.proofs.TableLemmas.{Entry, counted_front, counted_here, place_of_child}
use Rattle.art_parts.proofs.Comparisons.{by_order}
use Rattle.art_inner.proofs.ChildrenLaws.{at_here, at_later, first_kept, remove_child-between}

-- the entry at the place has the byte: its name is the one under the byte
pub found_at : (cs : Children) (b : ℕ) (d : Entry) (at : ℕ) → at ≡ count_below cs b → at < length cs → (get_or cs at d).0 ≡ b →
    Some (get_or cs at d).1 ≡ child_at cs b
found_at [] b d at k within same = absurd (omega arith)
found_at (c ∷ cs) b d zero k within same = sym (at_here c cs b same)
found_at (c ∷ cs) b d (suc at) k within same = elim (by_order c.0 b) [
  | inl h ↦ found_at cs b d at (omega (arith, k ∙ counted_front c cs b h)) (omega arith) same ∙ sym (at_later c cs b (λ e. omega (arith, h, e)))
  | inr h ↦ absurd (omega (arith, k ∙ counted_here c cs b (elim h [ inl e ↦ omega arith | inr g ↦ omega arith ])))
]

-- the entry at the place is removed
pub removed_at : (cs : Children) (b : ℕ) (d : Entry) (at : ℕ) → IsRising cs → at ≡ count_below cs b → at < length cs →
    (get_or cs at d).0 ≡ b → remove cs at ≡ remove_child cs b
removed_at [] b d at rising k within same = absurd (omega arith)
removed_at (c ∷ cs) b d zero rising k within same =
    sym (remove_child-between [] cs b c.1 (subst (λ x. IsRising ((x, c.1) ∷ cs)) same rising))
    ∙ ap (λ x. remove_child ((x, c.1) ∷ cs) b) (sym same)
removed_at (c ∷ cs) b d (suc at) rising k within same = elim (by_order c.0 b) [
  | inl h ↦ ap (λ (t : Children). c ∷ t) (removed_at cs b d at rising.1 (omega (arith, k ∙ counted_front c cs b h)) (omega arith) same)
      ∙ sym (first_kept c cs b (λ e. omega (arith, h, e)))
  | inr h ↦ absurd (omega (arith, k ∙ counted_here c cs b (elim h [ inl e ↦ omega arith | inr g ↦ omega arith ])))
]

-- the entry at the place has another byte: no entry has the byte
pub nothing_at : (cs : Children) (b : ℕ) (d : Entry) (at : ℕ) → IsRising cs → at ≡ count_below cs b →
    (at < length cs → (get_or cs at d).0 ≢ b) → child_at cs b ≡ None
nothing_at cs b d at rising k other = by_value _ refl
  where
    by_value : (o : Option OpaqueNodePtr) → child_at cs b ≡ o → child_at cs b ≡ None
    by_value None e = e
    by_value (Some n) e =
        let found = place_of_child cs b d rising (ap is_some e) in
        absurd (other (omega (arith, found.0)) (ap (λ i. (get_or cs i d).0) k ∙ found.1))

-- the first entries after one is removed from the part in use
pub front_without : {X : Type 0} (es new : List X) (len at : ℕ) → at < len → len ≤ length es → length new ≡ length (take len es) →
    take (length (take len es) - 1) new ≡ remove (take len es) at → take (len - 1) (new ++ drop len es) ≡ remove (take len es) at
front_without {X} es new len at within fits same written =
    let long : length (take len es) ≡ len = length-take-le len es fits in
    take-append-le (len - 1) new (drop len es) (omega arith) ∙ ap (λ (n : ℕ). take (n - 1) new) (sym long) ∙ written

-- one list's items below a place, and then those of another from the place on: the next one moves to the place
next_taken : {X : Type 0} (front rest : List X) (p : ℕ) (d : X) → p < length front → suc p < length rest → get_or front p d ≡ get_or rest (suc p) d →
    set (take p front ++ drop p rest) p (get_or (take p front ++ drop p rest) (suc p) d) ≡ take (suc p) front ++ drop (suc p) rest
next_taken [] rest p d within later same = absurd (omega (arith, within))
next_taken (x ∷ front) [] p d within later same = absurd (omega (arith, later))
next_taken (x ∷ front) (a ∷ []) p d within later same = absurd (omega (arith, later))
next_taken (x ∷ front) (a ∷ b ∷ rest) zero d within later same = ap (λ y. y ∷ b ∷ rest) (sym same)
next_taken (x ∷ front) (a ∷ rest) (suc p) d within later same =
    ap (λ xs. x ∷ xs) (next_taken front rest p d (omega (arith, within)) (omega (arith, later)) same)

length_without : {X : Type 0} (old : List X) (at : ℕ) → at < length old → length (remove old at) ≡ length old - 1
length_without old at within =
    omega (arith, length-append (take at old) (drop (suc at) old), length-take-le at old (omega (arith, within)), length-drop (suc at) old)

-- a value moves one place to the front
pub moved_front : {X : Type 0} (old part : List X) (at place : ℕ) (d x : X) → at < place → place < length old →
    part ≡ take (place - 1) (remove old at) ++ drop (place - 1) old → x ≡ get_or part place d →
    set part (place - 1) x ≡ take (place + 1 - 1) (remove old at) ++ drop (place + 1 - 1) old
moved_front old part at zero d x after within is read = absurd (omega (arith, after))
moved_front {X} old part at (suc p) d x after within is read =
    let back : suc p - 1 ≡ p = omega arith in
    let on : suc p + 1 - 1 ≡ suc p = omega arith in
    let left = remove old at in
    let shown : part ≡ take p left ++ drop p old = is ∙ ap (λ (k : ℕ). take k left ++ drop k old) back in
    let same : get_or left p d ≡ get_or old (suc p) d =
    get_or-remove_above old at d p (omega (arith, after)) (omega (arith, after, within)) ∙ ap (λ (k : ℕ). get_or old k d) (add-one p) in
    ap (λ (k : ℕ). set part k x) back
    ∙ ap (set part p) (read ∙ ap (λ (xs : List X). get_or xs (suc p) d) shown)
    ∙ ap (λ (xs : List X). set xs p (get_or (take p left ++ drop p old) (suc p) d)) shown
    ∙ next_taken left old p d (omega (arith, within, after, length_without old at (omega (arith, after, within)))) within same
    ∙ ap (λ (k : ℕ). take k left ++ drop k old) (sym on)

-- all later values have moved
pub all_moved : {X : Type 0} (old part : List X) (at place : ℕ) → at < length old → place ≡ length old →
    part ≡ take (place - 1) (remove old at) ++ drop (place - 1) old →
    take (length old - 1) part ≡ remove old at
all_moved {X} old part at place within end is =
    let left = remove old at in
    let count : length left ≡ length old - 1 = length_without old at within in
    let last : place - 1 ≡ length old - 1 = ap (λ (k : ℕ). k - 1) end in
    let whole : take (length old - 1) left ≡ left = take_all (length old - 1) left (omega (arith, count)) in
    ap (take (length old - 1)) (is ∙ ap (λ (k : ℕ). take k left ++ drop k old) last ∙ ap (λ (xs : List X). xs ++ drop (length old - 1) old) whole)
    ∙ take-append-le (length old - 1) left (drop (length old - 1) old) (omega (arith, count))
    ∙ whole
