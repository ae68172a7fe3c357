-- What lists of children have under a byte, for callers.
use Rattle.std.proofs.Common.{◌≡◌, ◌≢◌, ◌⊎◌, ℕ, zero, suc, ◌+◌, ◌-◌, ◌<◌, ◌≤◌, cond, [], ◌∷◌, ◌++◌, length, get_or, Some, None, IsSome, is_some, All, refl, sym, ap, ◌∙◌, inl, inr, arith, subst, eqb}
use Rattle.std.proofs.lemmas.Bool.{eq-eqb, ne_eqb, cases_eq}
use Rattle.art_inner.specs.Inner.{Children, IsAbove, IsBelow, IsRising, child_at, put_child, remove_child}
use Rattle.art_parts.specs.declared.names.OpaqueNodePtr.{OpaqueNodePtr}
use Rattle.art_inner.proofs.TableLemmas.{Entry, before, front, here, later_above, none_is_not}
use Rattle.art_parts.proofs.Comparisons.{by_order}

pub at_here : (c : Entry) (cs : Children) (b : ℕ) → c.0 ≡ b → child_at (c ∷ cs) b ≡ Some c.1
at_here c cs b e = ap (λ t. cond t (Some c.1) (child_at cs b)) (eq-eqb c.0 b e)

pub at_later : (c : Entry) (cs : Children) (b : ℕ) → c.0 ≢ b → child_at (c ∷ cs) b ≡ child_at cs b
at_later c cs b n = ap (λ t. cond t (Some c.1) (child_at cs b)) (ne_eqb c.0 b n)

-- under the byte that was written is what was written, and the other bytes have what they had
pub child_here : (cs : Children) (b : ℕ) (n : OpaqueNodePtr) → child_at (put_child cs b n) b ≡ Some n
child_here [] b n = at_here (b, n) [] b refl
child_here (c ∷ cs) b n = elim (by_order c.0 b) [
  | inl l ↦ ap (λ (t : Children). child_at t b) (front c cs b n l) ∙ at_later c (put_child cs b n) b (λ e. omega (arith, l, e)) ∙ child_here cs b n
  | inr h ↦ elim h [
    | inl e ↦ ap (λ (t : Children). child_at t b) (here c cs b n e) ∙ at_here (b, n) cs b refl
    | inr g ↦ ap (λ (t : Children). child_at t b) (before c cs b n g) ∙ at_here (b, n) (c ∷ cs) b refl
  ]
]

pub child_elsewhere : (cs : Children) (b x : ℕ) (n : OpaqueNodePtr) → x ≢ b → child_at (put_child cs b n) x ≡ child_at cs x
child_elsewhere [] b x n differs = at_later (b, n) [] x (λ e. differs (sym e))
child_elsewhere (c ∷ cs) b x n differs = elim (by_order c.0 b) [
  | inl l ↦ ap (λ (t : Children). child_at t x) (front c cs b n l) ∙ ap (λ t. cond (eqb c.0 x) (Some c.1) t) (child_elsewhere cs b x n differs)
  | inr h ↦ elim h [
    | inl e ↦
        ap (λ (t : Children). child_at t x) (here c cs b n e) ∙ at_later (b, n) cs x (λ k. differs (sym k))
        ∙ sym (at_later c cs x (λ k. differs (sym k ∙ e)))
    | inr g ↦ ap (λ (t : Children). child_at t x) (before c cs b n g) ∙ at_later (b, n) (c ∷ cs) x (λ k. differs (sym k))
  ]
]

-- a byte above all others is written at the end
pub put_child-above : (cs : Children) (b : ℕ) (n : OpaqueNodePtr) → IsAbove b cs → put_child cs b n ≡ cs ++ (b, n) ∷ []
put_child-above [] b n above = refl
put_child-above (c ∷ cs) b n above = front c cs b n above.0 ∙ ap (λ (t : Children). c ∷ t) (put_child-above cs b n above.1)

-- a new byte makes the list one longer, and an old one keeps its length
pub length-put_child_new : (cs : Children) (b : ℕ) (n : OpaqueNodePtr) → child_at cs b ≡ None → length (put_child cs b n) ≡ length cs + 1
length-put_child_new [] b n none = refl
length-put_child_new (c ∷ cs) b n none = elim (by_order c.0 b) [
  | inl l ↦ omega (arith, ap length (front c cs b n l), length-put_child_new cs b n (sym (at_later c cs b (λ e. omega (arith, l, e))) ∙ none))
  | inr h ↦ elim h [
    | inl e ↦ absurd (none_is_not (ap is_some (sym none ∙ at_here c cs b e)))
    | inr g ↦ omega (arith, ap length (before c cs b n g))
  ]
]

pub length-put_child_old : (cs : Children) (b : ℕ) (n : OpaqueNodePtr) → IsRising cs → IsSome (child_at cs b) → length (put_child cs b n) ≡ length cs
length-put_child_old [] b n rising there = absurd (none_is_not there)
length-put_child_old (c ∷ cs) b n rising there = elim (by_order c.0 b) [
  | inl l ↦
      omega (
        arith,
        ap length (front c cs b n l),
        length-put_child_old cs b n rising.1 (ap is_some (sym (at_later c cs b (λ e. omega (arith, l, e)))) ∙ there),
      )
  | inr h ↦ elim h [
    | inl e ↦ omega (arith, ap length (here c cs b n e))
    | inr g ↦ absurd (omega (arith, g, later_above c.0 cs b rising.0 (ap is_some (sym (at_later c cs b (λ e. omega (arith, g, e)))) ∙ there)))
  ]
]

-- how `remove_child` proceeds at an entry
pub remove_child-here : (c : Entry) (cs : Children) (b : ℕ) → c.0 ≡ b → remove_child (c ∷ cs) b ≡ remove_child cs b
remove_child-here c cs b e = ap (λ t. cond t (remove_child cs b) (c ∷ remove_child cs b)) (eq-eqb c.0 b e)

pub first_kept : (c : Entry) (cs : Children) (b : ℕ) → c.0 ≢ b → remove_child (c ∷ cs) b ≡ c ∷ remove_child cs b
first_kept c cs b n = ap (λ t. cond t (remove_child cs b) (c ∷ remove_child cs b)) (ne_eqb c.0 b n)

-- under the removed byte there is nothing, and the other bytes have what they had
pub child_gone : (cs : Children) (b : ℕ) → child_at (remove_child cs b) b ≡ None
child_gone [] b = refl
child_gone (c ∷ cs) b = elim (cases_eq c.0 b) [
  | inl e ↦ ap (λ (t : Children). child_at t b) (remove_child-here c cs b e) ∙ child_gone cs b
  | inr n ↦ ap (λ (t : Children). child_at t b) (first_kept c cs b n) ∙ at_later c (remove_child cs b) b n ∙ child_gone cs b
]

pub child_kept : (cs : Children) (b x : ℕ) → x ≢ b → child_at (remove_child cs b) x ≡ child_at cs x
child_kept [] b x differs = refl
child_kept (c ∷ cs) b x differs = elim (cases_eq c.0 b) [
  | inl e ↦ ap (λ (t : Children). child_at t x) (remove_child-here c cs b e) ∙ child_kept cs b x differs ∙ sym (at_later c cs x (λ k. differs (sym k ∙ e)))
  | inr n ↦ ap (λ (t : Children). child_at t x) (first_kept c cs b n) ∙ ap (λ t. cond (eqb c.0 x) (Some c.1) t) (child_kept cs b x differs)
]

-- where there is no child under the byte, nothing is removed
pub remove_child-absent : (cs : Children) (b : ℕ) → child_at cs b ≡ None → remove_child cs b ≡ cs
remove_child-absent [] b none = refl
remove_child-absent (c ∷ cs) b none = elim (cases_eq c.0 b) [
  | inl e ↦ absurd (none_is_not (ap is_some (sym none ∙ at_here c cs b e)))
  | inr n ↦ first_kept c cs b n ∙ ap (λ (t : Children). c ∷ t) (remove_child-absent cs b (sym (at_later c cs b n) ∙ none))
]

remove_child-below : (cs : Children) (b : ℕ) → IsBelow b cs → remove_child cs b ≡ cs
remove_child-below [] b below = refl
remove_child-below (c ∷ cs) b below = first_kept c cs b (λ e. omega (arith, e, below.0)) ∙ ap (λ (t : Children). c ∷ t) (remove_child-below cs b below.1)

remove_child-above : (cs : Children) (b : ℕ) → IsAbove b cs → remove_child cs b ≡ cs
remove_child-above [] b above = refl
remove_child-above (c ∷ cs) b above = first_kept c cs b (λ e. omega (arith, e, above.0)) ∙ ap (λ (t : Children). c ∷ t) (remove_child-above cs b above.1)

-- what is left is still sorted
IsBelow-remove_child : (x : ℕ) (cs : Children) (b : ℕ) → IsBelow x cs → IsBelow x (remove_child cs b)
IsBelow-remove_child x [] b below = tt
IsBelow-remove_child x (c ∷ cs) b below = elim (cases_eq c.0 b) [
  | inl e ↦ subst (IsBelow x) (sym (remove_child-here c cs b e)) (IsBelow-remove_child x cs b below.1)
  | inr n ↦ subst (IsBelow x) (sym (first_kept c cs b n)) (below.0, IsBelow-remove_child x cs b below.1)
]

pub IsRising-remove_child : (cs : Children) (b : ℕ) → IsRising cs → IsRising (remove_child cs b)
IsRising-remove_child [] b rising = tt
IsRising-remove_child (c ∷ cs) b rising = elim (cases_eq c.0 b) [
  | inl e ↦ subst IsRising (sym (remove_child-here c cs b e)) (IsRising-remove_child cs b rising.1)
  | inr n ↦ subst IsRising (sym (first_kept c cs b n)) (IsBelow-remove_child c.0 cs b rising.0, IsRising-remove_child cs b rising.1)
]

-- removing a child makes the list one shorter
pub length-remove_child : (cs : Children) (b : ℕ) → IsRising cs → IsSome (child_at cs b) → length cs ≡ length (remove_child cs b) + 1
length-remove_child [] b rising there = absurd (none_is_not there)
length-remove_child (c ∷ cs) b rising there = elim (cases_eq c.0 b) [
  | inl e ↦ omega (arith, ap length (remove_child-here c cs b e), ap length (remove_child-below cs b (subst (λ k. IsBelow k cs) e rising.0)))
  | inr n ↦ omega (arith, ap length (first_kept c cs b n), length-remove_child cs b rising.1 (ap is_some (sym (at_later c cs b n)) ∙ there))
]

-- a removal acts on each part of the list, so a last child under another byte stays the last
remove_child-append : (before after : Children) (b : ℕ) → remove_child (before ++ after) b ≡ remove_child before b ++ remove_child after b
remove_child-append [] after b = refl
remove_child-append (c ∷ before) after b = elim (cases_eq c.0 b) [
  | inl e ↦ remove_child-here c (before ++ after) b e ∙ remove_child-append before after b
      ∙ ap (λ (t : Children). t ++ remove_child after b) (sym (remove_child-here c before b e))
  | inr n ↦ first_kept c (before ++ after) b n ∙ ap (λ (t : Children). c ∷ t) (remove_child-append before after b)
      ∙ ap (λ (t : Children). t ++ remove_child after b) (sym (first_kept c before b n))
]

-- the children before one are below it, and those after it are above it
IsBelow-middle : (x : ℕ) (before after : Children) (c : Entry) → IsBelow x (before ++ c ∷ after) → x < c.0
IsBelow-middle x [] after c below = below.0
IsBelow-middle x (d ∷ before) after c below = IsBelow-middle x before after c below.1

pub rises_around : (before after : Children) (c : Entry) → IsRising (before ++ c ∷ after) → IsAbove c.0 before × IsBelow c.0 after
rises_around [] after c rising = (tt, rising.0)
rises_around (d ∷ before) after c rising = let later = rises_around before after c rising.1 in ((IsBelow-middle d.0 before after c rising.0, later.0), later.1)

-- a child in between is removed
pub remove_child-between : (before after : Children) (b : ℕ) (n : OpaqueNodePtr) → IsRising (before ++ (b, n) ∷ after) →
    remove_child (before ++ (b, n) ∷ after) b ≡ before ++ after
remove_child-between before after b n rising =
    let around = rises_around before after (b, n) rising in
    remove_child-append before ((b, n) ∷ after) b
    ∙ ap (λ (t : Children). t ++ remove_child ((b, n) ∷ after) b) (remove_child-above before b around.0)
    ∙ ap (λ (t : Children). before ++ t) (remove_child-here (b, n) after b refl ∙ remove_child-below after b around.1)

-- the first byte is the least, and the last one the greatest
below_all : (x : ℕ) (cs : Children) (k : ℕ) (d : Entry) → IsBelow x cs → k < length cs → x < (get_or cs k d).0
below_all x [] k d below within = absurd (omega arith)
below_all x (c ∷ cs) zero d below within = below.0
below_all x (c ∷ cs) (suc k) d below within = below_all x cs k d below.1 (omega arith)

rises_by_place : (cs : Children) (j k : ℕ) (d e : Entry) → IsRising cs → j < k → k < length cs → (get_or cs j d).0 < (get_or cs k e).0
rises_by_place [] j k d e rising before within = absurd (omega arith)
rises_by_place (c ∷ cs) j zero d e rising before within = absurd (omega arith)
rises_by_place (c ∷ cs) zero (suc k) d e rising before within = below_all c.0 cs k e rising.0 (omega arith)
rises_by_place (c ∷ cs) (suc j) (suc k) d e rising before within = rises_by_place cs j k d e rising.1 (omega arith) (omega arith)

same_place : (cs : Children) (k : ℕ) (d e : Entry) → k < length cs → (get_or cs k d).0 ≤ (get_or cs k e).0
same_place [] k d e within = absurd (omega arith)
same_place (c ∷ cs) zero d e within = omega arith
same_place (c ∷ cs) (suc k) d e within = same_place cs k d e (omega arith)

pub first_is_least : (whole cs : Children) (d : Entry) → whole ≡ cs → IsRising whole → All (λ child. (get_or whole 0 d).0 ≤ child.0) cs
first_is_least whole cs d same rising =
    subst (λ (xs : Children). All (λ child. (get_or whole 0 d).0 ≤ child.0) xs) same (λ k e within. at k e within (cases_eq 0 k))
  where
    at : (k : ℕ) (e : Entry) → k < length whole → (0 ≡ k) ⊎ (0 ≢ k) → (get_or whole 0 d).0 ≤ (get_or whole k e).0
    at k e within (inl first) = subst (λ j. (get_or whole 0 d).0 ≤ (get_or whole j e).0) first (same_place whole 0 d e (omega arith))
    at k e within (inr later) = omega (arith, rises_by_place whole 0 k d e rising (omega (arith, later)) within)

pub last_is_greatest : (whole cs : Children) (d : Entry) → whole ≡ cs → IsRising whole → All (λ child. child.0 ≤ (get_or whole (length whole - 1) d).0) cs
last_is_greatest whole cs d same rising =
    subst (λ (xs : Children). All (λ child. child.0 ≤ (get_or whole (length whole - 1) d).0) xs) same
    (λ k e within. at k e within (cases_eq k (length whole - 1)))
  where
    at : (k : ℕ) (e : Entry) → k < length whole → (k ≡ length whole - 1) ⊎ (k ≢ length whole - 1) → (get_or whole k e).0 ≤ (get_or whole (length whole - 1) d).0
    at k e within (inl last) = subst (λ j. (get_or whole k e).0 ≤ (get_or whole j d).0) last (same_place whole k e d within)
    at k e within (inr before) = omega (arith, rises_by_place whole k (length whole - 1) e d rising (omega (arith, before)) (omega arith))
