-- The remaining one of two children when the other is removed.
use Rattle.std.proofs.Common.{◌≡◌, ◌≢◌, ℕ, suc, ◌-◌, ◌<◌, ◌≤◌, [], ◌∷◌, ◌++◌, length, slice_get, Some, All, refl, ap, sym, ◌∙◌, inl, inr, arith}
use Rattle.std.proofs.lemmas.Bool.{cases_eq}
use Rattle.std.proofs.lemmas.List.{length-append}
use Rattle.std.proofs.lemmas.Option.{same_Some}
use Rattle.art_inner.specs.Inner.{Children, remove_child}
use Rattle.art_inner.proofs.ChildrenLaws.{first_kept, remove_child-here}
use Rattle.art_inner.proofs.TableLemmas.{Entry}

none_left : (c : Entry) (cs : Children) → length (c ∷ cs) ≡ 1 → cs ≡ []
none_left c [] one = refl
none_left c (d ∷ cs) one = absurd (omega (arith, one))

-- where a child is left, there was one
pub some_left : (cs : Children) (b : ℕ) → length (remove_child cs b) ≡ 1 → 0 < length cs
some_left [] b one = absurd (omega arith)
some_left (c ∷ cs) b one = omega arith

-- the first child stays, under another byte
pub first_left : (cs : Children) (b : ℕ) (x : Entry) → length (remove_child cs b) ≡ 1 → slice_get cs 0 ≡ Some x → x.0 ≢ b → remove_child cs b ≡ x ∷ []
first_left [] b x one first n = absurd cc
first_left (c ∷ cs) b x one first n =
    let same = same_Some c x first in
    let kept = first_kept c cs b (λ e. n (ap (λ (y : Entry). y.0) (sym same) ∙ e)) in
    kept ∙ ap (λ (t : Children). c ∷ t) (none_left c (remove_child cs b) (ap length (sym kept) ∙ one)) ∙ ap (λ (y : Entry). y ∷ []) same

-- the last child stays, under another byte
last_stays : (c : Entry) (cs : Children) (b : ℕ) (x : Entry) → slice_get (c ∷ cs) (length cs) ≡ Some x → x.0 ≢ b →
    (front : Children) × (remove_child (c ∷ cs) b ≡ front ++ x ∷ [])
last_stays c [] b x last n =
    let same = same_Some c x last in
    ([], first_kept c [] b (λ e. n (ap (λ (y : Entry). y.0) (sym same) ∙ e)) ∙ ap (λ (y : Entry). y ∷ []) same)
last_stays c (d ∷ cs) b x last n =
    let later = last_stays d cs b x last n in
    elim (cases_eq c.0 b) [
      | inl e ↦ (later.0, remove_child-here c (d ∷ cs) b e ∙ later.1)
      | inr k ↦ (c ∷ later.0, first_kept c (d ∷ cs) b k ∙ ap (λ (t : Children). c ∷ t) later.1)
    ]

alone : (front : Children) (x : Entry) → length (front ++ x ∷ []) ≡ 1 → front ++ x ∷ [] ≡ x ∷ []
alone [] x one = refl
alone (c ∷ front) x one = absurd (omega (arith, one, length-append front (x ∷ [])))

-- where all children are under one byte, none is left
all_gone : (cs : Children) (b : ℕ) → All (λ c. b ≤ c.0) cs → All (λ c. c.0 ≤ b) cs → remove_child cs b ≡ []
all_gone [] b low high = refl
all_gone (c ∷ cs) b low high =
    remove_child-here c cs b (omega (arith, low 0 c (omega arith), high 0 c (omega arith)))
    ∙ all_gone cs b (λ k d within. low (suc k) d (omega arith)) (λ k d within. high (suc k) d (omega arith))

pub last_left : (cs : Children) (b : ℕ) (x : Entry) → length (remove_child cs b) ≡ 1 → slice_get cs (length cs - 1) ≡ Some x →
    All (λ c. b ≤ c.0) cs → All (λ c. c.0 ≤ x.0) cs →
    remove_child cs b ≡ x ∷ []
last_left [] b x one last low high = absurd cc
last_left (c ∷ cs) b x one last low high =
    let at : length cs ≡ suc (length cs) - 1 = omega arith in
    elim (cases_eq x.0 b) [
      | inl e ↦
          let none = all_gone (c ∷ cs) b low (λ k d within. omega (arith, e, high k d within)) in
          absurd (omega (arith, one, ap length none))
      | inr n ↦
          let stays = last_stays c cs b x (ap (slice_get (c ∷ cs)) at ∙ last) n in
          stays.1 ∙ alone stays.0 x (ap length (sym stays.1) ∙ one)
    ]
