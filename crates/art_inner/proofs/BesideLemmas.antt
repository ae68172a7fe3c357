-- The child next to a byte in a sorted list, and the number of children where a byte has none.
use Rattle.std.proofs.Common.{◌≡◌, ◌≢◌, ◌⊎◌, ℕ, zero, suc, ◌-◌, ◌<◌, ◌≤◌, min, cond, eqb, [], ◌∷◌, length, slice_get, Option, Some, None, IsSome, is_some, All, refl, ap, sym, ◌∙◌, inl, inr, arith}
use Rattle.std.proofs.lemmas.Bool.{eq-eqb, ne_eqb}
use Rattle.art_inner.specs.Beside.{IsNextTo}
use Rattle.art_inner.specs.Inner.{Children, IsAbove, IsRising, child_at, count_below}
use Rattle.art_inner.specs.Tables.{names_by_byte}
use Rattle.art_parts.specs.declared.names.OpaqueNodePtr.{OpaqueNodePtr}
use Rattle.art_inner.proofs.ChildrenLaws.{at_here, at_later, length-put_child_new}
use Rattle.art_inner.proofs.Extent.{greatest_of, listed_bound, listed_put, nothing_below}
use Rattle.art_inner.proofs.RowsLemmas.{child_in_place}
use Rattle.art_inner.proofs.TableLemmas.{Entry, counted_front, counted_here}
use Rattle.art_parts.proofs.Comparisons.{by_order}

same_byte : (c e : Entry) → Some c ≡ Some e → c.0 ≡ e.0
same_byte c e is = ap (λ o. elim o [ None ↦ c.0 | Some y ↦ y.0 ]) is

-- the first child that is not below a byte: none is between
from_byte : (cs : Children) (b : ℕ) (e : Entry) → IsRising cs → slice_get cs (count_below cs b) ≡ Some e →
    (b ≤ e.0) × ((k : ℕ) → b ≤ k → k < e.0 → child_at cs k ≡ None)
from_byte [] b e rising is = absurd cc
from_byte (c ∷ cs) b e rising is = elim (by_order c.0 b) [
  | inl l ↦
      let later = from_byte cs b e rising.1 (sym (ap (slice_get (c ∷ cs)) (counted_front c cs b l)) ∙ is) in
      (later.0, λ k from to. at_later c cs k (λ same. omega (arith, l, from, same)) ∙ later.1 k from to)
  | inr h ↦
      let high : b ≤ c.0 = elim h [ inl same ↦ omega (arith, same) | inr g ↦ omega (arith, g) ] in
      let first : c.0 ≡ e.0 = same_byte c e (sym (ap (slice_get (c ∷ cs)) (counted_here c cs b high)) ∙ is) in (
        omega (arith, high, first),
        λ k from to. at_later c cs k (λ same. omega (arith, to, first, same))
            ∙ nothing_below c.0 cs k rising.0 (omega (arith, to, first)),
      )
]

-- where no more are left, all are below the byte
all_below : (cs : Children) (b : ℕ) → length cs ≤ count_below cs b → IsAbove b cs
all_below [] b all = tt
all_below (c ∷ cs) b all = elim (by_order c.0 b) [
  | inl l ↦ (l, all_below cs b (omega (arith, all, counted_front c cs b l)))
  | inr h ↦ absurd (omega (arith, all, counted_here c cs b (elim h [ inl same ↦ omega (arith, same) | inr g ↦ omega (arith, g) ])))
]

entry_below : (cs : Children) (b n : ℕ) (e : Entry) → IsAbove b cs → slice_get cs n ≡ Some e → e.0 < b
entry_below [] b n e above is = absurd cc
entry_below (c ∷ cs) b zero e above is = omega (arith, above.0, same_byte c e is)
entry_below (c ∷ cs) b (suc n) e above is = entry_below cs b n e above.1 is

none_past : (cs : Children) (last k : ℕ) → All (λ c. c.0 ≤ last) cs → last < k → child_at cs k ≡ None
none_past [] last k most past = refl
none_past (c ∷ cs) last k most past =
    at_later c cs k (λ same. omega (arith, most 0 c (omega arith), past, same)) ∙ none_past cs last k (λ n d within. most (suc n) d (omega arith)) past

-- the child at the place of the byte, or the last one
pub beside_at : (cs : Children) (b place : ℕ) (e : Entry) → IsRising cs → 0 < length cs → place ≡ min (count_below cs b) (length cs - 1) →
    slice_get cs place ≡ Some e → IsNextTo cs b e
beside_at cs b place e rising some at is = by_place (by_order (count_below cs b) (length cs))
  where
    there : child_at cs e.0 ≡ Some e.1
    there = child_in_place cs place e.0 e rising is refl

    last : length cs ≤ count_below cs b → IsNextTo cs b e
    last all =
        let at_end : slice_get cs (length cs - 1) ≡ Some e = sym (ap (slice_get cs) (omega (arith, at, all))) ∙ is in
        let low = entry_below cs b place e (all_below cs b all) is in
        record {
          there = there;
          above = λ k from to. absurd (omega (arith, low, from, to));
          below = λ k from to. none_past cs e.0 k (greatest_of cs e rising at_end) from;
        }

    by_place : (count_below cs b < length cs) ⊎ ((count_below cs b ≡ length cs) ⊎ (length cs < count_below cs b)) → IsNextTo cs b e
    by_place (inl left) =
        let found = from_byte cs b e rising (sym (ap (slice_get cs) (omega (arith, at, left))) ∙ is) in
        record {
          there = there;
          above = λ k from to. found.1 k (omega (arith, from)) to;
          below = λ k from to. absurd (omega (arith, found.0, from, to));
        }
    by_place (inr h) = last (elim h [ inl same ↦ omega (arith, same) | inr g ↦ omega (arith, g) ])

-- where a byte has no child and there is one, another byte has
pub some_other : (cs : Children) (b : ℕ) → IsAbove 256 cs → 0 < length cs → child_at cs b ≡ None →
    (other : ℕ) × (other < 256) × (other ≢ b) × IsSome (child_at cs other)
some_other [] b above some none = absurd (omega (arith, some))
some_other (c ∷ cs) b above some none =
    let here = at_here c cs c.0 refl in
    (c.0, above.0, (λ same. not_both _ _ (sym none ∙ at_here c cs b same)), ap is_some here)
  where
    not_both : (X : Type 0) (x : X) → ◌≡◌ {A = Option X} None (Some x) → ⊥
    not_both X x e = cc

-- there are fewer children than bytes
pub listed_few : (at : ℕ → Option OpaqueNodePtr) (b : ℕ) (n : OpaqueNodePtr) → b < 256 → child_at (names_by_byte at) b ≡ None → length (names_by_byte at) < 256
listed_few at b n within none =
    let put = listed_put at more b within others n (ap (λ t. cond t (Some n) (at b)) (eq-eqb b b refl)) in
    omega (arith, listed_bound more, ap length put, length-put_child_new (names_by_byte at) b n none)
  where
    more : ℕ → Option OpaqueNodePtr
    more k = cond (eqb k b) (Some n) (at k)

    others : (k : ℕ) → k < 256 → k ≢ b → more k ≡ at k
    others k small differs = ap (λ t. cond t (Some n) (at k)) (ne_eqb k b differs)
