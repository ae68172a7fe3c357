-- Maps that are read off the slots of a slab, and maps that differ under one name.
use Rattle.std.proofs.Common.{◌≡◌, ◌≢◌, ℕ, zero, suc, ◌+◌, ◌<◌, cond, List, [], ◌∷◌, get_or, Option, Some, None, is_some, refl, sym, ap, ◌∙◌, inl, inr, arith, add-zero}
use Rattle.std.proofs.lemmas.List.Sums.{sum_by-cons}
use Rattle.std.specs.List.{filter_map}
use Rattle.std.specs.Ordering.{eq_by_cmp}
use Rattle.std.specs.Prelude.{count_by}
use Rattle.std.specs.Cmp.{IsTotalOrder}
use Rattle.std.specs.FinMap.{FinMap, IsAntisymmetric, find, from_entries, get, get-from_entries, insert, len, len-empty, len-insert, remove, same_map}
use Rattle.std.specs.declared.cmp.Ordering.{Ordering}
use Rattle.slab.specs.Slab.{entries_from}
use Rattle.art_nodes.specs.Nodes.{change}
use Rattle.art_parts.proofs.NameLemmas.{apart, same_or_not}
use Rattle.art_nodes.proofs.StoreChanges.{here, elsewhere, gone, gone_elsewhere, changed_from}

-- each slot gives an entry, whose name has the slot's number
module _ {N X : Type 0} {R : N → N → Ordering} (same : IsAntisymmetric R) (slot_of : N → ℕ) (name_at : ℕ → N) (own : (at : ℕ) → slot_of (name_at at) ≡ at) where
  abbrev entries_at : ℕ → List (Option X) → List (N × X)
  entries_at at slots = filter_map (λ e. Some (name_at e.0, e.1)) (entries_from at slots)

  past : (q : N) (at : ℕ) (x : X) (es : List (N × X)) → slot_of q ≢ at → find R q ((name_at at, x) ∷ es) ≡ find R q es
  past q at x es differs =
      let other : q ≢ name_at at = λ s. differs (ap slot_of s ∙ own at) in
      ap (λ b. cond b (Some x) (find R q es)) (apart same q (name_at at) other _ refl)

  none_before : (q : N) (at : ℕ) (slots : List (Option X)) → slot_of q < at → find R q (entries_at at slots) ≡ None
  none_before q at [] below = refl
  none_before q at (None ∷ rest) below = none_before q (at + 1) rest (omega arith)
  none_before q at (Some x ∷ rest) below = past q at x _ (λ e. omega arith) ∙ none_before q (at + 1) rest (omega arith)

  at_head : (q : N) (e : N × X) (es : List (N × X)) → find R q es ≡ None → find R q (e ∷ es) ≡ cond (eq_by_cmp R q e.0) (Some e.1) None
  at_head q e es nothing = ap (λ rest. cond (eq_by_cmp R q e.0) (Some e.1) rest) nothing

  -- each value has an entry of its own
  pub len-slots : IsTotalOrder R → (at : ℕ) (slots : List (Option X)) → len (from_entries {R = R} (entries_at at slots)) ≡ count_by is_some slots
  len-slots order at [] = len-empty R X
  len-slots order at (None ∷ rest) = len-slots order (at + 1) rest ∙ omega (arith, sum_by-cons (λ o. cond (is_some o) 1 0) None rest)
  len-slots order at (Some x ∷ rest) =
      let later : FinMap R X = from_entries {R = R} (entries_at (at + 1) rest) in
      let fresh : get later (name_at at) ≡ None =
      get-from_entries order (entries_at (at + 1) rest) (name_at at) ∙ none_before (name_at at) (at + 1) rest (omega (arith, own at)) in
      len-insert order later (name_at at) x ∙ ap (λ o. cond (is_some o) (len later) (len later + 1)) fresh
      ∙ omega (arith, len-slots order (at + 1) rest, sum_by-cons (λ o. cond (is_some o) 1 0) (Some x) rest)

  -- `pick` is what a slot has under a name
  module _ (pick : N → Option X → Option X) (none : (q : N) → pick q None ≡ None)
      (some : (q : N) (x : X) → cond (eq_by_cmp R q (name_at (slot_of q))) (Some x) None ≡ pick q (Some x)) where
    found_from : (q : N) (at k : ℕ) (slots : List (Option X)) → slot_of q ≡ at + k → find R q (entries_at at slots) ≡ pick q (get_or slots k None)
    found_from q at k [] e = sym (none q)
    found_from q at zero (None ∷ rest) e = none_before q (at + 1) rest (omega arith) ∙ sym (none q)
    found_from q at zero (Some x ∷ rest) e = at_head q (name_at at, x) _ (none_before q (at + 1) rest (omega arith))
        ∙ ap (λ n. cond (eq_by_cmp R q (name_at n)) (Some x) None) (sym (e ∙ add-zero at)) ∙ some q x
    found_from q at (suc k) (None ∷ rest) e = found_from q (at + 1) k rest (omega arith)
    found_from q at (suc k) (Some x ∷ rest) e = past q at x _ (λ s. omega arith) ∙ found_from q (at + 1) k rest (omega arith)

    pub find-slots : (slots : List (Option X)) (q : N) → find R q (entries_at 0 slots) ≡ pick q (get_or slots (slot_of q) None)
    find-slots slots q = found_from q 0 (slot_of q) slots (omega arith)

-- two maps that have the same under each name but one
module _ {N X : Type 0} {R : N → N → Ordering} (order : IsTotalOrder R) (same : IsAntisymmetric R) (m n : FinMap R X) (p : N)
    (others : (q : N) → q ≢ p → get n q ≡ get m q) where
  by_name : (t : FinMap R X) → get n p ≡ get t p → ((q : N) → q ≢ p → get t q ≡ get m q) → n ≡ t
  by_name t at_p rest = same_map order same _ _ (λ q. elim (same_or_not same order q p) [
    | inl e ↦ ap (get n) e ∙ at_p ∙ sym (ap (get t) e)
    | inr d ↦ others q d ∙ sym (rest q d)
  ])

  pub put : (x : X) → get n p ≡ Some x → n ≡ insert m p x
  put x has = by_name (insert m p x) (has ∙ sym (here order same m p x)) (λ q d. elsewhere order same m p q x d)

  pub taken : get n p ≡ None → n ≡ remove m p
  taken empty = by_name (remove m p) (empty ∙ sym (gone order same m p)) (λ q d. gone_elsewhere order same m p q d)

  pub changed : (f : X → X) (x : X) → get m p ≡ Some x → get n p ≡ Some (f x) → n ≡ change m p f
  changed f x had has = put (f x) has ∙ sym (changed_from m p f (Some x) had)
