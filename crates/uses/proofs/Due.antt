-- Leases that end at a time or before.
use Rattle.std.proofs.Common.{◌≡◌, ℕ, ◌+◌, ◌≤◌, List, [], ◌∷◌, length, Bool, true, false, Option, Some, None, IfSome, refl, sym, ap, ◌∙◌, subst, arith}
use Rattle.std.specs.FinMap as map
use Rattle.std.specs.Option.{option_map}
use Rattle.art_nodes.specs.Nodes.{Nodes}
use Rattle.art_parts.specs.declared.names.OpaqueNodePtr.{OpaqueNodePtr}
use Rattle.art_model.specs.Apart.{HasBoth}
use Rattle.art_model.specs.Canonical.{IsCanonical}
use Rattle.art_model.specs.Pairs.{first_of, of_key, remove_key, without_first}
use Rattle.art_writing.specs.Deleted.{HasDeletePoint, pair_at}
use Rattle.art_writing.specs.declared.delete.DeletePoint.{DeletePoint}
use Rattle.art_changing.proofs.Enough.{enough}
use Rattle.uses.specs.Leases.{ends_after, first_due, id_of, ids_after, is_due}
use Rattle.uses.specs.declared.leases.Roots.{Roots}

module _ {K V : Type 0} (bytes : K × V → List ℕ) (now : List ℕ) where
  -- the first lease is due
  pub due_first : (ends : List (K × V)) (x : K × V) → first_of ends ≡ Some x → is_due now (bytes x) ≡ true → first_due bytes now ends ≡ Some x
  due_first [] x e due = absurd cc
  due_first (y ∷ ends) x e due = let same : y ≡ x = cc in subst (λ z. first_due bytes now (z ∷ ends) ≡ Some x) (sym same) (rw due refl)

  -- no lease is due where the first one is not
  pub none_due : (ends : List (K × V)) (found : Option (K × V)) → found ≡ first_of ends → IfSome found (λ x. is_due now (bytes x) ≡ false) →
      first_due bytes now ends ≡ None
  none_due [] found e h = refl
  none_due (y ∷ ends) found e h = rw (subst (λ o. IfSome o (λ x. is_due now (bytes x) ≡ false)) e h) refl

  -- where no lease is due all are left
  pub all_left : (ids ends : List (K × V)) → first_due bytes now ends ≡ None → (ends_after bytes now ends ≡ ends) × (ids_after bytes now ids ends ≡ ids)
  all_left ids [] e = (refl, refl)
  all_left ids (x ∷ ends) e = go (is_due now (bytes x)) refl
    where
      go : (b : Bool) → is_due now (bytes x) ≡ b → (ends_after bytes now (x ∷ ends) ≡ x ∷ ends) × (ids_after bytes now ids (x ∷ ends) ≡ ids)
      go true due = let none : Some x ≡ None = rw due at e in absurd cc
      go false later = (rw later refl, rw later refl)

  -- the first lease goes where it is due
  pub first_goes : (ids ends : List (K × V)) (x : K × V) → first_due bytes now ends ≡ Some x →
      (ends_after bytes now (without_first ends) ≡ ends_after bytes now ends) ×
      (ids_after bytes now (remove_key bytes (id_of (bytes x)) ids) (without_first ends) ≡ ids_after bytes now ids ends) ×
      (length (without_first ends) + 1 ≡ length ends)
  first_goes ids [] x e = absurd cc
  first_goes ids (y ∷ ends) x e = go (is_due now (bytes y)) refl
    where
      go : (b : Bool) → is_due now (bytes y) ≡ b →
          (ends_after bytes now ends ≡ ends_after bytes now (y ∷ ends)) ×
          (ids_after bytes now (remove_key bytes (id_of (bytes x)) ids) ends ≡ ids_after bytes now ids (y ∷ ends)) ×
          (length ends + 1 ≡ length (y ∷ ends))
      go true due =
          let same : y ≡ x = let s : Some y ≡ Some x = rw due at e in cc in
          (rw due refl, subst (λ z. ids_after bytes now (remove_key bytes (id_of (bytes z)) ids) ends ≡ ids_after bytes now ids (y ∷ ends)) same (rw due refl), omega arith)
      go false later = let none : None ≡ Some x = rw later at e in absurd cc

-- the point of the first pair leads to the lease that ends first
pub end_at : {K V : Type 0} {bytes : K × V → List ℕ} {P : ℕ} {s : Nodes K V} {first second : Option OpaqueNodePtr} {root : OpaqueNodePtr} {point : DeletePoint}
    (ids ends : List (K × V)) → HasBoth bytes P s first second ids ends → second ≡ Some root → HasDeletePoint bytes P s root first_of (Some point) →
    pair_at s (Some point) ≡ first_of ends
end_at {bytes = bytes} {P = P} {s = s} ids ends h is has = let (layout, by) = subst (λ r. IsCanonical bytes P s r ends) is h.two in has.pair ends layout by

-- of no lease there is no key
pub no_first : {X Y : Type 0} (found : Option (X × Y)) → None ≡ option_map (λ lease. lease.0) found → found ≡ None
no_first None e = refl
no_first (Some x) e = absurd cc

-- a store has at least as many leaves as a tree in it has pairs, also where there is no tree
as_many : {K V : Type 0} (bytes : K × V → List ℕ) (P : ℕ) (s : Nodes K V) (root : Option OpaqueNodePtr) (pairs : List (K × V)) →
    IsCanonical bytes P s root pairs → length pairs ≤ map.len s.leaves
as_many bytes P s None pairs none = let few : length pairs ≡ 0 = ap length none in omega arith
as_many bytes P s (Some root) pairs (layout, is) = enough is

module _ {K V : Type 0} (bytes : K → List ℕ) (now : List ℕ) (P : ℕ) (ids ends : List (K × V)) where
  -- what becomes of these leases after so many turns becomes of all
  pub record IsLeft (s : Nodes K V) (roots : Roots) (turn : ℕ) : Type 0 where
    pub others : List (K × V)
    pub later : List (K × V)
    pub both : HasBoth (of_key bytes) P s roots.by_id roots.by_end others later
    pub same_ids : ids_after (of_key bytes) now others later ≡ ids_after (of_key bytes) now ids ends
    pub same_ends : ends_after (of_key bytes) now later ≡ ends_after (of_key bytes) now ends
    pub fewer : length later + turn ≤ length ends

  -- the first one goes
  pub goes_on : {s t : Nodes K V} {roots new : Roots} {turn : ℕ} (key : K) (l : IsLeft s roots turn) →
      Some key ≡ option_map (λ lease. lease.0) (first_due (of_key bytes) now l.later) →
      HasBoth (of_key bytes) P t new.by_id new.by_end (remove_key (of_key bytes) (id_of (bytes key)) l.others) (without_first l.later) →
      IsLeft t new (turn + 1)
  goes_on {t = t} {new = new} {turn = turn} key l is both = go (first_due (of_key bytes) now l.later) refl
    where
      go : (due : Option (K × V)) → first_due (of_key bytes) now l.later ≡ due → IsLeft t new (turn + 1)
      go None e = let none : Some key ≡ None = rw e at is in absurd cc
      go (Some x) e =
          let same : key ≡ x.0 = let some : Some key ≡ Some x.0 = rw e at is in cc in
          let (gone_ends, gone_ids, one) = first_goes (of_key bytes) now l.others l.later x e in record {
            others = remove_key (of_key bytes) (id_of (bytes key)) l.others;
            later = without_first l.later;
            both = both;
            same_ids = ap (λ k. ids_after (of_key bytes) now (remove_key (of_key bytes) (id_of (bytes k)) l.others) (without_first l.later)) same
                ∙ gone_ids ∙ l.same_ids;
            same_ends = gone_ends ∙ l.same_ends;
            fewer = omega (arith, one, l.fewer);
          }

  -- where none of these is due, they are what is left of all
  pub are_left : {s : Nodes K V} {roots : Roots} {turn : ℕ} (l : IsLeft s roots turn) → first_due (of_key bytes) now l.later ≡ None →
      HasBoth (of_key bytes) P s roots.by_id roots.by_end (ids_after (of_key bytes) now ids ends) (ends_after (of_key bytes) now ends)
  are_left {s} {roots} l none =
      let (stay_ends, stay_ids) = all_left (of_key bytes) now l.others l.later none in
      subst (λ xs. HasBoth (of_key bytes) P s roots.by_id roots.by_end xs (ends_after (of_key bytes) now ends)) (sym stay_ids ∙ l.same_ids)
      (subst (λ xs. HasBoth (of_key bytes) P s roots.by_id roots.by_end l.others xs) (sym stay_ends ∙ l.same_ends) l.both)

  -- no lease is left after as many turns as there were leaves
  pub none_left : {old s : Nodes K V} {first second : Roots} {turn : ℕ} → HasBoth (of_key bytes) P old first.by_id first.by_end ids ends →
      (l : IsLeft s second turn) → map.len old.leaves ≤ turn → first_due (of_key bytes) now l.later ≡ None
  none_left {old} {first = first} h l all = go l.later (let many = as_many (of_key bytes) P old first.by_end ends h.two in omega (arith, many, l.fewer))
    where
      go : (later : List (K × V)) → length later ≤ 0 → first_due (of_key bytes) now later ≡ None
      go [] few = refl
      go (x ∷ later) few = absurd (omega arith)
