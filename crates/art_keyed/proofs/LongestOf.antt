-- The pair with the longest string that is a prefix of a text.
use Rattle.std.proofs.Common.{◌≡◌, ℕ, List, [], ◌∷◌, Bool, true, false, ◌⊎◌, inl, inr, cond, filter, length, take, Option, Some, None, refl, ap, sym, ◌∙◌}
use Rattle.std.proofs.lemmas.List.{take_at}
use Rattle.art_keyed.specs.KeyedPairs.{strings_in_front}
use Rattle.art_keyed.specs.TextCalls.{longest_key, without_longest}
use Rattle.art_parts.specs.Keys.{IsFront, Precedes, are_same, is_front}
use Rattle.art_model.specs.Pairs.{IsMap, first_of, last_of, of_key, remove_key, with_key}
use Rattle.art_model.proofs.keys.Keys.{front_from, front_same, related_sym, same_related}
use Rattle.art_model.proofs.lists.Filters.{Each-filter, filter_passes, last_each}
use Rattle.art_model.proofs.pairs.Puts.{first_has}

-- the last element of a list is its first one, or the last one of the others
last_of_cons : {A : Type 0} (y : A) (zs : List A) (x : A) → last_of (y ∷ zs) ≡ Some x → (y ≡ x) ⊎ (last_of zs ≡ Some x)
last_of_cons y [] x e = inl cc
last_of_cons y (z ∷ zs) x e = inr e

module _ {K V : Type 0} (bytes : K → List ℕ) where
  -- a pair that is the last one of a part is found by its own key
  found_own : (test : K × V → Bool) (pairs : List (K × V)) → IsMap (of_key bytes) pairs → (x : K × V) →
      last_of (filter test pairs) ≡ Some x → first_of (with_key (of_key bytes) (bytes x.0) pairs) ≡ Some x
  found_own test [] rise x e = absurd cc
  found_own test (y ∷ ys) rise x e = go (found_own test ys rise.1 x) (test y) refl e
    where
      here : y ≡ x → first_of (with_key (of_key bytes) (bytes x.0) (y ∷ ys)) ≡ Some x
      here same = rw (ap (λ z. are_same (bytes x.0) (bytes z.0)) same ∙ front_same (bytes x.0)) (ap Some same)

      later : first_of (with_key (of_key bytes) (bytes x.0) ys) ≡ Some x → first_of (with_key (of_key bytes) (bytes x.0) (y ∷ ys)) ≡ Some x
      later found =
          let before = first_has (λ z. Precedes (bytes y.0) (bytes z.0)) (with_key (of_key bytes) (bytes x.0) ys) x
          (Each-filter (λ z. Precedes (bytes y.0) (bytes z.0)) (λ z. are_same (bytes x.0) (bytes z.0)) ys rise.0) found in
          rw (same_related (bytes x.0) (bytes y.0) (related_sym (bytes x.0) (bytes y.0) ∙ before.1)) found

      go : (last_of (filter test ys) ≡ Some x → first_of (with_key (of_key bytes) (bytes x.0) ys) ≡ Some x) → (b : Bool) → test y ≡ b →
          last_of (cond b (y ∷ filter test ys) (filter test ys)) ≡ Some x →
          first_of (with_key (of_key bytes) (bytes x.0) (y ∷ ys)) ≡ Some x
      go ih true is f = by (last_of_cons y (filter test ys) x f)
        where
          by : (y ≡ x) ⊎ (last_of (filter test ys) ≡ Some x) → first_of (with_key (of_key bytes) (bytes x.0) (y ∷ ys)) ≡ Some x
          by (inl same) = here same
          by (inr g) = later (ih g)
      go ih false is f = later (ih f)

module _ {V : Type 0} (bytes : List ℕ → List ℕ) (text : List ℕ) (pairs : List (List ℕ × V)) (x : List ℕ × V)
    (found : Some x ≡ last_of (strings_in_front (λ string. string) text pairs)) where
  longest_front : IsFront x.0 text
  longest_front =
      front_from x.0 text (last_each (λ y. is_front y.0 text ≡ true) (strings_in_front (λ string. string) text pairs) x
      (filter_passes (λ y. is_front y.0 text) pairs) (sym found))

  pub longest_cut : (n : ℕ) → n ≡ length x.0 → take n text ≡ x.0
  longest_cut n is = let (rest, e) = longest_front in ap (take n) e ∙ take_at x.0 rest n (sym is)

  pub longest_key_is : bytes x.0 ≡ longest_key bytes (λ string. string) text pairs
  longest_key_is = ap (λ (o : Option (List ℕ × V)). elim o as (λ _. List ℕ) [ None ↦ [] | Some pair ↦ bytes pair.0 ]) found

  pub without_longest_is : remove_key (of_key bytes) (bytes x.0) pairs ≡ without_longest bytes (λ string. string) text pairs
  without_longest_is =
      ap (λ (o : Option (List ℕ × V)). elim o as (λ _. List (List ℕ × V)) [
        | None ↦ pairs
        | Some pair ↦ remove_key (of_key bytes)
            (bytes pair.0) pairs
      ]) found

  pub longest_own : IsMap (of_key bytes) pairs → first_of (with_key (of_key bytes) (bytes x.0) pairs) ≡ Some x
  longest_own rise = found_own bytes (λ y. is_front y.0 text) pairs rise x (sym found)
