-- A pair that is put after the last one, which is not pushed yet.
use Rattle.std.proofs.Common.{◌≡◌, ◌≢◌, ℕ, List, [], ◌∷◌, ◌++◌, append-nil, append_assoc, Bool, true, false, inl, inr, Option, Some, None, refl, ap, ap₂, sym, ◌∙◌, subst}
use Rattle.std.specs.List.{AllByRecursion as Each}
use Rattle.std.proofs.lemmas.Bool.{true≢false}
use Rattle.std.proofs.lemmas.List.Elements.{filter-append}
use Rattle.art_building.specs.Sorted.{AreSorted, comes_before}
use Rattle.art_building.specs.Pushes.{IsReasonAfter}
use Rattle.art_keys.specs.Prefixes.{HasNoPrefixes}
use Rattle.art_keyed.specs.KeyedPairs.{HaveKeys}
use Rattle.art_loading.specs.NextKeys.{IsReason}
use Rattle.art_loading.specs.declared.append.AppendReason.{AppendReason}
use Rattle.art_loading.specs.declared.append.AppendReason.TheVariants.{Before, Conflict, Equal, Memory}
use Rattle.art_map.specs.MapCalls.{put_all}
use Rattle.art_model.specs.KeyLaws.{HasSmallerByte}
use Rattle.art_parts.specs.Keys.{IsFront, Precedes, are_related, are_same, is_before}
use Rattle.art_model.specs.Pairs.{IsMap, first_of, last_of, of_key, put, replace_key, with_key}
use Rattle.art_model.proofs.keys.Keys.{front_related, front_same, precedes_apart, precedes_at, related_sym, same_related}
use Rattle.art_model.proofs.keys.KeyLaws.{order_is_decided, order_is_total, order_is_transitive, relation_is_decided}
use Rattle.art_model.proofs.lists.Lists.{Each-append, Each-weaker, filter_none}
use Rattle.art_model.proofs.lists.Filters.{last_each}
use Rattle.art_model.proofs.lists.Pairwises.{Pairwise-append, Pairwise-before, Pairwise-left}
use Rattle.art_model.proofs.pairs.Between.{replace_key-between}
use Rattle.art_model.proofs.pairs.Puts.{put-old, put_end}

-- a key that precedes another one has a smaller byte
smaller_byte : (a b : List ℕ) → Precedes a b → HasSmallerByte a b
smaller_byte a b h = elim ((order_is_decided a b).0 h.0) [
  | inl (byte, rest, e) ↦ absurd (true≢false (sym (front_related a b (byte ∷ rest, e)) ∙ h.1))
  | inr s ↦ s
]

-- a key that precedes another one precedes those after it: what is between a key and a key that starts with it starts with it
precedes_far : (a b c : List ℕ) → Precedes a b → Precedes b c → Precedes a c
precedes_far a b c h k = (order_is_transitive a b c h.0 k.0, go (are_related a c) refl)
  where
    starts : IsFront a c → HasSmallerByte a b → ⊥
    starts (rest, e) (front, x, y, r, s, f, g, less) =
        let between = precedes_at front x y (r ++ rest) s c b (e ∙ ap (λ z. z ++ rest) f ∙ append_assoc front (x ∷ r) rest) g less in
        true≢false (sym k.0 ∙ precedes_apart c b between)

    ends : IsFront c a → HasSmallerByte b c → ⊥
    ends (rest, e) (front, x, y, r, s, f, g, less) =
        let between = precedes_at front x y r (s ++ rest) b a f (e ∙ ap (λ z. z ++ rest) g ∙ append_assoc front (y ∷ s) rest) less in
        true≢false (sym h.0 ∙ precedes_apart b a between)

    go : (t : Bool) → are_related a c ≡ t → are_related a c ≡ false
    go true e = elim ((relation_is_decided a c).0 e) [ inl front ↦ absurd (starts front (smaller_byte a b h)) | inr front ↦ absurd (ends front (smaller_byte b c k)) ]
    go false e = e

module _ {K V : Type 0} (bytes : K → List ℕ) where
  abbrev Of : K × V → List ℕ
  Of = of_key bytes

  abbrev R : K × V → K × V → Type 0
  R x y = Precedes (bytes x.0) (bytes y.0)

  module _ (pairs : List (K × V)) (last : K × V) (map : IsMap Of (pairs ++ last ∷ [])) where
    lower : Each (λ x. R x last) pairs
    lower = Pairwise-before R pairs [] last map

    -- ---- a pair with the same key gives the last one its value

    module _ (next : K × V) (same : bytes next.0 ≡ bytes last.0) where
      found : with_key Of (bytes next.0) (pairs ++ last ∷ []) ≡ last ∷ []
      found =
          let none = filter_none (λ x. are_same (bytes last.0) (bytes x.0)) pairs
          (Each-weaker (λ x. R x last) (λ x. are_same (bytes last.0) (bytes x.0) ≡ false)
          (λ x h. same_related (bytes last.0) (bytes x.0) (related_sym (bytes last.0) (bytes x.0) ∙ h.1)) pairs lower) in
          ap (λ k. with_key Of k (pairs ++ last ∷ [])) same
          ∙ filter-append (λ x. are_same (bytes last.0) (bytes x.0)) pairs (last ∷ [])
          ∙ rw (none, front_same (bytes last.0)) refl

      pub same_is_put : pairs ++ (last.0, next.1) ∷ [] ≡ put Of next (pairs ++ last ∷ [])
      same_is_put =
          let new : K × V = (last.0, next.1) in
          let alone : replace_key Of new (last ∷ []) ≡ new ∷ [] = rw (front_same (bytes last.0)) refl in
          sym (put-old Of next (pairs ++ last ∷ []) last (ap first_of found)
          ∙ ap (replace_key Of new) (sym (append-nil (pairs ++ last ∷ [])))
          ∙ replace_key-between Of new pairs (last ∷ []) [] lower tt
          ∙ append-nil (pairs ++ replace_key Of new (last ∷ []))
          ∙ ap (λ l. pairs ++ l) alone)

      pub same_is_map : IsMap Of (pairs ++ (last.0, next.1) ∷ [])
      same_is_map = Pairwise-append R pairs ((last.0, next.1) ∷ []) (Pairwise-left R pairs (last ∷ []) map) (tt, tt)
          (Each-weaker (λ x. R x last) (λ x. Each (R x) ((last.0, next.1) ∷ [])) (λ x h. (h, tt)) pairs lower)

    -- ---- a pair with a greater key is the next last one

    module _ (is_key : K → Type 0) (law : HasNoPrefixes is_key bytes) (next : K × V) (last_own : is_key last.0) (own : is_key next.0)
        (off : bytes last.0 ≢ bytes next.0) (up : comes_before bytes next last ≡ false) where
      last_precedes : R last next
      last_precedes = (before, go (are_related (bytes last.0) (bytes next.0)) refl)
        where
          before : is_before (bytes last.0) (bytes next.0) ≡ true
          before = elim (order_is_total (bytes last.0) (bytes next.0)) [
            | inl h ↦ h
            | inr rest ↦ elim rest [ inl e ↦ absurd (off e) | inr h ↦ absurd (true≢false (sym h ∙ up)) ]
          ]

          go : (t : Bool) → are_related (bytes last.0) (bytes next.0) ≡ t → are_related (bytes last.0) (bytes next.0) ≡ false
          go true e = elim ((relation_is_decided (bytes last.0) (bytes next.0)).0 e) [
            | inl front ↦ absurd (off (law last.0 next.0 last_own own front))
            | inr front ↦ absurd (off (sym (law next.0 last.0 own last_own front)))
          ]
          go false e = e

      higher : Each (λ x. R x next) (pairs ++ last ∷ [])
      higher = Each-append (λ x. R x next) pairs (last ∷ [])
          (Each-weaker (λ x. R x last) (λ x. R x next) (λ x h. precedes_far (bytes x.0) (bytes last.0) (bytes next.0) h last_precedes) pairs lower)
          (last_precedes, tt)

      -- the last pair was pushed, and the next one is the last
      module _ (pushed end : K × V) (after : List (K × V)) (was : pushed ≡ last) (is : end ≡ next) (grown : after ≡ pairs ++ pushed ∷ []) where
        pairs_are : after ++ end ∷ [] ≡ (pairs ++ last ∷ []) ++ next ∷ []
        pairs_are = ap₂ (λ xs x. xs ++ x ∷ []) (grown ∙ ap (λ x. pairs ++ x ∷ []) was) is

        pub greater_is_put : after ++ end ∷ [] ≡ put Of next (pairs ++ last ∷ [])
        greater_is_put = pairs_are ∙ sym (put_end bytes next (pairs ++ last ∷ []) higher)

        pub greater_is_map : IsMap Of (after ++ end ∷ [])
        greater_is_map = subst (IsMap Of) (sym pairs_are) (Pairwise-append R (pairs ++ last ∷ []) (next ∷ []) map (tt, tt)
            (Each-weaker (λ x. R x next) (λ x. Each (R x) (next ∷ [])) (λ x h. (h, tt)) (pairs ++ last ∷ []) higher))

    -- ---- a push of the last pair fails only if an allocation fails

    pub only_memory : (reason : AppendReason) → IsReasonAfter bytes (last_of pairs) last.0 reason → reason ≡ Memory
    only_memory reason told = go (last_of pairs) refl told
      where
        some : (end : K × V) → R end last → (r : AppendReason) → IsReason (bytes end.0) (bytes last.0) r → r ≡ Memory
        some end h Before is = absurd (true≢false (sym is.0 ∙ precedes_apart (bytes end.0) (bytes last.0) h))
        some end h Equal is = absurd (true≢false (sym (front_same (bytes end.0)) ∙ ap (are_same (bytes end.0)) (sym is) ∙ same_related (bytes end.0) (bytes last.0) h.1))
        some end h Conflict is = absurd (true≢false (sym is.0 ∙ h.1))
        some end h Memory is = refl

        go : (o : Option (K × V)) → last_of pairs ≡ o → IsReasonAfter bytes o last.0 reason → reason ≡ Memory
        go None e is = is
        go (Some end) e is = some end (last_each (λ x. R x last) pairs end lower e) reason is

-- A builder has all of these pairs but the last one and the rest, which are put after them.
pub record IsBuiltUpTo {K V : Type 0} (is_key : K → Type 0) (bytes : K → List ℕ) (pairs built : List (K × V)) (last : K × V) (rest : List (K × V)) : Type 0 where
  pub puts : put_all bytes rest (built ++ last ∷ []) ≡ put_all bytes pairs []
  pub map : IsMap (of_key bytes) (built ++ last ∷ [])
  pub sorted : AreSorted bytes (last ∷ rest)
  pub keys : HaveKeys is_key rest → HaveKeys is_key pairs

module _ {K V : Type 0} {is_key : K → Type 0} {bytes : K → List ℕ} {pairs : List (K × V)} where
  -- none but the first pair is put
  pub built_first : {built : List (K × V)} {first : K × V} {rest : List (K × V)} → AreSorted bytes pairs → pairs ≡ first ∷ rest → built ≡ [] →
      is_key first.0 → IsBuiltUpTo is_key bytes pairs built first rest
  built_first {built} {first} {rest} sorted is none own =
      subst (λ xs. IsBuiltUpTo is_key bytes pairs xs first rest) (sym none) (record {
        puts = ap (λ xs. put_all bytes xs []) (sym is);
        map = (tt, tt);
        sorted = subst (AreSorted bytes) is sorted;
        keys = λ all. subst (HaveKeys is_key) (sym is) (own, all);
      })

  -- one pair more is put
  pub built_next : {built after : List (K × V)} {last end next : K × V} {rest : List (K × V)} → IsBuiltUpTo is_key bytes pairs built last (next ∷ rest) →
      after ++ end ∷ [] ≡ put (of_key bytes) next (built ++ last ∷ []) → IsMap (of_key bytes) (after ++ end ∷ []) → bytes end.0 ≡ bytes next.0 →
      is_key next.0 → IsBuiltUpTo is_key bytes pairs after end rest
  built_next {rest = rest} left one map same own = record {
    puts = ap (put_all bytes rest) one ∙ left.puts;
    map = map;
    sorted = (subst (λ k. Each (λ y. is_before (bytes y.0) k ≡ false) rest) (sym same) left.sorted.1.0, left.sorted.1.1);
    keys = λ all. left.keys (own, all);
  }

  -- the last pair is pushed
  pub built_all : {built after : List (K × V)} {last : K × V} (rest : List (K × V)) → IsBuiltUpTo is_key bytes pairs built last rest → rest ≡ [] →
      after ≡ built ++ last ∷ [] → (after ≡ put_all bytes pairs []) × HaveKeys is_key pairs
  built_all {built} {last = last} rest left none pushed =
      let left : IsBuiltUpTo is_key bytes pairs built last [] = subst (IsBuiltUpTo is_key bytes pairs built last) none left in (pushed ∙ left.puts, left.keys tt)
