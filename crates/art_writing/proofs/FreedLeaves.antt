-- The leaves of an iterator, freed one after another.
use Rattle.std.proofs.Common.{◌≡◌, ◌≢◌, List, [], ◌∷◌, ◌++◌, Option, Some, None, refl, ap, sym, ◌∙◌, subst, append-nil, append_assoc, inl, inr, option_and_then}
use Rattle.std.specs.FinMap as map
use Rattle.art_model.specs.Prelude.{leaf_name, Nodes, LeafPtr, OpaqueNodePtr, IsIn, Frees, AreDistinct, first_of, without_first, links_of}
use Rattle.art_model.proofs.lists.Lists.{in_left, in_right, in_either}
use Rattle.art_model.proofs.stores.Names.{apart_in}
use Rattle.art_model.proofs.lists.Pairwises.{Pairwise-right}
use Rattle.art_reading.specs.Iterators.{IsIteratorOf}
use Rattle.art_reading.proofs.Iterators.{goes_on}
use Rattle.art_copying.proofs.Freed.{leaf_freed}

module _ {K V : Type 0} where
  pub frees_none : (s : Nodes K V) → Frees [] s s
  frees_none s = record { beside = λ k off none. refl; gone = λ k i none. absurd i; taken = λ k i none. absurd i }

  -- some names, and then others
  frees_both : {s t u : Nodes K V} (xs ys : List OpaqueNodePtr) → ((k : OpaqueNodePtr) → IsIn k xs → IsIn k ys → ⊥) → Frees xs s t →
      Frees ys t u → Frees (xs ++ ys) s u
  frees_both xs ys apart first second = record {
    beside = λ k off none. second.beside k (λ i. off (in_right k xs ys i)) none ∙ first.beside k (λ i. off (in_left k xs ys i)) none;
    gone = λ k i none. elim (in_either k xs ys i) [
      | inl j ↦ second.beside k (apart k j) none ∙ first.gone k j none
      | inr j ↦ second.gone k j none
    ];
    taken = λ k i none. absurd i;
  }

  -- the first leaf of an iteration is freed, and the iteration continues with the others
  pub first_freed : {s t : Nodes K V} {next : Option (LeafPtr × LeafPtr)} (names : List OpaqueNodePtr) (p : LeafPtr) → AreDistinct names →
      Some (leaf_name p) ≡ first_of names → IsIteratorOf s next (without_first names) →
      t.leaves ≡ map.remove s.leaves p → t.inners ≡ s.inners → IsIteratorOf t next (without_first names)
  first_freed [] p distinct e its leaves inners = absurd cc
  first_freed {s} {t} {next} (x ∷ xs) p distinct e its leaves inners =
      let same : leaf_name p ≡ x = cc in
      let off : (n : OpaqueNodePtr) → IsIn n xs → IsIn n (leaf_name p ∷ []) → ⊥ =
      λ n i j. apart_in (x ∷ []) xs n distinct (elim j [ inl f ↦ inl (sym same ∙ f) | inr k ↦ absurd k ]) i in
      goes_on s t next xs its (λ n i. ap (option_and_then links_of) ((leaf_freed {s = s} {t = t} p leaves inners).beside n (off n i) (λ z. z)))

  -- Some of the names are freed, and the iterator stands for the others.
  pub record AreLeft (s t : Nodes K V) (names : List OpaqueNodePtr) (iterator : Option (LeafPtr × LeafPtr)) : Type 0 where
    pub gone : List OpaqueNodePtr
    pub rest : List OpaqueNodePtr
    pub whole : names ≡ gone ++ rest
    pub iterator_of : IsIteratorOf t iterator rest
    pub freed : Frees gone s t

  pub all_left : {s : Nodes K V} {names : List OpaqueNodePtr} {iterator : Option (LeafPtr × LeafPtr)} → IsIteratorOf s iterator names →
      AreLeft s s names iterator
  all_left {s} {names} is = record { gone = []; rest = names; whole = refl; iterator_of = is; freed = frees_none s }

  module _ {s t : Nodes K V} {names : List OpaqueNodePtr} {iterator : Option (LeafPtr × LeafPtr)} (is : AreLeft s t names iterator) where
    -- no more are left
    pub none_come : None ≡ first_of is.rest → Frees names s t
    none_come none = subst (λ z. Frees z s t) (sym (is.whole ∙ go is.rest none)) is.freed
      where
        go : (rest : List OpaqueNodePtr) → None ≡ first_of rest → is.gone ++ rest ≡ is.gone
        go [] e = append-nil is.gone
        go (x ∷ xs) e = absurd cc

    -- the first one is freed
    pub one_goes : {u : Nodes K V} {next : Option (LeafPtr × LeafPtr)} → AreDistinct names → (p : LeafPtr) → Some (leaf_name p) ≡ first_of is.rest →
        IsIteratorOf t next (without_first is.rest) → u.leaves ≡ map.remove t.leaves p → u.inners ≡ t.inners → AreLeft s u names next
    one_goes {u} {next} distinct p first left leaves inners = go is.rest first is.whole left
      where
        go : (rest : List OpaqueNodePtr) → Some (leaf_name p) ≡ first_of rest → names ≡ is.gone ++ rest →
            IsIteratorOf t next (without_first rest) → AreLeft s u names next
        go [] e whole its = absurd cc
        go (x ∷ xs) e whole its =
            let same : leaf_name p ≡ x = cc in
            let goes = leaf_freed p leaves inners in
            let all : AreDistinct (is.gone ++ x ∷ xs) = subst AreDistinct whole distinct in
            record {
              gone = is.gone ++ leaf_name p ∷ [];
              rest = xs;
              whole = whole ∙ ap (λ z. is.gone ++ z ∷ xs) (sym same) ∙ sym (append_assoc is.gone (leaf_name p ∷ []) xs);
              iterator_of = first_freed (x ∷ xs) p (Pairwise-right ◌≢◌ is.gone (x ∷ xs) all) e its leaves inners;
              freed = frees_both is.gone (leaf_name p ∷ [])
                  (λ k i j. elim j [ inl f ↦ apart_in is.gone (x ∷ xs) k all i (inl (sym same ∙ f)) | inr z ↦ z ]) is.freed goes;
            }
