-- Items that are made of those of a list, one after another.
use Rattle.std.proofs.Common.{◌≡◌, ℕ, zero, suc, ◌+◌, ◌<◌, List, [], ◌∷◌, ◌++◌, length, take, get_or, ap, sym, subst, ◌∙◌, arith}
use Rattle.std.specs.List.{AllZip}
use Rattle.std.proofs.Math.Seq.{take-length, take-suc}
use Rattle.std.proofs.lemmas.Slice.Zip.{AllZip-long, all_zipped_more}

module _ {A B : Type 0} (Is : A → B → Type 0) (all : List A) where
  pub none_yet : (items : List B) → items ≡ [] → AllZip Is (take 0 all) items
  none_yet items none = subst (AllZip Is []) (sym none) tt

  pub one_more : (index : ℕ) (default : A) (items next : List B) (item : B) → index < length all → AllZip Is (take index all) items →
      Is (get_or all index default) item → next ≡ items ++ item ∷ [] → AllZip Is (take (index + 1) all) next
  one_more index default items next item below so_far is e =
      let more : index + 1 ≡ suc index = omega arith in
      subst (λ n. AllZip Is (take n all) next) (sym more)
      (subst (AllZip Is (take (suc index) all)) (sym e)
      (subst (λ xs. AllZip Is xs (items ++ item ∷ [])) (sym (take-suc all index default below))
      (all_zipped_more Is (take index all) items (get_or all index default) item so_far is)))

  pub all_done : (index : ℕ) (items : List B) → index ≡ length all → AllZip Is (take index all) items → AllZip Is all items
  all_done index items e h = subst (λ xs. AllZip Is xs items) (ap (λ n. take n all) e ∙ take-length all) h

  pub as_many : (items : List B) → AllZip Is all items → length items ≡ length all
  as_many items h = AllZip-long Is all items h

  pub item_is : (items : List B) (index : ℕ) (default : A) (other : B) → index < length all → AllZip Is all items →
      Is (get_or all index default) (get_or items index other)
  item_is items index default other below h = at_index all items index below h
    where
      at_index : (all : List A) (items : List B) (index : ℕ) → index < length all → AllZip Is all items →
          Is (get_or all index default) (get_or items index other)
      at_index [] items index below h = absurd (omega arith)
      at_index (one ∷ all) [] index below h = absurd h
      at_index (one ∷ all) (item ∷ items) zero below h = h.0
      at_index (one ∷ all) (item ∷ items) (suc index) below h = at_index all items index (omega arith) h.1
