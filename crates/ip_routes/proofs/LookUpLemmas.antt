-- Items that are made of the first ones of a list, one after another.
use Rattle.std.proofs.Common.{◌≡◌, ℕ, ◌+◌, ◌<◌, List, [], ◌∷◌, ◌++◌, length, drop, get_or, ap, sym, ◌∙◌, subst, append-nil, append_assoc}
use Rattle.std.specs.List.{AllZip}
use Rattle.std.proofs.lemmas.List.{drop_more}
use Rattle.line_programs.specs.LineTables.{AreOf}

module _ {A B : Type 0} (Is : A → B → Type 0) where
  -- items of what is left, after these ones, are items of all
  abbrev pub Continues : List A → List A → List B → Type 0
  Continues all left items = (later : List B) → AreOf Is later left → AreOf Is (items ++ later) all

  pub are_begun : (all : List A) (items : List B) → items ≡ [] → Continues all all items
  are_begun all items e = λ later h. subst (λ is. AreOf Is (is ++ later) all) (sym e) h

  pub one_more_item : (all left others : List A) (one : A) (items next : List B) (item : B) → Continues all left items →
      left ≡ one ∷ others → Is one item → next ≡ items ++ item ∷ [] → Continues all others next
  one_more_item all left others one items next item h is it e = λ later k.
      subst (λ is. AreOf Is is all) (sym (ap (λ is. is ++ later) e ∙ append_assoc items (item ∷ []) later))
      (h (item ∷ later) (subst (AreOf Is (item ∷ later)) (sym is) (it, k)))

  pub are_items : (all left : List A) (items last : List B) → Continues all left items → last ≡ items → AreOf Is last all
  are_items all left items last h e = subst (λ is. AreOf Is is all) (append-nil items ∙ sym e) (h [] tt)

  -- an item of the one at an index
  pub one_more_at : (all : List A) (index : ℕ) (default : A) (items next : List B) (item : B) → index < length all →
      Continues all (drop index all) items → Is (get_or all index default) item → next ≡ items ++ item ∷ [] →
      Continues all (drop (index + 1) all) next
  one_more_at all index default items next item below h it e =
      one_more_item all (drop index all) (drop (index + 1) all) (get_or all index default) items next item h
      (drop_more all index default below) it e

-- an item of each
pub items_of_all : {A B : Type 0} (Is : A → B → Type 0) (all : List A) (items : List B) → AllZip Is all items → AreOf Is items all
items_of_all Is [] [] h = tt
items_of_all Is [] (item ∷ items) h = absurd h
items_of_all Is (one ∷ all) [] h = tt
items_of_all Is (one ∷ all) (item ∷ items) h = (h.0, items_of_all Is all items h.1)

-- items of items
pub items_of_items : {A B C : Type 0} (Is : A → B → Type 0) (Has : B → C → Type 0) (Gets : A → C → Type 0)
    (each : (a : A) (b : B) (c : C) → Is a b → Has b c → Gets a c) (cs : List C) (bs : List B) (all : List A) →
    AreOf Is bs all → AreOf Has cs bs → AreOf Gets cs all
items_of_items Is Has Gets each [] bs all h k = tt
items_of_items Is Has Gets each (c ∷ cs) [] all h k = absurd k
items_of_items Is Has Gets each (c ∷ cs) (b ∷ bs) [] h k = absurd h
items_of_items Is Has Gets each (c ∷ cs) (b ∷ bs) (a ∷ all) h k = (each a b c h.0 k.0, items_of_items Is Has Gets each cs bs all h.1 k.1)
