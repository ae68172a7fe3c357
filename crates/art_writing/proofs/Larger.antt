-- A larger node replaces a full one: the parent is still in the store.
use Rattle.std.proofs.Common.{◌≡◌, ◌≢◌, ℕ, Option, Some, None, IsSome, IsSomeAnd, refl, ap, sym, ◌∙◌, subst}
use Rattle.std.specs.FinMap as map
use Rattle.art_model.specs.Prelude.{Inner, child_at, InnerPtr, Inners}
use Rattle.art_nodes.proofs.StoreChanges.{inner_elsewhere, inner_gone_elsewhere}
use Rattle.art_writing.specs.ParentWrites.{HasChild}

-- a node that is placed leaves the parent
pub child_stays : (inners : Inners) (name : InnerPtr) (node : Inner) (step : Option (InnerPtr × ℕ)) → map.get inners name ≡ None →
    HasChild inners step → HasChild (map.insert inners name node) step
child_stays inners name node None free has = tt
child_stays inners name node (Some (parent, byte)) free has =
    let differ : parent ≢ name = λ e. subst (λ o. IsSomeAnd o (λ node. IsSome (child_at node.children byte))) (ap (map.get inners) e ∙ free) has in
    subst (λ o. IsSomeAnd o (λ node. IsSome (child_at node.children byte))) (sym (inner_elsewhere inners name parent node differ)) has

-- a node that replaces a freed one leaves the parent
pub parent_stays : (inners new : Inners) (name larger : InnerPtr) (f : Inner → Inner) (step : Option (InnerPtr × ℕ)) → map.get inners larger ≡ None →
    HasChild (map.remove inners name) step →
    IsSomeAnd (map.get inners name) (λ node. new ≡ map.insert (map.remove inners name) larger (f node)) → HasChild new step
parent_stays inners new name larger f step free has = there (map.get inners name) refl
  where
    there : (found : Option Inner) → map.get inners name ≡ found →
        IsSomeAnd found (λ node. new ≡ map.insert (map.remove inners name) larger (f node)) → HasChild new step
    there None is none = absurd none
    there (Some node) is put =
        let differ : larger ≢ name = λ e. let was : Some node ≡ None = sym is ∙ ap (map.get inners) (sym e) ∙ free in absurd cc in
        subst (λ m. HasChild m step) (sym put) (child_stays (map.remove inners name) larger (f node) step
        (inner_gone_elsewhere inners name larger differ ∙ free) has)
