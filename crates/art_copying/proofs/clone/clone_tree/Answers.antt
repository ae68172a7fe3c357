use Rattle.std.proofs.Common.{rules, sym, subst}
use Rattle.std.specs.declared.alloc.AllocError.{AllocError}
use Rattle.art_model.specs.Prelude.{IsPairClone, IsFullTree}
use Rattle.art_copying.specs.Cloned.{IsCloned}
use Rattle.art_copying.proofs.Copying.{leaf_there_of}
use Rattle.art_copying.proofs.clone.clone_tree.Goals as goal

pub clone_leaf-requires : goal.clone_leaf-requires
clone_leaf-requires g c =
    let (tree, full) = c.requires in
    (search rules, leaf_there_of c.args.store.now c.in-Leaf.ensures.name tree full)

pub returns-in-Leaf : goal.returns-in-Leaf
returns-in-Leaf g c =
    subst (λ root. IsCloned {E = AllocError}
    (IsPairClone g.K.Clone.is_clone g.V.Clone.is_clone) c.args.store.now root c.args.into.now c.clone_leaf.new.into c.clone_leaf.result)
    c.in-Leaf.ensures.name c.clone_leaf.ensures

pub clone_inner-requires : goal.clone_inner-requires
clone_inner-requires g c =
    let (tree, full) = c.requires in
    (search rules, (c.in-Inner.ensures.proper, (tree, subst (λ root. IsFullTree c.args.store.now root tree) (sym c.in-Inner.ensures.name) full)))

pub returns-in-Inner : goal.returns-in-Inner
returns-in-Inner g c =
    subst (λ root. IsCloned {E = AllocError}
    (IsPairClone g.K.Clone.is_clone g.V.Clone.is_clone) c.args.store.now root c.args.into.now c.clone_inner.new.into c.clone_inner.result)
    c.in-Inner.ensures.name c.clone_inner.ensures
