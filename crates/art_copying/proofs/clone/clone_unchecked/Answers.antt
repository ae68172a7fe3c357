use Rattle.std.proofs.Common.{rules}
use Rattle.art_model.specs.Prelude.{of_key}
use Rattle.art_model.proofs.stores.StoreLaws.{has_children}
use Rattle.art_copying.proofs.Cloned.{apart_kept, cloned_canonical, each_copied, first_named, last_named, others_kept}
use Rattle.art_copying.proofs.clone.clone_unchecked.Goals as goal

pub clone_tree-requires : goal.clone_tree-requires
clone_tree-requires g c =
    let (pairs, layout, is) = c.requires.root in
    (search rules, (layout, has_children (of_key g.K.AsBytes.bytes) g.row.P c.args.store.now c.args.root pairs layout is))

pub returns-clause-canonical : goal.returns-clause-canonical
returns-clause-canonical g c pairs layout is =
    each_copied c.clone_tree.result is c.clone_tree.ensures.copied
    (λ done copied. cloned_canonical g.K.AsBytes.bytes g.row.P g.K.Clone.is_clone g.V.Clone.is_clone c.requires.clones is copied)

pub returns-clause-gained : goal.returns-clause-gained
returns-clause-gained g c = others_kept g.K.AsBytes.bytes g.row.P g.K.Clone.is_clone g.V.Clone.is_clone c.requires.clones _ _
    c.clone_tree.result c.requires.root c.clone_tree.ensures.copied

pub returns-clause-apart : goal.returns-clause-apart
returns-clause-apart g c = apart_kept g.K.AsBytes.bytes g.row.P g.K.Clone.is_clone g.V.Clone.is_clone c.requires.clones _ _
    c.clone_tree.result c.requires.root c.clone_tree.ensures.copied

pub returns-clause-first : goal.returns-clause-first
returns-clause-first g c = first_named g.K.AsBytes.bytes g.row.P g.K.Clone.is_clone g.V.Clone.is_clone c.requires.clones _ _
    c.clone_tree.result c.requires.root c.clone_tree.ensures.copied

pub returns-clause-last : goal.returns-clause-last
returns-clause-last g c = last_named g.K.AsBytes.bytes g.row.P g.K.Clone.is_clone g.V.Clone.is_clone c.requires.clones _ _
    c.clone_tree.result c.requires.root c.clone_tree.ensures.copied

pub returns-clause-promise : goal.returns-clause-promise
returns-clause-promise g c pairs layout is = each_copied c.clone_tree.result is c.clone_tree.ensures.copied (λ done copied. copied.promise)
