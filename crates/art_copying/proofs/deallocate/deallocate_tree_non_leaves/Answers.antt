use Rattle.std.proofs.Common.{rules, [], None, Some, subst}
use Rattle.art_model.specs.Prelude.{IsIn, inner_names, shape_of, of_key}
use Rattle.art_model.proofs.stores.Apart.{others_apart}
use Rattle.art_model.proofs.stores.Names.{taken_in, takes_inners}
use Rattle.art_model.proofs.radix.Shapes.{has_shape}
use Rattle.art_copying.proofs.deallocate.deallocate_tree_non_leaves.Goals as goal

pub free_nodes-requires : goal.free_nodes-requires
free_nodes-requires g c =
    let (shape, layout) = c.requires in
    (search rules, (shape, record { layout = layout; leaves = λ e. absurd cc }))

pub returns-clause-freed : goal.returns-clause-freed
returns-clause-freed g c shape layout = c.free_nodes.ensures.freed shape (record { layout = layout; leaves = λ e. absurd cc })

pub returns-clause-apart : goal.returns-clause-apart
returns-clause-apart g c (pairs, layout, is) =
    let (at, leaves, inners) = has_shape c.args.store.now c.args.root layout is.stands.0 in
    others_apart {bytes = of_key g.K.AsBytes.bytes} {P = g.row.P} {s = c.args.store.now} {t = c.free_nodes.new.store} {root =
    Some c.args.root} {new = None} (inner_names (shape_of layout)) []
    (λ k i. (pairs, layout, is, taken_in takes_inners layout k (subst (IsIn k) inners i))) (λ k n. n)
    (c.free_nodes.ensures.freed (shape_of layout) (record { layout = at; leaves = λ e. absurd cc }))
