use Rattle.std.proofs.Common.{rules}
use Rattle.art_model.specs.Prelude.{of_key, pairs_of}
use Rattle.art_model.proofs.stores.StoreLaws.{has_children}
use Rattle.art_running.proofs.Moves.{any_from_root}
use Rattle.art_running.proofs.GoneOver.{over_step, uncloned_step}
use Rattle.art_running.proofs.run.clone_over.Goals as goal

pub deallocate_tree-requires : goal.deallocate_tree-requires
deallocate_tree-requires g c =
    let (pairs, layout, by) = c.requires.canonical in
    (search rules, (layout, has_children (of_key g.K.AsBytes.bytes) g.row.P c.args.present.now c.args.name pairs layout by))

pub returns-in-Ok : goal.returns-in-Ok
returns-in-Ok g c = any_from_root g.K.AsBytes.bytes g.row.P c.args.side.now _ (λ layout by.
    over_step g.K.AsBytes.bytes g.row.P g.K.Clone.is_clone g.V.Clone.is_clone c.args.side.now by c.opposite.result c.opposite.ensures (record {
      canonical = c.in-Ok.ensures.canonical (pairs_of layout) layout by;
      gained = c.in-Ok.ensures.gained;
      freed =
          c.deallocate_tree.ensures.freed layout (has_children (of_key g.K.AsBytes.bytes) g.row.P c.args.present.now c.args.name
          (pairs_of layout) layout by);
      left = c.deallocate_tree.ensures.promise;
      taken = c.in-Ok.ensures.promise (pairs_of layout) layout by;
    }))

pub returns-in-Err : goal.returns-in-Err
returns-in-Err g c = any_from_root g.K.AsBytes.bytes g.row.P c.args.side.now _ (λ layout by.
    rw c.requires.root (uncloned_step g.K.AsBytes.bytes g.row.P g.K.Clone.is_clone g.V.Clone.is_clone c.args.side.now by c.args.other.now
    c.clone_unchecked.new.into (c.in-Err.ensures.leaves, c.in-Err.ensures.inners) c.in-Err.ensures.lessened))
