use Rattle.std.proofs.Common.{rules, ap₂, ◌∙◌}
use Rattle.art_model.specs.Prelude.{of_key, promise_after}
use Rattle.art_model.proofs.stores.Apart.{root_apart}
use Rattle.art_writing.specs.SubtreePoints.{pairs_beside}
use Rattle.art_writing.proofs.SubtreePointLemmas.{one_point_in, same_placed, subtree_taken}
use Rattle.art_writing.proofs.delete.subtree.SubtreeDeletePoint.apply.Goals as goal

pub take_out-done-requires : goal.take_out-done-requires
take_out-done-requires g c =
    let (pairs, layout, by, at) = c.requires in
    (search rules, one_point_in by at (c.collapse-left.ensures.collapsed pairs layout by at))

pub returns : goal.returns
returns g c =
    let (pairs, layout, by, at) = c.requires in
    let done = c.take_out-done.ensures in
    let taken = subtree_taken c.take_out-done.result c.requires c.collapse-left.ensures.collapsed done.deleted done.canonical done.left done.kept in
    record {
      canonical = taken.canonical;
      left = taken.left;
      removed = taken.removed;
      kept = taken.kept;
      apart = root_apart (of_key g.K.AsBytes.bytes) g.row.P c.args.store.now _ c.args.root c.take_out-done.result.new_root
          (pairs_beside at) by (taken.canonical pairs layout by at) taken.kept;
      promise = c.take_out-done.ensures.promise
          ∙ ap₂ promise_after (same_placed by at (c.collapse-left.ensures.collapsed pairs layout by at)) c.collapse-left.ensures.promise;
    }
