use Rattle.std.proofs.Common.{sym, subst, Some}
use Rattle.art_model.specs.Prelude.{IsCanonical, IsPairClone, of_key, remove_key, pairs_of}
use Rattle.art_running.specs.declared.run.Reply.TheVariants.{Deleted}
use Rattle.art_running.proofs.Moves.{StepFrom, from_root}
use Rattle.art_running.proofs.Stepped.{deleted_step}
use Rattle.art_writing.proofs.KeysFound.{deleted_pair}
use Rattle.art_running.proofs.run.delete.Goals as goal

pub returns : goal.returns
returns g c command deletion side second =
    let bytes = g.K.AsBytes.bytes in
    let done = rw c.unwrap-done.ensures at c.apply.ensures.applied in
    from_root bytes g.row.P side second (λ layout by.
    let (x, leads, takes) = deletion (pairs_of layout) layout by in
    let leaf = deleted_pair bytes g.row.P c.unwrap-done.result.deleted_leaf by leads done.deleted in
    subst (λ pair. StepFrom bytes g.row.P (IsPairClone g.K.Clone.is_clone g.V.Clone.is_clone) side c.args.store.now c.apply.new.store second
    (Some layout) command (Deleted (Some pair)) c.unwrap-done.result.new_root) (sym leaf) (deleted_step bytes g.row.P by second leads takes (record {
      canonical =
          subst (λ pair. IsCanonical (of_key bytes) g.row.P c.apply.new.store c.unwrap-done.result.new_root
          (remove_key (of_key bytes) (bytes pair.0) (pairs_of layout))) leaf (done.canonical (pairs_of layout) layout by);
      kept = done.kept (pairs_of layout) layout by;
      touches = done.touches;
      promise = done.promise;
    })))
