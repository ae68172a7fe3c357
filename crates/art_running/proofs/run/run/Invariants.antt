use Rattle.std.proofs.Common.{◌≡◌, ◌+◌, ◌≤◌, ◌++◌, vec_len, vec_capacity}
use Rattle.std.specs.Vec.Iter.{into_iter_items, into_iter_len}
use Rattle.art_model.specs.Prelude.{IsPairClone}
use Rattle.art_running.specs.Runs.{IsRun, on}
use Rattle.art_running.specs.declared.run.Side.TheVariants.{First}
use Rattle.art_running.proofs.run.run.Given as goal

-- the replies so far are a run over the commands so far
abbrev pub invariant-loop-command : goal.invariant-loop-command
invariant-loop-command g l = record {
  run : IsRun g.K.AsBytes.bytes g.row.P (IsPairClone g.K.Clone.is_clone g.V.Clone.is_clone) (on First l.fn.first l.fn.second l.fn.root)
      l.yielded l.replies.items (on l.side l.first l.second l.root);
  commands : l.fn.commands.items ≡ l.yielded ++ into_iter_items l.command-iterator;
  capacity : vec_len l.replies + into_iter_len l.command-iterator ≤ vec_capacity l.replies;
}
