use Rattle.art_engine.specs.KeptKeys.{key_bytes}
use Rattle.art_engine.proofs.SingleReplies.{only_reply}
use Rattle.art_engine.proofs.keeping.tree.KeptTree.answer.Goals as goal
use Rattle.art_engine.proofs.keeping.tree.KeptTree.answer.Goals.{in-First, in-Second}

pub returns-in-Ok-clause-kept : goal.returns-in-Ok-clause-kept
returns-in-Ok-clause-kept c = elim c.match-done.branch [
  | in-First w ↦ rw w.self-is (rw w.in-First.is at c.in-Ok.ensures.canonical)
  | in-Second w ↦ rw (w.self-is, w.swap.ensures.x_after) (rw w.in-Second.is at c.in-Ok.ensures.canonical)
]

pub returns-in-Ok-clause-run : goal.returns-in-Ok-clause-run
returns-in-Ok-clause-run c =
    let run = rw (c.push_reserved.ensures.items, c.in_ok-commands.ensures.items, rw c.unwrap.ensures at c.pop.ensures.items) at c.in-Ok.ensures.run in
    let one = only_reply key_bytes 4 _ _ _ c.args.command c.unwrap.result c.pop.new.self.items run in (
      c.in-Ok.done.side,
      elim c.match-done.branch [
        | in-First w ↦ rw (w.self-is, w.in-First.is) (rw w.in-First.is at one)
        | in-Second w ↦ rw (w.self-is, w.swap.ensures.x_after, w.swap.ensures.y_after, w.in-Second.is) (rw w.in-Second.is at one)
      ],
    )
