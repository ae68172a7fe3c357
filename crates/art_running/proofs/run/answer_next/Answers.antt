use Rattle.std.proofs.Common.{rules}
use Rattle.art_running.proofs.run.answer_next.Goals as goal

pub answer-requires : goal.answer-requires
answer-requires g c = (search rules, (rw c.in-First.is at c.requires.canonical, c.requires.clones))

pub answer-requires-in-Second : goal.answer-requires-in-Second
answer-requires-in-Second g c = (search rules, (rw c.in-Second.is at c.requires.canonical, c.requires.clones))

pub returns-in-First : goal.returns-in-First
returns-in-First g c = rw c.in-First.is (rw c.in-First.is at c.answer.ensures)

pub returns-in-Second : goal.returns-in-Second
returns-in-Second g c = rw c.in-Second.is (rw c.in-Second.is at c.answer-in-Second.ensures)
