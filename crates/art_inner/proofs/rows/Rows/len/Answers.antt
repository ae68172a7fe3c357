use Rattle.std.proofs.Common.{sym}
use Rattle.art_inner.proofs.RowsLemmas.{length-rows}
use Rattle.art_inner.proofs.rows.Rows.len.Goals as goal

pub returns-clause-rows : goal.returns-clause-rows
returns-clause-rows c = sym (length-rows c.args.self.now.bytes.now c.args.self.now.kinds.now c.args.self.now.slots.now c.requires.0 c.requires.1)
