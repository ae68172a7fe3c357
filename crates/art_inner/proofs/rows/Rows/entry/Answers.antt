use Rattle.art_parts.specs.declared.names.NodeType.TheVariants.{Node4}
use Rattle.art_inner.proofs.RowsLemmas.{rows-get}
use Rattle.art_inner.proofs.rows.Rows.entry.Goals as goal

pub returns-clause-entry : goal.returns-clause-entry
returns-clause-entry c =
    rows-get c.args.place c.args.self.now.bytes.now c.args.self.now.kinds.now c.args.self.now.slots.now 0 Node4 0 c.requires.aligned.0
    c.requires.aligned.1 c.requires.within
