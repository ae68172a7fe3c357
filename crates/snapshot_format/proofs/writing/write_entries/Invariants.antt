use Rattle.snapshot_format.specs.Writing.{HasWritten}
use Rattle.snapshot_format.proofs.writing.write_entries.Given as goal

-- the entries so far were written
abbrev pub invariant-loop : goal.invariant-loop
invariant-loop g l = HasWritten g.W.Write.contents l.fn.output l.output l.fn.digest l.digest (g.G.GiveEntries.entries l.fn.entries) (g.G.GiveEntries.entries l.entries) l.before.items l.counter
