use Rattle.snapshot_format.specs.Reading.{HasTaken}
use Rattle.snapshot_format.proofs.reading.read_entries.Given as goal

-- the entries so far were read and taken
abbrev pub invariant-loop-place : goal.invariant-loop-place
invariant-loop-place g l = HasTaken g.R.Read.remaining l.fn.source l.source g.T.TakeEntries.takes (g.T.TakeEntries.entries l.into) l.key.items l.place
