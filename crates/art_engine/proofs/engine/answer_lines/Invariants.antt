use Rattle.std.proofs.Common.{IfSome}
use Rattle.std.specs.Io.Buffered.{reader_remaining}
use Rattle.art_engine.specs.KeptTrees.{IsKept}
use Rattle.text_lines.proofs.Reading.{IsReadTo}
use Rattle.art_engine.proofs.Serving.{GoesOn}
use Rattle.art_engine.proofs.engine.answer_lines.Given as goal

-- the root is canonical, and the replies to the remaining lines complete those to all lines
abbrev pub invariant-loop-number : goal.invariant-loop-number
invariant-loop-number g l =
    IsKept l.tree × IfSome (reader_remaining g.R.Read.remaining l.initial.input) (λ text.
    IsReadTo (GoesOn l.number-counter l.initial.tree l.tree (g.W.Write.contents l.initial.output) (g.W.Write.contents l.output)) text
    (reader_remaining g.R.Read.remaining l.input) l.number-counter)
