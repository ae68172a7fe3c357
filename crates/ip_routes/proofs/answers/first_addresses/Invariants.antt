use Rattle.std.proofs.Common.{ℕ, List, ◌++◌, length}
use Rattle.std.specs.Net.Grammar.{IsIpText}
use Rattle.text_lines.specs.Lines.{lines}
use Rattle.ip_routes.proofs.LookUpLemmas.{Continues}
use Rattle.ip_routes.proofs.answers.first_addresses.Given as goal

abbrev pub invariant-loop-line : goal.invariant-loop-line
invariant-loop-line l =
    (more : List ℕ) → Continues IsIpText (lines (l.fn.text ++ more)) (lines (l.left ++ more)) l.addresses.items

abbrev pub decreases-loop-line : goal.decreases-loop-line
decreases-loop-line l = length l.left
