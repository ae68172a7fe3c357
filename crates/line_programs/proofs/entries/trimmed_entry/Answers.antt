use Rattle.line_programs.proofs.EntryLemmas.{an_entry, blank, comment}
use Rattle.line_programs.proofs.entries.trimmed_entry.Goals as goal

pub returns-in_default : goal.returns-in_default
returns-in_default c = blank c.args.line.now c.trim_ascii-entry.result.now c.trim_ascii-entry.ensures.value c.in_default.ensures.value

pub returns-then-first-eq35 : goal.returns-then-first-eq35
returns-then-first-eq35 c =
    comment c.args.line.now c.trim_ascii-entry.result.now c.in-Some.first.now c.trim_ascii-entry.ensures.value
    c.in-Some.ensures.value c.if-first-eq35.true

pub returns : goal.returns
returns c =
    an_entry c.args.line.now c.trim_ascii-entry.result.now c.in-Some.first.now c.trim_ascii-entry.ensures.value
    c.in-Some.ensures.value c.if-first-eq35.false
