use Rattle.line_programs.proofs.JsonLemmas.{line_alone, line_ended}
use Rattle.line_programs.proofs.json.split_line.Goals as goal

pub returns-in-Some-clause-line : goal.returns-in-Some-clause-line
returns-in-Some-clause-line c = line_ended c.args.text.now c.in-Some.line.now c.in-Some.others.now c.in-Some.ensures.parts c.in-Some.ensures.first

pub returns-in-None-clause-line : goal.returns-in-None-clause-line
returns-in-None-clause-line c = line_alone c.args.text.now c.requires c.in-None.ensures.none
