use Rattle.std.proofs.Common.{arith}
use Rattle.std.proofs.lemmas.Grind.{common_steps}
use Rattle.line_programs.proofs.json.split_at_escape.Goals as goal

pub returns-clause-parts : goal.returns-clause-parts
returns-clause-parts c = grind (arith, common_steps)

pub returns-clause-escaped : goal.returns-clause-escaped
returns-clause-escaped c = grind (arith, common_steps)
