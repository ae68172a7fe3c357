use Rattle.std.proofs.Common.{ap, ◌∙◌}
use Rattle.std.specs.Option.{option_map}
use Rattle.text_programs.proofs.PathParts.{last_key}
use Rattle.text_programs.proofs.path_indexes.parts.last.Goals as goal

pub returns-in-Some : goal.returns-in-Some
returns-in-Some c = ap (option_map (λ x. x.0)) c.in-Some.ensures.pair ∙ last_key c.args.index.now

pub returns-in-None : goal.returns-in-None
returns-in-None c = ap (option_map (λ x. x.0)) c.in-None.ensures.pair ∙ last_key c.args.index.now
