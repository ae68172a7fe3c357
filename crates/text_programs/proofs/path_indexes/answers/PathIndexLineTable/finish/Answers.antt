use Rattle.text_programs.proofs.PathParts.{keys_rise}
use Rattle.text_programs.proofs.path_indexes.answers.PathIndexLineTable.finish.Goals as goal

pub returns-clause-finished : goal.returns-clause-finished
returns-clause-finished c ls h = record { plain = h.plain; rising = keys_rise c.args.self.now.paths c.rises.ensures; same = h.same }
