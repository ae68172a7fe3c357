use Rattle.text_programs.proofs.CodeTableLemmas.{table_is}
use Rattle.text_programs.proofs.CodeEntries.{entries_rise}
use Rattle.text_programs.proofs.dial_codes.answers.CodeTableLineTable.finish.Goals as goal

pub returns-clause-finished : goal.returns-clause-finished
returns-clause-finished c ls h = (table_is c.args.self.now.codes ls h, entries_rise c.args.self.now.codes c.rises.ensures)
