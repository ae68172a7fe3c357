use Rattle.text_programs.specs.CodeRows.{rows_of}
use Rattle.std.proofs.Common.{subst, sym}
use Rattle.text_programs.specs.CodeTables.{IsFilledBy}
use Rattle.text_programs.proofs.CodeTableLemmas.{code_fault, if_err, on_err, on_ok, one_entry_more}
use Rattle.text_programs.proofs.dial_codes.answers.CodeTableLineTable.add.Goals as goal

pub returns-clause-added : goal.returns-clause-added
returns-clause-added c =
    on_ok c.add_line.result (one_entry_more (rows_of c.args.self.now.codes) (rows_of c.add_line.new.table) c.args.number c.args.line.now) c.add_line.ensures.added

pub returns-clause-fault : goal.returns-clause-fault
returns-clause-fault c = if_err c.add_line.result (code_fault (rows_of c.args.self.now.codes) c.args.line.now) c.add_line.ensures.fault

pub returns-clause-kept : goal.returns-clause-kept
returns-clause-kept c = on_err c.add_line.result (λ same before h. subst (λ table. IsFilledBy (rows_of table) before) (sym same) h) c.add_line.ensures.kept
