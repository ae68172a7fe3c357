use Rattle.line_programs.proofs.CheckLemmas.{line_added, line_refused}
use Rattle.line_programs.proofs.checking.check_line.Goals as goal

pub returns-in-Ok : goal.returns-in-Ok
returns-in-Ok g c = λ before h.
    line_added g.T.LineTable.IsFaultAfter g.T.Fault.Display.output c.args.place (g.T.LineTable.HasLines c.add.new.self) before c.args.number
    c.in-Some.entry.now (g.T.LineTable.entry_of c.args.line.now) c.in-Some.ensures (c.in-Ok.ensures.added before h) (g.E.Write.contents c.args.errors.now)

pub returns-in_ok-write_fault-in-Err : goal.returns-in_ok-write_fault-in-Err
returns-in_ok-write_fault-in-Err g c = λ before h.
    line_refused g.T.LineTable.IsFaultAfter g.T.Fault.Display.output c.args.place (g.T.LineTable.HasLines c.add.new.self) before c.args.number
    c.in-Some.entry.now (g.T.LineTable.entry_of c.args.line.now) c.in-Some.ensures c.in-Err.fault (c.in-Err.ensures.fault before h)
    (c.in-Err.ensures.kept before h) (g.E.Write.contents c.args.errors.now) (g.E.Write.contents c.write_fault.new.errors)
    c.in_ok-write_fault-in-Err.ensures
