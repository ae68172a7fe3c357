use Rattle.std.proofs.Common.{[], ◌&&◌, true, false, refl}
use Rattle.text_lines.proofs.LineParts.{read_as}
use Rattle.text_lines.proofs.Reading.{begins, ends, goes_on}
use Rattle.line_programs.specs.Checked.{AreChecked, TableIsChecked}
use Rattle.line_programs.specs.Entries.{entries}
use Rattle.line_programs.proofs.CheckLemmas.{checked_line, checked_none, table_checked}
use Rattle.line_programs.proofs.checking.check.Goals as goal

pub loop-number-init : goal.loop-number-init
loop-number-init g c =
    begins (λ before. AreChecked g.T.LineTable.IsFaultAfter g.T.Fault.Display.output c.args.place (g.T.LineTable.HasLines c.start-table.result) []
    (entries g.T.LineTable.entry_of 1 before) true (g.E.Write.contents c.args.errors.now) (g.E.Write.contents c.args.errors.now))
    (g.R.Read.remaining c.args.input.now)
    (checked_none g.T.LineTable.IsFaultAfter g.T.Fault.Display.output c.args.place (g.T.LineTable.HasLines c.start-table.result)
    (g.E.Write.contents c.args.errors.now) c.start-table.ensures)

pub loop-number-preserved : goal.loop-number-preserved
loop-number-preserved g c =
    goes_on (λ before. AreChecked g.T.LineTable.IsFaultAfter g.T.Fault.Display.output c.args.place (g.T.LineTable.HasLines c.loop-number.table) []
    (entries g.T.LineTable.entry_of 1 before) c.loop-number.is_whole (g.E.Write.contents c.args.errors.now) (g.E.Write.contents c.loop-number.errors))
    (λ before. AreChecked g.T.LineTable.IsFaultAfter g.T.Fault.Display.output c.args.place (g.T.LineTable.HasLines c.check_line.new.table) []
    (entries g.T.LineTable.entry_of 1 before) (c.loop-number.is_whole && c.in_ok-is_added.is_added)
    (g.E.Write.contents c.args.errors.now) (g.E.Write.contents c.check_line.new.errors))
    (g.R.Read.remaining c.args.input.now)
    (g.R.Read.remaining c.loop-number.input) (g.R.Read.remaining c.next_line.new.input) c.loop-number.number c.next_line.new.line.items c.loop-number.invariant
    (read_as _ _ _ c.in-Ok-true.field-0 true c.in-Ok-true.field-0-test c.in-Ok-true.ensures)
    (checked_line g.T.LineTable.IsFaultAfter g.T.Fault.Display.output c.args.place g.T.LineTable.entry_of (g.T.LineTable.HasLines c.loop-number.table)
    (g.T.LineTable.HasLines c.check_line.new.table) c.loop-number.number c.next_line.new.line.items c.deref.result.now c.deref.ensures.value
    c.loop-number.is_whole c.in_ok-is_added.is_added (c.loop-number.is_whole && c.in_ok-is_added.is_added)
    (g.E.Write.contents c.args.errors.now) (g.E.Write.contents c.loop-number.errors) (g.E.Write.contents c.check_line.new.errors)
    c.in_ok-is_added.ensures refl)

pub returns-in-Ok-false : goal.returns-in-Ok-false
returns-in-Ok-false g c =
    ends (λ before. AreChecked g.T.LineTable.IsFaultAfter g.T.Fault.Display.output c.args.place (g.T.LineTable.HasLines c.loop-number.table) []
    (entries g.T.LineTable.entry_of 1 before) c.loop-number.is_whole (g.E.Write.contents c.args.errors.now) (g.E.Write.contents c.loop-number.errors))
    (λ ls. TableIsChecked g.T.LineTable.IsFaultAfter g.T.LineTable.IsOutOfMemory g.T.Fault.Display.output c.args.place
    (λ added. (table : g.row.T.Denot) × g.T.LineTable.IsRead table added) (entries g.T.LineTable.entry_of 1 ls)
    (c.loop-number.is_whole && c.in_ok-is_read-in-Ok-false.is_read) (g.E.Write.contents c.args.errors.now) (g.E.Write.contents c.check_end.new.errors))
    (g.R.Read.remaining c.args.input.now)
    (g.R.Read.remaining c.loop-number.input) (g.R.Read.remaining c.next_line.new.input) c.loop-number.number c.next_line.new.line.items c.loop-number.invariant
    (read_as _ _ _ c.in-Ok-false.field-0 false c.in-Ok-false.field-0-test c.in-Ok-false.ensures)
    (λ ls h. table_checked g.T.LineTable.IsFaultAfter g.T.Fault.Display.output c.args.place g.T.LineTable.IsOutOfMemory
    (g.T.LineTable.HasLines c.loop-number.table) (g.T.LineTable.IsRead c.check_end.new.table)
    (λ added. (table : g.row.T.Denot) × g.T.LineTable.IsRead table added) (entries g.T.LineTable.entry_of 1 ls)
    c.loop-number.is_whole c.in_ok-is_read-in-Ok-false.is_read (c.loop-number.is_whole && c.in_ok-is_read-in-Ok-false.is_read)
    (g.E.Write.contents c.args.errors.now) (g.E.Write.contents c.loop-number.errors) (g.E.Write.contents c.check_end.new.errors)
    h c.in_ok-is_read-in-Ok-false.ensures refl (λ added is. (c.check_end.new.table, is)))
