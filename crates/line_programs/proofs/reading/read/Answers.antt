use Rattle.std.proofs.Common.{true}
use Rattle.text_lines.proofs.LineParts.{part_read_as}
use Rattle.text_lines.proofs.Reading.{parts_begin, parts_go_on, parts_stop}
use Rattle.text_lines.specs.Lines.{pieces}
use Rattle.line_programs.specs.Entries.{entries}
use Rattle.line_programs.specs.LineTables.{IsFaultIn}
use Rattle.line_programs.proofs.ReadLemmas.{one_line_more, refused_at}
use Rattle.line_programs.proofs.reading.read.Goals as goal

pub loop-number-init : goal.loop-number-init
loop-number-init g c =
    parts_begin (pieces c.args.end) (λ before. g.T.LineTable.HasLines c.start-table.result (entries g.T.LineTable.entry_of 1 before)) (g.R.Read.remaining c.args.input.now)
    c.start-table.ensures

pub loop-number-preserved : goal.loop-number-preserved
loop-number-preserved g c =
    parts_go_on (pieces c.args.end) (λ before. g.T.LineTable.HasLines c.loop-number.table (entries g.T.LineTable.entry_of 1 before))
    (λ before. g.T.LineTable.HasLines c.add_line.new.table (entries g.T.LineTable.entry_of 1 before)) (g.R.Read.remaining c.args.input.now)
    (g.R.Read.remaining c.loop-number.input) (g.R.Read.remaining c.next_piece.new.input) c.loop-number.number c.next_piece.new.piece.items c.loop-number.invariant
    (part_read_as (pieces c.args.end) _ _ _ c.in-Ok-true.field-0 true c.in-Ok-true.field-0-test c.in-Ok-true.ensures)
    (one_line_more g.T.LineTable.entry_of (g.T.LineTable.HasLines c.loop-number.table)
    (g.T.LineTable.HasLines c.add_line.new.table) c.loop-number.number c.next_piece.new.piece.items c.deref.result.now
    c.deref.ensures.value c.in-Ok.ensures.added)

pub returns-in-Err-add_line-clause-refused : goal.returns-in-Err-add_line-clause-refused
returns-in-Err-add_line-clause-refused g c =
    parts_stop (pieces c.args.end) (λ before. g.T.LineTable.HasLines c.loop-number.table (entries g.T.LineTable.entry_of 1 before))
    (λ ls. IsFaultIn g.T.LineTable.IsFaultAfter g.T.LineTable.IsOutOfMemory (entries g.T.LineTable.entry_of 1 ls)
    (c.loop-number.number, c.in-Err-add_line.fault))
    (g.R.Read.remaining c.args.input.now)
    (g.R.Read.remaining c.loop-number.input) (g.R.Read.remaining c.next_piece.new.input) c.loop-number.number c.next_piece.new.piece.items c.loop-number.invariant
    (part_read_as (pieces c.args.end) _ _ _ c.in-Ok-true.field-0 true c.in-Ok-true.field-0-test c.in-Ok-true.ensures)
    (refused_at g.T.LineTable.entry_of (g.T.LineTable.HasLines c.loop-number.table)
    g.T.LineTable.IsFaultAfter g.T.LineTable.IsOutOfMemory c.loop-number.number c.next_piece.new.piece.items c.deref.result.now c.in-Err-add_line.fault
    c.deref.ensures.value c.in-Err-add_line.ensures.fault)
