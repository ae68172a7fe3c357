use Rattle.std.proofs.Common.{refl}
use Rattle.text_programs.proofs.CodeEntries.{line_comes, name_is_stored, none_is_stored}
use Rattle.text_programs.proofs.dial_codes.table.add_line.Goals as goal

pub returns-in-Some-get_text-clause-fault : goal.returns-in-Some-get_text-clause-fault
returns-in-Some-get_text-clause-fault c = (
  c.in-Some.code.now,
  c.in-Some.name.now,
  c.in-Some.ensures.entry,
  name_is_stored c.in-Some.code.now c.in-Some-get_text.named.now c.args.table.now c.in-Some-get_text.ensures,
)

pub returns-in-Ok-insert-clause-added : goal.returns-in-Ok-insert-clause-added
returns-in-Ok-insert-clause-added c =
    let made = rw c.in-Ok-Some.field-0-is at c.in-Ok-Some.ensures.key in
    rw c.in-Ok-insert.ensures.pairs
    (line_comes c.args.line.now c.in-Some.code.now c.in-Some.name.now c.args.number c.in-Ok-Some.key
    (record { name = c.in-Ok.name; line = c.args.number }) c.args.table.now
    c.in-Some.ensures.entry c.in-Some.ensures.code made c.in-Ok.ensures.items refl
    (none_is_stored c.in-Some.code.now c.args.table.now c.in_default-get_text.ensures))
