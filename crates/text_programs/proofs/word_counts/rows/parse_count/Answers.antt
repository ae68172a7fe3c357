use Rattle.std.proofs.Common.{sym, ◌∙◌, arith}
use Rattle.text_programs.proofs.CountRows.{no_count, no_number, no_space, word_is}
use Rattle.text_programs.proofs.word_counts.rows.parse_count.Goals.{else-number-gt0-via-then-number-gt0+else-is_word, else-number-gt0-via-else-number-gt0}
use Rattle.text_programs.proofs.word_counts.rows.parse_count.Goals as goal

pub returns-in_err-digits-clause-none : goal.returns-in_err-digits-clause-none
returns-in_err-digits-clause-none c = rw c.from_residual.ensures (no_space c.args.line.now c.in_err-digits.ensures.none)

pub returns-in_err-number-clause-none : goal.returns-in_err-number-clause-none
returns-in_err-number-clause-none c =
    rw c.from_residual-in_err-number.ensures (no_number c.args.line.now c.in_ok-digits.digits.now c.in_ok-digits.word.now c.in_ok-digits.ensures.parts
    c.in_ok-digits.ensures.word c.in_err-number.ensures.none)

pub returns-then-is_word-clause-count : goal.returns-then-is_word-clause-count
returns-then-is_word-clause-count c = (word_is c.in_ok-digits.word.now (sym c.is_word.ensures ∙ c.if-is_word.true), omega arith, omega arith)

pub returns-else-number-gt0-clause-none : goal.returns-else-number-gt0-clause-none
returns-else-number-gt0-clause-none c =
    no_count c.args.line.now c.in_ok-digits.digits.now c.in_ok-digits.word.now c.in_ok-digits.ensures.parts c.in_ok-digits.ensures.word
    c.in_ok-number.number (omega arith) c.in_ok-number.ensures.value
    (elim c.else-number-gt0.branch [
      | else-number-gt0-via-then-number-gt0+else-is_word w ↦ λ some. sym w.is_word.ensures ∙ w.if-is_word.false
      | else-number-gt0-via-else-number-gt0 w ↦ λ some. absurd (omega (arith, some, w.if-number-gt0.false))
    ])
