use Rattle.std.proofs.Common.{◌≡◌, [], Some, length, refl, subst, ap, sym, ◌∙◌, append-nil}
use Rattle.snapshot_format.proofs.Faults.{if_fault, passed}
use Rattle.snapshot_format.proofs.Causes.{finds_after, finds_again, finds_part, if_err_malformed, if_malformed}
use Rattle.snapshot_format.proofs.WholeFaults.{sum_fault, trailing_fault}
use Rattle.snapshot_format.specs.declared.error.Fault.TheVariants as faults
use Rattle.snapshot_format.specs.Faults.{Finds, IsNot, TailFault}
use Rattle.snapshot_format.specs.declared.source.Source.{Source}
use Rattle.snapshot_format.proofs.reading.read_tail.Goals as goal

pub returns-in_err-expect : goal.returns-in_err-expect
returns-in_err-expect g c =
    let left = g.R.Read.remaining in
    let sum = c.finalize_reset-sum.result in
    let is = c.finalize_reset-sum.ensures.digest in
    let again : Source g.row.R.Denot = record { input = c.args.source.now.input; digest = c.finalize_reset-sum.new.self; at = c.args.source.now.at } in
    rw (passed c.from_residual.result c.in_err-expect.field-0.0 c.from_residual.ensures.1) (record {
      read = tt;
      fault = if_fault c.in_err-expect.field-0.0 (λ none body held e. none [] (e ∙ ap (λ bs. Some bs) (sym (append-nil sum ∙ is body held)))) c.in_err-expect.ensures.fault;
      why = λ body held. if_malformed c.in_err-expect.field-0.0
          (λ m f. subst (λ sum. Finds left c.args.source.now c.expect.new.self (TailFault sum) m) (is body held)
          (finds_part left c.args.source.now c.expect.new.self (IsNot sum faults.WrongChecksum) (TailFault sum) (sum_fault sum) m
          (finds_again left c.args.source.now again c.expect.new.self (IsNot sum faults.WrongChecksum) m refl refl f))) (c.in_err-expect.ensures.why (λ e. absurd cc));
    })

pub returns-clause-why : goal.returns-clause-why
returns-clause-why g c = λ body held.
    let left = g.R.Read.remaining in
    let sum = c.finalize_reset-sum.result in
    let again : Source g.row.R.Denot = record { input = c.args.source.now.input; digest = c.finalize_reset-sum.new.self; at = c.args.source.now.at } in
    if_err_malformed c.end.result
    (λ m f. subst (λ sum. Finds left c.args.source.now c.end.new.self (TailFault sum) m) (c.finalize_reset-sum.ensures.digest body held)
    (finds_again left c.args.source.now again c.end.new.self (TailFault sum) m refl refl
    (finds_after left again c.expect.new.self c.end.new.self (λ fault read. (fault ≡ faults.TrailingBytes) × (length read ≡ 1)) (TailFault sum) sum c.in_ok-expect.ensures.read (trailing_fault sum) m f))) c.end.ensures.why
