use Rattle.std.proofs.Common.{◌≡◌, ◌⊎◌, ◌-◌, ◌≤◌, ◌^◌, [], ◌∷◌, suc, inl, inr, sym, subst, arith}
use Rattle.snapshot_format.specs.Numbers.{number_within}
use Rattle.snapshot_format.proofs.NumberReads.{StartsNoNumber, ends, is_last, none_high, wrong_high, reads_small, reads_joined}
use Rattle.snapshot_format.proofs.Faults.{if_fault, passed}
use Rattle.snapshot_format.proofs.Known.{reads_more}
use Rattle.snapshot_format.proofs.Causes.{finds_after, finds_now, finds_part, if_malformed}
use Rattle.snapshot_format.proofs.PartFaults.{cut_none, last_none, within_more, wrong_none}
use Rattle.snapshot_format.specs.declared.error.Fault.TheVariants as faults
use Rattle.snapshot_format.specs.Faults.{WithinFault}
use Rattle.snapshot_format.proofs.source.Source.+number_within.Goals as goal
use Rattle.snapshot_format.proofs.source.Source.+number_within.Goals.{then-high-eq0-via-then-high-eq0, then-high-eq0-via-else-high-eq0+then-high}

pub returns-in_err-byte : goal.returns-in_err-byte
returns-in_err-byte g t c =
    rw (passed c.from_residual.result c.in_err-byte.field-0.0 c.from_residual.ensures.1) (record {
      read = tt;
      fault = if_fault c.in_err-byte.field-0.0 (ends (g.R.Read.remaining c.args.self.now.input) c.args.more) c.in_err-byte.ensures.fault;
      why = if_malformed c.in_err-byte.field-0.0 (finds_part g.R.Read.remaining c.args.self.now c.byte.new.self (λ fault read. (fault ≡ faults.CutShort) × (read ≡ [])) (WithinFault c.args.more)
          (λ fault read e. subst (λ f. WithinFault c.args.more f read) (sym e.0) (subst (WithinFault c.args.more faults.CutShort) (sym e.1) (cut_none c.args.more)))) c.in_err-byte.ensures.why;
    })

pub returns-then-byte-lt128-clause-read : goal.returns-then-byte-lt128-clause-read
returns-then-byte-lt128-clause-read g t c =
    rw c.from.ensures (reads_small g.R.Read.remaining c.args.self.now c.byte.new.self c.args.more c.in_ok-byte.byte c.if-byte-lt128.true c.in_ok-byte.ensures.read)

pub returns-in_err-high : goal.returns-in_err-high
returns-in_err-high g t c =
    let one : c.args.more ≡ suc (c.args.more - 1) = omega arith in
    rw (passed c.from_residual-in_err-high.result c.in_err-high.field-0.0 c.from_residual-in_err-high.ensures.1) (record {
      read = tt;
      fault = if_fault c.in_err-high.field-0.0 (λ fault. subst (StartsNoNumber (g.R.Read.remaining c.args.self.now.input)) (sym one)
          (none_high (g.R.Read.remaining c.args.self.now.input) (g.R.Read.remaining c.byte.new.self.input) (c.args.more - 1) c.in_ok-byte.byte c.if-byte-lt128.false c.in_ok-byte.ensures.read.taken fault)) c.in_err-high.ensures.fault;
      why = if_malformed c.in_err-high.field-0.0 (finds_after g.R.Read.remaining c.args.self.now c.byte.new.self c.number_within.new.self (WithinFault (c.args.more - 1)) (WithinFault c.args.more)
          (c.in_ok-byte.byte ∷ []) c.in_ok-byte.ensures.read
          (λ fault read h. subst (λ more. WithinFault more fault (c.in_ok-byte.byte ∷ read)) (sym one) (within_more (c.args.more - 1) c.in_ok-byte.byte c.if-byte-lt128.false (omega arith) fault read h))) c.in_err-high.ensures.why;
    })

pub returns-then-more-eq0 : goal.returns-then-more-eq0
returns-then-more-eq0 g t c =
    let byte = c.in_ok-byte.byte in
    rw c.malformed.ensures (record {
      read = tt;
      fault = is_last (g.R.Read.remaining c.args.self.now.input) (g.R.Read.remaining c.byte.new.self.input) c.args.more byte c.if-more-eq0.true c.if-byte-lt128.false c.in_ok-byte.ensures.read.taken;
      why = finds_now g.R.Read.remaining c.args.self.now c.byte.new.self (WithinFault c.args.more) faults.BadNumber (byte ∷ []) c.in_ok-byte.ensures.read (λ e. absurd cc)
          (last_none c.args.more byte c.if-more-eq0.true c.if-byte-lt128.false);
    })

pub returns-then-high-eq0 : goal.returns-then-high-eq0
returns-then-high-eq0 g t c =
    let left = g.R.Read.remaining in
    let byte = c.in_ok-byte.byte in
    let high = c.in_ok-high.high in
    let more = c.args.more - 1 in
    let one : suc more ≡ c.args.more = omega arith in
    let wrong : (high ≡ 0) ⊎ (2 ^ 57 ≤ high) = elim c.then-high-eq0.branch [
      | then-high-eq0-via-then-high-eq0 w ↦ inl (omega arith)
      | then-high-eq0-via-else-high-eq0+then-high w ↦ inr (omega arith)
    ] in
    rw c.malformed-then-high-eq0.ensures (record {
      read = tt;
      fault = subst (StartsNoNumber (left c.args.self.now.input)) one (wrong_high (left c.args.self.now.input) (left c.byte.new.self.input) (left c.number_within.new.self.input) more byte high
          c.if-byte-lt128.false c.in_ok-byte.ensures.read.taken c.in_ok-high.ensures.read.taken wrong);
      why = finds_now left c.args.self.now c.number_within.new.self (WithinFault c.args.more) faults.BadNumber (byte ∷ number_within more high)
          (reads_more left c.args.self.now c.byte.new.self c.number_within.new.self (byte ∷ []) (number_within more high) c.in_ok-byte.ensures.read c.in_ok-high.ensures.read) (λ e. absurd cc)
          (subst (λ more. WithinFault more faults.BadNumber (byte ∷ number_within (c.args.more - 1) high)) one (wrong_none more byte high c.if-byte-lt128.false wrong));
    })

pub returns-clause-read : goal.returns-clause-read
returns-clause-read g t c =
    let one : c.args.more ≡ suc (c.args.more - 1) = omega arith in
    rw (c.from-2.ensures, one) (reads_joined g.R.Read.remaining c.args.self.now c.byte.new.self c.number_within.new.self (c.args.more - 1) c.in_ok-byte.byte c.in_ok-high.high
    (omega arith) c.if-byte-lt128.false (omega arith) c.in_ok-byte.ensures.read c.in_ok-high.ensures.read)
