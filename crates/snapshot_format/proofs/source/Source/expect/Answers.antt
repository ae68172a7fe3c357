use Rattle.std.proofs.Common.{◌≡◌, ◌++◌, ◌∷◌, [], inr, take, refl, ap, sym, ◌∙◌, subst}
use Rattle.std.proofs.lemmas.List.{take_more}
use Rattle.snapshot_format.specs.Reading.{Reads}
use Rattle.snapshot_format.proofs.Faults.{if_fault, passed}
use Rattle.snapshot_format.specs.declared.error.Fault.TheVariants as faults
use Rattle.snapshot_format.specs.Faults.{IsNot}
use Rattle.snapshot_format.proofs.Causes.{finds_after, finds_now, if_malformed}
use Rattle.snapshot_format.proofs.Known.{reads_more}
use Rattle.snapshot_format.proofs.PartFaults.{ended_at, fewer_start, other_at, other_starts}
use Rattle.snapshot_format.proofs.source.Source.expect.Goals as goal

pub returns-in_err-byte : goal.returns-in_err-byte
returns-in_err-byte g c =
    let wanted = c.args.wanted.now in
    rw (passed c.from_residual.result c.in_err-byte.field-0.0 c.from_residual.ensures.1) (record {
      read = tt;
      fault = if_fault c.in_err-byte.field-0.0 (fewer_start (g.R.Read.remaining c.args.self.now.input) (g.R.Read.remaining c.loop-byte.self.input) c.args.wanted.now c.loop-byte.byte-index c.loop-byte-test.true c.loop-byte.invariant.taken) c.in_err-byte.ensures.fault;
      why = λ other. if_malformed c.in_err-byte.field-0.0 (finds_after g.R.Read.remaining c.args.self.now c.loop-byte.self c.byte.new.self (λ fault read. (fault ≡ faults.CutShort) × (read ≡ [])) (IsNot wanted c.args.fault)
          (take c.loop-byte.byte-index wanted) c.loop-byte.invariant (ended_at wanted c.args.fault c.loop-byte.byte-index c.loop-byte-test.true)) c.in_err-byte.ensures.why;
    })

pub returns-then-branch-byte : goal.returns-then-branch-byte
returns-then-branch-byte g c =
    let left = g.R.Read.remaining in
    let wanted = c.args.wanted.now in
    let i = c.loop-byte.byte-index in
    let byte = c.in_ok-byte.field-0 in
    let other = other_at wanted i byte c.loop-byte-test.true c.if-branch-byte.true in
    let read = reads_more left c.args.self.now c.loop-byte.self c.byte.new.self (take i wanted) (byte ∷ []) c.loop-byte.invariant c.in_ok-byte.ensures.read in
    rw c.malformed.ensures (record {
      read = tt;
      fault = other_starts (left c.args.self.now.input) (left c.byte.new.self.input) wanted (take i wanted ++ byte ∷ []) read.taken other;
      why = λ known. finds_now left c.args.self.now c.byte.new.self (IsNot wanted c.args.fault) c.args.fault (take i wanted ++ byte ∷ []) read (λ e. absurd (known e)) (inr (refl, other));
    })

pub loop-byte-preserved : goal.loop-byte-preserved
loop-byte-preserved g c =
    let left = g.R.Read.remaining in
    let i = c.loop-byte.byte-index in
    let byte = c.in_ok-byte.field-0 in
    subst (Reads left c.args.self.now c.byte.new.self) (ap (λ b. take i c.args.wanted.now ++ b ∷ []) c.if-branch-byte.false ∙ sym (take_more c.args.wanted.now i 0 c.loop-byte-test.true))
    (reads_more left c.args.self.now c.loop-byte.self c.byte.new.self (take i c.args.wanted.now) (byte ∷ []) c.loop-byte.invariant c.in_ok-byte.ensures.read)
