use Rattle.std.proofs.Common.{[]}
use Rattle.std.specs.Io.KnownBytes.{Appends}
use Rattle.line_programs.specs.Messages.{message}
use Rattle.line_programs.proofs.CheckLemmas.{by_text}
use Rattle.line_programs.proofs.checking.check_end.Goals as goal

pub returns-in_ok-write_fault-in-Err : goal.returns-in_ok-write_fault-in-Err
returns-in_ok-write_fault-in-Err g c = λ added h. (
  (c.in-Err.number, c.in-Err.fault),
  c.in-Err.ensures.fault added h,
  λ text texts. by_text (λ t. Appends (g.E.Write.contents c.args.errors.now) (g.E.Write.contents c.write_fault.new.errors)
      (message c.args.place c.in-Err.number t [])) (g.T.Fault.Display.output c.in-Err.fault) (text c.in-Err.fault) (texts c.in-Err.fault)
      c.in_ok-write_fault-in-Err.ensures,
)
