use Rattle.art_keys.specs.EndedLaws.{ended_begins}
use Rattle.art_keys.proofs.terminated.TerminatedStringBytes.beginning.Goals as goal

pub returns : goal.returns
returns c = record {
  inside = c.as_bytes_without_end.ensures.text;
  begins = λ other of_other. rw c.as_bytes_without_end.ensures.text (ended_begins c.args.self.now other c.as_bytes_without_end.ensures.no_zero);
}
