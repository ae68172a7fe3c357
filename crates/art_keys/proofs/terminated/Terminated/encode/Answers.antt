use Rattle.art_keys.proofs.EndedTests.{pushed}
use Rattle.art_keys.proofs.terminated.Terminated.encode.Goals as goal

pub invariant_of-result : goal.invariant_of-result
invariant_of-result c = (pushed _ c.args.text.now c.if-has_zero.ensures.none c.in_ok-bytes.ensures.bytes).0

pub returns-clause-key : goal.returns-clause-key
returns-clause-key c = (pushed _ c.args.text.now c.if-has_zero.ensures.none c.in_ok-bytes.ensures.bytes).1
