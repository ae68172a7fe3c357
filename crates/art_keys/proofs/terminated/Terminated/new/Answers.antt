use Rattle.std.proofs.Common.{subst}
use Rattle.art_keys.specs.Ended.{HasNoZero}
use Rattle.art_keys.proofs.EndedTests.{pushed}
use Rattle.art_keys.proofs.terminated.Terminated.new.Goals as goal

pub invariant_of-result : goal.invariant_of-result
invariant_of-result c = (pushed _ c.args.text.items (subst HasNoZero c.deref.ensures.value c.if-has_zero.ensures.none) c.in-Ok.ensures.bytes).0

pub returns-in-Ok-clause-key : goal.returns-in-Ok-clause-key
returns-in-Ok-clause-key c = (pushed _ c.args.text.items (subst HasNoZero c.deref.ensures.value c.if-has_zero.ensures.none) c.in-Ok.ensures.bytes).1
