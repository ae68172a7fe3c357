use Rattle.std.proofs.Common.{Some, ap, ap₂}
use Rattle.art_running.proofs.run.begin.Goals as goal

pub returns-in-Ok-clause-planted : goal.returns-in-Ok-clause-planted
returns-in-Ok-clause-planted g c = (c.in-Ok.leaf, ap Some c.to_opaque.ensures, c.in-Ok.ensures.planted)

pub returns-in-Err-clause-handed_back : goal.returns-in-Err-clause-handed_back
returns-in-Err-clause-handed_back g c = ap₂ (λ a b. (a, b)) c.in-Err.ensures.handed_back.0 c.in-Err.ensures.handed_back.1
