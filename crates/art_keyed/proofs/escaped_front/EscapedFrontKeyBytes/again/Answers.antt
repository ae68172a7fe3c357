use Rattle.art_keyed.proofs.EscapedFronts.{same_inside}
use Rattle.art_keyed.proofs.escaped_front.EscapedFrontKeyBytes.again.Goals as goal

pub returns : goal.returns
returns c = same_inside c.again.result c.args.self.now.bytes c.again.ensures
