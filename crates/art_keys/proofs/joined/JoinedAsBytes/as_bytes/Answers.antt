use Rattle.std.proofs.Common.{◌∙◌}
use Rattle.art_keys.proofs.Backs.{joined_of}
use Rattle.art_keys.proofs.joined.JoinedAsBytes.as_bytes.Goals as goal

pub returns : goal.returns
returns g c =
    c.as_slice.ensures
    ∙ joined_of g.A.DecodeBytes.key_of g.A.DecodeBytes.length_of g.B.DecodeBytes.key_of g.B.DecodeBytes.length_of
    g.met.A.DecodeBytes.comes_back g.met.B.DecodeBytes.comes_back c.self.inside.bytes c.self.invariant c.args.self.now c.self.view_is
