use Rattle.std.proofs.Common.{◌≡◌, ap, ◌∙◌, rules}
use Rattle.art_keys.specs.Joins.{joined_bytes, parted}
use Rattle.art_keys.proofs.Backs.{joined_of}
use Rattle.art_keys.proofs.joined.JoinedClone.clone.Goals as goal

pub invariant_of-result : goal.invariant_of-result
invariant_of-result g c =
    record { key = c.self.invariant.key; of_key = c.self.invariant.of_key; is = c.in_ok-clone.ensures.cases ∙ c.self.invariant.is }

pub returns : goal.returns
returns g c =
    record {
      cases = ap (parted g.A.DecodeBytes.key_of g.A.DecodeBytes.length_of g.B.DecodeBytes.key_of) c.in_ok-clone.ensures.cases ∙ c.self.view_is;
    }

pub returns-in_err-clone : goal.returns-in_err-clone
returns-in_err-clone g c =
    let is : c.self.inside.bytes ≡ joined_bytes g.A.AsBytes.bytes g.B.AsBytes.bytes c.args.self.now =
    joined_of g.A.DecodeBytes.key_of g.A.DecodeBytes.length_of g.B.DecodeBytes.key_of g.B.DecodeBytes.length_of
    g.met.A.DecodeBytes.comes_back g.met.B.DecodeBytes.comes_back c.self.inside.bytes c.self.invariant c.args.self.now c.self.view_is in
    search rules
