use Rattle.art_changing.specs.MapPairs.{pairs_at}
use Rattle.art_map.proofs.Refusing.{refused_holds, refused_told}
use Rattle.art_map.proofs.map.ByteMap.take_refused.Goals as goal

pub invariant_of-self : goal.invariant_of-self
invariant_of-self g c =
    let new = c.take_refused.new in
    refused_holds g.F.FnMut g.K.AsBytes.bytes g.row.P c.args.last.now c.args.f.now (pairs_at c.self.inside.store c.self.inside.root)
    new.f new.store new.root new.len c.take_refused.result c.take_refused.ensures.taken

pub returns-clause-taken : goal.returns-clause-taken
returns-clause-taken g c =
    let new = c.take_refused.new in
    refused_told g.F.FnMut g.K.AsBytes.bytes g.row.P c.args.last.now c.args.f.now (pairs_at c.self.inside.store c.self.inside.root)
    new.f new.store new.root new.len c.take_refused.result c.take_refused.ensures.taken c.self.view_is
