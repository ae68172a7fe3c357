use Rattle.std.proofs.Common.{subst}
use Rattle.art_model.specs.Prelude.{AreClones}
use Rattle.art_changing.specs.MapPairs.{pairs_at}
use Rattle.art_map.proofs.Copied.{copies_read}
use Rattle.art_map.proofs.map.ByteMap.clone.Goals as goal

pub invariant_of-result : goal.invariant_of-result
invariant_of-result g c =
    (copies_read g.K.Clone.is_clone g.V.Clone.is_clone c.self.inside.store c.in-Some.store (rw c.in-Some.is at c.in_ok-store.ensures.leaves)
    (rw c.in-Some.is at c.in_ok-store.ensures.inners) g.K.AsBytes.bytes g.row.P c.requires c.self.invariant).1

pub returns : goal.returns
returns g c =
    let are = (copies_read g.K.Clone.is_clone g.V.Clone.is_clone c.self.inside.store c.in-Some.store (rw c.in-Some.is at c.in_ok-store.ensures.leaves)
    (rw c.in-Some.is at c.in_ok-store.ensures.inners) g.K.AsBytes.bytes g.row.P c.requires c.self.invariant).0 in
    subst (λ pairs. AreClones g.K.Clone.is_clone g.V.Clone.is_clone pairs (pairs_at c.in-Some.store c.self.inside.root)) c.self.view_is are
