use Rattle.art_keyed.proofs.Keyed.{written_keeps}
use Rattle.art_keyed.proofs.map.TreeMap.get_mut.Goals as goal

pub invariant_of-self-lent : goal.invariant_of-self-lent
invariant_of-self-lent g c lent = (
  λ w. written_keeps g.row.V.Denot _ g.K.AsBytes.bytes c.as_bytes.result.now w c.self.inside.map c.self.invariant,
  c.self.invariant,
)
