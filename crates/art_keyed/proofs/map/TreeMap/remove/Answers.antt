use Rattle.art_map.proofs.Results.{none_found, rest_found}
use Rattle.art_keyed.proofs.Keyed.{remove_keeps}
use Rattle.art_keyed.proofs.KeyedLaws.{other_keys_kept, removal_counted}
use Rattle.art_keyed.proofs.map.TreeMap.remove.Goals as goal

pub invariant_of-self : goal.invariant_of-self
invariant_of-self g c = rw c.remove_by.ensures.pairs (remove_keeps g.row.V.Denot _ g.K.AsBytes.bytes c.as_bytes.result.now c.self.inside.map c.self.invariant)

pub returns-clause-gone : goal.returns-clause-gone
returns-clause-gone g c = rw (← c.as_bytes.ensures) (none_found g.K.AsBytes.bytes _ c.self.inside.map _ c.remove_by.ensures.pairs)

pub returns-clause-others : goal.returns-clause-others
returns-clause-others g c =
    rw (← c.self.view_is) (rw (← c.as_bytes.ensures) (rest_found g.K.AsBytes.bytes _ c.self.inside.map _ c.remove_by.ensures.pairs))

pub returns-clause-other_keys : goal.returns-clause-other_keys
returns-clause-other_keys g c =
    other_keys_kept g.K.AsBytes.bytes _ g.met.K.NoPrefixesBytes.injective c.args.key.now c.args.self.now c.remove_by.new.self c.as_key.ensures
    (rw (← c.self.view_is) (rw (← c.as_bytes.ensures) (rest_found g.K.AsBytes.bytes _ c.self.inside.map _ c.remove_by.ensures.pairs)))

pub returns-clause-len : goal.returns-clause-len
returns-clause-len g c =
    rw (← c.self.view_is)
    (removal_counted g.K.AsBytes.bytes c.as_bytes.result.now c.self.inside.map c.remove_by.new.self c.remove_by.ensures.was_sorted
    c.remove_by.result c.remove_by.ensures.removed c.remove_by.ensures.pairs)
