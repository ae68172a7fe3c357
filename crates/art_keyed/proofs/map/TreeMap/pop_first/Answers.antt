use Rattle.art_keyed.proofs.Keyed.{first_keeps}
use Rattle.art_keyed.proofs.KeyedLaws.{first_told, seen_as}
use Rattle.art_keyed.proofs.map.TreeMap.pop_first.Goals as goal

pub invariant_of-self : goal.invariant_of-self
invariant_of-self g c = rw c.pop_first.ensures.pairs (first_keeps g.row.V.Denot _ g.K.AsBytes.bytes c.self.inside.map c.self.invariant)

pub returns-clause-key : goal.returns-clause-key
returns-clause-key g c = (seen_as _ _ _ c.self.view_is
    (first_told g.K.AsBytes.bytes _ g.met.K.NoPrefixesBytes.injective c.unwrap.result c.self.inside.map c.pop_first.new.self
    c.pop_first.ensures.was_sorted c.self.invariant (rw c.unwrap.ensures at c.pop_first.ensures.removed) c.pop_first.ensures.pairs)).key

pub returns-clause-stored : goal.returns-clause-stored
returns-clause-stored g c = (seen_as _ _ _ c.self.view_is
    (first_told g.K.AsBytes.bytes _ g.met.K.NoPrefixesBytes.injective c.unwrap.result c.self.inside.map c.pop_first.new.self
    c.pop_first.ensures.was_sorted c.self.invariant (rw c.unwrap.ensures at c.pop_first.ensures.removed) c.pop_first.ensures.pairs)).stored

pub returns-clause-gone : goal.returns-clause-gone
returns-clause-gone g c = (seen_as _ _ _ c.self.view_is
    (first_told g.K.AsBytes.bytes _ g.met.K.NoPrefixesBytes.injective c.unwrap.result c.self.inside.map c.pop_first.new.self
    c.pop_first.ensures.was_sorted c.self.invariant (rw c.unwrap.ensures at c.pop_first.ensures.removed) c.pop_first.ensures.pairs)).gone

pub returns-clause-other_keys : goal.returns-clause-other_keys
returns-clause-other_keys g c = (seen_as _ _ _ c.self.view_is
    (first_told g.K.AsBytes.bytes _ g.met.K.NoPrefixesBytes.injective c.unwrap.result c.self.inside.map c.pop_first.new.self
    c.pop_first.ensures.was_sorted c.self.invariant
    (rw c.unwrap.ensures at c.pop_first.ensures.removed) c.pop_first.ensures.pairs)).other_keys

pub returns-clause-len : goal.returns-clause-len
returns-clause-len g c = (seen_as _ _ _ c.self.view_is
    (first_told g.K.AsBytes.bytes _ g.met.K.NoPrefixesBytes.injective c.unwrap.result c.self.inside.map c.pop_first.new.self
    c.pop_first.ensures.was_sorted c.self.invariant (rw c.unwrap.ensures at c.pop_first.ensures.removed) c.pop_first.ensures.pairs)).len
