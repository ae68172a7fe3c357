use Rattle.std.proofs.Common.{ap, ◌∙◌}
use Rattle.art_model.specs.Pairs.{first_of, of_key}
use Rattle.art_model.specs.Parts.{below, without_below}
use Rattle.art_keys.specs.Joins.{AreKeys, joined_bytes}
use Rattle.art_keyed.proofs.KeyRanges.{below_first, first_out, first_out_keeps}
use Rattle.art_keys.specs.InjectiveLaws.{joins_injective}
use Rattle.art_keyed.proofs.KeyedLaws.{below_told, seen_as}
use Rattle.art_keyed.proofs.map.joined.TreeMap+Joined+A+B+V+P.pop_first_with.Goals as goal

pub invariant_of-self : goal.invariant_of-self
invariant_of-self g c =
    rw c.pop_first_below.ensures.pairs (first_out_keeps _
    (joined_bytes g.A.AsBytes.bytes g.B.AsBytes.bytes) c.as_bytes.result.now c.self.inside.map c.self.invariant)

pub returns-clause-pairs : goal.returns-clause-pairs
returns-clause-pairs g c =
    let first = g.A.AsBytes.bytes in
    let second = g.B.AsBytes.bytes in
    rw (← c.self.view_is) (c.pop_first_below.ensures.pairs
    ∙ ap (λ prefix. without_below (of_key (joined_bytes first second)) prefix 1 c.self.inside.map) c.as_bytes.ensures
    ∙ first_out g.A.NoPrefixesBytes.is_key first g.B.NoPrefixesBytes.is_key second g.met.A.NoPrefixesBytes.no_prefixes c.args.first.now
    c.as_key.ensures c.self.inside.map c.self.invariant)

pub returns-clause-removed : goal.returns-clause-removed
returns-clause-removed g c =
    let first = g.A.AsBytes.bytes in
    let second = g.B.AsBytes.bytes in
    rw (← c.self.view_is) (c.pop_first_below.ensures.removed
    ∙ ap first_of (ap (λ prefix. below (of_key (joined_bytes first second)) prefix c.self.inside.map) c.as_bytes.ensures
    ∙ below_first g.A.NoPrefixesBytes.is_key first g.B.NoPrefixesBytes.is_key second g.met.A.NoPrefixesBytes.no_prefixes c.args.first.now
    c.as_key.ensures c.self.inside.map c.self.invariant))

pub returns-clause-key : goal.returns-clause-key
returns-clause-key g c = (seen_as _ _ _ c.self.view_is
    (below_told (joined_bytes g.A.AsBytes.bytes g.B.AsBytes.bytes) (AreKeys g.A.NoPrefixesBytes.is_key g.B.NoPrefixesBytes.is_key)
    (joins_injective g.A.NoPrefixesBytes.is_key g.A.AsBytes.bytes g.B.NoPrefixesBytes.is_key g.B.AsBytes.bytes g.A.DecodeBytes.key_of
    g.A.DecodeBytes.length_of g.B.DecodeBytes.key_of g.B.DecodeBytes.length_of g.met.A.DecodeBytes.comes_back
    g.met.B.DecodeBytes.comes_back) c.as_bytes.result.now c.pop_first_below.result c.self.inside.map c.pop_first_below.new.self
    c.pop_first_below.ensures.was_sorted c.self.invariant c.pop_first_below.ensures.removed c.pop_first_below.ensures.pairs)).key

pub returns-clause-stored : goal.returns-clause-stored
returns-clause-stored g c = (seen_as _ _ _ c.self.view_is
    (below_told (joined_bytes g.A.AsBytes.bytes g.B.AsBytes.bytes) (AreKeys g.A.NoPrefixesBytes.is_key g.B.NoPrefixesBytes.is_key)
    (joins_injective g.A.NoPrefixesBytes.is_key g.A.AsBytes.bytes g.B.NoPrefixesBytes.is_key g.B.AsBytes.bytes g.A.DecodeBytes.key_of
    g.A.DecodeBytes.length_of g.B.DecodeBytes.key_of g.B.DecodeBytes.length_of g.met.A.DecodeBytes.comes_back
    g.met.B.DecodeBytes.comes_back) c.as_bytes.result.now c.pop_first_below.result c.self.inside.map c.pop_first_below.new.self
    c.pop_first_below.ensures.was_sorted c.self.invariant c.pop_first_below.ensures.removed c.pop_first_below.ensures.pairs)).stored

pub returns-clause-gone : goal.returns-clause-gone
returns-clause-gone g c = (seen_as _ _ _ c.self.view_is
    (below_told (joined_bytes g.A.AsBytes.bytes g.B.AsBytes.bytes) (AreKeys g.A.NoPrefixesBytes.is_key g.B.NoPrefixesBytes.is_key)
    (joins_injective g.A.NoPrefixesBytes.is_key g.A.AsBytes.bytes g.B.NoPrefixesBytes.is_key g.B.AsBytes.bytes g.A.DecodeBytes.key_of
    g.A.DecodeBytes.length_of g.B.DecodeBytes.key_of g.B.DecodeBytes.length_of g.met.A.DecodeBytes.comes_back
    g.met.B.DecodeBytes.comes_back) c.as_bytes.result.now c.pop_first_below.result c.self.inside.map c.pop_first_below.new.self
    c.pop_first_below.ensures.was_sorted c.self.invariant c.pop_first_below.ensures.removed c.pop_first_below.ensures.pairs)).gone

pub returns-clause-other_keys : goal.returns-clause-other_keys
returns-clause-other_keys g c = (seen_as _ _ _ c.self.view_is
    (below_told (joined_bytes g.A.AsBytes.bytes g.B.AsBytes.bytes) (AreKeys g.A.NoPrefixesBytes.is_key g.B.NoPrefixesBytes.is_key)
    (joins_injective g.A.NoPrefixesBytes.is_key g.A.AsBytes.bytes g.B.NoPrefixesBytes.is_key g.B.AsBytes.bytes g.A.DecodeBytes.key_of
    g.A.DecodeBytes.length_of g.B.DecodeBytes.key_of g.B.DecodeBytes.length_of g.met.A.DecodeBytes.comes_back
    g.met.B.DecodeBytes.comes_back) c.as_bytes.result.now c.pop_first_below.result c.self.inside.map c.pop_first_below.new.self
    c.pop_first_below.ensures.was_sorted c.self.invariant c.pop_first_below.ensures.removed c.pop_first_below.ensures.pairs)).other_keys

pub returns-clause-len : goal.returns-clause-len
returns-clause-len g c = (seen_as _ _ _ c.self.view_is
    (below_told (joined_bytes g.A.AsBytes.bytes g.B.AsBytes.bytes) (AreKeys g.A.NoPrefixesBytes.is_key g.B.NoPrefixesBytes.is_key)
    (joins_injective g.A.NoPrefixesBytes.is_key g.A.AsBytes.bytes g.B.NoPrefixesBytes.is_key g.B.AsBytes.bytes g.A.DecodeBytes.key_of
    g.A.DecodeBytes.length_of g.B.DecodeBytes.key_of g.B.DecodeBytes.length_of g.met.A.DecodeBytes.comes_back
    g.met.B.DecodeBytes.comes_back) c.as_bytes.result.now c.pop_first_below.result c.self.inside.map c.pop_first_below.new.self
    c.pop_first_below.ensures.was_sorted c.self.invariant c.pop_first_below.ensures.removed c.pop_first_below.ensures.pairs)).len
