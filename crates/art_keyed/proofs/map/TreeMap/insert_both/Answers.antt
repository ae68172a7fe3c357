use Rattle.std.proofs.Common.{ap, ◌∙◌}
use Rattle.art_changing.specs.MapAnswers.{value_at}
use Rattle.art_map.proofs.CallerLaws.{value_here}
use Rattle.art_keyed.proofs.Keyed.{one_is_new, put_keeps}
use Rattle.art_keyed.proofs.KeyedLaws.{others_by_put}
use Rattle.art_keyed.proofs.map.TreeMap.insert_both.Goals as goal
use Rattle.art_keyed.proofs.map.TreeMap.insert_both.Goals.{in-Ok, in-Err}

pub invariant_of-self : goal.invariant_of-self
invariant_of-self g c =
    elim c.match-insert_both.branch [
      | in-Ok w ↦ rw w.in-Ok.ensures.pairs (put_keeps g.row.V.Denot _ g.K.AsBytes.bytes c.args.pair.0 c.args.pair.1 c.self.inside.map
          c.as_key.ensures c.self.invariant)
      | in-Err w ↦ rw w.in-Err.ensures.kept c.self.invariant
    ]

pub invariant_of-other : goal.invariant_of-other
invariant_of-other g c =
    elim c.match-insert_both.branch [
      | in-Ok w ↦ rw w.in-Ok.ensures.other_pairs
          (put_keeps g.row.W.Denot _ g.L.AsBytes.bytes c.args.other_pair.0 c.args.other_pair.1 c.other.inside.map
          c.as_key-2.ensures c.other.invariant)
      | in-Err w ↦ rw w.in-Err.ensures.other_kept c.other.invariant
    ]

pub returns-clause-found : goal.returns-clause-found
returns-clause-found g c =
    let bytes = g.K.AsBytes.bytes in
    elim c.match-insert_both.branch [
      | in-Ok w ↦
          rw w.result-is (ap (value_at bytes (bytes c.args.pair.0)) w.in-Ok.ensures.pairs
          ∙ value_here bytes c.args.pair.0 c.args.pair.1 c.self.inside.map)
      | in-Err w ↦ rw w.result-is tt
    ]

pub returns-clause-other_keys : goal.returns-clause-other_keys
returns-clause-other_keys g c =
    elim c.match-insert_both.branch [
      | in-Ok w ↦ rw w.result-is (rw (← c.self.view_is) (rw w.in-Ok.ensures.pairs
          (others_by_put g.K.AsBytes.bytes _ g.met.K.NoPrefixesBytes.injective c.args.pair.0 c.as_key.ensures c.args.pair.1 c.self.inside.map)))
      | in-Err w ↦ rw w.result-is tt
    ]

pub returns-clause-second_found : goal.returns-clause-second_found
returns-clause-second_found g c =
    let bytes = g.L.AsBytes.bytes in
    elim c.match-insert_both.branch [
      | in-Ok w ↦ rw w.result-is
          (ap (value_at bytes (bytes c.args.other_pair.0)) w.in-Ok.ensures.other_pairs
          ∙ value_here bytes c.args.other_pair.0 c.args.other_pair.1 c.other.inside.map)
      | in-Err w ↦ rw w.result-is tt
    ]

pub returns-clause-second_other_keys : goal.returns-clause-second_other_keys
returns-clause-second_other_keys g c =
    elim c.match-insert_both.branch [
      | in-Ok w ↦ rw w.result-is (rw (← c.other.view_is) (rw w.in-Ok.ensures.other_pairs
          (others_by_put g.L.AsBytes.bytes _ g.met.L.NoPrefixesBytes.injective c.args.other_pair.0 c.as_key-2.ensures c.args.other_pair.1 c.other.inside.map)))
      | in-Err w ↦ rw w.result-is tt
    ]

pub returns-clause-refused : goal.returns-clause-refused
returns-clause-refused g c =
    elim c.match-insert_both.branch [
      | in-Ok w ↦ rw w.result-is tt
      | in-Err w ↦ rw w.result-is (rw (← c.self.view_is) (rw (← c.other.view_is)
          (one_is_new _ g.K.AsBytes.bytes _ g.L.AsBytes.bytes g.met.K.NoPrefixesBytes.no_prefixes g.met.L.NoPrefixesBytes.no_prefixes
          c.args.pair c.self.inside.map c.args.other_pair c.other.inside.map
          c.as_key.ensures c.self.invariant c.as_key-2.ensures c.other.invariant w.in-Err.error w.in-Err.ensures.refused)))
    ]
