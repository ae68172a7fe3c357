use Rattle.std.proofs.Common.{sym, ◌∙◌}
use Rattle.std.proofs.lemmas.Bool.{true≢false}
use Rattle.art_keyed.proofs.Keyed.{never_in_conflict, put_keeps}
use Rattle.art_keyed.proofs.KeyedLaws.{other_keys_kept, put_counted}
use Rattle.art_keyed.proofs.map.TreeMap.insert_near.Goals as goal
use Rattle.art_keyed.proofs.map.TreeMap.insert_near.Goals.{in-Ok, in-Err-Memory}

pub unreachable-requires : goal.unreachable-requires
unreachable-requires g c =
    let refused = rw c.in-Err-Conflict.field-0-is at c.in-Err-Conflict.ensures.refused in
    true≢false (sym refused.3 ∙ never_in_conflict g.row.V.Denot _ _ g.met.K.NoPrefixesBytes.no_prefixes c.args.key c.self.inside.map
    c.as_key.ensures c.self.invariant)

pub invariant_of-self : goal.invariant_of-self
invariant_of-self g c =
    elim c.match-insert_near.branch [
      | in-Ok w ↦
          rw w.in-Ok.ensures.pairs (put_keeps g.row.V.Denot _ g.K.AsBytes.bytes c.args.key c.args.value c.self.inside.map
          c.as_key.ensures c.self.invariant)
      | in-Err-Memory w ↦ rw w.in-Err-Memory.ensures.kept c.self.invariant
    ]

pub returns-clause-other_keys : goal.returns-clause-other_keys
returns-clause-other_keys g c =
    elim c.match-insert_near.branch [
      | in-Ok w ↦ rw w.result-is (rw (← c.self.view_is)
          (other_keys_kept g.K.AsBytes.bytes _ g.met.K.NoPrefixesBytes.injective c.args.key c.self.inside.map c.insert_near.new.self
          c.as_key.ensures w.in-Ok.ensures.others))
      | in-Err-Memory w ↦ rw w.result-is tt
    ]

pub returns-clause-len : goal.returns-clause-len
returns-clause-len g c =
    elim c.match-insert_near.branch [
      | in-Ok w ↦ rw w.result-is (rw (← c.self.view_is)
          (put_counted g.K.AsBytes.bytes c.args.key c.args.value c.self.inside.map c.insert_near.new.self w.in-Ok.ensures.was_sorted
          w.in-Ok.replaced w.in-Ok.ensures.replaced w.in-Ok.ensures.pairs))
      | in-Err-Memory w ↦ rw w.result-is tt
    ]
