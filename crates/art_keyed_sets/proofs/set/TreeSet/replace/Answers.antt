use Rattle.std.proofs.Common.{sym, ◌∙◌}
use Rattle.std.proofs.lemmas.Bool.{true≢false}
use Rattle.art_keyed.proofs.Keyed.{key_never_in_conflict}
use Rattle.art_keyed_sets.proofs.KeptKeys.{key_replace_keeps}
use Rattle.art_keyed_sets.proofs.set.TreeSet.replace.Goals as goal
use Rattle.art_keyed_sets.proofs.set.TreeSet.replace.Goals.{in-Ok, in-Err-Memory}

pub unreachable-requires : goal.unreachable-requires
unreachable-requires g c =
    let refused = rw c.in-Err-Conflict.field-0-is at c.in-Err-Conflict.ensures.refused in
    true≢false (sym refused.2 ∙ key_never_in_conflict
    (Unit {0}) _ _ g.met.K.NoPrefixesBytes.no_prefixes c.args.key c.self.inside.set c.as_key.ensures c.self.invariant)

pub invariant_of-self : goal.invariant_of-self
invariant_of-self g c =
    elim c.match-replace.branch [
      | in-Ok w ↦ rw w.in-Ok.ensures.keys (key_replace_keeps _ g.K.AsBytes.bytes c.args.key c.self.inside.set c.as_key.ensures c.self.invariant)
      | in-Err-Memory w ↦ rw w.in-Err-Memory.ensures.kept c.self.invariant
    ]
