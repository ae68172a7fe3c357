use Rattle.std.proofs.Common.{ap, ◌∙◌, length}
use Rattle.art_reading.proofs.Rests.{lengths_tell, rests_same}
use Rattle.art_reading.proofs.lookup.matching.PrefixMatchBehavior.matches_leaf_key.Goals as goal

pub returns-then-leaf_bytes-key_bytes : goal.returns-then-leaf_bytes-key_bytes
returns-then-leaf_bytes-key_bytes g c = (
  λ yes. absurd cc,
  λ same. absurd (lengths_tell c.args.self c.args.depth _ _ (λ e. c.if-leaf_bytes-key_bytes.true (ap length c.as_bytes-leaf_bytes.ensures ∙ e)) same),
)

pub returns : goal.returns
returns g c = rw (← c.as_bytes-leaf_bytes.ensures) (rests_same _ _ c.compared_from-from.ensures.value c.are_equal.ensures)
