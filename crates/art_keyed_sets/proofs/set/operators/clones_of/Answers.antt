use Rattle.art_keyed_sets.proofs.SetClones.{one_added}
use Rattle.art_keyed_sets.proofs.set.operators.clones_of.Goals as goal

pub loop-key-preserved : goal.loop-key-preserved
loop-key-preserved g c =
    one_added g.K.AsBytes.bytes g.K.Clone.is_clone c.loop-key.yielded c.loop-key.set c.insert.new.self c.in-Some.key c.in_ok-clone.field-0 c.loop-key.invariant
    c.in_ok-clone.ensures.cases c.in_ok-insert.ensures.keys
