use Rattle.std.proofs.Common.{map}
use Rattle.art_keyed_sets.specs.SetClones.{AreAddedClones}
use Rattle.art_keyed_sets.proofs.set.operators.clones_of.Given as goal

abbrev pub invariant-loop-key : goal.invariant-loop-key
invariant-loop-key g l = AreAddedClones g.K.AsBytes.bytes g.K.Clone.is_clone (map (λ key. key.now) l.yielded) l.set
