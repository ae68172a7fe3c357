use Rattle.std.specs.BTreeSet.{contains}
use Rattle.std.specs.FinMap as map
use Rattle.art_parts.specs.contracts.names.InnerPtrOrd.TheImpl as derived
use Rattle.art_model.specs.Prelude.{node_at}
use Rattle.art_checking.specs.Untried.{untried}
use Rattle.art_checking.proofs.LeastDescents.{IsDown}
use Rattle.art_checking.proofs.well_formed.check.least_leaf.Given as goal

abbrev pub invariant-down : goal.invariant-down
invariant-down g l = IsDown (node_at l.store) (λ p. contains derived.cmp-value.it l.passed p) l.fn.name l.name

abbrev pub decreases-down : goal.decreases-down
decreases-down g l = untried (λ p. contains derived.cmp-value.it l.passed p) (map.keys l.store.inners)
