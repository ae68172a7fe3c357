use Rattle.std.proofs.Common.{subst, ◌∙◌}
use Rattle.art_map.specs.MapCalls.{ChangesPairs}
use Rattle.art_changing.specs.MapPairs.{pairs_at}
use Rattle.art_map.proofs.Changed.{all_changed}
use Rattle.art_iterating.proofs.Ranges.{walk_pairs}
use Rattle.art_map.proofs.map.ByteMap.for_each_mut_by_ref.Goals as goal

pub returns-clause-pairs : goal.returns-clause-pairs
returns-clause-pairs g c =
    let new = c.change_pairs.new in
    let walk = c.whole_walk-walk.ensures in
    subst (λ pairs. ChangesPairs g.F.FnMut c.args.f.now pairs (pairs_at new.store c.self.inside.root) new.f) c.self.view_is
    (all_changed c.change_pairs.ensures.changed (walk_pairs walk.walk ∙ walk.pairs))
