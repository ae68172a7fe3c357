use Rattle.art_writing.proofs.Elsewhere.{placement_elsewhere, tree_stays}
use Rattle.art_test_support.proofs.PlacedOutside.{inner_elsewhere}
use Rattle.art_test_support.proofs.crowds.place_one.Goals as goal

pub returns-then-eq : goal.returns-then-eq
returns-then-eq g c =
    let (pairs, layout, by) = c.requires in (
      pairs,
      layout,
      tree_stays by (λ k used. placement_elsewhere c.args.store.now c.place_leaf.new.self c.with_no_siblings-leaf.result c.place_leaf.result
          c.place_leaf.ensures.placed c.place_leaf.ensures.fresh c.place_leaf.ensures.inners c.place_leaf.ensures.refused k used),
    )

pub returns : goal.returns
returns g c =
    let (pairs, layout, by) = c.requires in (
      pairs,
      layout,
      tree_stays by (λ k used. inner_elsewhere c.args.store.now c.place_inner.new.self _ c.place_inner.result
          c.place_inner.ensures.placed c.place_inner.ensures.fresh c.place_inner.ensures.leaves c.place_inner.ensures.refused k used),
    )
