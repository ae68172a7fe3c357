use Rattle.std.proofs.Common.{arith, ap, refl, rules, sym, ◌∙◌}
use Rattle.art_model.specs.Prelude.{child_at}
use Rattle.art_model.proofs.stores.Shown.{inner_met, leaf_named, shown_met}
use Rattle.art_reading.proofs.EndNodes.{inside}
use Rattle.art_reading.proofs.Endings.{byte_is, byte_within, past}
use Rattle.art_reading.proofs.Guides.{by_places, by_there, gap_ends, goes_below, leaf_ends, short_ends}
use Rattle.art_reading.proofs.Levels.{lower, under_root}
use Rattle.art_reading.proofs.PartNodes.{some_there}
use Rattle.art_reading.proofs.guide.walk_by_places.Goals as goal

pub down-init : goal.down-init
down-init g c = record {
  few =
      let (pairs, layout, by) = c.requires.root in
      let (path, d) = c.requires.at pairs layout by in
      let l = under_root by d.frames d.node d.whole d.named in
      omega arith;
  within = let (pairs, layout, by) = c.requires.root in inside by (c.requires.at pairs layout by).1;
  same = refl;
  way = λ pairs layout by. by_places (c.requires.at pairs layout by).1;
}

pub returns-in_default-clause-all : goal.returns-in_default-clause-all
returns-in_default-clause-all g c pairs layout by =
    let way = c.down.invariant.way pairs layout by in
    let there = by_there by way in
    let (x, is) = leaf_named c.args.store.now c.in_default.field-0 way.node (there.named ∙ sym c.in_default.ensures.name) there.holds in
    leaf_ends way _ x is

pub inner_at-node-requires : goal.inner_at-node-requires
inner_at-node-requires g c =
    let (pairs, layout, by) = c.requires.root in
    let there = by_there by (c.down.invariant.way pairs layout by) in
    (search rules, (search rules, some_there _ (inner_met there c.in-Inner.ensures.proper c.in-Inner.ensures.name)))

pub returns-in_default-byte_after-clause-all : goal.returns-in_default-byte_after-clause-all
returns-in_default-byte_after-clause-all g c pairs layout by =
    let way = c.down.invariant.way pairs layout by in
    let at = shown_met (by_there by way) c.in-Inner.ensures.proper c.in-Inner.ensures.name (sym c.inner_at-node.ensures.view) in
    short_ends way at c.prefix_len-prefix_len.ensures
    (past c.down.invariant.same _ c.byte_after.ensures.byte c.in_default-byte_after.is)

pub returns-in_default-lookup_child-clause-all : goal.returns-in_default-lookup_child-clause-all
returns-in_default-lookup_child-clause-all g c pairs layout by =
    let is = byte_is c.down.invariant.same _ c.byte_after.ensures.byte c.in-Some.is in
    let way = c.down.invariant.way pairs layout by in
    let at = shown_met (by_there by way) c.in-Inner.ensures.proper c.in-Inner.ensures.name (sym c.inner_at-node.ensures.view) in
    gap_ends way at c.prefix_len-prefix_len.ensures (ap (child_at _) is ∙ sym c.lookup_child.ensures ∙ c.in_default-lookup_child.is)

pub down-preserved : goal.down-preserved
down-preserved g c =
    let is = byte_is c.down.invariant.same _ c.byte_after.ensures.byte c.in-Some.is in
    let there = ap (child_at _) is ∙ sym c.lookup_child.ensures ∙ c.in-Some-lookup_child.is in
    record {
      few =
          let (pairs, layout, by) = c.requires.root in
          let way = c.down.invariant.way pairs layout by in
          let at = shown_met (by_there by way) c.in-Inner.ensures.proper c.in-Inner.ensures.name (sym c.inner_at-node.ensures.view) in
          let less = lower by way.path way.node way.whole way.named _ way.radix _ _ at _ _ there in
          omega arith;
      within =
          let less = byte_within c.down.invariant.same _ c.byte_after.ensures.byte c.in-Some.is in
          omega arith;
      same = c.byte_after.ensures.same ∙ c.down.invariant.same;
      way = λ pairs layout by.
          let way = c.down.invariant.way pairs layout by in
          let at = shown_met (by_there by way) c.in-Inner.ensures.proper c.in-Inner.ensures.name (sym c.inner_at-node.ensures.view) in
          goes_below way at c.prefix_len-prefix_len.ensures there;
    }
