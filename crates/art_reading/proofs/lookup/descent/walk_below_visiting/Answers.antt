use Rattle.std.proofs.Common.{◌+◌, ap, arith, refl, rules, sym, ◌∙◌}
use Rattle.art_model.specs.Prelude.{child_at}
use Rattle.art_model.proofs.stores.Shown.{inner_met, leaf_named, shown_met}
use Rattle.art_reading.proofs.PrefixDescents.{at_end, at_gap, at_leaf, goes_down, way_begins}
use Rattle.art_reading.proofs.Counters.{count_both}
use Rattle.art_reading.proofs.Descents.{stands_there}
use Rattle.art_reading.proofs.Endings.{byte_is, byte_within, past}
use Rattle.art_reading.proofs.LeftOnWay.{end_left, gap_left, leaf_left}
use Rattle.art_reading.proofs.Levels.{lower}
use Rattle.art_reading.proofs.PartNodes.{some_there}
use Rattle.art_reading.proofs.lookup.descent.walk_below_visiting.Goals as goal

pub down-init : goal.down-init
down-init g c = record {
  within = omega arith;
  same = refl;
  readings = record {
    number = 0;
    counted = omega arith;
    is_number = λ pairs layout by. record { way = way_begins _ by c.new-steps.ensures; at_least = omega arith; at_most = omega arith };
  };
}

pub returns-in_default-clause-end : goal.returns-in_default-clause-end
returns-in_default-clause-end g c pairs layout by =
    let way = (c.down.invariant.readings.is_number pairs layout by).way in
    let there = stands_there by way.descent.at in
    let (x, is) = leaf_named c.args.store.now c.in_default.field-0 way.descent.at.node (there.named ∙ sym c.in_default.ensures.name) there.holds in
    rw c.path.ensures (at_leaf _ way _ x is)

pub returns-in_default-clause-visits : goal.returns-in_default-clause-visits
returns-in_default-clause-visits g c =
    let before = c.down.invariant.readings in
    record {
      number = before.number;
      counted = before.counted;
      is_number = λ pairs layout by.
          let read = before.is_number pairs layout by in
          let there = stands_there by read.way.descent.at in
          let (x, is) = leaf_named c.args.store.now c.in_default.field-0 read.way.descent.at.node (there.named ∙ sym c.in_default.ensures.name) there.holds in
          let last = leaf_left read.way.descent (g.B.KeyBytes.key c.args.prefix.now) _ x is in
          let seen = read.at_least in
          let few = read.at_most in
          (omega arith, omega arith);
    }

pub inner_at-node-requires : goal.inner_at-node-requires
inner_at-node-requires g c =
    let (pairs, layout, by) = c.requires in
    let at = (c.down.invariant.readings.is_number pairs layout by).way.descent.at in
    (search rules, (search rules, some_there _ (inner_met (stands_there by at) c.in-Inner.ensures.proper c.in-Inner.ensures.name)))

pub returns-in_default-byte_after-clause-end : goal.returns-in_default-byte_after-clause-end
returns-in_default-byte_after-clause-end g c pairs layout by =
    let way = (c.down.invariant.readings.is_number pairs layout by).way in
    let at = shown_met (stands_there by way.descent.at) c.in-Inner.ensures.proper c.in-Inner.ensures.name (sym c.inner_at-node.ensures.view) in
    rw c.path-in_default-byte_after.ensures (at_end _ way at c.prefix_len-prefix_len.ensures
    (past c.down.invariant.same _ c.byte_after.ensures.byte c.in_default-byte_after.is))

pub returns-in_default-byte_after-clause-visits : goal.returns-in_default-byte_after-clause-visits
returns-in_default-byte_after-clause-visits g c =
    let before = c.down.invariant.readings in
    record {
      number = before.number + 1;
      counted = count_both _ _ _ before.counted c.count_one.ensures;
      is_number = λ pairs layout by.
          let read = before.is_number pairs layout by in
          let at = shown_met (stands_there by read.way.descent.at) c.in-Inner.ensures.proper c.in-Inner.ensures.name (sym c.inner_at-node.ensures.view) in
          let len = c.prefix_len-prefix_len.ensures in
          let ended = past c.down.invariant.same _ c.byte_after.ensures.byte c.in_default-byte_after.is in
          let last = end_left read.way.descent (g.B.KeyBytes.key c.args.prefix.now) at (omega arith) in
          let seen = read.at_least in
          let few = read.at_most in
          (omega arith, omega arith);
    }

pub returns-in_err-child-clause-end : goal.returns-in_err-child-clause-end
returns-in_err-child-clause-end g c pairs layout by =
    let way = (c.down.invariant.readings.is_number pairs layout by).way in
    let at = shown_met (stands_there by way.descent.at) c.in-Inner.ensures.proper c.in-Inner.ensures.name (sym c.inner_at-node.ensures.view) in
    let within = byte_within c.down.invariant.same _ c.byte_after.ensures.byte c.in-Some.is in
    let is = byte_is c.down.invariant.same _ c.byte_after.ensures.byte c.in-Some.is in
    rw c.from_residual.ensures (at_gap _ way at c.prefix_len-prefix_len.ensures within is (sym c.lookup_child.ensures ∙ c.in_err-child.was))

pub returns-in_err-child-clause-visits : goal.returns-in_err-child-clause-visits
returns-in_err-child-clause-visits g c =
    let before = c.down.invariant.readings in
    record {
      number = before.number + 1;
      counted = count_both _ _ _ before.counted c.count_one.ensures;
      is_number = λ pairs layout by.
          let read = before.is_number pairs layout by in
          let at = shown_met (stands_there by read.way.descent.at) c.in-Inner.ensures.proper c.in-Inner.ensures.name (sym c.inner_at-node.ensures.view) in
          let is = byte_is c.down.invariant.same _ c.byte_after.ensures.byte c.in-Some.is in
          let last = gap_left read.way.descent (g.B.KeyBytes.key c.args.prefix.now) at
          (rw c.prefix_len-prefix_len.ensures at (ap (child_at _) is ∙ sym c.lookup_child.ensures ∙ c.in_err-child.was)) in
          let seen = read.at_least in
          let few = read.at_most in
          rw c.from_residual.ensures (omega arith, omega arith);
    }

pub down-preserved : goal.down-preserved
down-preserved g c =
    let before = c.down.invariant.readings in
    let within = byte_within c.down.invariant.same _ c.byte_after.ensures.byte c.in-Some.is in
    let is = byte_is c.down.invariant.same _ c.byte_after.ensures.byte c.in-Some.is in
    record {
      within = omega arith;
      same = c.byte_after.ensures.same ∙ c.down.invariant.same;
      readings = record {
        number = before.number + 1;
        counted = count_both _ _ _ before.counted c.count_one.ensures;
        is_number = λ pairs layout by.
            let read = before.is_number pairs layout by in
            let way = read.way in
            let d = way.descent in
            let at = shown_met (stands_there by d.at) c.in-Inner.ensures.proper c.in-Inner.ensures.name (sym c.inner_at-node.ensures.view) in
            let there = sym c.lookup_child.ensures ∙ c.in_ok-child.was in
            let (next, one) = goes_down _ way at c.prefix_len-prefix_len.ensures within is there in
            let less = lower by d.at.path d.at.node d.at.whole d.at.named d.place d.radix _ _ at _ _ there in
            let seen = read.at_least in
            let few = read.at_most in
            rw c.step_down.ensures (record { way = next; at_least = omega arith; at_most = omega arith });
      };
    }
