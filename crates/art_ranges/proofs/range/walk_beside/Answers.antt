use Rattle.std.proofs.Common.{rules, ◌+◌, length, ap, arith, refl, subst, sym, ◌∙◌}
use Rattle.std.proofs.lemmas.Bool.{false≢true}
use Rattle.art_inner.specs.Beside.{IsNextTo}
use Rattle.art_inner.specs.Inner.{child_at}
use Rattle.art_inner.specs.Views.{ref_view}
use Rattle.art_model.proofs.stores.Shown.{inner_met, leaf_named, shown_met}
use Rattle.art_parts.specs.Keys.{IsFront}
use Rattle.art_reading.specs.PathSteps.{path_of}
use Rattle.art_ranges.proofs.NeighbourDescents.{at_on, beside_end, beside_gap, beside_leaf, beside_off, goes_on, has_child, on_key_start, onto_child}
use Rattle.art_reading.proofs.Counters.{count_both}
use Rattle.art_reading.proofs.Descents.{front, stands_there}
use Rattle.art_reading.proofs.Endings.{byte_is, byte_within, past}
use Rattle.art_reading.proofs.LeftOnWay.{end_left, gap_left, leaf_left, off_left}
use Rattle.art_reading.proofs.Levels.{guide_most, lower}
use Rattle.art_reading.proofs.PartNodes.{some_there}
use Rattle.art_ranges.proofs.range.walk_beside.Goals as goal

pub down-init : goal.down-init
down-init g c = record {
  within = omega arith;
  same = refl;
  readings = record {
    number = 0;
    counted = omega arith;
    is_number = λ pairs layout by. record { on_key = on_key_start by; at_least = omega arith; at_most = omega arith };
  };
  guide = λ pairs layout by. tt;
}

pub returns-in_default-clause-beside : goal.returns-in_default-clause-beside
returns-in_default-clause-beside g c pairs layout by =
    let o = (c.down.invariant.readings.is_number pairs layout by).on_key in
    let there = stands_there by o.descent.at in
    let (x, is) = leaf_named c.args.store.now c.in_default.field-0 o.descent.at.node (there.named ∙ sym c.in_default.ensures.name) there.holds in
    beside_leaf o _ x is

pub inner_at-node-requires : goal.inner_at-node-requires
inner_at-node-requires g c =
    let (pairs, layout, by) = c.requires in
    let at = (c.down.invariant.readings.is_number pairs layout by).on_key.descent.at in
    (search rules, (search rules, some_there _ (inner_met (stands_there by at) c.in-Inner.ensures.proper c.in-Inner.ensures.name)))

pub has_prefix-requires : goal.has_prefix-requires
has_prefix-requires g c =
    rw c.down.invariant.same (
      search rules,
      (
        search rules,
        (
          c.requires,
          (
            c.in-Inner.ensures.proper,
            (
              sym c.inner_at-node.ensures.view,
              (
                λ pairs layout by.
                    let o = (c.down.invariant.readings.is_number pairs layout by).on_key in
                    (path_of o.descent.at.path, at_on by o c.in-Inner.ensures.name),
                c.down.invariant.guide,
              ),
            ),
          ),
        ),
      ),
    )

pub returns-then-not-has_prefix-clause-beside : goal.returns-then-not-has_prefix-clause-beside
returns-then-not-has_prefix-clause-beside g c pairs layout by =
    let o = (c.down.invariant.readings.is_number pairs layout by).on_key in
    let at = shown_met (stands_there by o.descent.at) c.in-Inner.ensures.proper c.in-Inner.ensures.name (sym c.inner_at-node.ensures.view) in
    let told = rw c.down.invariant.same at c.has_prefix.ensures.goes in
    beside_off o at (λ goes.
    let on = (told pairs layout by (path_of o.descent.at.path) (at_on by o c.in-Inner.ensures.name)).1 ((goes_on o at).1 goes) in
    absurd (false≢true (sym c.if-not-has_prefix.true ∙ on)))

pub byte_after-requires : goal.byte_after-requires
byte_after-requires g c =
    let within = c.down.invariant.within in
    let same = ap length (c.has_prefix.ensures.same ∙ c.down.invariant.same) in
    omega arith

pub returns-in_default-byte_after-clause-beside : goal.returns-in_default-byte_after-clause-beside
returns-in_default-byte_after-clause-beside g c pairs layout by =
    let o = (c.down.invariant.readings.is_number pairs layout by).on_key in
    let at = shown_met (stands_there by o.descent.at) c.in-Inner.ensures.proper c.in-Inner.ensures.name (sym c.inner_at-node.ensures.view) in
    beside_end o at c.prefix_len-prefix_len.ensures
    (past (c.has_prefix.ensures.same ∙ c.down.invariant.same) _ c.byte_after.ensures.byte c.in_default-byte_after.is)

pub beside-requires : goal.beside-requires
beside-requires g c =
    let (pairs, layout, by) = c.requires in
    let o = (c.down.invariant.readings.is_number pairs layout by).on_key in
    let at = shown_met (stands_there by o.descent.at) c.in-Inner.ensures.proper c.in-Inner.ensures.name (sym c.inner_at-node.ensures.view) in
    let gap = sym c.lookup_child.ensures ∙ c.in_default-lookup_child.is in
    (search rules, (has_child o at, gap))

pub returns-in_default-lookup_child-clause-beside : goal.returns-in_default-lookup_child-clause-beside
returns-in_default-lookup_child-clause-beside g c pairs layout by =
    let o = (c.down.invariant.readings.is_number pairs layout by).on_key in
    let at = shown_met (stands_there by o.descent.at) c.in-Inner.ensures.proper c.in-Inner.ensures.name (sym c.inner_at-node.ensures.view) in
    let told = rw c.down.invariant.same at c.has_prefix.ensures.goes in
    let on = (told pairs layout by (path_of o.descent.at.path) (at_on by o c.in-Inner.ensures.name)).0 c.if-not-has_prefix.false in
    let same = c.has_prefix.ensures.same ∙ c.down.invariant.same in
    let byte = byte_is same _ c.byte_after.ensures.byte c.in-Some.is in
    beside_gap o at c.prefix_len-prefix_len.ensures (byte_within same _ c.byte_after.ensures.byte c.in-Some.is) ((goes_on o at).0 on)
    (ap (child_at _) byte ∙ sym c.lookup_child.ensures ∙ c.in_default-lookup_child.is)
    (subst (λ b. IsNextTo (ref_view c.inner_at-node.result).children b c.beside.result) (sym byte) c.beside.ensures.beside)

pub down-preserved : goal.down-preserved
down-preserved g c =
    let before = c.down.invariant.readings in
    let prefix = c.has_prefix.ensures.visits in
    let cost = prefix.is_number in
    let same = c.has_prefix.ensures.same ∙ c.down.invariant.same in
    record {
      within = let less = byte_within same _ c.byte_after.ensures.byte c.in-Some.is in omega arith;
      same = c.byte_after.ensures.same ∙ same;
      guide = rw c.down.invariant.same at c.has_prefix.ensures.guide;
      readings = record {
        number = before.number + 1 + prefix.number;
        counted = count_both _ _ _ (count_both _ _ _ before.counted c.count_one.ensures) prefix.counted;
        is_number = λ pairs layout by.
            let read = before.is_number pairs layout by in
            let o = read.on_key in
            let d = o.descent in
            let at = shown_met (stands_there by d.at) c.in-Inner.ensures.proper c.in-Inner.ensures.name (sym c.inner_at-node.ensures.view) in
            let told = rw c.down.invariant.same at c.has_prefix.ensures.goes in
            let on = (told pairs layout by (path_of d.at.path) (at_on by o c.in-Inner.ensures.name)).0 c.if-not-has_prefix.false in
            let byte = byte_is same _ c.byte_after.ensures.byte c.in-Some.is in
            let there = ap (child_at _) byte ∙ sym c.lookup_child.ensures ∙ c.in-Some-lookup_child.is in
            let (next, one) = onto_child o at c.prefix_len-prefix_len.ensures
            (byte_within same _ c.byte_after.ensures.byte c.in-Some.is) ((goes_on o at).0 on) there in
            let less = lower by d.at.path d.at.node d.at.whole d.at.named d.place d.radix _ _ at _ _ there in
            let seen = read.at_least in
            let few = read.at_most in
            record { on_key = next; at_least = omega arith; at_most = omega arith };
      };
    }

-- ---- the counter
pub returns-in_default-clause-visits : goal.returns-in_default-clause-visits
returns-in_default-clause-visits g c =
    let before = c.down.invariant.readings in
    let most = guide_most c.args.store.now c.args.root c.down.guide in
    let (pairs, layout, by) = c.requires in
    let few = (before.is_number pairs layout by).at_most in
    record {
      number = before.number;
      counted = before.counted;
      is_number = (
        omega arith,
        λ pairs layout by.
            let read = before.is_number pairs layout by in
            let d = read.on_key.descent in
            let there = stands_there by d.at in
            let (x, is) = leaf_named c.args.store.now c.in_default.field-0 d.at.node (there.named ∙ sym c.in_default.ensures.name) there.holds in
            let last = leaf_left d (g.B.KeyBytes.key c.args.bytes.now) _ x is in
            let seen = read.at_least in
            omega arith,
      );
    }

pub returns-then-not-has_prefix-clause-visits : goal.returns-then-not-has_prefix-clause-visits
returns-then-not-has_prefix-clause-visits g c =
    let before = c.down.invariant.readings in
    let prefix = c.has_prefix.ensures.visits in
    let cost = prefix.is_number in
    let most = guide_most c.args.store.now c.args.root c.has_prefix.new.guide in
    let (pairs, layout, by) = c.requires in
    let few = (before.is_number pairs layout by).at_most in
    record {
      number = before.number + 1 + prefix.number;
      counted = count_both _ _ _ (count_both _ _ _ before.counted c.count_one.ensures) prefix.counted;
      is_number = (
        omega arith,
        λ pairs layout by.
            let read = before.is_number pairs layout by in
            let o = read.on_key in
            let at = shown_met (stands_there by o.descent.at) c.in-Inner.ensures.proper c.in-Inner.ensures.name (sym c.inner_at-node.ensures.view) in
            let told = rw c.down.invariant.same at c.has_prefix.ensures.goes in
            let off : IsFront (front o.descent at) (g.B.KeyBytes.key c.args.bytes.now) → ⊥ = λ goes.
            let on = (told pairs layout by (path_of o.descent.at.path) (at_on by o c.in-Inner.ensures.name)).1 ((goes_on o at).1 goes) in
            absurd (false≢true (sym c.if-not-has_prefix.true ∙ on)) in
            let last = off_left o.descent (g.B.KeyBytes.key c.args.bytes.now) at off in
            let seen = read.at_least in
            omega arith,
      );
    }

pub returns-in_default-byte_after-clause-visits : goal.returns-in_default-byte_after-clause-visits
returns-in_default-byte_after-clause-visits g c =
    let before = c.down.invariant.readings in
    let prefix = c.has_prefix.ensures.visits in
    let cost = prefix.is_number in
    let most = guide_most c.args.store.now c.args.root c.has_prefix.new.guide in
    let (pairs, layout, by) = c.requires in
    let few = (before.is_number pairs layout by).at_most in
    record {
      number = before.number + 1 + prefix.number;
      counted = count_both _ _ _ (count_both _ _ _ before.counted c.count_one.ensures) prefix.counted;
      is_number = (
        omega arith,
        λ pairs layout by.
            let read = before.is_number pairs layout by in
            let d = read.on_key.descent in
            let at = shown_met (stands_there by d.at) c.in-Inner.ensures.proper c.in-Inner.ensures.name (sym c.inner_at-node.ensures.view) in
            let len = c.prefix_len-prefix_len.ensures in
            let ended = past (c.has_prefix.ensures.same ∙ c.down.invariant.same) _ c.byte_after.ensures.byte c.in_default-byte_after.is in
            let last = end_left d (g.B.KeyBytes.key c.args.bytes.now) at (omega arith) in
            let seen = read.at_least in
            omega arith,
      );
    }

pub returns-in_default-lookup_child-clause-visits : goal.returns-in_default-lookup_child-clause-visits
returns-in_default-lookup_child-clause-visits g c =
    let before = c.down.invariant.readings in
    let prefix = c.has_prefix.ensures.visits in
    let cost = prefix.is_number in
    let most = guide_most c.args.store.now c.args.root c.has_prefix.new.guide in
    let (pairs, layout, by) = c.requires in
    let first = before.is_number pairs layout by in
    let few = first.at_most in
    let d = first.on_key.descent in
    let shown = shown_met (stands_there by d.at) c.in-Inner.ensures.proper c.in-Inner.ensures.name (sym c.inner_at-node.ensures.view) in
    let less = lower by d.at.path d.at.node d.at.whole d.at.named d.place d.radix _ _ shown _ _ c.beside.ensures.beside.there in
    record {
      number = before.number + 1 + prefix.number;
      counted = count_both _ _ _ (count_both _ _ _ before.counted c.count_one.ensures) prefix.counted;
      is_number = (
        omega arith,
        λ pairs layout by.
            let read = before.is_number pairs layout by in
            let at = shown_met (stands_there by read.on_key.descent.at) c.in-Inner.ensures.proper c.in-Inner.ensures.name (sym c.inner_at-node.ensures.view) in
            let byte = byte_is (c.has_prefix.ensures.same ∙ c.down.invariant.same) _ c.byte_after.ensures.byte c.in-Some.is in
            let last = gap_left read.on_key.descent (g.B.KeyBytes.key c.args.bytes.now) at
            (rw c.prefix_len-prefix_len.ensures at (ap (child_at _) byte ∙ sym c.lookup_child.ensures ∙ c.in_default-lookup_child.is)) in
            let seen = read.at_least in
            omega arith,
      );
    }
