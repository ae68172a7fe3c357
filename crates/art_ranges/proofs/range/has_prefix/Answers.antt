use Rattle.std.proofs.Common.{rules, ◌+◌, ◌≤◌, length, ap, refl, sym, subst, arith}
use Rattle.art_model.specs.Pairs.{of_key}
use Rattle.art_reading.specs.EndNodes.{IsAt}
use Rattle.art_reading.proofs.Counters.{count_both}
use Rattle.art_reading.proofs.EndNodes.{inside, part_there}
use Rattle.art_reading.proofs.Guides.{guide_is, guide_there}
use Rattle.art_reading.proofs.Prefixes.{goes_read, goes_stored, long_enough}
use Rattle.art_ranges.proofs.range.has_prefix.Goals as goal

pub shared_after-requires : goal.shared_after-requires
shared_after-requires g c =
    let (pairs, layout, by) = c.requires.root in
    inside by (c.requires.at pairs layout by).1

pub returns-then-len-clause-goes : goal.returns-then-len-clause-goes
returns-then-len-clause-goes g c pairs layout by path at =
    goes_stored (part_there by at refl) c.requires.proper c.requires.node (g.B.KeyBytes.key c.args.bytes.now)
    c.prefix_len-len.ensures c.if-len.true c.read_prefix.ensures.stored c.shared_after.ensures.shared

pub guide_from-read_from-requires : goal.guide_from-read_from-requires
guide_from-read_from-requires g c =
    rw c.again-again.ensures (
      search rules,
      (
        c.requires.root,
        (
          λ pairs layout by.
              let (path, at) = c.requires.at pairs layout by in (
                path,
                subst (λ n. IsAt (of_key g.K.AsBytes.bytes) g.row.P (g.B.KeyBytes.key c.args.bytes.now) layout path n c.args.depth)
                    (sym c.to_opaque-opaque.ensures) at,
              ),
          c.requires.guide,
        ),
      ),
    )

pub leaf_at-leaf-requires : goal.leaf_at-leaf-requires
leaf_at-leaf-requires g c =
    let (pairs, layout, by) = c.requires.root in
    (search rules, guide_there by (c.guide_from-read_from.ensures.guide pairs layout by))

pub overflow_add-depth : goal.overflow_add-depth
overflow_add-depth g c =
    let (pairs, layout, by) = c.requires.root in
    let (path, at) = c.requires.at pairs layout by in
    let long = long_enough (part_there by at refl) c.requires.proper c.requires.node c.leaf_at-leaf.result.now
    (guide_is by (rw c.again-again.ensures at c.guide_from-read_from.ensures.guide pairs layout by) at (sym c.leaf_at-leaf.ensures)) in
    let t = ap length c.as_bytes.ensures in
    omega (arith, c.prefix_len-len.ensures, c.as_bytes.type_inv)

pub slice_bounds-shared_after-end : goal.slice_bounds-shared_after-end
slice_bounds-shared_after-end g c =
    let (pairs, layout, by) = c.requires.root in
    let (path, at) = c.requires.at pairs layout by in
    let long = long_enough (part_there by at refl) c.requires.proper c.requires.node c.leaf_at-leaf.result.now
    (guide_is by (rw c.again-again.ensures at c.guide_from-read_from.ensures.guide pairs layout by) at (sym c.leaf_at-leaf.ensures)) in
    let t = ap length c.as_bytes.ensures in
    let fits : c.args.depth + c.prefix_len-len.result ≤ length c.as_bytes.result.now = omega (arith, c.prefix_len-len.ensures) in
    fits

pub shared_after-requires-2 : goal.shared_after-requires-2
shared_after-requires-2 g c =
    let (pairs, layout, by) = c.requires.root in
    inside by (c.requires.at pairs layout by).1

pub returns-clause-guide : goal.returns-clause-guide
returns-clause-guide g c = rw c.again-again.ensures at c.guide_from-read_from.ensures.guide

pub returns-clause-goes : goal.returns-clause-goes
returns-clause-goes g c pairs layout by path at =
    goes_read (part_there by at refl) c.requires.proper c.requires.node c.leaf_at-leaf.result.now
    (guide_is by (rw c.again-again.ensures at c.guide_from-read_from.ensures.guide pairs layout by) at (sym c.leaf_at-leaf.ensures))
    (g.B.KeyBytes.key c.args.bytes.now) refl c.prefix_len-len.ensures c.as_bytes.ensures refl refl c.shared_after-2.ensures.shared

pub returns-then-len-clause-visits : goal.returns-then-len-clause-visits
returns-then-len-clause-visits g c = record { number = 0; counted = omega arith; is_number = omega arith }

pub returns-clause-visits : goal.returns-clause-visits
returns-clause-visits g c =
    let found = c.guide_from-read_from.ensures.visits in
    let known = found.is_number in
    record { number = found.number + 1; counted = count_both _ _ _ found.counted c.count_one.ensures; is_number = omega arith }
