use Rattle.std.proofs.Common.{rules, ◌+◌, ◌≤◌, length, drop, ap, refl, sym, subst, arith}
use Rattle.art_model.specs.Pairs.{of_key}
use Rattle.art_reading.specs.EndNodes.{IsAt}
use Rattle.art_reading.specs.Readings.{levels}
use Rattle.art_reading.proofs.Prefixes.{is_full, long_enough, matches_read, parts_read}
use Rattle.art_reading.proofs.EndNodes.{inside, part_there}
use Rattle.art_reading.proofs.Guides.{guide_is, guide_there}
use Rattle.art_reading.proofs.end_node.match_long_prefix.Goals as goal

pub guide_from-read_from-requires : goal.guide_from-read_from-requires
guide_from-read_from-requires g c =
    let (path, at) = c.requires.at in (
      search rules,
      (
        c.requires.root,
        (
          λ pairs layout by. (
            path,
            subst (λ n. IsAt (of_key g.K.AsBytes.bytes) g.row.P (g.B.KeyBytes.key c.args.key) layout path n c.args.depth)
                (sym c.to_opaque-opaque.ensures) (at pairs layout by),
          ),
          c.requires.guide,
        ),
      ),
    )

pub leaf_at-leaf-requires : goal.leaf_at-leaf-requires
leaf_at-leaf-requires g c =
    let (pairs, layout, by) = c.requires.root in
    (search rules, guide_there by (c.guide_from-read_from.ensures.guide pairs layout by))

pub overflow_add-prefix : goal.overflow_add-prefix
overflow_add-prefix g c =
    let (pairs, layout, by) = c.requires.root in
    let at = c.requires.at.1 pairs layout by in
    let long = long_enough (part_there by at refl) c.requires.inner c.requires.node c.leaf_at-leaf.result.now
    (guide_is by (c.guide_from-read_from.ensures.guide pairs layout by) at (sym c.leaf_at-leaf.ensures)) in
    let t = ap length c.as_bytes.ensures in
    omega (arith, c.prefix_len-len.ensures, c.as_bytes.type_inv)

pub slice_bounds-prefix-end : goal.slice_bounds-prefix-end
slice_bounds-prefix-end g c =
    let (pairs, layout, by) = c.requires.root in
    let at = c.requires.at.1 pairs layout by in
    let long = long_enough (part_there by at refl) c.requires.inner c.requires.node c.leaf_at-leaf.result.now
    (guide_is by (c.guide_from-read_from.ensures.guide pairs layout by) at (sym c.leaf_at-leaf.ensures)) in
    let t = ap length c.as_bytes.ensures in
    let fits : c.args.depth + c.prefix_len-len.result ≤ length c.as_bytes.result.now = omega (arith, c.prefix_len-len.ensures) in
    fits

pub first_below_visiting-more-requires : goal.first_below_visiting-more-requires
first_below_visiting-more-requires g c =
    let (pairs, layout, by) = c.requires.root in
    let at = c.requires.at.1 pairs layout by in
    (search rules, (at.node, is_full (part_there by at refl) c.requires.inner c.to_opaque-opaque.ensures))

pub returns-in-Ok-clause-compared : goal.returns-in-Ok-clause-compared
returns-in-Ok-clause-compared g c path pairs layout by at =
    matches_read (part_there by at refl) c.requires.inner c.requires.node c.leaf_at-leaf.result.now
    (guide_is by (c.guide_from-read_from.ensures.guide pairs layout by) at (sym c.leaf_at-leaf.ensures))
    (g.B.KeyBytes.key c.args.key) refl c.prefix_len-len.ensures c.as_bytes.ensures refl
    (ap (drop c.args.depth) c.guide_from-read_from.ensures.same) c.in-Ok.ensures.len c.in-Ok.ensures.front

pub returns-clause-compared : goal.returns-clause-compared
returns-clause-compared g c path pairs layout by at =
    parts_read (part_there by at refl) c.requires.inner c.requires.node c.leaf_at-leaf.result.now
    (guide_is by (c.guide_from-read_from.ensures.guide pairs layout by) at (sym c.leaf_at-leaf.ensures))
    (g.B.KeyBytes.key c.args.key) refl c.prefix_len-len.ensures c.as_bytes.ensures refl (ap (drop c.args.depth) c.guide_from-read_from.ensures.same)
    (let long = c.requires.long in let l = c.prefix_len-len.ensures in omega arith) c.in-Err.ensures.shared c.in-Err.ensures.byte refl
    (c.first_below_visiting-more.ensures.leaf at.node (is_full (part_there by at refl) c.requires.inner c.to_opaque-opaque.ensures))

pub match_prefix-requires : goal.match_prefix-requires
match_prefix-requires g c =
    let (pairs, layout, by) = c.requires.root in
    let within = inside by (c.requires.at.1 pairs layout by) in
    let same = ap length c.guide_from-read_from.ensures.same in
    omega arith

-- ---- the counter
pub returns-in-Ok-clause-visits : goal.returns-in-Ok-clause-visits
returns-in-Ok-clause-visits g c =
    let known = c.guide_from-read_from.ensures.visits.is_number in
    let found = c.guide_from-read_from.ensures.visits.counted in
    let seen = c.count_one.ensures in
    omega arith

pub returns-clause-visits : goal.returns-clause-visits
returns-clause-visits g c =
    let known = c.guide_from-read_from.ensures.visits.is_number in
    let found = c.guide_from-read_from.ensures.visits.counted in
    let seen = c.count_one.ensures in
    let least = c.first_below_visiting-more.ensures.visits in
    let same = ap (levels c.args.store.now) c.to_opaque-opaque.ensures in
    omega arith
