use Rattle.std.proofs.Common.{◌∙◌, refl, ap, rules, arith}
use Rattle.std.specs.FinMap as map
use Rattle.art_reading.proofs.Iterators.{end_there}
use Rattle.art_copying.proofs.Freed.{leaf_less}
use Rattle.art_writing.proofs.FreedLeaves.{all_left, none_come, one_goes}
use Rattle.art_writing.proofs.deallocate.deallocate_leaves.Goals as goal

pub leaves-init : goal.leaves-init
leaves-init g c = record { left = λ names is. all_left is; promise = refl }

pub next-requires : goal.next-requires
next-requires g c =
    let (names, is) = c.requires in
    let left = c.leaves.invariant.left names is in
    (search rules, (left.rest, left.iterator_of))

pub returns-in_default-clause-freed : goal.returns-in_default-clause-freed
returns-in_default-clause-freed g c names is =
    let left = c.leaves.invariant.left names is in
    none_come left (c.in_default.ensures.leaf left.rest left.iterator_of)

pub free_leaf-requires : goal.free_leaf-requires
free_leaf-requires g c =
    let (names, is) = c.requires in
    let left = c.leaves.invariant.left names is in
    (search rules, end_there c.leaves.store left.rest c.in-Some.leaf left.iterator_of (c.in-Some.ensures.leaf left.rest left.iterator_of))

pub leaves-smaller : goal.leaves-smaller
leaves-smaller g c =
    let (names, is) = c.requires in
    let left = c.leaves.invariant.left names is in
    let less = leaf_less c.leaves.store.leaves c.in-Some.leaf
    (end_there c.leaves.store left.rest c.in-Some.leaf left.iterator_of (c.in-Some.ensures.leaf left.rest left.iterator_of)) in
    let now = ap map.len c.free_leaf.ensures.leaves in
    omega (arith, less, now)

pub leaves-preserved : goal.leaves-preserved
leaves-preserved g c = record {
  left = λ names is.
      let left = c.leaves.invariant.left names is in
      one_goes left is.segment.distinct c.in-Some.leaf (c.in-Some.ensures.leaf left.rest left.iterator_of)
      (c.in-Some.ensures.rest left.rest left.iterator_of) c.free_leaf.ensures.leaves c.free_leaf.ensures.inners;
  promise = c.free_leaf.ensures.promise ∙ c.leaves.invariant.promise;
}
