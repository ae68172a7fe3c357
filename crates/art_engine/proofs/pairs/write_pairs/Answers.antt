use Rattle.std.proofs.Common.{rules, List, Some, ap}
use Rattle.std.specs.Option.{option_map}
use Rattle.art_parts.specs.Names.{leaf_name}
use Rattle.art_nodes.specs.Nodes.{Nodes}
use Rattle.art_parts.specs.declared.names.LeafPtr.{LeafPtr}
use Rattle.art_parts.specs.declared.names.OpaqueNodePtr.{OpaqueNodePtr}
use Rattle.art_model.specs.Layouts.{leaf_names}
use Rattle.art_model.specs.Lookups.{HasFirstLeaf, HasLastLeaf}
use Rattle.art_model.specs.Roots.{IsFullTree}
use Rattle.art_model.specs.Stores.{pair_of}
use Rattle.art_model.specs.Trees.{Tree}
use Rattle.art_model.proofs.leaves.Segments.{tree_segment}
use Rattle.art_reading.specs.Iterators.{IsIteratorOf}
use Rattle.art_engine.specs.KeptKeys.{IsLinkedTreeIn}
use Rattle.art_engine.proofs.Rows.{row_goes_on, rows_begin, rows_end}
use Rattle.art_engine.proofs.pairs.write_pairs.Goals as goal

-- the leaves of a tree, from the first to the last one
all_leaves : {K V : Type 0} (s : Nodes K V) (root : OpaqueNodePtr) (first last : LeafPtr) → IsLinkedTreeIn s root →
    ((layout : Tree OpaqueNodePtr (K × V)) → IsFullTree s root layout → HasFirstLeaf layout (leaf_name first)) →
    ((layout : Tree OpaqueNodePtr (K × V)) → IsFullTree s root layout → HasLastLeaf layout (leaf_name last)) →
    (names : List OpaqueNodePtr) × IsIteratorOf s (Some (first, last)) names
all_leaves s root first last (layout, full, linked) has_first has_last = (
  leaf_names layout,
  record {
    ends = ((has_first layout full).name_is, (has_last layout full).name_is);
    segment = tree_segment layout full.0.distinct linked;
  },
)

pub new-leaves-requires : goal.new-leaves-requires
new-leaves-requires g c = (
  search rules,
  all_leaves c.args.store.now c.in-Some.root _ _
      (rw c.in-Some.is at c.requires) c.minimum_unchecked-first.ensures c.maximum_unchecked-last.ensures,
)

pub loop-written-init : goal.loop-written-init
loop-written-init g c = (
  rw c.new-leaves.ensures (all_leaves c.args.store.now c.in-Some.root _ _
      (rw c.in-Some.is at c.requires) c.minimum_unchecked-first.ensures c.maximum_unchecked-last.ensures),
  rw c.in-Some.is (rows_begin g.row.P c.args.store.now c.args.order c.in-Some.root
      (g.W.Write.contents c.args.output.now) c.minimum_unchecked-first.result c.maximum_unchecked-last.result
      c.new-leaves.result c.new-leaves.ensures c.minimum_unchecked-first.ensures c.maximum_unchecked-last.ensures),
)

pub next_leaf-requires : goal.next_leaf-requires
next_leaf-requires g c = (search rules, c.loop-written.invariant.0)

pub returns-in_default-next_leaf : goal.returns-in_default-next_leaf
returns-in_default-next_leaf g c =
    rw c.in-Some.is (rows_end g.row.P c.args.store.now c.args.order c.in-Some.root c.loop-written.leaves c.next_leaf.new.leaves
    c.loop-written.written (g.W.Write.contents c.args.output.now)
    (g.W.Write.contents c.loop-written.output) (g.W.Write.contents c.writeln-in_default-next_leaf.new.self) c.writeln-in_default-next_leaf.result
    (rw c.in-Some.is at c.loop-written.invariant.1) (rw c.in_default-next_leaf.is at c.next_leaf.ensures.taken) c.writeln-in_default-next_leaf.ensures.bytes)

pub loop-written-preserved : goal.loop-written-preserved
loop-written-preserved g c = (
  c.in-Some-next_leaf.ensures.rest,
  λ pairs by. row_goes_on c.args.store.now c.loop-written.leaves c.next_leaf.new.leaves pairs c.loop-written.written (g.W.Write.contents c.args.output.now)
      (g.W.Write.contents c.loop-written.output) (g.W.Write.contents c.write_leaf.new.output) c.args.order c.in-Some-next_leaf.name
      (pair_of c.leaf_at.result.now)
      (c.loop-written.invariant.1 pairs by) c.in-Some-next_leaf.ensures.taken (ap (option_map pair_of) c.leaf_at.ensures) c.in_ok-write_leaf.ensures,
)
