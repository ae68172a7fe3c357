-- the words that proofs cite most, passed on from one place
pub use Rattle.art_parts.specs.Headers.{Prefix, header_of}
pub use Rattle.art_parts.specs.Kinds.{kind_capacity, kind_index, kind_least, larger_kind, smaller_kind}
pub use Rattle.art_parts.specs.LeafClones.{IsPairClone}
pub use Rattle.art_parts.specs.Names.{inner_cmp, inner_name, leaf_cmp, leaf_name}
pub use Rattle.art_parts.specs.declared.leaf.LeafNode.{LeafNode}
pub use Rattle.art_parts.specs.declared.names.InnerPtr.{InnerPtr}
pub use Rattle.art_parts.specs.declared.names.LeafPtr.{LeafPtr}
pub use Rattle.art_parts.specs.declared.names.NodeType.{NodeType}
pub use Rattle.art_parts.specs.declared.names.NodeType.TheVariants.{Leaf, Node16, Node256, Node4, Node48}
pub use Rattle.art_parts.specs.declared.names.OpaqueNodePtr.{OpaqueNodePtr}
pub use Rattle.art_inner.specs.Beside.{IsNextTo}
pub use Rattle.art_inner.specs.Inner.{Children, Inner, IsRising, child_at, childless, put_child, remove_child}
pub use Rattle.art_inner.specs.InnerChanges.{with_child, with_header, without_child}
pub use Rattle.art_inner.specs.Views.{ref_kind, ref_view}
pub use Rattle.art_nodes.specs.LeafCalls.{CalledOnPair}
pub use Rattle.art_nodes.specs.LeafChanges.{with_pair, with_value}
pub use Rattle.art_nodes.specs.Lends.{with_leaf_value}
pub use Rattle.art_nodes.specs.Nodes.{Nodes, Promise, covers, no_promise, promises, take_inner, take_leaf}
unfoldable pub use Rattle.art_nodes.specs.Nodes.{change}
pub use Rattle.art_model.specs.Apart.{KeepsApart}
pub use Rattle.art_model.specs.Canonical.{IsCanonical, IsCanonicalTree}
pub use Rattle.art_model.specs.Clones.{AreClones, AreCopies, IsCopy}
pub use Rattle.art_model.specs.Faults.{HasSibling, IsTrueOf, IsUnreadable, Reaches, StoresOthers, wrong_children_count}
pub use Rattle.art_model.specs.Footprints.{Footprint, IsIn, TouchesAtMost}
pub use Rattle.art_model.specs.Gains.{Gains, without}
pub use Rattle.art_model.specs.Heights.{height_below, tree_height}
unfoldable pub use Rattle.art_model.specs.Heights.{height}
pub use Rattle.art_model.specs.Kept.{ChangesInPlace, Frees, KeepsOthers, SameNodes, names_in}
pub use Rattle.art_parts.specs.Keys.{IsFront, Precedes, are_related, are_same, common_front, is_before, is_front}
pub use Rattle.art_model.specs.Layouts.{AreDistinct, AreLinked, Holds, HoldsBelow, IsLayout, Links, Node, entries_below, entries_of, first_or, inner_names, inner_names_below, inner_node, last_or, leaf_names, leaf_names_below, leaf_node, name_of, names_below, names_of, shape_of, slots_of}
pub use Rattle.art_model.specs.Lookups.{FindsLast, FindsLeaf, HasFirstLeaf, HasLastLeaf, HasLeaf, nodes_on_way}
pub use Rattle.art_model.specs.Pairs.{IsMap, Pairwise, add_in_order, first_of, has_key, is_conflict, last_of, match_of, of_key, only_or_count, overwrite, overwrite_reply, put, put_reply, related_to, remove_key, remove_related, remove_reply, replace_key, replace_related, stored_for, with_key, without_first, without_last}
pub use Rattle.art_model.specs.Parts.{below, between, is_between, is_from, is_up_to, leaves_where, not_below, without_below}
pub use Rattle.art_model.specs.Paths.{Frame, HoldsPath, IsPath, fill, leaves_after, leaves_before, names_after, names_before, pairs_after, pairs_before, plug}
pub use Rattle.art_model.specs.Places.{IsEndNode, depth_of, inner_nodes, inner_nodes_below, least_below, least_key, place_of, places, places_below, prefix_of}
pub use Rattle.art_model.specs.Promises.{IsLessened, is_covered, promise_after}
pub use Rattle.art_model.specs.Radix.{AreRadix, BytesRise, HaveChildren, HaveChildrenBelow, IsRadix, all_unmarked, bytes_of, join, pairs_below, pairs_of, unmarked}
pub use Rattle.art_model.specs.Roots.{ForRoot, ForTree, IsCanonicalRoot, IsFullTree, IsRootOf}
pub use Rattle.art_model.specs.Segments.{IsSegment}
pub use Rattle.art_model.specs.Stores.{Held, IsUsed, content_at, content_in, header_at, held_inner, held_leaf, links_at, links_of, node_at, pair_of, shape_at, tree_node}
pub use Rattle.art_model.specs.Texts.{AreEnded, IsEndedBy, text_of, texts_in_front}
pub use Rattle.art_model.specs.Trails.{HasPrefix, IsDescent, IsPrefix, IsReadAs, IsTrail, bottom_of, end_of}
pub use Rattle.art_model.specs.Trees.{NodeHeader, Subtrees, Tree, canonical_header, child, groups, inner, kind_of, leaf, no_child, node_of, shared_part, tree_of}
pub use Rattle.art_model.specs.Writes.{Inners, IsThere, Leaves, as_inner, change_some, parent_of, with_child_at, with_links_around, with_next, with_previous}
unfoldable pub use Rattle.art_model.specs.Writes.{with_leaf, without_leaf}
