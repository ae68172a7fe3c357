-- The results of a check.
use Rattle.std.specs.Prelude.{◌≡◌, ℕ, ◌+◌, ◌≤◌, List, length, Option}
use Rattle.std.specs.Cmp.Lexicographic.{slice_cmp}
use Rattle.std.specs.Option.{option_map}
use Rattle.std.specs.Ordering.{nat_cmp, on}
use Rattle.std.specs.declared.cmp.Ordering.{Ordering}
use Rattle.art_parts.specs.Names.{leaf_name}
use Rattle.art_parts.specs.declared.names.LeafPtr.{LeafPtr}
use Rattle.art_parts.specs.declared.names.OpaqueNodePtr.{OpaqueNodePtr}
use Rattle.art_nodes.specs.Nodes.{Nodes}
use Rattle.art_model.specs.Canonical.{IsCanonicalTree}
use Rattle.art_model.specs.Layouts.{Links, inner_names}
use Rattle.art_model.specs.Trees.{Tree}
use Rattle.art_model.specs.Faults.{Fault, loop_found, wrong_children_count, prefix_mismatch, empty_tree_with_len, leaf_sibling_wrong_order}
use Rattle.art_model.specs.Faults.{wrong_sibling_links, dead_name, unreadable_prefix, stored_prefix_mismatch, out_of_memory}
use Rattle.art_checking.specs.declared.well_formed.fault.MalformedTreeError.{MalformedTreeError}
use Rattle.art_checking.specs.declared.well_formed.fault.MalformedTreeError.TheVariants.{LoopFound, WrongChildrenCount, PrefixMismatch}
use Rattle.art_checking.specs.declared.well_formed.fault.MalformedTreeError.TheVariants.{EmptyTreeWithLen, LeafSiblingWrongOrder}
use Rattle.art_checking.specs.declared.well_formed.fault.MalformedTreeError.TheVariants.{WrongSiblingLinks, DeadName, UnreadablePrefix}
use Rattle.art_checking.specs.declared.well_formed.fault.MalformedTreeError.TheVariants.{StoredPrefixMismatch, OutOfMemory}
use Rattle.art_checking.specs.declared.well_formed.KeyPrefix.{KeyPrefix}
use Rattle.art_checking.specs.declared.well_formed.WellFormedTreeStats.{WellFormedTreeStats}

-- the bytes of a prefix
abbrev pub prefix_bytes : KeyPrefix → List ℕ
prefix_bytes prefix = prefix.bytes.items

-- the order of prefixes: that of their bytes
abbrev pub prefix_cmp : KeyPrefix → KeyPrefix → Ordering
prefix_cmp = on prefix_bytes (slice_cmp nat_cmp)

-- the links of a leaf between these two
abbrev pub between : Option LeafPtr → Option LeafPtr → Links OpaqueNodePtr
between previous next = record { previous = option_map leaf_name previous; next = option_map leaf_name next }

-- the fault that an error reports
abbrev pub fault_of : MalformedTreeError → Fault
fault_of (LoopFound node_ptr first_observed later_observed) =
    loop_found node_ptr (prefix_bytes first_observed) (prefix_bytes later_observed)
fault_of (WrongChildrenCount key_prefix inner_node_type num_children) =
    wrong_children_count (prefix_bytes key_prefix) inner_node_type num_children
fault_of (PrefixMismatch expected_prefix entire_key) = prefix_mismatch (prefix_bytes expected_prefix) entire_key.items
fault_of EmptyTreeWithLen = empty_tree_with_len
fault_of (LeafSiblingWrongOrder sibling_key leaf_key expected_order actual_order) =
    leaf_sibling_wrong_order sibling_key.items leaf_key.items expected_order actual_order
fault_of (WrongSiblingLinks leaf_key expected_previous expected_next actual_previous actual_next) =
    wrong_sibling_links leaf_key.items (between expected_previous expected_next) (between actual_previous actual_next)
fault_of (DeadName key_prefix name) = dead_name (prefix_bytes key_prefix) name
fault_of (UnreadablePrefix key_prefix name) = unreadable_prefix (prefix_bytes key_prefix) name
fault_of (StoredPrefixMismatch key_prefix stored actual) =
    stored_prefix_mismatch (prefix_bytes key_prefix) stored.items actual.items
fault_of OutOfMemory = out_of_memory

-- the root is canonical for some pairs, and these are the numbers of them and of the inner nodes
abbrev pub IsWellFormed : {K V : Type 0} → (K × V → List ℕ) → ℕ → Nodes K V → OpaqueNodePtr →
    WellFormedTreeStats → Type 0
IsWellFormed {K} {V} bytes P s root stats =
    (pairs : List (K × V)) × (layout : Tree OpaqueNodePtr (K × V)) × IsCanonicalTree bytes P s root pairs layout
    × (stats.num_leaf ≡ length pairs) × (stats.num_inner ≡ length (inner_names layout)) ×
    (stats.num_inner + 1 ≤ stats.num_leaf)
