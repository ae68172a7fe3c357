-- What a command places in a store, by its pairs: a leaf, and an inner node of the kind of which the tree then has more.
use Rattle.std.specs.Prelude.{ℕ, ◌+◌, ◌==◌, if◌then◌else◌, nat_lt, List, length, Option, Some, None}
use Rattle.art_nodes.specs.Nodes.{Promise}
use Rattle.art_parts.specs.Kinds.{kind_index}
use Rattle.art_parts.specs.declared.names.NodeType.{NodeType}
use Rattle.art_parts.specs.declared.names.NodeType.TheVariants.{Node4, Node16, Node48, Node256}
use Rattle.art_model.specs.Pairs.{of_key, has_key, related_to}
use Rattle.art_model.specs.Trees.{Tree, leaf, inner, Subtrees, child, no_child, tree_of}
use Rattle.art_running.specs.Answers.{pairs_after_command}
use Rattle.art_running.specs.declared.run.Command.{Command}
use Rattle.art_running.specs.declared.run.Command.TheVariants.{Insert, InsertPrefix}

module _ {N A : Type 0} (kind : NodeType) where
  -- how many inner nodes of this kind a tree has
  abbrev mutual
    pub count_of : Tree N A → ℕ
    count_of (leaf n x) = 0
    count_of (inner n h cs) = (if kind_index kind == kind_index h.kind then 1 else 0) + inner_count_below cs

    pub inner_count_below : Subtrees N A → ℕ
    inner_count_below no_child = 0
    inner_count_below (child b t cs) = count_of t + inner_count_below cs

-- the first kind of which there are more than before, by the number of each kind before and after
abbrev pub more_of : (NodeType → ℕ) → (NodeType → ℕ) → Option NodeType
more_of old new =
    if nat_lt (old Node4) (new Node4) then Some Node4
    else if nat_lt (old Node16) (new Node16) then Some Node16
    else if nat_lt (old Node48) (new Node48) then Some Node48
    else if nat_lt (old Node256) (new Node256) then Some Node256
    else None

module _ {K V : Type 0} (bytes : K → List ℕ) (P : ℕ) where
  -- how many inner nodes of a kind the tree of these pairs has
  abbrev pub inner_count : List (K × V) → NodeType → ℕ
  inner_count pairs kind = elim (tree_of (of_key bytes) pairs P 0) [ None ↦ 0 | Some tree ↦ count_of kind tree ]

  -- a pair that does not replace just one other needs a leaf
  abbrev pub new_leaves : Command K V → List (K × V) → ℕ
  new_leaves (Insert k v) pairs = if has_key (of_key bytes) (bytes k) pairs then 0 else 1
  new_leaves (InsertPrefix k v) pairs = if length (related_to (of_key bytes) (bytes k) pairs) == 1 then 0 else 1
  new_leaves command pairs = 0

  -- what a command places where these are the pairs
  abbrev pub needs : Command K V → List (K × V) → Promise
  needs command pairs = record {
    leaves = new_leaves command pairs;
    inner = more_of (inner_count pairs) (inner_count (pairs_after_command bytes command pairs));
  }
