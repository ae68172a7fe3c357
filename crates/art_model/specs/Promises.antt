-- A store's promise after nodes are placed. What an operation places is written as a promise too.
use Rattle.std.specs.Prelude.{◌≡◌, ℕ, zero, suc, Bool, true, if◌then◌else◌, Option, Some, None}
use Rattle.art_nodes.specs.Nodes.{Promise, covers, no_promise, take_leaf, take_inner}
use Rattle.art_parts.specs.declared.names.NodeType.{NodeType}
use Rattle.art_model.specs.Trees.{Tree, leaf, inner, Subtrees, child, no_child}

-- what is left when so many leaves are placed
abbrev pub leaves_taken : ℕ → Promise → Promise
leaves_taken zero promise = promise
leaves_taken (suc n) promise = take_leaf (leaves_taken n promise)

-- what is left when an inner node of this kind is placed, if there is one
abbrev pub inner_taken : Option NodeType → Promise → Promise
inner_taken None promise = promise
inner_taken (Some kind) promise = take_inner kind promise

-- whether a promise covers what is placed
abbrev pub is_covered : Promise → Promise → Bool
is_covered placed promise = covers promise placed.leaves placed.inner

-- what is placed is taken from a promise that covers it; else nothing is promised any more
abbrev pub promise_after : Promise → Promise → Promise
promise_after placed promise =
    if is_covered placed promise then inner_taken placed.inner (leaves_taken placed.leaves promise) else no_promise

module _ {N A : Type 0} where
  -- what is left when the nodes of a tree are placed one by one, each inner node before its children
  abbrev mutual
    pub tree_taken : Tree N A → Promise → Promise
    tree_taken (leaf n x) promise = take_leaf promise
    tree_taken (inner n h cs) promise = children_taken cs (take_inner h.kind promise)

    pub children_taken : Subtrees N A → Promise → Promise
    children_taken no_child promise = promise
    children_taken (child b t cs) promise = children_taken cs (tree_taken t promise)

-- only what was promised before is promised afterwards
abbrev pub IsLessened : Promise → Promise → Type 0
IsLessened before after = is_covered after before ≡ true
