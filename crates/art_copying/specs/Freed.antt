-- The nodes below a name that are freed, with the leaves or without them.
use Rattle.std.specs.Prelude.{◌≡◌, ℕ, ◌+◌, ◌<◌, Bool, true, if◌then◌else◌, List, [], ◌∷◌, ◌++◌, length, Option, Some, None, ⊤}
use Rattle.std.specs.List.{AllByRecursion as Each}
use Rattle.art_inner.specs.Inner.{Children}
use Rattle.art_nodes.specs.Nodes.{Nodes}
use Rattle.art_parts.specs.declared.names.OpaqueNodePtr.{OpaqueNodePtr}
use Rattle.art_model.specs.Kept.{KeepsOthers}
use Rattle.art_model.specs.Layouts.{AreDistinct, Node, leaf_node, inner_node, IsLayout, leaf_names, names_of}
use Rattle.art_model.specs.Stores.{IsUsed, shape_at}
use Rattle.art_model.specs.Trees.{Tree, leaf, inner, Subtrees, child, no_child}

-- the children of what is seen under a name: a leaf has none
abbrev pub children_seen : {A : Type 0} → Option (Node OpaqueNodePtr A) → Children
children_seen None = []
children_seen (Some (leaf_node x)) = []
children_seen (Some (inner_node h slots)) = slots

-- a leaf, or an inner node without children
abbrev pub IsEnd : {N A : Type 0} → Tree N A → Type 0
IsEnd (leaf n x) = ⊤
IsEnd (inner n h no_child) = ⊤
IsEnd (inner n h (child b t cs)) = ⊥

module _ {N A : Type 0} (leaves_too : Bool) where
  -- the names that are freed
  abbrev mutual
    pub names_to_free : Tree N A → List N
    names_to_free (leaf n x) = if leaves_too then n ∷ [] else []
    names_to_free (inner n h cs) = n ∷ names_to_free_below cs

    pub names_to_free_below : Subtrees N A → List N
    names_to_free_below no_child = []
    names_to_free_below (child b t cs) = names_to_free t ++ names_to_free_below cs

  -- how many of them are leaves
  abbrev pub leaves_to_free : Tree N A → ℕ
  leaves_to_free t = if leaves_too then length (leaf_names t) else 0

-- The name stands for a tree without leaves, and the leaves are in the store where they are to be freed too.
pub record CanGo {K V : Type 0} (s : Nodes K V) (leaves_too : Bool) (root : OpaqueNodePtr)
    (shape : Tree OpaqueNodePtr (Unit {0})) : Type 0 where
  pub layout : IsLayout (shape_at s) root shape
  pub leaves : leaves_too ≡ true → Each (IsUsed s) (leaf_names shape)

-- The names stand for two trees that have no name in common, as `CanGo` says of one.
pub record CanBothGo {K V : Type 0} (s : Nodes K V) (leaves_too : Bool) (left child : OpaqueNodePtr)
    (upper lower : Tree OpaqueNodePtr (Unit {0})) : Type 0 where
  pub above : CanGo s leaves_too left upper
  pub below : CanGo s leaves_too child lower
  pub apart : AreDistinct (names_of upper ++ names_of lower)

-- From one store to the next two trees became one, which has fewer names: the freed ones are out
-- of use, and so many leaves are freed.
pub record AreJoined {K V : Type 0} (s t : Nodes K V) (leaves_too : Bool)
    (upper lower : Tree OpaqueNodePtr (Unit {0})) (root : OpaqueNodePtr) (freed : ℕ) : Type 0 where
  pub both : Tree OpaqueNodePtr (Unit {0})
  pub can : CanGo t leaves_too root both
  pub kept : KeepsOthers s t (names_to_free leaves_too upper ++ names_to_free leaves_too lower) (names_to_free leaves_too both)
  pub counted : leaves_to_free leaves_too upper + leaves_to_free leaves_too lower
      ≡ freed + leaves_to_free leaves_too both
  pub fewer : length (names_of both) < length (names_of upper) + length (names_of lower)
