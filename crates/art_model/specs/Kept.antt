-- What a change in place keeps: the names of the nodes that stay, and every node outside the tree.
use Rattle.std.specs.Prelude.{◌≡◌, ℕ, List, [], Option, Some, None}
use Rattle.art_nodes.specs.Nodes.{Nodes}
use Rattle.art_parts.specs.declared.names.NodeType.{NodeType}
use Rattle.art_parts.specs.declared.names.OpaqueNodePtr.{OpaqueNodePtr}
use Rattle.art_model.specs.Trees.{Tree}
use Rattle.art_model.specs.Layouts.{names_of, entries_of}
use Rattle.art_model.specs.Places.{inner_nodes}
use Rattle.art_model.specs.Stores.{content_at}
use Rattle.art_model.specs.Footprints.{IsIn}

module _ {N A : Type 0} where
  -- the names of the nodes, where there is a tree
  abbrev pub names_in : Option (Tree N A) → List N
  names_in None = []
  names_in (Some tree) = names_of tree

  -- the pairs and names of the leaves
  abbrev pub leaves_in : Option (Tree N A) → List (A × N)
  leaves_in None = []
  leaves_in (Some tree) = entries_of tree

  module _ (bytes : A → List ℕ) where
    -- the kinds, whole bytes and names of the inner nodes
    abbrev pub inners_in : Option (Tree N A) → List (NodeType × List ℕ × N)
    inners_in None = []
    inners_in (Some tree) = inner_nodes bytes 0 tree

    -- a key that stays keeps its leaf's name
    abbrev pub KeepsLeaves : Option (Tree N A) → Option (Tree N A) → Type 0
    KeepsLeaves old new =
        (x y : A) (n m : N) → IsIn (x, n) (leaves_in old) → IsIn (y, m) (leaves_in new) → bytes y ≡ bytes x → m ≡ n

    -- an inner node keeps its name where both trees have one of its kind with its whole bytes
    abbrev pub KeepsInners : Option (Tree N A) → Option (Tree N A) → Type 0
    KeepsInners old new =
        (kind : NodeType) (whole : List ℕ) (n m : N) → IsIn (kind, whole, n) (inners_in old) →
        IsIn (kind, whole, m) (inners_in new) → m ≡ n

-- A name of neither tree holds what it held; one of the old tree alone is free, and one of the new tree alone was.
pub record KeepsOthers {K V : Type 0} (s t : Nodes K V) (old new : List OpaqueNodePtr) : Type 0 where
  pub beside : (name : OpaqueNodePtr) → (IsIn name old → ⊥) → (IsIn name new → ⊥) → content_at t name ≡ content_at s name
  pub gone : (name : OpaqueNodePtr) → IsIn name old → (IsIn name new → ⊥) → content_at t name ≡ None
  pub taken : (name : OpaqueNodePtr) → IsIn name new → (IsIn name old → ⊥) → content_at s name ≡ None

-- the same nodes under the same names
abbrev pub SameNodes : {K V : Type 0} → Nodes K V → Nodes K V → Type 0
SameNodes old new = (new.leaves ≡ old.leaves) × (new.inners ≡ old.inners)

-- these names went out of use, and every other name holds what it held
abbrev pub Frees : {K V : Type 0} → List OpaqueNodePtr → Nodes K V → Nodes K V → Type 0
Frees names s t = KeepsOthers s t names []

-- From one store to the next the tree became another in place.
pub record ChangesInPlace {K V : Type 0} (bytes : K × V → List ℕ) (s t : Nodes K V)
    (old new : Option (Tree OpaqueNodePtr (K × V))) : Type 0 where
  pub leaves : KeepsLeaves bytes old new
  pub inners : KeepsInners bytes old new
  pub others : KeepsOthers s t (names_in old) (names_in new)
