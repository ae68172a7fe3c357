-- The path to a node: the inner nodes above it, the innermost first, each with a hole where the path descends.
use Rattle.std.specs.Prelude.{◌≡◌, ℕ, ◌+◌, ◌≤◌, List, [], ◌∷◌, ◌++◌, length, Option, Some, ⊤}
use Rattle.art_model.specs.Trees.{Tree, inner, Subtrees, child, NodeHeader, canonical_header}
use Rattle.art_model.specs.Radix.{pairs_below, bytes_of, join, BytesRise, AreRadix}
use Rattle.art_model.specs.Layouts.{Node, inner_node, names_below, leaf_names_below, slots_of, HoldsBelow}

-- an inner node with a hole under one byte, between the children on its left and those on its right
pub record Frame (N A : Type 0) : Type 0 where
  pub mark : N
  pub header : NodeHeader
  pub left : Subtrees N A
  pub byte : ℕ
  pub right : Subtrees N A

module _ {N A : Type 0} where
  -- the inner node with a tree in its hole
  abbrev pub fill : Frame N A → Tree N A → Tree N A
  fill f t = inner f.mark f.header (join f.left (child f.byte t f.right))

  -- the whole tree, with a tree in the hole of the innermost frame
  abbrev pub plug : List (Frame N A) → Tree N A → Tree N A
  plug [] t = t
  plug (f ∷ fs) t = plug fs (fill f t)

  -- the pairs before the hole
  abbrev pub pairs_before : List (Frame N A) → List A
  pairs_before [] = []
  pairs_before (f ∷ fs) = pairs_before fs ++ pairs_below f.left

  -- the pairs after the hole
  abbrev pub pairs_after : List (Frame N A) → List A
  pairs_after [] = []
  pairs_after (f ∷ fs) = pairs_below f.right ++ pairs_after fs

  -- the names before the hole, those of the path itself among them
  abbrev pub names_before : List (Frame N A) → List N
  names_before [] = []
  names_before (f ∷ fs) = names_before fs ++ f.mark ∷ names_below f.left

  -- the names after the hole
  abbrev pub names_after : List (Frame N A) → List N
  names_after [] = []
  names_after (f ∷ fs) = names_below f.right ++ names_after fs

  -- the names of the leaves before the hole
  abbrev pub leaves_before : List (Frame N A) → List N
  leaves_before [] = []
  leaves_before (f ∷ fs) = leaves_before fs ++ leaf_names_below f.left

  -- the names of the leaves after the hole
  abbrev pub leaves_after : List (Frame N A) → List N
  leaves_after [] = []
  leaves_after (f ∷ fs) = leaf_names_below f.right ++ leaves_after fs

  -- under each name of the path is the node that the path says, with the name in the hole as its child
  abbrev pub HoldsPath : (N → Option (Node N A)) → N → List (Frame N A) → Type 0
  HoldsPath at hole [] = ⊤
  HoldsPath at hole (f ∷ fs) =
      (at f.mark ≡ Some (inner_node f.header (slots_of f.left ++ (f.byte, hole) ∷ slots_of f.right))) ×
      HoldsBelow at f.left × HoldsBelow at f.right × HoldsPath at f.mark fs

module _ {N A : Type 0} (bytes : A → List ℕ) (P : ℕ) where
  -- the path is one of a radix tree, and these bytes lead to its hole
  abbrev pub IsPath : List ℕ → List (Frame N A) → Type 0
  IsPath place [] = place ≡ []
  IsPath place (f ∷ fs) =
      (outer part : List ℕ) × (place ≡ (outer ++ part) ++ f.byte ∷ []) ×
      (f.header ≡ canonical_header P part (length (bytes_of f.left ++ f.byte ∷ bytes_of f.right))) ×
      (1 ≤ length (bytes_of f.left) + length (bytes_of f.right)) ×
      BytesRise (bytes_of f.left ++ f.byte ∷ bytes_of f.right) ×
      AreRadix bytes P (outer ++ part) f.left × AreRadix bytes P (outer ++ part) f.right × IsPath outer fs
