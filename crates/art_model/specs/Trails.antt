-- Paths down a store that may hold anything: loops, shared nodes, names without a node. All is stated of finite lists of steps, so that a loop does no harm.
use Rattle.std.specs.Prelude.{◌≡◌, ℕ, ◌+◌, ◌<◌, ◌≤◌, ◌⊎◌, List, [], ◌∷◌, ◌++◌, length, take, drop, Option, Some, ⊤}
use Rattle.art_inner.specs.Inner.{child_at}
use Rattle.art_parts.specs.declared.names.OpaqueNodePtr.{OpaqueNodePtr}
use Rattle.art_model.specs.Trees.{NodeHeader}
use Rattle.art_model.specs.Layouts.{Node, leaf_node, inner_node}

-- the name that steps end at, each the byte of a child and its name
abbrev pub end_of : OpaqueNodePtr → List (ℕ × OpaqueNodePtr) → OpaqueNodePtr
end_of name [] = name
end_of name (step ∷ steps) = end_of step.1 steps

-- the path of a trail: the bytes of its steps
abbrev pub way_of : List (ℕ × OpaqueNodePtr) → List ℕ
way_of [] = []
way_of (step ∷ steps) = step.0 ∷ way_of steps

-- the name that a descent ends at
abbrev pub bottom_of : OpaqueNodePtr → List OpaqueNodePtr → OpaqueNodePtr
bottom_of name [] = name
bottom_of name (n ∷ ns) = bottom_of n ns

module _ {A : Type 0} (at : OpaqueNodePtr → Option (Node OpaqueNodePtr A)) where
  -- the node is in the store, and has this name under this byte
  abbrev pub HasChild : OpaqueNodePtr → ℕ × OpaqueNodePtr → Type 0
  HasChild name step =
      (h : NodeHeader) × (slots : List (ℕ × OpaqueNodePtr)) × (at name ≡ Some (inner_node h slots)) ×
      (child_at slots step.0 ≡ Some step.1)

  -- a trail: each step is to a child of the node before, which is in the store
  abbrev pub IsTrail : OpaqueNodePtr → List (ℕ × OpaqueNodePtr) → Type 0
  IsTrail name [] = ⊤
  IsTrail name (step ∷ steps) = HasChild name step × IsTrail step.1 steps

  -- the node is in the store, and this is its least child
  abbrev pub HasLeast : OpaqueNodePtr → OpaqueNodePtr → Type 0
  HasLeast name least =
      (h : NodeHeader) × (b : ℕ) × (others : List (ℕ × OpaqueNodePtr)) ×
      (at name ≡ Some (inner_node h ((b, least) ∷ others)))

  -- a descent: each name is the least child of the one before
  abbrev pub IsDescent : OpaqueNodePtr → List OpaqueNodePtr → Type 0
  IsDescent name [] = ⊤
  IsDescent name (n ∷ ns) = HasLeast name n × IsDescent n ns

  -- a descent from the name ends at the leaf of this pair
  abbrev pub DescendsTo : OpaqueNodePtr → A → Type 0
  DescendsTo name x = (ns : List OpaqueNodePtr) × IsDescent name ns × (at (bottom_of name ns) ≡ Some (leaf_node x))

  module _ (bytes : A → List ℕ) (P : ℕ) where
    -- The prefix of a node with this header, after so many bytes: the stored bytes, if they are all, and else so many bytes of the key of the leaf at the end of a descent.
    abbrev pub IsPrefix : ℕ → OpaqueNodePtr → NodeHeader → List ℕ → Type 0
    IsPrefix d name h part =
        ((h.length_of ≤ P) × (part ≡ h.stored))
        ⊎ ((P < h.length_of) × ((x : A) × DescendsTo name x × (d + h.length_of ≤ length (bytes x)) ×
        (part ≡ take h.length_of (drop d (bytes x)))))

    -- the node is in the store, and has this prefix after so many bytes
    abbrev pub HasPrefix : ℕ → OpaqueNodePtr → List ℕ → Type 0
    HasPrefix d name part =
        (h : NodeHeader) × (slots : List (ℕ × OpaqueNodePtr)) × (at name ≡ Some (inner_node h slots)) ×
        IsPrefix d name h part

    -- the prefix of a trail as read, after what was read before: its bytes, each after the prefix of its node
    abbrev pub IsReadAs : List ℕ → OpaqueNodePtr → List (ℕ × OpaqueNodePtr) → List ℕ → Type 0
    IsReadAs front name [] place = place ≡ front
    IsReadAs front name (step ∷ steps) place =
        (part : List ℕ) × HasPrefix (length front) name part ×
        IsReadAs (front ++ part ++ step.0 ∷ []) step.1 steps place

    -- A trail from the root ends at the name, and is read as this place.
    pub record IsReached (root : OpaqueNodePtr) (place : List ℕ) (name : OpaqueNodePtr) : Type 0 where
      pub steps : List (ℕ × OpaqueNodePtr)
      pub is_trail : IsTrail root steps
      pub ends : end_of root steps ≡ name
      pub is_read : IsReadAs [] root steps place
