-- What the steps of a check establish about a store. No public clause cites this module.
use Rattle.std.specs.Prelude.{◌≡◌, ℕ, ◌+◌, ◌≤◌, ◌⊎◌, List, [], ◌∷◌, ◌++◌, length, map, take, drop, Option, Some, None, true, IfSome}
use Rattle.std.specs.Borrow.{Bor}
use Rattle.std.specs.Cmp.Lexicographic.{slice_cmp}
use Rattle.std.specs.FinMap as finite
use Rattle.std.specs.Ordering.{nat_cmp}
use Rattle.std.specs.declared.cmp.Ordering.{Ordering}
use Rattle.std.specs.declared.cmp.Ordering.TheVariants.{Less, Greater}
use Rattle.art_inner.specs.Inner.{Inner, Children, IsRising}
use Rattle.art_parts.specs.Kinds.{kind_capacity}
use Rattle.art_parts.specs.Names.{inner_name, leaf_name}
use Rattle.art_nodes.specs.Nodes.{Nodes}
use Rattle.art_parts.specs.declared.leaf.LeafNode.{LeafNode}
use Rattle.art_parts.specs.declared.names.InnerPtr.{InnerPtr}
use Rattle.art_parts.specs.declared.names.LeafPtr.{LeafPtr}
use Rattle.art_parts.specs.declared.names.OpaqueNodePtr.{OpaqueNodePtr}
use Rattle.art_model.specs.Faults.{Fault, out_of_memory, Reaches, EndsBadly, IsTrueOf}
use Rattle.art_parts.specs.Keys.{IsFront, is_before}
use Rattle.art_model.specs.Layouts.{leaf_node, name_of, names_of, leaf_names, AreDistinct, Holds}
use Rattle.art_model.specs.Radix.{IsRadix}
use Rattle.art_model.specs.Stores.{header_at, node_at, pair_of}
use Rattle.art_model.specs.Trails.{bottom_of, DescendsTo, IsDescent, IsPrefix}
use Rattle.art_model.specs.Trees.{Tree, NodeHeader}
use Rattle.art_checking.specs.Checks.{fault_of}
use Rattle.art_checking.specs.Meetings.{Places, Meets, IsMet, count_met, leaves_with, place_in}
use Rattle.art_checking.specs.declared.well_formed.fault.MalformedTreeError.{MalformedTreeError}
use Rattle.art_checking.specs.declared.well_formed.seen.Seen.{Seen}

-- what was met is before the place, or there
abbrev pub NoneAfter : Places → List ℕ → Type 0
NoneAfter places place =
    (n : OpaqueNodePtr) (other : List ℕ) → places n ≡ Some other → (is_before other place ≡ true) ⊎ (other ≡ place)

-- what was met is before the place
abbrev pub AllBefore : Places → List ℕ → Type 0
AllBefore places place = (n : OpaqueNodePtr) (other : List ℕ) → places n ≡ Some other → is_before other place ≡ true

-- so many of the bytes from a depth on
abbrev pub IsPartOf : ℕ → ℕ → List ℕ → List ℕ → Type 0
IsPartOf depth len whole part =
    (length part ≡ len) × (depth + len ≤ length whole) × (part ≡ take len (drop depth whole))

-- the names of leaves
abbrev pub names_of_leaves : List LeafPtr → List OpaqueNodePtr
names_of_leaves = map leaf_name

-- a name was met for the first time, at this place
pub record IsFirstMet (old new : Seen) (name : OpaqueNodePtr) (place : List ℕ) : Type 0 where
  pub fresh : place_in old name ≡ None
  pub met : IsMet (place_in old) (place_in new) name place
  pub leaves : new.leaves.items ≡ leaves_with name old.leaves.items
  pub count : count_met new ≡ count_met old + 1

-- nothing was met yet
pub record IsStart (seen : Seen) : Type 0 where
  pub none : (n : OpaqueNodePtr) → place_in seen n ≡ None
  pub leaves : seen.leaves.items ≡ []
  pub count : count_met seen ≡ 0

-- the error reports the fault, or that the allocation for it failed
abbrev pub Says : Fault → MalformedTreeError → Type 0
Says fault error = (fault_of error ≡ fault) ⊎ (fault_of error ≡ out_of_memory)

module _ {K V : Type 0} (bytes : K × V → List ℕ) (P : ℕ) (s : Nodes K V) where
  -- a leaf is there, and its key starts with the place
  abbrev pub IsLeafAt : LeafPtr → List ℕ → Type 0
  IsLeafAt leaf place = (x : K × V) × (node_at s (leaf_name leaf) ≡ Some (leaf_node x)) × IsFront place (bytes x)

  -- the sibling is a leaf, whose key compares to the key in this order
  abbrev pub IsInOrder : LeafPtr → Ordering → List ℕ → Type 0
  IsInOrder sibling order key =
      (node : LeafNode K V) × (finite.get s.leaves sibling ≡ Some node) ×
      (slice_cmp nat_cmp (bytes (pair_of node)) key ≡ order)

  -- the leaf's previous sibling comes before it, and its next one after it
  abbrev pub IsBetween : LeafNode K V → Type 0
  IsBetween node =
      IfSome node.previous (λ l. IsInOrder l Less (bytes (pair_of node))) ×
      IfSome node.next (λ l. IsInOrder l Greater (bytes (pair_of node)))

  -- From the name on, at the place, the nodes are those of a radix tree, and from the first state to the second all of its names but the root's were met.
  pub record IsChecked (old new : Seen) (place : List ℕ) (name : OpaqueNodePtr) : Type 0 where
    pub layout : Tree OpaqueNodePtr (K × V)
    pub below : List OpaqueNodePtr
    pub names : names_of layout ≡ name ∷ below
    pub holds : Holds (node_at s) layout
    pub radix : IsRadix bytes P place layout
    pub meets : Meets (place_in old) (place_in new) below
    pub leaves : names_of_leaves new.leaves.items ≡ names_of_leaves old.leaves.items ++ leaf_names layout
    pub count : count_met new ≡ count_met old + length below

  -- From the name on, at the place, the nodes are those of a radix tree, and from the first state to the second all of its names were met.
  pub record IsPassed (old new : Seen) (place : List ℕ) (name : OpaqueNodePtr) : Type 0 where
    pub layout : Tree OpaqueNodePtr (K × V)
    pub named : name_of layout ≡ name
    pub holds : Holds (node_at s) layout
    pub radix : IsRadix bytes P place layout
    pub meets : Meets (place_in old) (place_in new) (names_of layout)
    pub leaves : names_of_leaves new.leaves.items ≡ names_of_leaves old.leaves.items ++ leaf_names layout
    pub count : count_met new ≡ count_met old + length (names_of layout)

  -- The names that were met are those of a radix tree below the root, its leaves in order.
  pub record IsMetTree (seen : Seen) (root : OpaqueNodePtr) : Type 0 where
    pub layout : Tree OpaqueNodePtr (K × V)
    pub named : name_of layout ≡ root
    pub holds : Holds (node_at s) layout
    pub radix : IsRadix bytes P [] layout
    pub distinct : AreDistinct (names_of layout)
    pub leaves : names_of_leaves seen.leaves.items ≡ leaf_names layout
    pub count : count_met seen ≡ length (names_of layout)

  -- a descent along least children ends at the leaf, or badly where there is none
  abbrev pub IsLeastLeaf : OpaqueNodePtr → Option LeafPtr → Type 0
  IsLeastLeaf name None =
      (ns : List OpaqueNodePtr) × IsDescent (node_at s) name ns × ((root : OpaqueNodePtr) (needed : ℕ) →
      EndsBadly bytes P s root name ns needed)
  IsLeastLeaf name (Some leaf) =
      (ns : List OpaqueNodePtr) × (x : K × V) × IsDescent (node_at s) name ns ×
      (bottom_of name ns ≡ leaf_name leaf) × (node_at s (leaf_name leaf) ≡ Some (leaf_node x))

  -- The bytes of the key of the leaf at the end of a descent, from a depth on; or a descent ends badly.
  abbrev pub IsReadFrom : OpaqueNodePtr → ℕ → ℕ → Option (Bor (List ℕ)) → Type 0
  IsReadFrom name depth len None =
      (ns : List OpaqueNodePtr) × IsDescent (node_at s) name ns ×
      ((root : OpaqueNodePtr) → EndsBadly bytes P s root name ns (depth + len))
  IsReadFrom name depth len (Some part) =
      (x : K × V) × DescendsTo (node_at s) name x × IsPartOf depth len (bytes x) part.now

  -- what was met was met at its place, on a trail from the root
  abbrev pub AreReached : OpaqueNodePtr → Places → Type 0
  AreReached root places = (n : OpaqueNodePtr) (place : List ℕ) → places n ≡ Some place → Reaches bytes P s root place n

  -- the error is true of the store, from whatever root the name is reached
  abbrev pub IsTrueAt : List ℕ → OpaqueNodePtr → MalformedTreeError → Type 0
  IsTrueAt place name error =
      (root : OpaqueNodePtr) → Reaches bytes P s root place name → IsTrueOf bytes P s root (fault_of error)

  -- What was met since is below the place of the name, and on trails where the name and all before are.
  pub record IsWalked (old new : Places) (place : List ℕ) (name : OpaqueNodePtr) : Type 0 where
    pub below : (n : OpaqueNodePtr) (other : List ℕ) → new n ≡ Some other → (old n ≡ Some other) ⊎ IsFront place other
    pub reached : (root : OpaqueNodePtr) → AreReached root old → Reaches bytes P s root place name → AreReached root new

  -- The prefix of a node was appended to the bytes that lead to it.
  pub record IsRead (place read : List ℕ) (name : OpaqueNodePtr) (h : NodeHeader) : Type 0 where
    pub part : List ℕ
    pub is : read ≡ place ++ part
    pub long : length part ≡ h.length_of
    pub stored : take P part ≡ h.stored
    pub is_prefix : IsPrefix (node_at s) bytes P (length place) name h part

  -- The prefix of a node was appended to the bytes that lead to it, and these are its children.
  pub record IsEntered (place read : List ℕ) (name : InnerPtr) (node : Inner) (children : Children) : Type 0 where
    pub prefix : IsRead place read (inner_name name) (header_at name.kind node)
    pub all : children ≡ node.children
    pub rising : IsRising node.children
    pub bound : length node.children ≤ kind_capacity name.kind

  -- a leaf that is known is the least one of the first child
  abbrev pub IsFirstLeast : Option LeafPtr → Children → Type 0
  IsFirstLeast None left = Unit {0}
  IsFirstLeast (Some leaf) [] = Unit {0}
  IsFirstLeast (Some leaf) (step ∷ left) = IsLeastLeaf step.1 (Some leaf)
