-- The faults of a store and a root, and when each is true of them.
use Rattle.std.specs.Prelude.{◌≡◌, ◌≢◌, ℕ, ◌+◌, ◌<◌, ◌⊎◌, List, [], ◌∷◌, ◌++◌, length, take, Some, None, true, ⊤}
use Rattle.std.specs.Cmp.Lexicographic.{slice_cmp}
use Rattle.std.specs.Ordering.{nat_cmp}
use Rattle.std.specs.declared.cmp.Ordering.{Ordering}
use Rattle.std.specs.declared.cmp.Ordering.TheVariants.{Less, Greater}
use Rattle.art_parts.specs.Kinds.{kind_least}
use Rattle.art_nodes.specs.Nodes.{Nodes}
use Rattle.art_parts.specs.declared.names.NodeType.{NodeType}
use Rattle.art_parts.specs.declared.names.OpaqueNodePtr.{OpaqueNodePtr}
use Rattle.art_parts.specs.Keys.{IsFront, is_before}
use Rattle.art_model.specs.Pairs.{first_of, last_of}
use Rattle.art_model.specs.Trees.{Tree, NodeHeader}
use Rattle.art_model.specs.Layouts.{leaf_node, inner_node, Links, AreDistinct, leaf_names, IsLayout}
use Rattle.art_model.specs.Stores.{node_at, links_at}
use Rattle.art_model.specs.Trails.{bottom_of, way_of, IsDescent, HasPrefix, IsReached}

-- a fault with its details; a place is a prefix as read
pub data Fault : Type 0 where
  -- the name, where it was first met, and where later
  loop_found : OpaqueNodePtr → List ℕ → List ℕ → Fault
  -- the place, the kind and the number of children
  wrong_children_count : List ℕ → NodeType → ℕ → Fault
  -- the place and the whole key
  prefix_mismatch : List ℕ → List ℕ → Fault
  empty_tree_with_len : Fault
  -- the sibling's key, the leaf's, the order that they should have, and the one that they have
  leaf_sibling_wrong_order : List ℕ → List ℕ → Ordering → Ordering → Fault
  -- the leaf's key, the links that it should have, and those that it has
  wrong_sibling_links : List ℕ → Links OpaqueNodePtr → Links OpaqueNodePtr → Fault
  -- the place and the name
  dead_name : List ℕ → OpaqueNodePtr → Fault
  -- the place and the node's name
  unreadable_prefix : List ℕ → OpaqueNodePtr → Fault
  -- the place, the stored bytes, and those that the least leaf has
  stored_prefix_mismatch : List ℕ → List ℕ → List ℕ → Fault
  out_of_memory : Fault

module _ {K V : Type 0} (bytes : K × V → List ℕ) (P : ℕ) (s : Nodes K V) (root : OpaqueNodePtr) where
  -- a trail from the root ends at the name, and is read as the place
  abbrev pub Reaches : List ℕ → OpaqueNodePtr → Type 0
  Reaches place name = IsReached (node_at s) bytes P root place name

  -- it ends at an inner node
  abbrev pub ReachesInner : List ℕ → OpaqueNodePtr → NodeHeader → List (ℕ × OpaqueNodePtr) → Type 0
  ReachesInner place name h slots = Reaches place name × (node_at s name ≡ Some (inner_node h slots))

  -- it ends at a leaf
  abbrev pub ReachesLeaf : List ℕ → OpaqueNodePtr → K × V → Type 0
  ReachesLeaf place name x = Reaches place name × (node_at s name ≡ Some (leaf_node x))

  -- the leaf names this sibling, which must be before it or after it
  abbrev pub HasSibling : OpaqueNodePtr → Ordering → OpaqueNodePtr → Type 0
  HasSibling leaf order sibling =
      (links : Links OpaqueNodePtr) × (links_at s leaf ≡ Some links) ×
      (((order ≡ Less) × (links.previous ≡ Some sibling)) ⊎ ((order ≡ Greater) × (links.next ≡ Some sibling)))

  -- two different paths end at the name, and the first place is before the later one
  abbrev pub IsLoop : OpaqueNodePtr → List ℕ → List ℕ → Type 0
  IsLoop name first later =
      (one : Reaches first name) × (other : Reaches later name) × (way_of one.steps ≢ way_of other.steps) ×
      (is_before first later ≡ true)

  -- the inner node at the place has so many children, fewer than its kind allows; it never has more than its kind has room for
  abbrev pub HasWrongCount : List ℕ → NodeType → ℕ → Type 0
  HasWrongCount place kind n =
      (name : OpaqueNodePtr) × (h : NodeHeader) × (slots : List (ℕ × OpaqueNodePtr)) ×
      ReachesInner place name h slots × (h.kind ≡ kind) × (length slots ≡ n) × (n < kind_least kind)

  -- the leaf at the place has this key, which does not start with the place
  abbrev pub HasForeignKey : List ℕ → List ℕ → Type 0
  HasForeignKey place key =
      (name : OpaqueNodePtr) × (x : K × V) × ReachesLeaf place name x × (bytes x ≡ key) × (IsFront place key → ⊥)

  -- a leaf names a sibling whose key is in the wrong order
  abbrev pub HasWrongOrder : List ℕ → List ℕ → Ordering → Ordering → Type 0
  HasWrongOrder sibling_key leaf_key expected actual =
      (place : List ℕ) × (name sibling : OpaqueNodePtr) × (x y : K × V) × ReachesLeaf place name x ×
      HasSibling name expected sibling × (node_at s sibling ≡ Some (leaf_node y))
      × (bytes y ≡ sibling_key) × (bytes x ≡ leaf_key) × (slice_cmp nat_cmp sibling_key leaf_key ≡ actual) ×
      (actual ≢ expected)

  -- the root stands for a tree, and a leaf of it has other links than its neighbours in the order of the tree's leaves
  abbrev pub HasWrongLinks : List ℕ → Links OpaqueNodePtr → Links OpaqueNodePtr → Type 0
  HasWrongLinks leaf_key expected actual =
      (layout : Tree OpaqueNodePtr (K × V)) × (before after : List OpaqueNodePtr) × (name : OpaqueNodePtr) ×
      (x : K × V) ×
      IsLayout (node_at s) root layout × (leaf_names layout ≡ before ++ name ∷ after)
      × (node_at s name ≡ Some (leaf_node x)) × (bytes x ≡ leaf_key) ×
      (expected ≡ record { previous = last_of before; next = first_of after }) ×
      (links_at s name ≡ Some actual) × (actual ≢ expected)

  -- no node is under the name: it is met at the place, or as a sibling of the leaf there
  abbrev pub IsDead : List ℕ → OpaqueNodePtr → Type 0
  IsDead place name =
      (node_at s name ≡ None) ×
      (Reaches place name ⊎ ((leaf : OpaqueNodePtr) × (x : K × V) × (order : Ordering) ×
      ReachesLeaf place leaf x × HasSibling leaf order name))

  -- a descent that ends at no leaf whose key has so many bytes: at a dead name, at a node without children, at a name met before, or at a leaf with a shorter key
  abbrev pub EndsBadly : OpaqueNodePtr → List OpaqueNodePtr → ℕ → Type 0
  EndsBadly name ns needed =
      (node_at s (bottom_of name ns) ≡ None)
      ⊎ (((h : NodeHeader) × (node_at s (bottom_of name ns) ≡ Some (inner_node h [])))
      ⊎ ((AreDistinct (name ∷ ns) → ⊥)
      ⊎ ((x : K × V) × (node_at s (bottom_of name ns) ≡ Some (leaf_node x)) × (length (bytes x) < needed))))

  -- the prefix of the inner node at the place is longer than its stored bytes, and can't be read from a leaf
  abbrev pub IsUnreadable : List ℕ → OpaqueNodePtr → Type 0
  IsUnreadable place name =
      (h : NodeHeader) × (slots : List (ℕ × OpaqueNodePtr)) × ReachesInner place name h slots × (P < h.length_of)
      × ((ns : List OpaqueNodePtr) × IsDescent (node_at s) name ns × EndsBadly name ns (length place + h.length_of))

  -- the inner node at the place has a prefix longer than its stored bytes, and these are not those of its least leaf
  abbrev pub StoresOthers : List ℕ → List ℕ → List ℕ → Type 0
  StoresOthers place stored actual =
      (name : OpaqueNodePtr) × (h : NodeHeader) × (slots : List (ℕ × OpaqueNodePtr)) ×
      ReachesInner place name h slots × (P < h.length_of)
      × ((part : List ℕ) × HasPrefix (node_at s) bytes P (length place) name part × (h.stored ≡ stored) ×
      (take (length stored) part ≡ actual) × (actual ≢ stored))

  -- The fault is true. Out of memory reports nothing of the tree, and with a root no length is wrong.
  abbrev pub IsTrueOf : Fault → Type 0
  IsTrueOf (loop_found name first later) = IsLoop name first later
  IsTrueOf (wrong_children_count place kind n) = HasWrongCount place kind n
  IsTrueOf (prefix_mismatch place key) = HasForeignKey place key
  IsTrueOf empty_tree_with_len = ⊥
  IsTrueOf (leaf_sibling_wrong_order sibling_key leaf_key expected actual) =
      HasWrongOrder sibling_key leaf_key expected actual
  IsTrueOf (wrong_sibling_links leaf_key expected actual) = HasWrongLinks leaf_key expected actual
  IsTrueOf (dead_name place name) = IsDead place name
  IsTrueOf (unreadable_prefix place name) = IsUnreadable place name
  IsTrueOf (stored_prefix_mismatch place stored actual) = StoresOthers place stored actual
  IsTrueOf out_of_memory = ⊤
