-- What the writes of the operations require and return: a child of the parent at the end of a path, and the neighbours of a leaf.
use Rattle.std.specs.Prelude.{◌≡◌, ◌⊎◌, ◌<◌, ℕ, Option, Some, None, IsSome, IsSomeAnd, IfSome, ⊤}
use Rattle.std.specs.List.{AllByRecursion as Each}
use Rattle.std.specs.FinMap as map
use Rattle.art_inner.specs.Inner.{child_at}
use Rattle.art_parts.specs.Names.{leaf_name, inner_name}
use Rattle.art_nodes.specs.Nodes.{Nodes, take_leaf}
use Rattle.art_parts.specs.declared.names.InnerPtr.{InnerPtr}
use Rattle.art_parts.specs.declared.names.LeafPtr.{LeafPtr}
use Rattle.art_parts.specs.declared.names.OpaqueNodePtr.{OpaqueNodePtr}
use Rattle.art_model.specs.Lookups.{HasFirstLeaf, HasLastLeaf}
use Rattle.art_model.specs.Radix.{BytesRise, bytes_of, join}
use Rattle.art_model.specs.Roots.{IsFullTree}
use Rattle.art_model.specs.Trees.{Tree, inner, Subtrees, child, no_child, NodeHeader}
use Rattle.art_model.specs.Writes.{Leaves, Inners, IsThere}
use Rattle.art_writing.specs.Inserted.{unlinked_leaf}
use Rattle.art_copying.specs.declared.links.Direction.{Direction}
use Rattle.art_copying.specs.declared.links.Direction.TheVariants.{Before, After}

-- the parent, where there is one, has a child under its byte
abbrev pub HasChild : Inners → Option (InnerPtr × ℕ) → Type 0
HasChild inners None = ⊤
HasChild inners (Some parent) = IsSomeAnd (map.get inners parent.0) (λ node. IsSome (child_at node.children parent.1))

-- A leaf with no siblings is new in a store.
pub record IsPlanted {K V : Type 0} (s t : Nodes K V) (name : LeafPtr) (pair : K × V) : Type 0 where
  pub fresh : map.get s.leaves name ≡ None
  pub leaves : t.leaves ≡ map.insert s.leaves name (unlinked_leaf pair)
  pub inners : t.inners ≡ s.inners
  pub promise : t.promise ≡ take_leaf s.promise

-- the leaves that a leaf names are in the store
abbrev pub LinksAreThere : {K V : Type 0} → Leaves K V → LeafPtr → Type 0
LinksAreThere leaves name =
    IfSome (map.get leaves name) (λ leaf. IsThere leaves leaf.previous × IsThere leaves leaf.next)

-- a new leaf right before a tree's first leaf, or right after its last one, has these neighbours
abbrev pub IsBeside : {K V : Type 0} → Nodes K V → Tree OpaqueNodePtr (K × V) → Direction → Option LeafPtr →
    Option LeafPtr → Type 0
IsBeside s tree Before previous next =
    (first : LeafPtr) × HasFirstLeaf tree (leaf_name first) × (next ≡ Some first) ×
    IsSomeAnd (map.get s.leaves first) (λ leaf. previous ≡ leaf.previous)
IsBeside s tree After previous next =
    (last : LeafPtr) × HasLastLeaf tree (leaf_name last) × (previous ≡ Some last) ×
    IsSomeAnd (map.get s.leaves last) (λ leaf. next ≡ leaf.next)

-- the name stands for an inner node of a full tree with these children, those on the left under lesser bytes than this one and those on the right under greater ones
pub record HasGap {K V : Type 0} (s : Nodes K V) (name : InnerPtr) (byte : ℕ)
    (left right : Subtrees OpaqueNodePtr (K × V)) : Type 0 where
  pub header : NodeHeader
  pub full : IsFullTree s (inner_name name) (inner (inner_name name) header (join left right))
  pub rising : BytesRise (bytes_of (join left right))
  pub low : Each (λ c. c < byte) (bytes_of left)
  pub high : Each (λ c. byte < c) (bytes_of right)

-- the first of these children is such a tree
abbrev pub HasFirstChild : {N A : Type 0} → Subtrees N A → (Tree N A → Type 0) → Type 0
HasFirstChild {N} {A} children IsSuch =
    (b : ℕ) × (t : Tree N A) × (others : Subtrees N A) × (children ≡ child b t others) × IsSuch t

-- the last of these children is such a tree
abbrev pub HasLastChild : {N A : Type 0} → Subtrees N A → (Tree N A → Type 0) → Type 0
HasLastChild {N} {A} children IsSuch =
    (others : Subtrees N A) × (b : ℕ) × (t : Tree N A) × (children ≡ join others (child b t no_child)) × IsSuch t

-- a new leaf between these children has these neighbours: it is right before all on the right, or right after all on the left
abbrev pub ComesBetween : {K V : Type 0} → Nodes K V → Subtrees OpaqueNodePtr (K × V) →
    Subtrees OpaqueNodePtr (K × V) → Option LeafPtr → Option LeafPtr → Type 0
ComesBetween s left right previous next =
    HasFirstChild right (λ t. IsBeside s t Before previous next) ⊎
    HasLastChild left (λ t. IsBeside s t After previous next)
