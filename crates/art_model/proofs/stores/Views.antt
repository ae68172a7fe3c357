-- a store's maps from what a tree sees in them
use Rattle.std.proofs.Common.{◌≡◌, ◌≢◌, ℕ, List, Option, Some, None, refl, ap, sym, ◌∙◌, is_some, true, ◌⊎◌, inl, inr, option_map}
use Rattle.std.specs.FinMap as map
use Rattle.art_model.specs.Prelude.{Inner, leaf_name, inner_name, Nodes, NodeType, Node4, Node16, Node48, Node256, Leaf, LeafPtr, InnerPtr, OpaqueNodePtr, LeafNode, NodeHeader, Node, leaf_node, inner_node, Held, held_leaf, held_inner, content_in, tree_node, node_at, header_at, pair_of}

module _ {K V : Type 0} where
  seen_leaf : (o : Option (LeafNode K V)) (x : K × V) → option_map (tree_node Leaf) (option_map held_leaf o) ≡ Some (leaf_node x) →
      (leaf : LeafNode K V) × (o ≡ Some leaf) × (pair_of leaf ≡ x)
  seen_leaf None x e = absurd cc
  seen_leaf (Some leaf) x e = (leaf, refl, cc)

  -- a leaf is seen as no inner node
  pub seen_no_inner : (o : Option (LeafNode K V)) (h : NodeHeader) (slots : List (ℕ × OpaqueNodePtr)) →
      option_map (tree_node Leaf) (option_map held_leaf o) ≡ Some (inner_node h slots) → ⊥
  seen_no_inner None h slots e = cc
  seen_no_inner (Some leaf) h slots e = cc

  -- what a tree sees of an inner node
  abbrev pub seen_of : NodeType → Option Inner → Option (Node OpaqueNodePtr (K × V))
  seen_of kind o = option_map (tree_node kind) (option_map held_inner o)

  -- what is seen as an inner node is one
  pub seen_inner : (kind : NodeType) (o : Option Inner) (h : NodeHeader) (slots : List (ℕ × OpaqueNodePtr)) → seen_of kind o ≡ Some (inner_node h slots) →
      (node : Inner) × (o ≡ Some node) × (header_at kind node ≡ h) × (node.children ≡ slots)
  seen_inner kind None h slots e = absurd cc
  seen_inner kind (Some node) h slots e = (node, refl, cc, cc)

  -- an inner node is seen as no leaf
  pub seen_no_leaf : (kind : NodeType) (o : Option Inner) (x : K × V) → seen_of kind o ≡ Some (leaf_node x) → ⊥
  seen_no_leaf kind None x e = cc
  seen_no_leaf kind (Some node) x e = cc

-- what is held determines what is in use
pub same_leaf : {K V : Type 0} (o q : Option (LeafNode K V)) → option_map held_leaf o ≡ option_map held_leaf q → o ≡ q
same_leaf None None e = refl
same_leaf None (Some b) e = absurd cc
same_leaf (Some a) None e = absurd cc
same_leaf (Some a) (Some b) e = ap Some cc

pub same_inner_held : (K V : Type 0) (o q : Option Inner) → ◌≡◌ {A = Option (Held K V)} (option_map held_inner o) (option_map held_inner q) → o ≡ q
same_inner_held K V None None e = refl
same_inner_held K V None (Some b) e = absurd cc
same_inner_held K V (Some a) None e = absurd cc
same_inner_held K V (Some a) (Some b) e = ap Some cc

module _ {K V : Type 0} (s : Nodes K V) where
  -- what is held under an inner kind
  pub held_in_inner : (kind : NodeType) (slot : ℕ) → kind ≢ Leaf →
      content_in s kind slot ≡ option_map held_inner (map.get s.inners (record { kind = kind; slot = slot }))
  held_in_inner Leaf slot n = absurd (n refl)
  held_in_inner Node4 slot n = refl
  held_in_inner Node16 slot n = refl
  held_in_inner Node48 slot n = refl
  held_in_inner Node256 slot n = refl

  -- a leaf's name that stands for a leaf
  pub leaf_there : (p : LeafPtr) (x : K × V) → node_at s (leaf_name p) ≡ Some (leaf_node x) →
      (leaf : LeafNode K V) × (map.get s.leaves p ≡ Some leaf) × (pair_of leaf ≡ x)
  leaf_there p x e = seen_leaf (map.get s.leaves p) x e

  -- a leaf's name stands for no inner node
  pub leaf_name_is : (p : LeafPtr) (h : NodeHeader) (slots : List (ℕ × OpaqueNodePtr)) → node_at s (leaf_name p) ≡ Some (inner_node h slots) → ⊥
  leaf_name_is p h slots e = seen_no_inner (map.get s.leaves p) h slots e

  -- an inner node's name that stands for an inner node
  pub inner_there : (p : InnerPtr) (h : NodeHeader) (slots : List (ℕ × OpaqueNodePtr)) → p.kind ≢ Leaf →
      node_at s (inner_name p) ≡ Some (inner_node h slots) →
      (node : Inner) × (map.get s.inners p ≡ Some node) × (header_at p.kind node ≡ h) × (node.children ≡ slots)
  inner_there p h slots n e = seen_inner p.kind (map.get s.inners p) h slots (ap (option_map (tree_node p.kind)) (sym (held_in_inner p.kind p.slot n)) ∙ e)

  -- an inner node's name stands for no leaf
  pub inner_name_is : (p : InnerPtr) (x : K × V) → p.kind ≢ Leaf → node_at s (inner_name p) ≡ Some (leaf_node x) → ⊥
  inner_name_is p x n e = seen_no_leaf p.kind (map.get s.inners p) x (ap (option_map (tree_node p.kind)) (sym (held_in_inner p.kind p.slot n)) ∙ e)

  inner_used : (kind : NodeType) (slot : ℕ) (h : NodeHeader) (slots : List (ℕ × OpaqueNodePtr)) →
      option_map (tree_node kind) (content_in s kind slot) ≡ Some (inner_node h slots) → is_some (map.get s.inners (record { kind = kind; slot = slot })) ≡ true
  inner_used Leaf slot h slots e = absurd (seen_no_inner (map.get s.leaves (record { slot = slot })) h slots e)
  inner_used Node4 slot h slots e = rw (seen_inner Node4 (map.get s.inners (record { kind = Node4; slot = slot })) h slots e).1 refl
  inner_used Node16 slot h slots e = rw (seen_inner Node16 (map.get s.inners (record { kind = Node16; slot = slot })) h slots e).1 refl
  inner_used Node48 slot h slots e = rw (seen_inner Node48 (map.get s.inners (record { kind = Node48; slot = slot })) h slots e).1 refl
  inner_used Node256 slot h slots e = rw (seen_inner Node256 (map.get s.inners (record { kind = Node256; slot = slot })) h slots e).1 refl

  -- a name that stands for an inner node is one of the store's inner names
  pub inner_is_used : (n : OpaqueNodePtr) (h : NodeHeader) (slots : List (ℕ × OpaqueNodePtr)) → node_at s n ≡ Some (inner_node h slots) →
      is_some (map.get s.inners (record { kind = n.kind; slot = n.slot })) ≡ true
  inner_is_used n h slots e = inner_used n.kind n.slot h slots e

-- a name is that of a leaf, or has an inner kind
pub leaf_or : (k : OpaqueNodePtr) → ((p : LeafPtr) × (k ≡ leaf_name p)) ⊎ (k.kind ≢ Leaf)
leaf_or k = go k.kind k.slot refl
  where
    name : NodeType → ℕ → OpaqueNodePtr
    name kind slot = record { kind = kind; slot = slot }

    other : (kind : NodeType) (slot : ℕ) → k ≡ name kind slot → kind ≢ Leaf → k.kind ≢ Leaf
    other kind slot e off f = off (sym (ap (λ (z : OpaqueNodePtr). z.kind) e) ∙ f)

    go : (kind : NodeType) (slot : ℕ) → k ≡ name kind slot → ((p : LeafPtr) × (k ≡ leaf_name p)) ⊎ (k.kind ≢ Leaf)
    go Leaf slot e = inl (record { slot = slot }, e)
    go Node4 slot e = inr (other Node4 slot e (λ f. absurd cc))
    go Node16 slot e = inr (other Node16 slot e (λ f. absurd cc))
    go Node48 slot e = inr (other Node48 slot e (λ f. absurd cc))
    go Node256 slot e = inr (other Node256 slot e (λ f. absurd cc))
