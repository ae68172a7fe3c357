-- what a store has under the name of a node of a layout
use Rattle.std.proofs.Common.{◌≡◌, ◌≢◌, ap, ap₂, sym, subst, ◌∙◌, Option, Some, None}
use Rattle.std.specs.FinMap as map
use Rattle.art_model.specs.Prelude.{Inner, leaf_name, inner_name, Nodes, Leaf, LeafPtr, InnerPtr, OpaqueNodePtr, LeafNode, Tree, leaf, inner, Subtrees, name_of, slots_of, Holds, node_at, header_at, pair_of}
use Rattle.art_model.proofs.stores.Views.{leaf_there, leaf_name_is, inner_there, inner_name_is}

-- the inner node of a layout under this name, as the store has it
pub record IsShown {A : Type 0} (t : Tree OpaqueNodePtr A) (p : InnerPtr) (shown : Inner) : Type 0 where
  pub children : Subtrees OpaqueNodePtr A
  pub is : t ≡ inner (inner_name p) (header_at p.kind shown) children
  pub slots : shown.children ≡ slots_of children

module _ {K V : Type 0} (s : Nodes K V) where
  module _ (p : LeafPtr) where
    -- what has a leaf's name is a leaf
    pub leaf_named : (t : Tree OpaqueNodePtr (K × V)) → name_of t ≡ leaf_name p → Holds (node_at s) t → (x : K × V) × (t ≡ leaf (leaf_name p) x)
    leaf_named (leaf n x) named held = (x, ap (λ m. leaf m x) named)
    leaf_named (inner n h cs) named held = absurd (leaf_name_is s p h (slots_of cs) (ap (node_at s) (sym named) ∙ held.0))

    -- under a leaf's name is the leaf
    abbrev LeafIs : Tree OpaqueNodePtr (K × V) → Option (LeafNode K V) → Type 0
    LeafIs t None = ⊥
    LeafIs t (Some shown) = t ≡ leaf (leaf_name p) (pair_of shown)

    leaf_is : (t : Tree OpaqueNodePtr (K × V)) → name_of t ≡ leaf_name p → Holds (node_at s) t → LeafIs t (map.get s.leaves p)
    leaf_is (leaf n x) named held =
        let (shown, there, same) = leaf_there s p x (ap (node_at s) (sym named) ∙ held) in
        subst (LeafIs (leaf n x)) (sym there) (ap₂ leaf named (sym same))
    leaf_is (inner n h cs) named held = absurd (leaf_name_is s p h (slots_of cs) (ap (node_at s) (sym named) ∙ held.0))

    pub no_leaf_gone : (t : Tree OpaqueNodePtr (K × V)) → name_of t ≡ leaf_name p → Holds (node_at s) t → None ≡ map.get s.leaves p → ⊥
    no_leaf_gone t named held gone = subst (LeafIs t) (sym gone) (leaf_is t named held)

    pub leaf_shown : (t : Tree OpaqueNodePtr (K × V)) → name_of t ≡ leaf_name p → Holds (node_at s) t → (shown : LeafNode K V) →
        Some shown ≡ map.get s.leaves p → t ≡ leaf (leaf_name p) (pair_of shown)
    leaf_shown t named held shown there = subst (LeafIs t) (sym there) (leaf_is t named held)

  module _ (p : InnerPtr) (proper : p.kind ≢ Leaf) where
    -- under an inner node's name is the inner node
    abbrev InnerIs : Tree OpaqueNodePtr (K × V) → Option Inner → Type 0
    InnerIs t None = ⊥
    InnerIs t (Some shown) = IsShown t p shown

    inner_is : (t : Tree OpaqueNodePtr (K × V)) → name_of t ≡ inner_name p → Holds (node_at s) t → InnerIs t (map.get s.inners p)
    inner_is (leaf n x) named held = absurd (inner_name_is s p x proper (ap (node_at s) (sym named) ∙ held))
    inner_is (inner n h cs) named held =
        let (shown, there, header, slots) = inner_there s p h (slots_of cs) proper (ap (node_at s) (sym named) ∙ held.0) in
        subst (InnerIs (inner n h cs)) (sym there) (record { children = cs; is = ap₂ (λ m g. inner m g cs) named (sym header); slots = slots })

    pub no_inner_gone : (t : Tree OpaqueNodePtr (K × V)) → name_of t ≡ inner_name p → Holds (node_at s) t → None ≡ map.get s.inners p → ⊥
    no_inner_gone t named held gone = subst (InnerIs t) (sym gone) (inner_is t named held)

    pub inner_shown : (t : Tree OpaqueNodePtr (K × V)) → name_of t ≡ inner_name p → Holds (node_at s) t → (shown : Inner) →
        Some shown ≡ map.get s.inners p → IsShown t p shown
    inner_shown t named held shown there = subst (InnerIs t) (sym there) (inner_is t named held)

-- A node that is in the store under its name.
pub record IsThere {K V : Type 0} (s : Nodes K V) (node : Tree OpaqueNodePtr (K × V)) (name : OpaqueNodePtr) : Type 0 where
  pub named : name_of node ≡ name
  pub holds : Holds (node_at s) node

module _ {K V : Type 0} {s : Nodes K V} {node : Tree OpaqueNodePtr (K × V)} {name : OpaqueNodePtr} (at : IsThere s node name) where
  -- its name is in use
  pub leaf_met : {p : LeafPtr} → leaf_name p ≡ name → None ≡ map.get s.leaves p → ⊥
  leaf_met {p} is gone = no_leaf_gone s p node (at.named ∙ sym is) at.holds gone

  pub inner_met : {p : InnerPtr} → p.kind ≢ Leaf → inner_name p ≡ name → None ≡ map.get s.inners p → ⊥
  inner_met {p} proper is gone = no_inner_gone s p proper node (at.named ∙ sym is) at.holds gone

  pub shown_met : {p : InnerPtr} {shown : Inner} → p.kind ≢ Leaf → inner_name p ≡ name → Some shown ≡ map.get s.inners p → IsShown node p shown
  shown_met {p} {shown} proper is there = inner_shown s p proper node (at.named ∙ sym is) at.holds shown there
