-- Writes of a store as a change in the hole of a path: which names keep their nodes, and what the parent has.
use Rattle.std.proofs.Common.{◌≡◌, ◌≢◌, ℕ, ◌+◌, ◌<◌, ◌≤◌, List, [], ◌∷◌, ◌++◌, length, Option, Some, None, IsSomeAnd, IfSome, refl, ap, sym, ◌∙◌, subst, arith, inl, inr, option_map}
use Rattle.std.specs.List.{AllByRecursion as Each}
use Rattle.std.specs.FinMap.{get}
use Rattle.art_model.specs.Prelude.{Inner, put_child, child_at, with_child, leaf_name, Nodes, Leaf, LeafPtr, LeafNode, InnerPtr, OpaqueNodePtr, NodeHeader, canonical_header, kind_of, bytes_of, Frame, IsPath, HoldsPath, Node, leaf_node, inner_node, slots_of, held_leaf, held_inner, tree_node, header_at, node_at, pair_of, Inners, as_inner, parent_of, with_child_at, IsIn}
use Rattle.art_parts.proofs.NameLemmas.{inner_cmp_total, inner_cmp-IsAntisymmetric}
use Rattle.art_nodes.proofs.StoreChanges.{inner_changed_at, inner_changed_elsewhere}
use Rattle.art_model.proofs.lists.Pairwises.{Pairwise-before}
use Rattle.art_model.proofs.stores.Slots.{put_child-there, child_at-there}
use Rattle.art_model.proofs.stores.Stores.{IsParent, ParentHas, SameBut}
use Rattle.art_model.proofs.stores.Touches.{Touched, IsInner, then_changed}
use Rattle.art_model.proofs.stores.Views.{seen_no_inner, seen_inner, held_in_inner, leaf_or}

-- nodes are distinguished by their names
pub leaf_name_one : (p q : LeafPtr) → leaf_name p ≡ leaf_name q → p ≡ q
leaf_name_one p q e = λ i. record { slot = (e i).slot }

pub inner_name_one : (k l : OpaqueNodePtr) → as_inner k ≡ as_inner l → k ≡ l
inner_name_one k l e = λ i. record { kind = (e i).kind; slot = (e i).slot }

module _ {K V : Type 0} (s : Nodes K V) where
  -- the node of a leaf is its pair
  pub node_at-leaf : (p : LeafPtr) → node_at s (leaf_name p) ≡ option_map leaf_node (option_map pair_of (get s.leaves p))
  node_at-leaf p = go (get s.leaves p)
    where
      go : (o : Option (LeafNode K V)) → option_map (tree_node Leaf) (option_map held_leaf o) ≡ option_map leaf_node (option_map pair_of o)
      go None = refl
      go (Some leaf) = refl

  -- the node under a name of an inner kind
  pub node_at-inner : (k : OpaqueNodePtr) → k.kind ≢ Leaf → (o : Option Inner) → get s.inners (as_inner k) ≡ o →
      node_at s k ≡ option_map (tree_node k.kind) (option_map held_inner o)
  node_at-inner k off o e = ap (option_map (tree_node k.kind)) (held_in_inner s k.kind k.slot off ∙ ap (option_map held_inner) e)

  -- the inner node of the store where a tree sees one
  pub inner_at : (k : OpaqueNodePtr) (h : NodeHeader) (slots : List (ℕ × OpaqueNodePtr)) → node_at s k ≡ Some (inner_node h slots) → (k.kind ≢ Leaf) ×
      (node : Inner) × (get s.inners (as_inner k) ≡ Some node) × (header_at k.kind node ≡ h) × (node.children ≡ slots)
  inner_at k h slots e = elim (leaf_or k) [
    | inl (p, is) ↦ absurd (seen_no_inner (get s.leaves p) h slots (ap (node_at s) (sym is) ∙ e))
    | inr off ↦ let (node, there, head, below) =
        seen_inner k.kind (get s.inners (as_inner k)) h slots (sym (node_at-inner k off (get s.inners (as_inner k)) refl) ∙ e) in
        (off, node, there, head, below)
  ]

-- an inner node as a tree sees it, by parts
pub shown : {A : Type 0} {slots rest : List (ℕ × OpaqueNodePtr)} {g h : NodeHeader} →
    g ≡ h → slots ≡ rest → ◌≡◌ {A = Option (Node OpaqueNodePtr A)} (Some (inner_node g slots)) (Some (inner_node h rest))
shown a e = cc

module _ {K V : Type 0} (s t : Nodes K V) where
  -- the same inner node is seen as the same
  pub same_inner : (k : OpaqueNodePtr) → k.kind ≢ Leaf → get t.inners (as_inner k) ≡ get s.inners (as_inner k) → node_at t k ≡ node_at s k
  same_inner k off same = node_at-inner t k off (get s.inners (as_inner k)) same ∙ sym (node_at-inner s k off (get s.inners (as_inner k)) refl)

  -- Leaves that keep their pairs, and inner nodes that are unchanged except for the parent and the touched ones: a tree sees nothing else.
  pub same_but : (fs : List (Frame OpaqueNodePtr (K × V))) (touched : List OpaqueNodePtr) →
      ((p : LeafPtr) → (IsIn (leaf_name p) touched → ⊥) → get s.leaves p ≢ None → option_map pair_of (get t.leaves p) ≡ option_map pair_of (get s.leaves p)) →
      ((k : OpaqueNodePtr) → k.kind ≢ Leaf → (IsParent fs k → ⊥) → (IsIn k touched → ⊥) → node_at s k ≢ None →
      get t.inners (as_inner k) ≡ get s.inners (as_inner k)) → SameBut (node_at s) (node_at t) fs touched
  same_but fs touched leaves inners k up off used = elim (leaf_or k) [
    | inl (p, e) ↦ subst (λ z. node_at t z ≡ node_at s z) (sym e)
        (node_at-leaf t p ∙ ap (option_map leaf_node) (leaves p (λ i. off (subst (λ z. IsIn z touched) (sym e) i))
        (λ free. used (ap (node_at s) e ∙ node_at-leaf s p ∙ ap (λ o. option_map leaf_node (option_map pair_of o)) free))) ∙ sym (node_at-leaf s p))
    | inr kind ↦ same_inner k kind (inners k kind up off used)
  ]

-- a header with the kind for another number of children
pub header_with : (P : ℕ) (part : List ℕ) (n count : ℕ) (h : NodeHeader) → h ≡ canonical_header P part n → h.kind ≡ kind_of count →
    h ≡ canonical_header P part count
header_with P part n count h e kind = λ i. record { kind = kind i; length_of = (e i).length_of; stored = (e i).stored }

-- ---- the parent's child

module _ {A : Type 0} where
  -- other names than the parent's
  pub with_child_at-elsewhere : (fs : List (Frame OpaqueNodePtr A)) (name : OpaqueNodePtr) (m : Inners) (k : OpaqueNodePtr) → (IsParent fs k → ⊥) →
      get (with_child_at (parent_of fs) name m) (as_inner k) ≡ get m (as_inner k)
  with_child_at-elsewhere [] name m k off = refl
  with_child_at-elsewhere (f ∷ fs) name m k off =
      inner_changed_elsewhere m (as_inner f.mark) (as_inner k) (with_child f.byte name) (λ e. off (inner_name_one k f.mark e))

  -- the parent, if there is one
  abbrev pub parents : List (Frame OpaqueNodePtr A) → List InnerPtr
  parents [] = []
  parents (f ∷ fs) = as_inner f.mark ∷ []

  -- at most one
  pub length-parents : (fs : List (Frame OpaqueNodePtr A)) (touched : List InnerPtr) → length (parents fs ++ touched) ≤ 1 + length touched
  length-parents [] touched = omega arith
  length-parents (f ∷ fs) touched = omega arith

  -- the parent is changed
  pub then_parent : {old new : Inners} {placed freed changed : List InnerPtr} → Touched old new placed freed changed →
      (fs : List (Frame OpaqueNodePtr A)) (name : OpaqueNodePtr) →
      ((k : OpaqueNodePtr) → IsParent fs k → get old (as_inner k) ≢ None) → ((k : OpaqueNodePtr) → IsParent fs k → get new (as_inner k) ≢ None) →
      Touched old (with_child_at (parent_of fs) name new) placed freed (parents fs ++ changed)
  then_parent so_far [] name was is = so_far
  then_parent so_far (f ∷ fs) name was is =
      then_changed inner_cmp_total inner_cmp-IsAntisymmetric so_far (as_inner f.mark) (with_child f.byte name)
      (was f.mark refl) (is f.mark refl)

module _ {K V : Type 0} (bytes : K × V → List ℕ) (P : ℕ) (s : Nodes K V) where
  -- the parent is in the store, and has a child under its byte
  pub parent_there : (fs : List (Frame OpaqueNodePtr (K × V))) (hole : OpaqueNodePtr) → HoldsPath (node_at s) hole fs → (k : OpaqueNodePtr) →
      IsParent fs k → (k.kind ≢ Leaf) × (get s.inners (as_inner k) ≢ None)
  parent_there [] hole holds k is = absurd is
  parent_there (f ∷ fs) hole holds k is =
      let (off, node, there, head, below) = inner_at s f.mark f.header (slots_of f.left ++ (f.byte, hole) ∷ slots_of f.right) holds.0 in
      ((λ e. off (sym (ap (λ (z : OpaqueNodePtr). z.kind) is) ∙ e)), (λ e. let g = sym there ∙ ap (λ z. get s.inners (as_inner z)) (sym is) ∙ e in absurd cc))

  -- so it is among inner nodes
  pub parents_inner : (fs : List (Frame OpaqueNodePtr (K × V))) (hole : OpaqueNodePtr) → HoldsPath (node_at s) hole fs → (touched : List InnerPtr) →
      Each IsInner touched → Each IsInner (parents fs ++ touched)
  parents_inner [] hole holds touched inner = inner
  parents_inner (f ∷ fs) hole holds touched inner = ((parent_there (f ∷ fs) hole holds f.mark refl).0, inner)

  -- and has the hole as the child under its byte
  pub parent_ready : (fs : List (Frame OpaqueNodePtr (K × V))) (place : List ℕ) (hole : OpaqueNodePtr) → IsPath bytes P place fs →
      HoldsPath (node_at s) hole fs → IfSome (parent_of fs) (λ p. IsSomeAnd (get s.inners p.0) (λ node. child_at node.children p.1 ≡ Some hole))
  parent_ready [] place hole path holds = tt
  parent_ready (f ∷ fs) place hole (outer, part, e, head, two, up, l, r, path) holds =
      let (off, node, there, header, below) = inner_at s f.mark f.header (slots_of f.left ++ (f.byte, hole) ∷ slots_of f.right) holds.0 in
      subst (λ z. IsSomeAnd z (λ node. child_at node.children f.byte ≡ Some hole)) (sym there)
      (ap (λ z. child_at z f.byte) below ∙ child_at-there f.left f.byte hole (slots_of f.right)
      (Pairwise-before ◌<◌ (bytes_of f.left) (bytes_of f.right) f.byte up))

  -- after the write the parent has the new name in its hole
  pub parent_written : (t : Nodes K V) (m : Inners) (fs : List (Frame OpaqueNodePtr (K × V))) (place : List ℕ) (hole name : OpaqueNodePtr) →
      IsPath bytes P place fs → HoldsPath (node_at s) hole fs →
      ((k : OpaqueNodePtr) → IsParent fs k → get m (as_inner k) ≡ get s.inners (as_inner k)) →
      ((k : OpaqueNodePtr) → IsParent fs k → get t.inners (as_inner k) ≡ get (with_child_at (parent_of fs) name m) (as_inner k)) → ParentHas (node_at t) fs name
  parent_written t m [] place hole name path holds before after = tt
  parent_written t m (f ∷ fs) place hole name (outer, part, e, head, two, up, l, r, path) holds before after =
      let (off, node, there, header, below) = inner_at s f.mark f.header (slots_of f.left ++ (f.byte, hole) ∷ slots_of f.right) holds.0 in
      let put : put_child node.children f.byte name ≡ slots_of f.left ++ (f.byte, name) ∷ slots_of f.right =
      ap (λ z. put_child z f.byte name) below ∙ put_child-there f.left f.byte hole name (slots_of f.right)
      (Pairwise-before ◌<◌ (bytes_of f.left) (bytes_of f.right) f.byte up) in
      let got : get t.inners (as_inner f.mark) ≡ Some (with_child f.byte name node) =
      after f.mark refl ∙ inner_changed_at m (as_inner f.mark) (with_child f.byte name)
      ∙ ap (option_map (with_child f.byte name)) (before f.mark refl ∙ there) in
      node_at-inner t f.mark off (Some (with_child f.byte name node)) got ∙ shown header put

-- a parent that is not written has the same name in its hole
pub parent_stays : {N A : Type 0} (at to : N → Option (Node N A)) (fs : List (Frame N A)) (hole : N) → HoldsPath at hole fs →
    ((k : N) → IsParent fs k → to k ≡ at k) → ParentHas to fs hole
parent_stays at to [] hole holds same = tt
parent_stays at to (f ∷ fs) hole holds same = same f.mark refl ∙ holds.0
