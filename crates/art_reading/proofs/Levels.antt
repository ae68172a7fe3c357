-- how many levels are below the nodes on a descent, and what its steps cost
use Rattle.std.proofs.Common.{◌≡◌, ◌≢◌, ℕ, ◌+◌, ◌-◌, ◌*◌, ◌<◌, ◌≤◌, List, [], ◌∷◌, length, get_or, refl, ap, sym, ◌∙◌, arith, subst, Option, Some, None, Result, Ok, Err, true, false, Bool, leb}
use Rattle.std.specs.FinMap as map
use Rattle.std.proofs.lemmas.Bool.{leb-true, leb-false}
use Rattle.art_inner.specs.Inner.{Inner, child_at}
use Rattle.art_nodes.specs.Nodes.{Nodes}
use Rattle.art_parts.specs.Names.{inner_name}
use Rattle.art_parts.specs.declared.names.InnerPtr.{InnerPtr}
use Rattle.art_parts.specs.declared.names.LeafPtr.{LeafPtr}
use Rattle.art_parts.specs.declared.names.NodeType.TheVariants.{Leaf}
use Rattle.art_parts.specs.declared.names.OpaqueNodePtr.{OpaqueNodePtr}
use Rattle.art_model.specs.Canonical.{IsCanonicalTree}
use Rattle.art_model.specs.Heights.{tree_height}
use Rattle.art_model.specs.Layouts.{name_of, Holds}
use Rattle.art_model.specs.Lookups.{nodes_on_way}
use Rattle.art_model.specs.Paths.{Frame, fill, plug}
use Rattle.art_model.specs.Radix.{IsRadix}
use Rattle.art_model.specs.Roots.{ForTree}
use Rattle.art_model.specs.Stores.{header_at, node_at}
use Rattle.art_model.specs.Trees.{Tree, inner, child}
use Rattle.art_model.proofs.places.EdgeDescents.{height_join}
use Rattle.art_model.proofs.places.OnWay.{child_under}
use Rattle.art_model.proofs.stores.Heights.{enough_steps, height_is}
use Rattle.art_model.proofs.stores.Shown.{IsShown}
use Rattle.art_model.proofs.stores.Stores.{path_holds}
use Rattle.art_reading.specs.EndNodes.{IsAt}
use Rattle.art_reading.specs.Readings.{IsPrefixCost, IsStepCost, guide_cost, left_on_way, levels}
use Rattle.art_reading.specs.Stored.{IsWholeStored}
use Rattle.art_reading.specs.declared.end_node.InsertKind.TheVariants.{IntoExisting}
use Rattle.art_reading.specs.declared.end_node.SearchStep.{SearchStep}
use Rattle.art_reading.specs.declared.end_node.SearchStep.TheVariants.{End, Down}
use Rattle.art_reading.specs.declared.path.ExplicitMismatch.{ExplicitMismatch}
use Rattle.art_reading.specs.declared.path.PrefixMatch.{PrefixMatch}
use Rattle.art_reading.specs.declared.path.TreePath.{TreePath}
use Rattle.art_reading.proofs.EndNodes.{shown_there}
use Rattle.art_reading.proofs.LookupWays.{whole_child}

-- a tree is no higher than one that it is a part of
height_plug : {N A : Type 0} (fs : List (Frame N A)) (t : Tree N A) → tree_height t ≤ tree_height (plug fs t)
height_plug [] t = omega arith
height_plug (f ∷ fs) t =
    let l = height_plug fs (fill f t) in
    let k = height_join f.left (child f.byte t f.right) in
    omega arith

module _ {K V : Type 0} {s : Nodes K V} {bytes : K × V → List ℕ} {P : ℕ} {root : OpaqueNodePtr} {pairs : List (K × V)} {layout : Tree OpaqueNodePtr (K × V)}
    (by : IsCanonicalTree bytes P s root pairs layout) where
  node_levels : (fs : List (Frame OpaqueNodePtr (K × V))) (t : Tree OpaqueNodePtr (K × V)) → plug fs t ≡ layout → levels s (name_of t) ≡ tree_height t
  node_levels fs t whole =
      let held = (path_holds (node_at s) fs t (subst (Holds (node_at s)) (sym whole) by.stands.0.holds)).1 in
      let all = enough_steps s layout by.stands.0.holds by.stands.0.distinct in
      let part = height_plug fs t in
      let same = ap tree_height whole in
      height_is (node_at s) t (map.len s.inners) held (omega arith)

  pub root_levels : levels s root ≡ tree_height layout
  root_levels = ap (levels s) (sym by.stands.0.named) ∙ node_levels [] layout refl

  module _ (fs : List (Frame OpaqueNodePtr (K × V))) (t : Tree OpaqueNodePtr (K × V)) (whole : plug fs t ≡ layout) {name : OpaqueNodePtr}
      (named : name_of t ≡ name) where
    -- below a node are no more levels than below the root
    pub under_root : levels s name ≤ levels s root
    under_root =
        let own = ap (levels s) (sym named) ∙ node_levels fs t whole in
        let all = root_levels in
        let part = height_plug fs t in
        let same = ap tree_height whole in
        omega arith

    -- and below a child fewer than below the node
    pub lower : (place : List ℕ) → IsRadix bytes P place t → (p : InnerPtr) (shown : Inner) → IsShown t p shown →
        (b : ℕ) (to : OpaqueNodePtr) → child_at shown.children b ≡ Some to →
        levels s to + 1 ≤ levels s name
    lower place radix p shown at b to there =
        let own = subst (IsRadix bytes P place) at.is radix in
        let u = child_under at.children b to own.3 (ap (λ cs. child_at cs b) (sym at.slots) ∙ there) in
        let f : Frame OpaqueNodePtr (K × V) = record { mark = inner_name p; header = header_at p.kind shown; left = u.left; byte = b; right = u.right } in
        let is : t ≡ fill f u.tree = at.is ∙ ap (inner (inner_name p) (header_at p.kind shown)) u.whole in
        let high : levels s name ≡ tree_height t = ap (levels s) (sym named) ∙ node_levels fs t whole in
        let low : levels s to ≡ tree_height u.tree = ap (levels s) (sym u.named) ∙ node_levels (f ∷ fs) u.tree (ap (plug fs) (sym is) ∙ whole) in
        let same : tree_height t ≡ tree_height (fill f u.tree) = ap tree_height is in
        let join_high = height_join u.left (child b u.tree u.right) in
        omega arith

-- each prefix of a part of a tree is stored whole if each of the tree's is
whole_part : {N A : Type 0} (P : ℕ) (fs : List (Frame N A)) (t : Tree N A) → IsWholeStored P (plug fs t) → IsWholeStored P t
whole_part P [] t whole = whole
whole_part P (f ∷ fs) t whole = whole_child P f.left f.byte t f.right (whole_part P fs (fill f t) whole).1

-- a node on the key's path stores its whole prefix then
pub stored_at : {K V : Type 0} {s : Nodes K V} {bytes : K × V → List ℕ} {P : ℕ} {root : OpaqueNodePtr} {pairs : List (K × V)}
    {layout : Tree OpaqueNodePtr (K × V)}
    (by : IsCanonicalTree bytes P s root pairs layout) {key : List ℕ} {path : TreePath} {p : InnerPtr} {depth : ℕ}
    (d : IsAt bytes P key layout path (inner_name p) depth) →
    p.kind ≢ Leaf → {shown : Inner} → Some shown ≡ map.get s.inners p → IsWholeStored P layout → shown.prefix.len ≤ P
stored_at {P = P} by d proper there whole =
    let at = shown_there by d proper refl there in
    (subst (IsWholeStored P) at.is (whole_part P d.frames d.node (subst (IsWholeStored P) (sym d.whole) whole))).0

module _ {K V : Type 0} (s : Nodes K V) (root name : OpaqueNodePtr) (guide next : Option LeafPtr) (number : ℕ) (key : List ℕ) (place : ℕ) where
  abbrev Cost : SearchStep → Type 0
  Cost step = IsStepCost s root name guide next step number

  -- what the step past a prefix costs
  pub past_costs : (children : List (ℕ × OpaqueNodePtr)) {p : InnerPtr} {step : SearchStep} →
      ((to : OpaqueNodePtr) → child_at children (get_or key place 0) ≡ Some to → levels s to + 1 ≤ levels s name) →
      number + guide_cost s root guide ≤ 2 + guide_cost s root next →
      (length key ≤ place → step ≡ End None (place - 1)) →
      (place < length key → child_at children (get_or key place 0) ≡ None → step ≡ End (Some (IntoExisting p)) place) →
      (place < length key → (to : OpaqueNodePtr) → child_at children (get_or key place 0) ≡ Some to → step ≡ Down p (get_or key place 0) to (place + 1)) →
      Cost step
  past_costs children {p} {step} less few ends into down = by_length (leb (length key) place) refl
    where
      by_child : place < length key → (o : Option OpaqueNodePtr) → child_at children (get_or key place 0) ≡ o → Cost step
      by_child long None e = subst Cost (sym (into long e)) (omega arith)
      by_child long (Some to) e = subst Cost (sym (down long to e)) (let l = less to e in omega arith)

      by_length : (t : Bool) → leb (length key) place ≡ t → Cost step
      by_length true e = subst Cost (sym (ends (leb-true (length key) place e))) (omega arith)
      by_length false e = by_child (leb-false (length key) place e) (child_at children (get_or key place 0)) refl

  -- and the end in a prefix
  pub end_costs : {x y : SearchStep} {step : SearchStep} → (length key ≤ place → step ≡ x) → (place < length key → step ≡ y) → Cost x → Cost y → Cost step
  end_costs {x} {y} {step} ends parts one two = go (leb (length key) place) refl
    where
      go : (t : Bool) → leb (length key) place ≡ t → Cost step
      go true e = subst Cost (sym (ends (leb-true (length key) place e))) one
      go false e = subst Cost (sym (parts (leb-false (length key) place e))) two

-- a comparison that reads nothing costs nothing
pub costs_none : {K V : Type 0} (s : Nodes K V) (root name : OpaqueNodePtr) (guide : Option LeafPtr)
    (result : Result PrefixMatch ExplicitMismatch) → IsPrefixCost s root name guide guide result 0
costs_none s root name guide (Ok match) = omega arith
costs_none s root name guide (Err mismatch) = omega arith

-- the guide leaf took no more readings than this
pub guide_most : {K V : Type 0} (s : Nodes K V) (root : OpaqueNodePtr) (guide : Option LeafPtr) → guide_cost s root guide ≤ levels s root + 1
guide_most s root None = omega arith
guide_most s root (Some name) = omega arith

module _ {K V : Type 0} (bytes : K × V → List ℕ) (P : ℕ) (s : Nodes K V) (root : OpaqueNodePtr) (key : List ℕ) (path : TreePath)
    (name : OpaqueNodePtr) (depth : ℕ) where
  -- A node on the key's path, those above which were read, in so many readings.
  pub record IsReached (layout : Tree OpaqueNodePtr (K × V)) (number : ℕ) : Type 0 where
    pub at : IsAt bytes P key layout path name depth
    pub at_least : length (nodes_on_way bytes key layout) ≤ number + left_on_way bytes key depth at.node
    pub if_whole : IsWholeStored P layout → number + left_on_way bytes key depth at.node ≡ length (nodes_on_way bytes key layout)

  -- What the search for an end node keeps: it has read the nodes above, and few others.
  pub record IsUnderWay (guide : Option LeafPtr) (number : ℕ) : Type 0 where
    pub reached : ForTree bytes P s root (λ pairs layout. IsReached layout number)
    pub few : number + 2 * levels s name ≤ 2 * levels s root + guide_cost s root guide
