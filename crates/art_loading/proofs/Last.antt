-- a new last leaf below a node: its neighbours are the last leaf and none
use Rattle.std.proofs.Common.{◌≡◌, ◌⊎◌, ℕ, ◌+◌, ◌<◌, ◌≤◌, List, [], ◌∷◌, ◌++◌, length, get_or, Option, Some, None, IsSomeAnd, IfSome, refl, ap, sym, ◌∙◌, subst, arith, inl, inr, append_assoc, length-append, option_map}
use Rattle.std.specs.List.{AllByRecursion as Each}
use Rattle.std.specs.FinMap as map
use Rattle.std.proofs.lemmas.List.{same_from_push}
use Rattle.art_model.specs.Prelude.{leaf_name, inner_name, InnerPtr, LeafPtr, OpaqueNodePtr, Nodes, AreDistinct, AreLinked, Holds, Links, leaf_names, name_of, names_of, slots_of, leaves_before, plug, depth_of, BytesRise, IsRadix, bytes_of, join, links_at, node_at, Tree, inner, Subtrees, child, no_child}
use Rattle.art_loading.specs.Edges.{EndsUnder, EndsIfInto, IsEdge, IsEdgePoint}
use Rattle.art_loading.specs.declared.edge.Step.{Step}
use Rattle.art_loading.proofs.Edges.{edge_leaf}
use Rattle.art_loading.proofs.PutsAtEnd.{names_with_last}
use Rattle.art_loading.proofs.StepsDown.{HasPush, push_view}
use Rattle.art_model.proofs.leaves.Chains.{links_leaf}
use Rattle.art_model.proofs.leaves.Links.{link_of}
use Rattle.art_model.proofs.lists.Lists.{Each-right, Each-weaker}
use Rattle.art_model.proofs.places.Paths.{radix_plug}
use Rattle.art_model.proofs.places.PlaceLaws.{join_none}
use Rattle.art_model.proofs.radix.Radix.{bytes_of-join}
use Rattle.art_model.proofs.stores.Canonical.{tree_radix}
use Rattle.art_model.proofs.stores.Slots.{length-slots_of}
use Rattle.art_model.proofs.stores.StoreLaws.{has_one_layout}
use Rattle.art_model.proofs.stores.Stores.{hole_distinct, path_holds}
use Rattle.art_model.proofs.stores.Writes.{inner_at}
use Rattle.art_reading.specs.EndNodes.{IsKindOf}
use Rattle.art_reading.specs.declared.end_node.InsertKind.TheVariants.{IntoExisting}
use Rattle.art_writing.specs.ParentWrites.{ComesBetween, HasGap}
use Rattle.art_writing.specs.declared.insert.InsertPoint.{InsertPoint}

-- where the last child is under a lesser byte, none is under a greater one
no_child_after : {N A : Type 0} (left right others : Subtrees N A) (c b : ℕ) (t : Tree N A) → join left right ≡ join others (child c t no_child) → c < b →
    Each (λ d. b < d) (bytes_of right) → right ≡ no_child
no_child_after left no_child others c b t whole less high = refl
no_child_after left (child d u rest) others c b t whole less high = absurd (go (push_view (d ∷ bytes_of rest)))
  where
    same : bytes_of left ++ (d ∷ bytes_of rest) ≡ bytes_of others ++ c ∷ []
    same = sym (bytes_of-join left (child d u rest)) ∙ ap bytes_of whole ∙ bytes_of-join others (child c t no_child)

    go : (d ∷ bytes_of rest ≡ []) ⊎ HasPush (d ∷ bytes_of rest) → ⊥
    go (inl none) = cc
    go (inr h) =
        let all : Each (λ e. b < e) (h.front ++ h.last ∷ []) = subst (Each (λ e. b < e)) h.is high in
        let more : b < h.last = (Each-right (λ e. b < e) h.front (h.last ∷ []) all).0 in
        let one : h.last ≡ c = (same_from_push (bytes_of left ++ h.front) (bytes_of others) h.last c (append_assoc (bytes_of left) h.front (h.last ∷ []) ∙ ap (λ l. bytes_of left ++ l) (sym h.is) ∙ same)).1 in
        omega arith

-- rising bytes are no more than the last one says
rise_from : (low : ℕ) (bs : List ℕ) (c : ℕ) → BytesRise (bs ++ c ∷ []) → Each (λ b. low ≤ b) (bs ++ c ∷ []) → length bs + low ≤ c
rise_from low [] c rise most = let first = most.0 in omega arith
rise_from low (b ∷ bs) c rise most =
    let rest = rise_from (b + 1) bs c rise.1 (Each-weaker (λ d. b < d) (λ d. b + 1 ≤ d) (λ d l. omega arith) (bs ++ c ∷ []) rise.0) in
    let first = most.0 in
    omega arith

all_from_zero : (bs : List ℕ) → Each (λ b. 0 ≤ b) bs
all_from_zero [] = tt
all_from_zero (b ∷ bs) = (omega arith, all_from_zero bs)

module _ {K V : Type 0} {bytes : K × V → List ℕ} {P : ℕ} {s : Nodes K V} {root : OpaqueNodePtr} {steps : List Step} {last : LeafPtr}
    {pairs : List (K × V)} (e : IsEdge bytes P s root steps last pairs) where
  -- the last leaf names none after it
  next_is_none : IsSomeAnd (map.get s.leaves last) (λ leaf. None ≡ leaf.next)
  next_is_none =
      let (own, there, same) = edge_leaf e in
      let names = ap leaf_names (sym e.whole) ∙ names_with_last e.frames (leaf_name last) e.pair e.rightmost in
      let linked : AreLinked (links_at s) None (leaves_before e.frames ++ leaf_name last ∷ []) None =
      subst (λ ns. AreLinked (links_at s) None ns None) names e.by.linked in
      let links = sym (links_leaf s last (Some own) there) ∙ link_of (links_at s) (leaves_before e.frames) [] (leaf_name last) None None linked in
      rw there (none own.next (ap next_of links))
    where
      next_of : Option (Links OpaqueNodePtr) → Option OpaqueNodePtr
      next_of None = None
      next_of (Some links) = links.next

      none : (o : Option LeafPtr) → option_map leaf_name o ≡ None → ◌≡◌ {A = Option LeafPtr} None o
      none None is = refl
      none (Some name) is = absurd cc

  module _ {key : List ℕ} {point : InsertPoint} {above : List Step} {depth : ℕ} (p : IsEdgePoint bytes P e.layout last key point above depth)
      {q : InnerPtr} (into : point.insert_kind ≡ IntoExisting q) where
    whole_held : Holds (node_at s) (plug p.at.path p.at.node)
    whole_held = subst (Holds (node_at s)) (sym p.at.is_end.whole) e.by.stands.0.holds

    held : Holds (node_at s) p.at.node
    held = (path_holds (node_at s) p.at.path p.at.node whole_held).1

    ends_here : EndsUnder last (get_or key point.key_bytes_used 0) p.at.node
    ends_here = subst (λ kind. EndsIfInto kind last (get_or key point.key_bytes_used 0) p.at.node) into p.ends

    kind_here : IsKindOf bytes P key p.at.node (depth_of p.at.path) point.key_bytes_used (IntoExisting q)
    kind_here = subst (IsKindOf bytes P key p.at.node (depth_of p.at.path) point.key_bytes_used) into p.at.kind_is

    -- the new leaf is right after the last one
    pub last_between : (left right : Subtrees OpaqueNodePtr (K × V)) → HasGap s q (get_or key point.key_bytes_used 0) left right →
        ComesBetween s left right (Some last) None
    last_between left right gap =
        let (at, (h, cs, is, free)) = kind_here in
        let same : inner (inner_name q) gap.header (join left right) ≡ p.at.node =
        has_one_layout (node_at s) (inner_name q) p.at.node (inner (inner_name q) gap.header (join left right)) (record {
          named = ap name_of is;
          holds = held;
          distinct = hole_distinct (node_at s) (node_at s) p.at.path p.at.node whole_held
              (subst (λ t. AreDistinct (names_of t)) (sym p.at.is_end.whole) e.by.stands.0.distinct);
        }) gap.full.0 in
        let (others, c, t, whole, less, ends) = subst (EndsUnder last (get_or key point.key_bytes_used 0)) (sym same) ends_here in
        let none = no_child_after left right others c (get_or key point.key_bytes_used 0) t whole less gap.high in
        inr (others, c, t, sym (join_none left) ∙ ap (join left) (sym none) ∙ whole, (last, ends, refl, next_is_none))

    -- and the node has fewer children than there are bytes
    pub few_children : get_or key point.key_bytes_used 0 < 256 → IfSome (map.get s.inners q) (λ node. length node.children < 256)
    few_children most =
        let (at, (h, cs, is, free)) = kind_here in
        let (place, path, own) = radix_plug bytes P p.at.path p.at.node (subst (IsRadix bytes P []) (sym p.at.is_end.whole) (tree_radix e.by).0) in
        let rise = (subst (IsRadix bytes P place) is own).3 in
        let (others, c, t, whole, less, ends) = subst (EndsUnder last (get_or key point.key_bytes_used 0)) is ends_here in
        let bytes_are = ap bytes_of whole ∙ bytes_of-join others (child c t no_child) in
        let count = rise_from 0 (bytes_of others) c (subst BytesRise bytes_are rise) (all_from_zero (bytes_of others ++ c ∷ [])) in
        let (off, node, got, head, kids) = inner_at s (inner_name q) h (slots_of cs) (subst (Holds (node_at s)) is held).0 in
        let long = ap length kids ∙ length-slots_of cs ∙ ap length bytes_are in
        rw got (omega (arith, simp length-append at long))
