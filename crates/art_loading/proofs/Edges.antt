-- what is known at the right edge of a tree, and the points there
use Rattle.std.proofs.Common.{◌≡◌, ◌≢◌, ℕ, ◌+◌, ◌<◌, ◌≤◌, List, [], ◌∷◌, ◌++◌, length, refl, ap, sym, ◌∙◌, arith, subst, Option, Some, None, IsSome, true, inl, inr, ◌⊎◌, take_at, take, append-nil, get_or}
use Rattle.std.specs.List.{AllByRecursion as Each}
use Rattle.std.specs.FinMap as map
use Rattle.art_model.specs.Prelude.{Inner, leaf_name, inner_name, LeafNode, InnerPtr, LeafPtr, Leaf, OpaqueNodePtr, Nodes, IsCanonical, IsCanonicalTree, Precedes, is_before, AreDistinct, name_of, names_of, Holds, slots_of, last_of, put, Frame, fill, plug, pairs_before, depth_of, prefix_of, IsRadix, join, pairs_of, IsFullTree, node_at, pair_of, Tree, leaf, inner, child, no_child, as_inner, parent_of}
use Rattle.art_loading.specs.Edges.{EndsIfInto, IsEdge, IsEdgePoint, IsLastPoint, IsLeafIf, IsNewKind}
use Rattle.art_loading.specs.NextKeys.{IsNextKey, IsReason}
use Rattle.art_loading.specs.declared.append.AppendReason.{AppendReason}
use Rattle.art_loading.specs.declared.append.AppendReason.TheVariants.{Memory}
use Rattle.art_loading.specs.EdgeSteps.{IsReach, path_by, step_of, steps_of}
use Rattle.art_loading.specs.declared.edge.Step.{Step}
use Rattle.art_loading.proofs.Next.{next_byte, next_precedes}
use Rattle.art_loading.proofs.PointsOnPath.{IsPointAt, leaf_point, into_byte, into_point, mismatch_point, plug_twice, prefix_len}
use Rattle.art_loading.proofs.PutsAtEnd.{before_last, ends_with_last, last_child, last_of_push, pairs_with_last, put_last}
use Rattle.art_loading.proofs.StepsDown.{IsCut, cut_at, path_by-steps}
use Rattle.art_model.proofs.keys.KeyLaws.{order_is_transitive}
use Rattle.art_model.proofs.lists.Lists.{Each-append, Each-left, Each-right, Each-weaker}
use Rattle.art_model.proofs.places.Paths.{radix_plug}
use Rattle.art_model.proofs.radix.TreeLaws.{have_two_children, one_child}
use Rattle.art_model.proofs.stores.Canonical.{tree_radix}
use Rattle.art_model.proofs.stores.Stores.{hole_distinct, path_holds}
use Rattle.art_model.proofs.stores.Views as views
use Rattle.art_model.proofs.stores.Writes.{inner_at}
use Rattle.art_reading.specs.EndNodes.{IsKindOf, IsLeafForPrefix}
use Rattle.art_reading.specs.PathSteps.{path_of}
use Rattle.art_reading.specs.declared.end_node.InsertKind.{InsertKind}
use Rattle.art_reading.specs.declared.end_node.InsertKind.TheVariants.{Exact, MismatchPrefix, SplitLeaf, IntoExisting}
use Rattle.art_reading.specs.declared.path.ExplicitMismatch.{ExplicitMismatch}
use Rattle.art_reading.specs.declared.path.TreePath.{TreePath}
use Rattle.art_reading.specs.declared.path.TreePath.TheVariants.{Root}
use Rattle.art_writing.specs.Inserted.{HasInserted, IsBelow, IsChange, IsPointIn}
use Rattle.art_writing.proofs.Standing.{point_in, tree_stays}
use Rattle.art_writing.specs.declared.insert.InsertParentNodeChange.TheVariants.{NewParent, NoChange}
use Rattle.art_writing.specs.declared.insert.InsertResult.{InsertResult}
use Rattle.art_writing.specs.declared.insert.InsertPoint.{InsertPoint}

-- the root is at depth 0
no_root : {A : Type 0} (shared : ℕ) (f : Frame OpaqueNodePtr A) (fs : List (Frame OpaqueNodePtr A)) →
    Each (λ step. shared < step.depth) (steps_of (f ∷ fs)) → ⊥
no_root shared f [] deep = let l = deep.0 in omega arith
no_root shared f (g ∷ gs) deep =
    no_root shared g gs (Each-left (λ (step : Step). shared < step.depth) (steps_of (g ∷ gs)) (step_of f (g ∷ gs) ∷ []) deep)

-- the least leaf for a prefix of this length
leaf_for : {A : Type 0} (P len : ℕ) (prefix : List ℕ) (tree : Tree OpaqueNodePtr A) (name : Option LeafPtr) → length prefix ≡ len →
    IsLeafIf P len tree name → IsLeafForPrefix P prefix tree name
leaf_for P len prefix tree None same is = omega arith
leaf_for P len prefix tree (Some name) same (more, first) = (omega arith, first)

module _ {K V : Type 0} {bytes : K × V → List ℕ} {P : ℕ} {s : Nodes K V} {root : OpaqueNodePtr} {steps : List Step} {last : LeafPtr}
    {pairs : List (K × V)} (e : IsEdge bytes P s root steps last pairs) where
  radix : IsRadix bytes P [] (plug e.frames (leaf (leaf_name last) e.pair))
  radix = subst (IsRadix bytes P []) (sym e.whole) (tree_radix e.by).0

  holds : Holds (node_at s) (plug e.frames (leaf (leaf_name last) e.pair))
  holds = subst (Holds (node_at s)) (sym e.whole) e.by.stands.0.holds

  -- the last leaf is in the store
  pub edge_leaf : (own : LeafNode K V) × (map.get s.leaves last ≡ Some own) × (pair_of own ≡ e.pair)
  edge_leaf = views.leaf_there s last e.pair (path_holds (node_at s) e.frames (leaf (leaf_name last) e.pair) holds).1

  pub leaf_met : IsSome (map.get s.leaves last)
  leaf_met = let (own, there, same) = edge_leaf in rw there refl

  pub edge_pairs : pairs ≡ pairs_before e.frames ++ e.pair ∷ []
  edge_pairs = sym (tree_radix e.by).1 ∙ ap pairs_of (sym e.whole) ∙ pairs_with_last e.frames (leaf_name last) e.pair e.rightmost

  pub edge_last : last_of pairs ≡ Some e.pair
  edge_last = ap last_of edge_pairs ∙ last_of_push (pairs_before e.frames) e.pair

  -- all pairs are before a key after the last one
  pub all_before : (key : List ℕ) → Precedes (bytes e.pair) key → Each (λ x. is_before (bytes x) key ≡ true) pairs
  all_before key after =
      subst (Each (λ x. is_before (bytes x) key ≡ true)) (sym edge_pairs)
      (Each-append (λ x. is_before (bytes x) key ≡ true) (pairs_before e.frames) (e.pair ∷ [])
      (Each-weaker (λ x. is_before (bytes x) (bytes e.pair) ≡ true) (λ x. is_before (bytes x) key ≡ true)
      (λ x h. order_is_transitive (bytes x) (bytes e.pair) key h after.0) (pairs_before e.frames)
      (before_last bytes P e.frames (leaf_name last) e.pair radix))
      (after.0, tt))

  -- no step is within reach only where there is none
  pub edge_bare : (shared : ℕ) → Each (λ step. shared < step.depth) steps → e.frames ≡ []
  edge_bare shared deep = go e.frames (subst (Each (λ (step : Step). shared < step.depth)) e.steps_are deep)
    where
      go : (fs : List (Frame OpaqueNodePtr (K × V))) → Each (λ step. shared < step.depth) (steps_of fs) → fs ≡ []
      go [] d = refl
      go (f ∷ fs) d = absurd (no_root shared f fs d)

  pub edge_kept : {shared : ℕ} {above : List Step} {step : Step} → IsReach shared steps above step → take (length above) steps ≡ above
  edge_kept {above = above} {step} reach = ap (take (length above)) reach.whole ∙ take_at above (step ∷ reach.rest) (length above) refl

  pub edge_cut : {shared : ℕ} {above : List Step} {step : Step} → IsReach shared steps above step → IsCut shared e.frames above step
  edge_cut {shared} {above} {step} reach = cut_at shared e.frames above reach.rest step (sym e.steps_are ∙ reach.whole) reach.beyond

  -- the point at the leaf
  pub leaf_edge : {key : List ℕ} {shared x y : ℕ} (point : InsertPoint) (above : List Step) (depth : ℕ) → IsNextKey (bytes e.pair) key shared x y →
      point ≡ record { path = path_of e.frames; insert_kind = SplitLeaf last shared; key_bytes_used = depth; root = root } →
      above ≡ steps_of e.frames → depth ≡ depth_of e.frames → depth ≤ shared → IsEdgePoint bytes P e.layout last key point above depth
  leaf_edge {key} {shared} point above depth next is above_is depth_is short =
      let p = leaf_point last e.pair e.by next e.frames e.whole (omega arith) in
      record {
        at = record {
          path = e.frames;
          node = leaf (leaf_name last) e.pair;
          is_end = p.is_end;
          root_is = ap (λ (z : InsertPoint). z.root) is ∙ sym e.by.stands.0.named;
          path_is = ap (λ (z : InsertPoint). z.path) is;
          kind_is = subst (λ (z : InsertPoint). IsKindOf bytes P key (leaf (leaf_name last) e.pair) (depth_of e.frames) z.key_bytes_used z.insert_kind) (sym is)
              (subst (λ u. IsKindOf bytes P key (leaf (leaf_name last) e.pair) (depth_of e.frames) u (SplitLeaf last shared)) (sym depth_is) p.kind_is);
        };
        above_is = above_is;
        depth_is = depth_is;
        rightmost = e.rightmost;
        ends = subst (λ (z : InsertPoint). EndsIfInto z.insert_kind last (get_or key z.key_bytes_used 0) (leaf (leaf_name last) e.pair)) (sym is) tt;
        is_new = subst (λ (z : InsertPoint). IsNewKind z.insert_kind) (sym is) tt;
      }

  pub bare_edge : {key : List ℕ} {shared x y : ℕ} (point : InsertPoint) → IsNextKey (bytes e.pair) key shared x y →
      Each (λ step. shared < step.depth) steps →
      point ≡ record { path = Root; insert_kind = SplitLeaf last shared; key_bytes_used = 0; root = root } → IsEdgePoint bytes P e.layout last key point [] 0
  bare_edge {shared = shared} point next deep is =
      let bare = edge_bare shared deep in
      leaf_edge point [] 0 next
      (is ∙ ap (λ (fs : List (Frame OpaqueNodePtr (K × V))). record { path = path_of fs; insert_kind = SplitLeaf last shared; key_bytes_used = 0; root = root }) (sym bare))
      (sym (ap steps_of bare)) (sym (ap depth_of bare)) (omega arith)

  module _ {shared : ℕ} {above : List Step} {step : Step} (c : IsCut shared e.frames above step) where
    abbrev here : Tree OpaqueNodePtr (K × V)
    here = fill c.frame (plug c.inner (leaf (leaf_name last) e.pair))

    pub cut_whole : plug (c.inner ++ c.frame ∷ c.outer) (leaf (leaf_name last) e.pair) ≡ e.layout
    cut_whole = ap (λ fs. plug fs (leaf (leaf_name last) e.pair)) (sym c.whole) ∙ e.whole

    here_whole : plug c.outer (fill c.frame (plug c.inner (leaf (leaf_name last) e.pair))) ≡ e.layout
    here_whole = sym (plug_twice c.inner (c.frame ∷ c.outer) (leaf (leaf_name last) e.pair)) ∙ cut_whole

    here_holds : Holds (node_at s) (plug c.outer (fill c.frame (plug c.inner (leaf (leaf_name last) e.pair))))
    here_holds = subst (Holds (node_at s)) (sym here_whole) e.by.stands.0.holds

    -- the step's node is in the store
    pub cut_node : (step.node.kind ≢ Leaf) × (node : Inner) × (map.get s.inners step.node ≡ Some node) × (node.prefix.len ≡ c.frame.header.length_of)
    cut_node =
        let (off, node, got, head, kids) = inner_at s c.frame.mark c.frame.header
        (slots_of (join c.frame.left (child c.frame.byte (plug c.inner (leaf (leaf_name last) e.pair)) c.frame.right)))
        (path_holds (node_at s) c.outer here here_holds).1.0 in
        subst (λ (z : Step). (z.node.kind ≢ Leaf) × (node : Inner) × (map.get s.inners z.node ≡ Some node) × (node.prefix.len ≡ c.frame.header.length_of))
        (sym c.step_is) (off, node, got, ap (λ h. h.length_of) head)

    pub cut_met : IsSome (map.get s.inners step.node)
    cut_met = let (off, node, got, len) = cut_node in rw got refl

    pub cut_len : {shown : Inner} → map.get s.inners step.node ≡ Some shown → shown.prefix.len ≡ c.frame.header.length_of
    cut_len {shown} there = let (off, node, got, len) = cut_node in let same : shown ≡ node = cc in ap (λ (z : Inner). z.prefix.len) same ∙ len

    -- the node and what is below is a tree
    pub cut_full : IsFullTree s (inner_name step.node) (fill c.frame (plug c.inner (leaf (leaf_name last) e.pair)))
    cut_full =
        let (place, path, own) = radix_plug bytes P c.outer here (subst (IsRadix bytes P []) (sym here_whole) (tree_radix e.by).0) in (
          record {
            named = sym (ap (λ (z : Step). inner_name z.node) c.step_is);
            holds = (path_holds (node_at s) c.outer here here_holds).1;
            distinct = hole_distinct (node_at s) (node_at s) c.outer here here_holds
                (subst (λ t. AreDistinct (names_of t)) (sym here_whole) e.by.stands.0.distinct);
          },
          one_child here (have_two_children bytes P place here own),
        )

    outer_right : (c.frame.right ≡ no_child) × Each (λ f. f.right ≡ no_child) c.outer
    outer_right =
        let all = Each-right (λ f. f.right ≡ no_child) c.inner (c.frame ∷ c.outer) (subst (Each (λ f. f.right ≡ no_child)) c.whole e.rightmost) in
        (all.0, all.1)

    -- the point at an inner node
    inner_edge : {key : List ℕ} {used depth : ℕ} (kind : InsertKind) (point : InsertPoint) → IsPointAt bytes P e.layout key c.outer here used kind →
        point ≡ record { path = path_by Root above; insert_kind = kind; key_bytes_used = used; root = root } →
        IsNewKind kind → EndsIfInto kind last (get_or key used 0) here → depth ≡ step.depth → (kept : List Step) → kept ≡ above → IsEdgePoint bytes P e.layout last key point kept depth
    inner_edge {key} {used} kind point p is new ends depth_is kept kept_is =
        record {
          at = record {
            path = c.outer;
            node = here;
            is_end = p.is_end;
            root_is = ap (λ (z : InsertPoint). z.root) is ∙ sym e.by.stands.0.named;
            path_is = ap (λ (z : InsertPoint). z.path) is ∙ ap (path_by Root) c.above_is ∙ path_by-steps c.outer;
            kind_is = subst (λ (z : InsertPoint). IsKindOf bytes P key here (depth_of c.outer) z.key_bytes_used z.insert_kind) (sym is) p.kind_is;
          };
          above_is = kept_is ∙ c.above_is;
          depth_is = depth_is ∙ ap (λ (z : Step). z.depth) c.step_is;
          rightmost = outer_right.1;
          is_new = subst (λ (z : InsertPoint). IsNewKind z.insert_kind) (sym is) new;
          ends = subst (λ (z : InsertPoint). EndsIfInto z.insert_kind last (get_or key z.key_bytes_used 0) here) (sym is) ends;
        }

    module _ {key : List ℕ} {x y : ℕ} (next : IsNextKey (bytes e.pair) key shared x y) (within : step.depth ≤ shared) (path : TreePath)
        (point : InsertPoint) (kept : List Step) (kept_is : kept ≡ above) where
      short : depth_of c.outer ≤ shared
      short = subst (λ (z : Step). z.depth ≤ shared) c.step_is within

      -- the last child of the node is the one on the path
      left_ends : step.depth + c.frame.header.length_of ≡ shared → EndsIfInto (IntoExisting (as_inner c.frame.mark)) last (get_or key shared 0) here
      left_ends end =
          let byte = into_byte last e.pair e.by next c.inner c.frame c.outer cut_whole short outer_right.0
          (sym (subst (λ (z : Step). z.depth + c.frame.header.length_of ≡ shared) c.step_is end)) in
          let other = next_byte next in
          let less = next.less in (
            c.frame.left,
            c.frame.byte,
            plug c.inner (leaf (leaf_name last) e.pair),
            ap (λ r. join c.frame.left (child c.frame.byte (plug c.inner (leaf (leaf_name last) e.pair)) r)) outer_right.0,
            omega arith,
            ends_with_last c.inner (leaf_name last) e.pair
                (Each-left (λ f. f.right ≡ no_child) c.inner (c.frame ∷ c.outer) (subst (Each (λ f. f.right ≡ no_child)) c.whole e.rightmost)),
          )

      pub into_edge : step.depth + c.frame.header.length_of ≡ shared → path ≡ path_by Root above →
          point ≡ record { path = path; insert_kind = IntoExisting step.node; key_bytes_used = shared; root = root } →
          IsEdgePoint bytes P e.layout last key point kept step.depth
      into_edge end path_is is =
          inner_edge (IntoExisting (as_inner c.frame.mark)) point
          (into_point last e.pair e.by next c.inner c.frame c.outer cut_whole short outer_right.0
          (sym (subst (λ (z : Step). z.depth + c.frame.header.length_of ≡ shared) c.step_is end)))
          (is ∙ ap (λ p. record { path = p; insert_kind = IntoExisting step.node; key_bytes_used = shared; root = root }) path_is
          ∙ ap (λ (z : Step). record { path = path_by Root above; insert_kind = IntoExisting z.node; key_bytes_used = shared; root = root }) c.step_is)
          tt (left_ends end) refl kept kept_is

      pub mismatch_edge : (m : ExplicitMismatch) (len : ℕ) → len ≡ c.frame.header.length_of → shared < step.depth + len →
          m.matched_bytes + step.depth ≡ shared → m.prefix_byte ≡ x →
          IsLeafIf P len (fill c.frame (plug c.inner (leaf (leaf_name last) e.pair))) m.leaf_ptr → path ≡ path_by Root above →
          point ≡ record { path = path; insert_kind = MismatchPrefix m step.node; key_bytes_used = step.depth; root = root } →
          IsEdgePoint bytes P e.layout last key point kept step.depth
      mismatch_edge m len len_is inside matched byte least path_is is =
          inner_edge (MismatchPrefix m (as_inner c.frame.mark)) point
          (mismatch_point last e.pair e.by next c.inner c.frame c.outer cut_whole short
          (subst (λ (z : Step). shared < z.depth + c.frame.header.length_of) c.step_is (omega arith)) m
          (subst (λ (z : Step). m.matched_bytes + z.depth ≡ shared) c.step_is matched) byte
          (leaf_for P c.frame.header.length_of (prefix_of bytes (depth_of c.outer) here) here m.leaf_ptr
          (prefix_len last e.pair e.by next c.inner c.frame c.outer cut_whole) (subst (λ n. IsLeafIf P n here m.leaf_ptr) len_is least)))
          (is ∙ ap (λ p. record { path = p; insert_kind = MismatchPrefix m step.node; key_bytes_used = step.depth; root = root }) path_is
          ∙ ap (λ (z : Step). record { path = path_by Root above; insert_kind = MismatchPrefix m z.node; key_bytes_used = z.depth; root = root }) c.step_is)
          tt tt refl kept kept_is

    -- beyond the node's prefix there is only the leaf
    pub far_edge : {key : List ℕ} {x y : ℕ} → IsNextKey (bytes e.pair) key shared x y → (point : InsertPoint) (path : TreePath) (len : ℕ) →
        len ≡ c.frame.header.length_of → step.depth + len < shared → path ≡ path_by Root steps →
        point ≡ record { path = path; insert_kind = SplitLeaf last shared; key_bytes_used = step.depth + len + 1; root = root } →
        IsEdgePoint bytes P e.layout last key point (take (length steps) steps) (step.depth + len + 1)
    far_edge next point path len len_is past path_is is =
        leaf_edge point (take (length steps) steps) (step.depth + len + 1) next
        (is ∙ ap (λ p. record { path = p; insert_kind = SplitLeaf last shared; key_bytes_used = step.depth + len + 1; root = root })
        (path_is ∙ ap (path_by Root) e.steps_are ∙ path_by-steps e.frames))
        (taken steps steps ([], sym (append-nil steps)) ∙ e.steps_are) (depth c.beyond) (omega arith)
      where
        taken : (part whole : List Step) → (rest : List Step) × (whole ≡ part ++ rest) → take (length part) whole ≡ part
        taken part whole (rest, split) = ap (take (length part)) split ∙ take_at part rest (length part) refl

        depth : (c.inner ≡ []) ⊎ (shared < depth_of (c.frame ∷ c.outer)) → step.depth + len + 1 ≡ depth_of e.frames
        depth (inl none) =
            let d = ap (λ (z : Step). z.depth) c.step_is in
            let f = ap depth_of (c.whole ∙ ap (λ gs. gs ++ c.frame ∷ c.outer) none) in
            omega arith
        depth (inr deep) = let d = ap (λ (z : Step). z.depth) c.step_is in absurd (omega arith)

  -- the edge after the pair is inserted
  pub edge_after : {t : Nodes K V} {new_root : OpaqueNodePtr} {new : K × V} {point : InsertPoint} {above after : List Step} {depth byte : ℕ}
      {parent : InnerPtr} {name : LeafPtr} → Precedes (bytes e.pair) (bytes new) → (p : IsEdgePoint bytes P e.layout last (bytes new) point above depth) →
      (canonical : IsCanonical bytes P t (Some new_root) (put bytes new pairs)) → IsBelow p.at.path canonical.0 new name (NewParent parent byte) →
      after ≡ above ++ record { node = parent; depth = depth; byte = byte } ∷ [] → IsEdge bytes P t new_root after name (pairs ++ new ∷ [])
  edge_after {t} {new_root} {new} {after = after} {depth} {byte} {parent} {name} later p (tree, by) below is =
      let pairs_are : put bytes new pairs ≡ pairs ++ new ∷ [] = put_last bytes new pairs (all_before (bytes new) later) in
      let again = subst (λ ps. IsCanonicalTree bytes P t new_root ps tree) pairs_are by in
      record {
        layout = tree;
        by = again;
        frames = below.frame ∷ p.at.path;
        pair = new;
        whole = below.whole;
        rightmost = (
          last_child bytes P below.frame p.at.path (leaf_name name) new pairs (subst (IsRadix bytes P []) (sym below.whole) (tree_radix again).0)
              (ap pairs_of below.whole ∙ (tree_radix again).1),
          p.rightmost,
        );
        steps_are = is ∙ ap (λ l. l ++ record { node = parent; depth = depth; byte = byte } ∷ []) p.above_is
            ∙ ap (λ (n : InnerPtr). steps_of p.at.path ++ record { node = n; depth = depth; byte = byte } ∷ []) (ap as_inner (sym below.mark))
            ∙ ap (λ d. steps_of p.at.path ++ record { node = as_inner below.frame.mark; depth = d; byte = byte } ∷ []) p.depth_is
            ∙ ap (λ b. steps_of p.at.path ++ record { node = as_inner below.frame.mark; depth = depth_of p.at.path; byte = b } ∷ []) (sym below.byte_is);
      }

  -- what is read of the last leaf
  pub edge_same : {shown : LeafNode K V} → map.get s.leaves last ≡ Some shown → pair_of shown ≡ e.pair
  edge_same {shown} there = let (own, met, same) = edge_leaf in let e : shown ≡ own = cc in ap pair_of e ∙ same

  pub next_here : {old new key : List ℕ} {shared x y : ℕ} {shown : LeafNode K V} → map.get s.leaves last ≡ Some shown → old ≡ bytes (pair_of shown) →
      new ≡ key → IsNextKey old new shared x y → IsNextKey (bytes e.pair) key shared x y
  next_here {old} {new} {key} {shared} {x} {y} there old_is new_is next =
      subst (λ l. IsNextKey l key shared x y) (old_is ∙ ap bytes (edge_same there)) (subst (λ k. IsNextKey old k shared x y) new_is next)

  -- for a key after the last one only memory can be missing
  pub memory_after : {key : List ℕ} {shared x y : ℕ} {own : K × V} {reason : AppendReason} → IsNextKey (bytes e.pair) key shared x y →
      last_of pairs ≡ Some own → reason ≡ Memory → IsReason (bytes own) key reason
  memory_after {key} {own = own} next is memory =
      let mine = edge_last in
      let same : e.pair ≡ own = cc in
      subst (IsReason (bytes own) key) (sym memory) (subst (λ z. Precedes (bytes z) key) same (next_precedes next))

  -- the point is one of the store
  pub edge_point : {key : List ℕ} {point : InsertPoint} {above : List Step} {depth : ℕ} → IsEdgePoint bytes P e.layout last key point above depth →
      IsPointIn bytes P s key point
  edge_point p = point_in e.by refl p.at

  -- its root is the tree's
  pub edge_at : {key : List ℕ} {point : InsertPoint} {above : List Step} {depth : ℕ} → IsEdgePoint bytes P e.layout last key point above depth →
      IsCanonicalTree bytes P s point.root pairs e.layout
  edge_at p = subst (λ r. IsCanonicalTree bytes P s r pairs e.layout) (sym (p.at.root_is ∙ e.by.stands.0.named)) e.by

  -- it is one of a key after the last leaf
  pub last_point : {key : List ℕ} {point : InsertPoint} {above : List Step} {depth : ℕ} → IsEdgePoint bytes P e.layout last key point above depth →
      IsLastPoint bytes P s last key point
  last_point {above = above} {depth} p = (
    steps,
    pairs,
    record {
      layout = e.layout;
      by = edge_at p;
      frames = e.frames;
      pair = e.pair;
      whole = e.whole;
      rightmost = e.rightmost;
      steps_are = e.steps_are;
    },
    above,
    depth,
    p,
  )

-- the leaf's parent is reported
pub not_kept : {K V : Type 0} {tree : Tree OpaqueNodePtr (K × V)} {point : InsertPoint} {pair : K × V} {done : InsertResult K V} →
    IsNewKind point.insert_kind → HasInserted tree point pair done → done.parent_node_change ≡ NoChange → ⊥
not_kept {point = point} {done = done} new has kept =
    go point.insert_kind (parent_of has.path) new (subst (λ told. IsChange point.insert_kind (parent_of has.path) told) kept has.change)
  where
    go : (kind : InsertKind) (parent : Option (InnerPtr × ℕ)) → IsNewKind kind → IsChange kind parent NoChange → ⊥
    go (Exact p) parent n h = n
    go (SplitLeaf p used) None n h = h
    go (SplitLeaf p used) (Some q) n h = absurd cc
    go (IntoExisting p) None n h = h
    go (IntoExisting p) (Some q) n h = absurd cc
    go (MismatchPrefix m p) None n h = h
    go (MismatchPrefix m p) (Some q) n h = absurd cc

-- a leaf is its own edge
pub edge_begun : {K V : Type 0} {bytes : K × V → List ℕ} {P : ℕ} {s : Nodes K V} {name : LeafPtr} {x : K × V} →
    IsCanonical bytes P s (Some (leaf_name name)) (x ∷ []) → IsEdge bytes P s (leaf_name name) [] name (x ∷ [])
edge_begun {K} {V} {bytes} {P} {s} {name} {x} (layout, by) = record {
  layout = layout;
  by = by;
  frames = [];
  pair = x;
  whole = alone layout by.stands.0.named by.stands.0.holds (tree_radix by).1;
  rightmost = tt;
  steps_are = refl;
}
  where
    alone : (t : Tree OpaqueNodePtr (K × V)) → name_of t ≡ leaf_name name → Holds (node_at s) t → pairs_of t ≡ x ∷ [] → leaf (leaf_name name) x ≡ t
    alone (leaf n y) named held are = let same : y ≡ x = cc in ap (λ k. leaf k x) (sym named) ∙ ap (leaf n) (sym same)
    alone (inner n h cs) named held are = absurd ((inner_at s n h (slots_of cs) held.0).0 (ap (λ (k : OpaqueNodePtr). k.kind) named))

-- the same edge with the same steps
pub at_deref : {K V : Type 0} {bytes : K × V → List ℕ} {P : ℕ} {s : Nodes K V} {root : OpaqueNodePtr} {steps read : List Step} {last : LeafPtr}
    {pairs : List (K × V)} (e : IsEdge bytes P s root steps last pairs) → read ≡ steps → (f : IsEdge bytes P s root read last pairs) × (f.layout ≡ e.layout)
at_deref e same = (
  record {
    layout = e.layout;
    by = e.by;
    frames = e.frames;
    pair = e.pair;
    whole = e.whole;
    rightmost = e.rightmost;
    steps_are = same ∙ e.steps_are;
  },
  refl,
)

-- an edge stays where the nodes do
pub edge_stays : {K V : Type 0} {bytes : K × V → List ℕ} {P : ℕ} {s t : Nodes K V} {root : OpaqueNodePtr} {steps : List Step} {last : LeafPtr}
    {pairs : List (K × V)} → t.leaves ≡ s.leaves → t.inners ≡ s.inners → IsEdge bytes P s root steps last pairs → IsEdge bytes P t root steps last pairs
edge_stays leaves inners e = record {
  layout = e.layout;
  by = tree_stays (leaves, inners) e.by;
  frames = e.frames;
  pair = e.pair;
  whole = e.whole;
  rightmost = e.rightmost;
  steps_are = e.steps_are;
}
