-- the descent with a key to its end node
use Rattle.std.proofs.Common.{◌≡◌, ◌≢◌, ℕ, ◌+◌, ◌-◌, ◌<◌, ◌≤◌, List, [], ◌∷◌, ◌++◌, length, drop, get_or, refl, ap, sym, ◌∙◌, arith, subst, append_assoc, append-nil, length-append, length-drop, Option, IsSome, Some, None, Ok, Err, true, false, Bool, leb}
use Rattle.std.specs.List.{AllByRecursion as Each}
use Rattle.std.specs.FinMap as map
use Rattle.std.proofs.lemmas.Bool.{eq-eqb, ne_eqb, leb-true, leb-false}
use Rattle.std.proofs.lemmas.Option.{slice_get_within}
use Rattle.art_inner.specs.Inner.{Inner, child_at}
use Rattle.art_parts.specs.Names.{leaf_name, inner_name}
use Rattle.art_nodes.specs.Nodes.{Nodes}
use Rattle.art_parts.specs.declared.names.NodeType.TheVariants.{Leaf}
use Rattle.art_parts.specs.declared.names.LeafPtr.{LeafPtr}
use Rattle.art_parts.specs.declared.names.InnerPtr.{InnerPtr}
use Rattle.art_parts.specs.declared.names.OpaqueNodePtr.{OpaqueNodePtr}
use Rattle.art_parts.specs.declared.leaf.LeafNode.{LeafNode}
use Rattle.art_parts.specs.Keys.{IsFront, are_related, common_front}
use Rattle.art_model.specs.Pairs.{is_conflict}
use Rattle.art_model.specs.Trees.{Tree, leaf, inner, Subtrees, child, no_child, canonical_header}
use Rattle.art_model.specs.Radix.{IsRadix, AreRadix, bytes_of, pairs_of, pairs_below}
use Rattle.art_model.specs.Layouts.{names_of, slots_of, Holds, AreDistinct}
use Rattle.art_model.specs.Stores.{node_at, header_at, pair_of}
use Rattle.art_model.specs.Paths.{Frame, plug, fill, names_before, names_after}
use Rattle.art_model.specs.Places.{places, depth_of, prefix_of, IsEndNode}
use Rattle.art_model.specs.Canonical.{IsCanonicalTree}
use Rattle.art_model.proofs.keys.Fronts.{ArePart, front_right, part_where}
use Rattle.art_model.proofs.lists.Lists.{Each-append, Each-weaker, common_front_right, front_trans, after_front, common_front-append}
use Rattle.art_model.proofs.keys.Keys.{front_related}
use Rattle.art_model.proofs.stores.Canonical.{tree_radix}
use Rattle.art_model.proofs.lists.Pairwises.{Pairwise-left, Pairwise-right}
use Rattle.art_model.proofs.places.Paths.{path_down, names_of-plug, related_at}
use Rattle.art_model.proofs.places.Places.{place_is, prefix_is, beside, deeper}
use Rattle.art_model.proofs.places.PlaceLaws.{depth_is, ends_at}
use Rattle.art_model.proofs.radix.Rebuild.{radix_way, radix_below, radix_some}
use Rattle.art_model.proofs.places.OnWay.{AreAside, aside_others, aside_off, aside_end, child_under, no_child_under, front_byte}
use Rattle.art_model.proofs.stores.Shown.{IsShown, IsThere, leaf_shown, leaf_met, inner_met, shown_met}
use Rattle.art_model.proofs.stores.Stores.{path_holds}
use Rattle.art_model.specs.Roots.{ForTree, IsCanonicalRoot}
use Rattle.art_reading.specs.declared.end_node.SearchStep.{SearchStep}
use Rattle.art_reading.specs.declared.end_node.SearchStep.TheVariants.{End, Down}
use Rattle.art_reading.specs.declared.end_node.InsertKind.{InsertKind}
use Rattle.art_reading.specs.declared.end_node.InsertKind.TheVariants.{MismatchPrefix, SplitLeaf, Exact, IntoExisting}
use Rattle.art_reading.specs.declared.path.ExplicitMismatch.{ExplicitMismatch}
use Rattle.art_reading.specs.declared.path.PrefixMatch.{PrefixMatch}
use Rattle.art_reading.specs.declared.path.TreePath.{TreePath}
use Rattle.art_reading.specs.declared.path.TreePath.TheVariants.{Root}
use Rattle.art_reading.specs.Matching.{shared_len}
use Rattle.art_reading.specs.EndNodes.{IsAt, ComesTo, HasEndNode, IsOverwrittenWith, IsEndFor, IsKindFor, IsCompared, IsMismatch, IsStepFrom, used_in_prefix}
use Rattle.art_reading.specs.PartEnds.{IsPlaced}
use Rattle.art_reading.specs.PathSteps.{step_down}
use Rattle.art_reading.specs.Readings.{left_on_way}
use Rattle.art_reading.proofs.LeftOnWay.{left_aside, left_child, left_leaf}
use Rattle.art_reading.proofs.PartNodes.{some_there}
use Rattle.art_reading.proofs.Partings.{parted_unrelated, unrelated_after, conflict-related, no_conflict, first_conflict, same_conflict}

-- as much of the key was used as it has
module _ {A : Type 0} (bytes : A → List ℕ) (P : ℕ) (key : List ℕ) (node : Tree OpaqueNodePtr A) {depth : ℕ} (short : depth ≤ length key) where
  prefix_inside : {match : PrefixMatch} → IsCompared bytes P key node depth (Ok match) → depth + match.matched_bytes ≤ length key
  prefix_inside c =
      let m = c.0 in
      let l = ap length c.1.1 in
      let k = length-drop depth key in
      omega (arith, simp length-append at l)

  mismatch_inside : {m : ExplicitMismatch} → IsMismatch bytes P key node depth m → depth + m.matched_bytes ≤ length key
  mismatch_inside {m} c =
      let (r, e) = common_front_right (prefix_of bytes depth node) (drop depth key) in
      let q = c.matched in
      let l = ap length e in
      let k = length-drop depth key in
      omega (arith, simp length-append at l)

module _ {K V : Type 0} {s : Nodes K V} {bytes : K × V → List ℕ} {P : ℕ} {root : OpaqueNodePtr} {pairs : List (K × V)}
    {layout : Tree OpaqueNodePtr (K × V)} (by : IsCanonicalTree bytes P s root pairs layout) where
  abbrev pub start : (key : List ℕ) → IsAt bytes P key layout Root root 0
  start key = record {
    frames = [];
    place = [];
    node = layout;
    whole = refl;
    leads = refl;
    radix = (tree_radix by).0;
    on_way = (key, refl);
    named = by.stands.0.named;
    depth_is = refl;
    path_is = refl;
  }

  module _ {key : List ℕ} {path : TreePath} {name : OpaqueNodePtr} {depth : ℕ} (d : IsAt bytes P key layout path name depth) where
    -- under another name for it
    abbrev pub at_named : {other : OpaqueNodePtr} → other ≡ name → IsAt bytes P key layout path other depth
    at_named same = record {
      frames = d.frames;
      place = d.place;
      node = d.node;
      whole = d.whole;
      leads = d.leads;
      radix = d.radix;
      on_way = d.on_way;
      named = d.named ∙ sym same;
      depth_is = d.depth_is;
      path_is = d.path_is;
    }

    pub step_named : {other : OpaqueNodePtr} (same : other ≡ name) (step : SearchStep) →
        IsStepFrom bytes P key pairs layout path other depth (at_named same) step →
        IsStepFrom bytes P key pairs layout path name depth d step
    step_named same (End kind used) (end, left) = (
      subst (λ n. IsEndFor bytes P key pairs layout (record { path = path; name = n; insert_kind = kind; key_bytes_used = used })) same end,
      left,
    )
    step_named same (Down node byte to below) next = next

    holds : Holds (node_at s) d.node
    holds = (path_holds (node_at s) d.frames d.node (subst (Holds (node_at s)) (sym d.whole) by.stands.0.holds)).1

    -- the key is as long as its path
    pub inside : depth ≤ length key
    inside =
        let l = ap length d.on_way.1 in
        let n = d.depth_is in
        omega (arith, simp length-append at l)

    -- and so long is what was compared of it
    prefix_used : {match : PrefixMatch} → IsCompared bytes P key d.node depth (Ok match) → depth + match.matched_bytes ≤ length key
    prefix_used c = prefix_inside bytes P key d.node inside c

    mismatch_used : {m : ExplicitMismatch} → IsMismatch bytes P key d.node depth m → depth + m.matched_bytes ≤ length key
    mismatch_used c = mismatch_inside bytes P key d.node inside c

    -- the names on the path are in use
    node_there : IsThere s d.node name
    node_there = record { named = d.named; holds = holds }

    pub leaf_there : {p : LeafPtr} → leaf_name p ≡ name → IsSome (map.get s.leaves p)
    leaf_there is = some_there _ (leaf_met node_there is)

    pub inner_there : {p : InnerPtr} → p.kind ≢ Leaf → inner_name p ≡ name → IsSome (map.get s.inners p)
    inner_there proper is = some_there _ (inner_met node_there proper is)

    pub shown_there : {p : InnerPtr} {shown : Inner} → p.kind ≢ Leaf → inner_name p ≡ name → Some shown ≡ map.get s.inners p → IsShown d.node p shown
    shown_there = shown_met node_there

    -- the part of the tree below
    pub part_there : {part : OpaqueNodePtr} → part ≡ name → IsPlaced bytes P s part depth d.node
    part_there is =
        let all : AreDistinct (names_before d.frames ++ names_of d.node ++ names_after d.frames) =
        subst AreDistinct (ap names_of (sym d.whole) ∙ names_of-plug d.frames d.node) by.stands.0.distinct in
        record {
          place = d.place;
          depth_is = d.depth_is;
          radix = d.radix;
          layout = record {
            named = d.named ∙ sym is;
            holds = holds;
            distinct = Pairwise-right (λ n k. n ≢ k) (names_before d.frames)
                (names_of d.node) (Pairwise-left (λ n k. n ≢ k) (names_before d.frames ++ names_of d.node) (names_after d.frames) all);
          };
        }

    -- what is in conflict with the key is below
    conflict_below : is_conflict bytes key pairs ≡ is_conflict bytes key (pairs_of d.node)
    conflict_below =
        let whole : pairs ≡ pairs_of (plug d.frames d.node) = sym (tree_radix by).1 ∙ ap pairs_of (sym d.whole) in
        ap (is_conflict bytes key) whole ∙ sym (conflict-related bytes key (pairs_of (plug d.frames d.node)))
        ∙ ap (is_conflict bytes key) (related_at bytes P d.frames d.place key d.node d.leads d.on_way)
        ∙ conflict-related bytes key (pairs_of d.node)

    deep : depth_of d.frames ≡ depth
    deep = depth_is bytes P d.frames d.place d.leads ∙ d.depth_is

    -- where no longer place is a prefix of the key this is the end node
    ends : Each (λ other. IsFront other.0 key → length other.0 ≤ length d.place) (places bytes (length d.place) d.node) →
        IsEndNode bytes layout key d.frames d.node
    ends longest = subst (λ t. IsEndNode bytes t key d.frames d.node) d.whole (ends_at bytes P key d.frames d.place d.node d.leads d.radix d.on_way longest)

    -- and the key leads to it
    comes_to : (used : ℕ) (kind : Option InsertKind) → Each (λ other. IsFront other.0 key → length other.0 ≤ length d.place)
        (places bytes (length d.place) d.node) → ComesTo bytes P key d.node depth used kind →
        HasEndNode bytes P layout key (record { path = path; name = name; insert_kind = kind; key_bytes_used = used })
    comes_to used kind longest is =
        record {
          path = d.frames;
          node = d.node;
          is_end = ends longest;
          path_is = d.path_is;
          name_is = sym d.named;
          kind_is = subst (λ n. ComesTo bytes P key d.node n used kind) (sym deep) is;
        }

    -- ---- at a leaf
    module _ {p : LeafPtr} {shown : LeafNode K V} (is : leaf_name p ≡ name) (there : Some shown ≡ map.get s.leaves p) where
      at_leaf : d.node ≡ leaf (leaf_name p) (pair_of shown)
      at_leaf = leaf_shown s p d.node (d.named ∙ sym is) holds shown there

      own_pair : is_conflict bytes key pairs ≡ is_conflict bytes key (pair_of shown ∷ [])
      own_pair = conflict_below ∙ ap (λ t. is_conflict bytes key (pairs_of t)) at_leaf

      longest_leaf : Each (λ other. IsFront other.0 key → length other.0 ≤ length d.place) (places bytes (length d.place) d.node)
      longest_leaf =
          let radix = subst (IsRadix bytes P d.place) at_leaf d.radix in
          subst (λ t. Each (λ other. IsFront other.0 key → length other.0 ≤ length d.place) (places bytes (length d.place) t)) (sym at_leaf)
          ((λ g. rw (place_is bytes P (leaf (leaf_name p) (pair_of shown)) d.place radix) (omega arith)), tt)

      -- it is the last node on the path
      left_leaf_is : left_on_way bytes key depth d.node ≡ 1
      left_leaf_is = subst (λ n. left_on_way bytes key n d.node ≡ 1) d.depth_is (subst (λ t. left_on_way bytes key (length d.place) t ≡ 1) (sym at_leaf)
          (left_leaf bytes P key d.place d.on_way (leaf_name p) (pair_of shown) (subst (IsRadix bytes P d.place) at_leaf d.radix)))

      leaf_end : (kind : Option InsertKind) → IsKindFor key p (bytes (pair_of shown)) kind →
          IsEndFor bytes P key pairs layout (record { path = path; name = name; insert_kind = kind; key_bytes_used = depth })
      leaf_end None (related, unequal) = (
        own_pair ∙ first_conflict bytes key (pair_of shown) [] related unequal,
        comes_to depth None longest_leaf
            (subst (IsOverwrittenWith bytes key depth depth) (sym at_leaf) (refl, related, unequal)),
      )
      leaf_end (Some (Exact q)) (same, equal) = (
        own_pair ∙ same_conflict bytes key (pair_of shown) equal,
        comes_to depth (Some (Exact q)) longest_leaf
            (refl, (pair_of shown, at_leaf ∙ ap (λ z. leaf (leaf_name z) (pair_of shown)) (sym same), equal)),
      )
      leaf_end (Some (SplitLeaf q used)) (same, (unrelated, shared)) = (
        own_pair ∙ no_conflict bytes key (pair_of shown ∷ []) (unrelated, tt),
        comes_to depth (Some (SplitLeaf q used)) longest_leaf
            (refl, (pair_of shown, at_leaf ∙ ap (λ z. leaf (leaf_name z) (pair_of shown)) (sym same), (unrelated, shared))),
      )
      leaf_end (Some (IntoExisting q)) h = absurd h
      leaf_end (Some (MismatchPrefix m q)) h = absurd h

      pub leaf_step : (kind : Option InsertKind) → IsKindFor key p (bytes (pair_of shown)) kind →
          IsStepFrom bytes P key pairs layout path name depth d (End kind depth)
      leaf_step kind is = (leaf_end kind is, left_leaf_is)

    -- ---- at an inner node
    module _ {p : InnerPtr} {shown : Inner} (at : IsShown d.node p shown) where
      abbrev here : Tree OpaqueNodePtr (K × V)
      here = inner (inner_name p) (header_at p.kind shown) at.children

      radix : IsRadix bytes P d.place here
      radix = subst (IsRadix bytes P d.place) at.is d.radix

      abbrev front : List ℕ
      front = d.place ++ radix.0

      here_prefix : prefix_of bytes depth here ≡ radix.0
      here_prefix =
          subst (λ n. prefix_of bytes n here ≡ radix.0) d.depth_is
          (prefix_is bytes P (inner_name p) (header_at p.kind shown) at.children d.place radix)

      whole_prefix : prefix_of bytes depth d.node ≡ radix.0
      whole_prefix = ap (prefix_of bytes depth) at.is ∙ here_prefix

      front_len : length front ≡ depth + length (prefix_of bytes depth d.node)
      front_len = let l = ap length whole_prefix in let k = d.depth_is in simp length-append (omega arith)

      key_is : key ≡ d.place ++ drop depth key
      key_is =
          let (r, e) = d.on_way in
          e ∙ ap (λ l. d.place ++ l) (sym (after_front d.place key r e) ∙ ap (λ n. drop n key) d.depth_is)

      below : is_conflict bytes key pairs ≡ is_conflict bytes key (pairs_below at.children)
      below = conflict_below ∙ ap (λ t. is_conflict bytes key (pairs_of t)) at.is

      longest_inner : AreAside front key at.children →
          Each (λ other. IsFront other.0 key → length other.0 ≤ length d.place) (places bytes (length d.place) d.node)
      longest_inner aside =
          let len : (header_at p.kind shown).length_of ≡ length radix.0 = ap (λ h. h.length_of) radix.1 in
          subst (λ t. Each (λ other. IsFront other.0 key → length other.0 ≤ length d.place) (places bytes (length d.place) t)) (sym at.is) (
            (λ g. rw (place_is bytes P here d.place radix) (omega arith)),
            beside bytes P at.children front key (length d.place + (header_at p.kind shown).length_of + 1) (length d.place)
                (λ b. deeper d.place radix.0 b (header_at p.kind shown).length_of len) radix.4 aside,
          )

      -- the node is the last one on the path where that continues below no child
      left_aside_is : AreAside front key at.children → left_on_way bytes key depth d.node ≡ 1
      left_aside_is aside = subst (λ n. left_on_way bytes key n d.node ≡ 1) d.depth_is (subst (λ t. left_on_way bytes key (length d.place) t ≡ 1) (sym at.is)
          (left_aside bytes P key d.place d.on_way (inner_name p) (header_at p.kind shown) at.children radix aside))

      -- all pairs below continue after the key
      short_conflict : IsFront key front → is_conflict bytes key pairs ≡ true
      short_conflict short = below ∙ go at.children radix.2 radix.4
        where
          go : (cs : Subtrees OpaqueNodePtr (K × V)) → 2 ≤ length (bytes_of cs) → AreRadix bytes P front cs → is_conflict bytes key (pairs_below cs) ≡ true
          go no_child two h = absurd (omega arith)
          go (child b t cs) two h =
              let (x, xs, e) = radix_some bytes P t (front ++ b ∷ []) h.0 in
              let way : IsFront (front ++ b ∷ []) (bytes x) =
              (subst (Each (λ z. IsFront (front ++ b ∷ []) (bytes z))) e (radix_way bytes P t (front ++ b ∷ []) h.0)).0 in
              let goes : IsFront key (bytes x) =
              front_trans key (front ++ b ∷ []) (bytes x) (front_trans key front (front ++ b ∷ []) short (b ∷ [], refl)) way in
              let long : length key < length (bytes x) =
              let l = ap length short.1 in let k = ap length way.1 in omega (arith, simp length-append at l, simp length-append at k) in
              rw e (first_conflict bytes key x (xs ++ pairs_below cs) (front_related key (bytes x) goes) (λ same. let l = ap length same in omega arith))

      -- so the node is replaced
      short_end : (used : ℕ) → IsFront (drop depth key) radix.0 → used ≡ used_in_prefix key depth radix.0 →
          IsEndFor bytes P key pairs layout (record { path = path; name = name; insert_kind = None; key_bytes_used = used })
      short_end used (r, e) is =
          let short : IsFront key front = (r, ap (λ l. d.place ++ l) e ∙ sym (append_assoc d.place (drop depth key) r) ∙ ap (λ l. l ++ r) (sym key_is)) in
          let no_longer : length key ≤ length front = let l = ap length short.1 in let k = length-append key r in omega arith in (
            short_conflict short,
            comes_to used None (longest_inner (aside_end front key at.children no_longer))
                (subst (IsOverwrittenWith bytes key depth used) (sym at.is)
                (is ∙ ap (used_in_prefix key depth) (sym here_prefix), subst (IsFront (drop depth key)) (sym here_prefix) (r, e))),
          )

      -- the prefix is compared
      module _ {match : PrefixMatch} (c : IsCompared bytes P key d.node depth (Ok match)) where
        on_way : IsFront front key
        on_way =
            let (r, e) = c.1 in
            (r, key_is ∙ ap (λ l. d.place ++ l) (e ∙ ap (λ l. l ++ r) whole_prefix) ∙ sym (append_assoc d.place radix.0 r))

        used : depth + match.matched_bytes ≡ length front
        used = let l = front_len in let k = c.0 in omega arith

        ends_with_prefix : length key ≤ depth + match.matched_bytes →
            IsEndFor bytes P key pairs layout (record { path = path; name = name; insert_kind = None; key_bytes_used = depth + match.matched_bytes - 1 })
        ends_with_prefix short =
            let same : drop depth key ≡ radix.0 = go c.1 in
            let l : length key ≡ length front + length on_way.0 = ap length on_way.1 ∙ length-append front on_way.0 in
            let u = used in
            let m = front_len in
            let w = ap length whole_prefix in
            short_end (depth + match.matched_bytes - 1) ([], sym (append-nil (drop depth key) ∙ same)) (ends_with (omega arith) (omega arith))
          where
            go : IsFront (prefix_of bytes depth d.node) (drop depth key) → drop depth key ≡ radix.0
            go ([], e) = e ∙ append-nil (prefix_of bytes depth d.node) ∙ whole_prefix
            go (b ∷ r, e) = absurd (let l = ap length e in let k = length-drop depth key in
                let m = length-append (prefix_of bytes depth d.node) (b ∷ r) in let u = c.0 in omega arith)

            ends_with : length key ≡ depth + length radix.0 → length key ≡ depth + match.matched_bytes →
                depth + match.matched_bytes - 1 ≡ used_in_prefix key depth radix.0
            ends_with e f = rw (← f, eq-eqb (length key) (depth + length radix.0) e) refl

        module _ (long : depth + match.matched_bytes < length key) where
          next : IsFront (front ++ get_or key (length front) 0 ∷ []) key
          next = front_byte front key on_way (let u = used in omega arith)

          unrelated : (cs : Subtrees OpaqueNodePtr (K × V)) → AreRadix bytes P front cs → Each (λ b. b ≢ get_or key (length front) 0) (bytes_of cs) →
              Each (λ x. are_related key (bytes x) ≡ false) (pairs_below cs)
          unrelated no_child h others = tt
          unrelated (child b t cs) h others = Each-append (λ x. are_related key (bytes x) ≡ false) (pairs_of t) (pairs_below cs)
              (Each-weaker (λ x. IsFront (front ++ b ∷ []) (bytes x)) (λ x. are_related key (bytes x) ≡ false)
              (λ x f. unrelated_after front (get_or key (length front) 0) b key (bytes x) next f (λ e. others.0 (sym e))) (pairs_of t)
              (radix_way bytes P t (front ++ b ∷ []) h.0))
              (unrelated cs h.1 others.1)

          -- no child continues with the key
          ends_after_prefix : None ≡ child_at shown.children (get_or key (depth + match.matched_bytes) 0) →
              IsStepFrom bytes P key pairs layout path name depth d (End (Some (IntoExisting p)) (depth + match.matched_bytes))
          ends_after_prefix none =
              let gone : child_at (slots_of at.children) (get_or key (depth + match.matched_bytes) 0) ≡ None =
              ap (λ cs. child_at cs (get_or key (depth + match.matched_bytes) 0)) (sym at.slots) ∙ sym none in
              let others =
              no_child_under at.children (get_or key (length front) 0)
              (ap (λ n. child_at (slots_of at.children) (get_or key n 0)) (sym used) ∙ gone) in
              let aside = aside_others front key at.children others in (
                (
                  below ∙ no_conflict bytes key (pairs_below at.children) (unrelated at.children radix.4 others),
                  comes_to (depth + match.matched_bytes) (Some (IntoExisting p)) (longest_inner aside)
                      ((c.1, ap (λ n. depth + n) c.0, long), (header_at p.kind shown, at.children, at.is, gone)),
                ),
                left_aside_is aside,
              )

          -- a child continues with the key
          goes_on : {to : OpaqueNodePtr} → Some to ≡ child_at shown.children (get_or key (depth + match.matched_bytes) 0) →
              (at : IsAt bytes P key layout (step_down path p (get_or key (depth + match.matched_bytes) 0)) to (depth + match.matched_bytes + 1))
              × (left_on_way bytes key depth d.node ≡ left_on_way bytes key (depth + match.matched_bytes + 1) at.node + 1)
          goes_on {to} there =
              let b = get_or key (depth + match.matched_bytes) 0 in
              let e : child_at (slots_of at.children) b ≡ Some to = ap (λ cs. child_at cs b) (sym at.slots) ∙ sym there in
              let u = child_under at.children b to radix.3 e in
              let f : Frame OpaqueNodePtr (K × V) = record { mark = inner_name p; header = header_at p.kind shown; left = u.left; byte = b; right = u.right } in
              let filled : here ≡ fill f u.tree = ap (inner (inner_name p) (header_at p.kind shown)) u.whole in
              let node : IsRadix bytes P d.place (fill f u.tree) = (
                radix.0,
                subst (λ cs. header_at p.kind shown ≡ canonical_header P radix.0 (length (bytes_of cs))) u.whole radix.1,
                subst
                    (λ cs. 2 ≤ length (bytes_of cs)) u.whole radix.2,
                subst (λ cs. Rattle.art_model.specs.Radix.BytesRise (bytes_of cs)) u.whole radix.3,
                subst (AreRadix bytes P front) u.whole radix.4,
              ) in
              let down = path_down bytes P d.frames d.place f u.tree d.leads node in
              let others = λ (c : ℕ) (o : c ≢ b). λ (e : c ≡ get_or key (length front) 0). o (e ∙ ap (λ n. get_or key n 0) (sym used)) in
              let low =
              aside_others front key u.left (Each-weaker (λ c. c ≢ b) (λ c. c ≢ get_or key (length front) 0) others
              (bytes_of u.left) u.others_left) in
              let high =
              aside_others front key u.right (Each-weaker (λ c. c ≢ b) (λ c. c ≢ get_or key (length front) 0) others
              (bytes_of u.right) u.others_right) in
              let child_depth : length d.place + (header_at p.kind shown).length_of + 1 ≡ depth + match.matched_bytes + 1 =
              let len = ap (λ h. h.length_of) radix.1 in let whole = length-append d.place radix.0 in let k = used in omega arith in (
                record {
                  frames = f ∷ d.frames;
                  place = front ++ b ∷ [];
                  node = u.tree;
                  whole = ap (plug d.frames) (sym filled ∙ sym at.is) ∙ d.whole;
                  leads = down.0;
                  radix = down.1;
                  on_way = subst (λ n. IsFront (front ++ get_or key n 0 ∷ []) key) (sym used) next;
                  named = u.named;
                  depth_is = length-append front (b ∷ []) ∙ ap (λ n. n + 1) (sym used);
                  path_is = ap (λ z. step_down z p b) d.path_is;
                },
                ap (λ n. left_on_way bytes key n d.node) (sym d.depth_is) ∙ ap (left_on_way bytes key (length d.place)) at.is
                    ∙ left_child bytes P key d.place d.on_way (inner_name p) (header_at p.kind shown) at.children radix u.left b u.tree u.right u.whole low high
                    ∙ ap (λ n. left_on_way bytes key n u.tree + 1) child_depth,
              )

        -- the step past the prefix
        pub prefix_step : {step : SearchStep} →
            (length key ≤ depth + match.matched_bytes → step ≡ End None (depth + match.matched_bytes - 1)) →
            (depth + match.matched_bytes < length key → child_at shown.children (get_or key (depth + match.matched_bytes) 0) ≡ None →
            step ≡ End (Some (IntoExisting p)) (depth + match.matched_bytes)) →
            (depth + match.matched_bytes < length key → (to : OpaqueNodePtr) → child_at shown.children (get_or key (depth + match.matched_bytes) 0) ≡ Some to →
            step ≡ Down p (get_or key (depth + match.matched_bytes) 0) to (depth + match.matched_bytes + 1)) →
            IsStepFrom bytes P key pairs layout path name depth d step
        prefix_step {step} ends into down = by_length (leb (length key) (depth + match.matched_bytes)) refl
          where
            by_child : depth + match.matched_bytes < length key → (o : Option OpaqueNodePtr) →
                child_at shown.children (get_or key (depth + match.matched_bytes) 0) ≡ o →
                IsStepFrom bytes P key pairs layout path name depth d step
            by_child long None e = subst (IsStepFrom bytes P key pairs layout path name depth d) (sym (into long e)) (ends_after_prefix long (sym e))
            by_child long (Some to) e = subst (IsStepFrom bytes P key pairs layout path name depth d) (sym (down long to e))
                (let (next, left) = goes_on long (sym e) in (omega arith, next, left))

            by_length : (t : Bool) → leb (length key) (depth + match.matched_bytes) ≡ t → IsStepFrom bytes P key pairs layout path name depth d step
            by_length true e =
                let short = leb-true (length key) (depth + match.matched_bytes) e in
                subst (IsStepFrom bytes P key pairs layout path name depth d) (sym (ends short))
                (ends_with_prefix short, left_aside_is (aside_end front key at.children (let k = used in omega arith)))
            by_length false e =
                by_child (leb-false (length key) (depth + match.matched_bytes) e)
                (child_at shown.children (get_or key (depth + match.matched_bytes) 0)) refl

      -- the prefix and the key differ, or the key ends
      module _ {m : ExplicitMismatch} (c : IsMismatch bytes P key d.node depth m) where
        shared_is : m.matched_bytes ≡ shared_len radix.0 (drop depth key)
        shared_is = c.matched ∙ ap (λ l. shared_len l (drop depth key)) whole_prefix

        no_longer : length key ≤ depth + m.matched_bytes → length key ≤ length front
        no_longer short =
            let inside = slice_get_within (prefix_of bytes depth d.node) m.matched_bytes m.prefix_byte c.byte in
            let l = front_len in
            omega arith

        ends_in_prefix : length key ≤ depth + m.matched_bytes →
            IsEndFor bytes P key pairs layout (record { path = path; name = name; insert_kind = None; key_bytes_used = depth })
        ends_in_prefix short =
            let rest : length (drop depth key) ≤ shared_len radix.0 (drop depth key) =
            let k = ap length key_is in let n = d.depth_is in let q = shared_is in omega (arith, simp length-append at k) in
            let inside = slice_get_within (prefix_of bytes depth d.node) m.matched_bytes m.prefix_byte c.byte in
            let w = ap length whole_prefix in
            let off : length key < depth + length radix.0 = omega arith in
            short_end depth (front_right radix.0 (drop depth key) rest) (rw (ne_eqb (length key) (depth + length radix.0) (λ e. omega arith)) refl)

        module _ (long : depth + m.matched_bytes < length key) where
          parts_at : ArePart front key
          parts_at =
              let inside = slice_get_within (prefix_of bytes depth d.node) m.matched_bytes m.prefix_byte c.byte in
              let q = shared_is in
              let w = ap length whole_prefix in
              let k = ap length key_is in
              let n = d.depth_is in
              let a = part_where radix.0 (drop depth key) (omega arith) (omega (arith, simp length-append at k)) in
              record {
                front = d.place ++ a.front;
                is_shared = ap (λ l. d.place ++ l) a.is_shared ∙
                    sym (ap (common_front front) key_is ∙ common_front-append d.place radix.0 (drop depth key));
                x = a.x;
                y = a.y;
                r = a.r;
                s = a.s;
                a_is = ap (λ l. d.place ++ l) a.a_is ∙ sym (append_assoc d.place a.front (a.x ∷ a.r));
                b_is = key_is ∙
                    ap (λ l. d.place ++ l) a.b_is ∙ sym (append_assoc d.place a.front (a.y ∷ a.s));
                differ = a.differ;
              }

          unrelated_below : Each (λ x. are_related key (bytes x) ≡ false) (pairs_below at.children)
          unrelated_below =
              let a = parts_at in
              Each-weaker (λ x. IsFront front (bytes x)) (λ x. are_related key (bytes x) ≡ false)
              (λ x f. unrelated_after a.front a.y a.x key (bytes x) (a.s, a.b_is ∙ sym (append_assoc a.front (a.y ∷ []) a.s))
              (front_trans (a.front ++ a.x ∷ []) front (bytes x) (a.r, a.a_is ∙ sym (append_assoc a.front (a.x ∷ []) a.r)) f) (λ e. a.differ (sym e)))
              (pairs_below at.children) (radix_below bytes P at.children front radix.4)

          parts_from_prefix : IsStepFrom bytes P key pairs layout path name depth d (End (Some (MismatchPrefix m p)) depth)
          parts_from_prefix =
              let aside = aside_off front key at.children (λ f. let t = parted_unrelated parts_at in let r = front_related front key f in absurd cc) in (
                (
                  below ∙ no_conflict bytes key (pairs_below at.children) unrelated_below,
                  comes_to depth (Some (MismatchPrefix m p)) (longest_inner aside) (refl, (header_at p.kind shown, at.children, at.is, (c, long))),
                ),
                left_aside_is aside,
              )

        -- the step in the prefix
        pub mismatch_step : {step : SearchStep} →
            (length key ≤ depth + m.matched_bytes → step ≡ End None depth) →
            (depth + m.matched_bytes < length key → step ≡ End (Some (MismatchPrefix m p)) depth) →
            IsStepFrom bytes P key pairs layout path name depth d step
        mismatch_step {step} ends parts = by_length (leb (length key) (depth + m.matched_bytes)) refl
          where
            by_length : (t : Bool) → leb (length key) (depth + m.matched_bytes) ≡ t → IsStepFrom bytes P key pairs layout path name depth d step
            by_length true e =
                let short = leb-true (length key) (depth + m.matched_bytes) e in
                subst (IsStepFrom bytes P key pairs layout path name depth d) (sym (ends short))
                (ends_in_prefix short, left_aside_is (aside_end front key at.children (no_longer short)))
            by_length false e = let long = leb-false (length key) (depth + m.matched_bytes) e in
                subst (IsStepFrom bytes P key pairs layout path name depth d) (sym (parts long)) (parts_from_prefix long)

-- what was compared of the key at a node is no more than the key has
module _ {K V : Type 0} {s : Nodes K V} {bytes : K × V → List ℕ} {P : ℕ} {root : OpaqueNodePtr} {key : List ℕ} {path : TreePath}
    {name : OpaqueNodePtr} {depth : ℕ}
    (canonical : IsCanonicalRoot bytes P s root) (at : ForTree bytes P s root (λ pairs layout. IsAt bytes P key layout path name depth)) where
  pub prefix_fits : {match : PrefixMatch} →
      ForTree bytes P s root (λ pairs layout. (d : IsAt bytes P key layout path name depth) →
      IsCompared bytes P key d.node depth (Ok match)) →
      depth + match.matched_bytes ≤ length key
  prefix_fits compared = let (pairs, layout, by) = canonical in let d = at pairs layout by in prefix_used by d (compared pairs layout by d)

  pub mismatch_fits : {m : ExplicitMismatch} →
      ForTree bytes P s root (λ pairs layout. (d : IsAt bytes P key layout path name depth) → IsCompared bytes P key d.node depth (Err m)) →
      depth + m.matched_bytes ≤ length key
  mismatch_fits compared = let (pairs, layout, by) = canonical in let d = at pairs layout by in mismatch_used by d (compared pairs layout by d)
