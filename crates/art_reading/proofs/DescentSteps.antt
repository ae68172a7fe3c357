-- the steps of a descent, in the shape of its code
use Rattle.std.proofs.Common.{◌≡◌, ◌≢◌, ℕ, ◌+◌, ◌<◌, ◌≤◌, ◌⊎◌, inl, inr, List, [], ◌∷◌, ◌++◌, length, length-append, drop, get_or, refl, ap}
use Rattle.std.proofs.Common.{ap₂, sym, ◌∙◌, arith, subst, length-drop, Option, Some, None, Result, Ok, Err}
use Rattle.std.proofs.lemmas.Bool.{le-ltb, lt-ltb, cases_lt}
use Rattle.std.proofs.Math.Seq.{get_or-append_seam}
use Rattle.std.specs.FinMap as map
use Rattle.art_inner.specs.Inner.{Inner, child_at}
use Rattle.art_parts.specs.Names.{leaf_name}
use Rattle.art_nodes.specs.Nodes.{Nodes}
use Rattle.art_inner.specs.Views.{Ref, ref_kind, ref_view}
use Rattle.art_inner.specs.declared.any.InnerRefOf.TheVariants as ref
use Rattle.art_parts.specs.declared.names.NodeType.{NodeType}
use Rattle.art_parts.specs.declared.names.NodeType.TheVariants.{Leaf}
use Rattle.art_parts.specs.declared.names.InnerPtr.{InnerPtr}
use Rattle.art_parts.specs.declared.names.OpaqueNodePtr.{OpaqueNodePtr}
use Rattle.art_model.specs.Pairs.{match_of}
use Rattle.art_model.specs.Trees.{Tree}
use Rattle.art_model.specs.Layouts.{Holds}
use Rattle.art_model.specs.Stores.{node_at, pair_of}
use Rattle.art_model.specs.Lookups.{nodes_on_way}
use Rattle.art_model.specs.Writes.{as_inner}
use Rattle.art_model.specs.Canonical.{IsCanonicalTree}
use Rattle.art_model.proofs.stores.Stores.{path_holds}
use Rattle.art_model.proofs.stores.Canonical.{tree_radix}
use Rattle.art_model.proofs.stores.Shown.{IsShown, IsThere, inner_met, leaf_shown, shown_met}
use Rattle.art_reading.specs.declared.lookup.descent.LastLeaf.{LastLeaf}
use Rattle.art_reading.specs.declared.lookup.matching.PrefixMatchBehavior.{PrefixMatchBehavior}
use Rattle.art_reading.specs.declared.path.AttemptOptimisticPrefixMatch.{AttemptOptimisticPrefixMatch}
use Rattle.art_reading.specs.declared.path.PessimisticMismatch.{PessimisticMismatch}
use Rattle.art_reading.specs.declared.path.TreePath.{TreePath}
use Rattle.art_reading.specs.declared.path.TreePath.TheVariants.{Root}
use Rattle.art_reading.specs.Matching.{child_below, prefix_match, behavior_after}
use Rattle.art_reading.specs.PathSteps.{step_down}
use Rattle.art_reading.specs.Stored.{ComparesAll}
use Rattle.art_reading.specs.Descents.{IsLastLeaf}
use Rattle.art_reading.proofs.Outcomes.{Why, err_why, ok_compared, ok_sure}
use Rattle.art_reading.proofs.Endings.{none_beyond}
use Rattle.art_reading.proofs.LookupWays.{IsOnWay, leaf_leads, leaf_whole, leaf_only, leaf_least, leaf_exactly, IsEnd, ends_short, ends_off, ends_childless, still_compared, goes_on}

-- what is there is there once
pub same_there : {A : Type 0} {x y : A} {o : Option A} → Some x ≡ o → Some y ≡ o → x ≡ y
same_there is there = cc

-- a reference to an inner node has the kind of one
pub ref_proper : (node : Ref) {kind : NodeType} → ref_kind node ≡ kind → kind ≢ Leaf
ref_proper (ref.Node4 n) is leaf = absurd cc
ref_proper (ref.Node16 n) is leaf = absurd cc
ref_proper (ref.Node48 n) is leaf = absurd cc
ref_proper (ref.Node256 n) is leaf = absurd cc

module _ {K V : Type 0} {s : Nodes K V} {bytes : K × V → List ℕ} {P : ℕ} {root : OpaqueNodePtr} {pairs : List (K × V)}
    {layout : Tree OpaqueNodePtr (K × V)} (by : IsCanonicalTree bytes P s root pairs layout) where
  -- it begins at the root
  pub begins : (behavior : PrefixMatchBehavior) (key : List ℕ) (visits : ℕ) → IsOnWay bytes P behavior key layout Root root 0 behavior visits visits
  begins behavior key visits =
      record {
        path = [];
        way_is = refl;
        node = layout;
        place = [];
        whole = refl;
        named = by.stands.0.named;
        radix = (tree_radix by).0;
        depth_is
            = refl;
        compared = λ _. (key, refl);
        matches = refl;
        at_least = omega arith;
        exactly = λ _. refl;
        compares = λ all. all;
      }

  module _ {start : PrefixMatchBehavior} {key : List ℕ} {way : TreePath} {name : OpaqueNodePtr} {depth : ℕ} {behavior : PrefixMatchBehavior} {before now : ℕ}
      (d : IsOnWay bytes P start key layout way name depth behavior before now) where
    -- the node is under its name
    pub node_there : IsThere s d.node name
    node_there = record { named = d.named; holds = (path_holds (node_at s) d.path d.node (subst (Holds (node_at s)) (sym d.whole) by.stands.0.holds)).1 }

    -- the store has an inner node under its name
    pub shown_here : (node : Ref) → ref_kind node ≡ name.kind → Some (ref_view node) ≡ map.get s.inners (as_inner name) →
        IsShown d.node (as_inner name) (ref_view node)
    shown_here node kind there = shown_met node_there (ref_proper node kind) refl there

  -- at a leaf the path ends
  pub last_leaf : {start : PrefixMatchBehavior} {key : List ℕ} {name : OpaqueNodePtr} {before now after : ℕ} (last : LastLeaf K V) →
      IsOnWay bytes P start key layout last.leaf.path name last.depth last.behavior before now → leaf_name last.leaf.name ≡ name →
      Some last.leaf.node.now ≡ map.get s.leaves last.leaf.name → last.depth ≤ length key → after ≡ now + 1 → IsLastLeaf bytes P start key pairs layout before after last
  last_leaf last d is there short e =
      let n = leaf_name last.leaf.name in
      let x = pair_of last.leaf.node.now in
      let at = leaf_shown s last.leaf.name d.node (d.named ∙ sym is) (node_there d).holds last.leaf.node.now there in
      record {
        place = d.place;
        is_leaf = record { path = d.path; whole = leaf_whole d n x at };
        path_is = d.way_is;
        leads_to = leaf_leads d n x at;
        depth_is = d.depth_is;
        is_short = short;
        compared = d.compared;
        compares = λ whole. (d.compares whole).0;
        only = ap (match_of bytes _) (sym (tree_radix by).1) ∙ leaf_only d n x at;
        at_least = let l = leaf_least d n x at in omega arith;
        exactly = λ f. let l = leaf_exactly d n x at f in omega arith;
      }

module _ {K V : Type 0} {s : Nodes K V} {bytes : K × V → List ℕ} {P : ℕ} {root : OpaqueNodePtr} {pairs : List (K × V)}
    {layout : Tree OpaqueNodePtr (K × V)} {start : PrefixMatchBehavior} {key : List ℕ} {way : TreePath} {name : OpaqueNodePtr} {depth : ℕ}
    {behavior : PrefixMatchBehavior}
    {before now : ℕ} {p : InnerPtr} {shown : Inner} (by : IsCanonicalTree bytes P s root pairs layout)
    (d : IsOnWay bytes P start key layout way name depth behavior before now) (at : IsShown d.node p shown) where
  abbrev place : ℕ
  place = depth + shown.prefix.len

  -- no key matches
  abbrev Ends : ℕ → Type 0
  Ends after =
      (match_of bytes key pairs ≡ []) × (before + length (nodes_on_way bytes key layout) ≤ after)
      × (ComparesAll P start layout → before + length (nodes_on_way bytes key layout) ≡ after)

  -- the key leads to no child
  pub stops : {after : ℕ} → after ≡ now + 1 → None ≡ child_below behavior shown key depth → Ends after
  stops {after} counted none =
      go (prefix_match behavior shown.prefix (drop depth key)) refl (cases_lt place (length key))
      (child_at shown.children (get_or key place 0)) refl
    where
      ends : IsEnd d at → Ends after
      ends (nothing, few, exactly) = (ap (match_of bytes key) (sym (tree_radix by).1) ∙ nothing, omega arith, λ whole. let l = exactly whole in omega arith)

      off : Why shown.prefix (drop depth key) behavior → Ends after
      off (inl (sure, less)) = ends (ends_off d at sure less)
      off (inr less) = let l = simp length-drop at less in ends (ends_short d at (omega arith))

      go : (r : Result AttemptOptimisticPrefixMatch PessimisticMismatch) → prefix_match behavior shown.prefix (drop depth key) ≡ r →
          (place < length key) ⊎ (length key ≤ place) → (c : Option OpaqueNodePtr) → child_at shown.children (get_or key place 0) ≡ c → Ends after
      go (Err m) e long c there = off (err_why shown.prefix (drop depth key) behavior m e)
      go (Ok m) e (inr end) c there = ends (ends_short d at end)
      go (Ok m) e (inl long) None there = ends (ends_childless d at there)
      go (Ok m) e (inl long) (Some to) there = let k = rw (e, lt-ltb place (length key) long, there) at none in absurd cc

  -- the key leads to a child
  pub steps : {after : ℕ} {to : ℕ × OpaqueNodePtr} {behavior' : PrefixMatchBehavior} → after ≡ now + 1 → Some to ≡ child_below behavior shown key depth →
      behavior' ≡ behavior_after behavior shown.prefix (drop depth key) →
      IsOnWay bytes P start key layout (step_down way p (get_or key to.0 0)) to.1 (to.0 + 1) behavior' before after
  steps {after} {to} {behavior'} counted some is =
      go (prefix_match behavior shown.prefix (drop depth key)) refl (cases_lt place (length key))
      (child_at shown.children (get_or key place 0)) refl
    where
      Below : ℕ × OpaqueNodePtr → ℕ → Type 0
      Below z visits = IsOnWay bytes P start key layout (step_down way p (get_or key z.0 0)) z.1 (z.0 + 1) behavior' before visits

      go : (r : Result AttemptOptimisticPrefixMatch PessimisticMismatch) → prefix_match behavior shown.prefix (drop depth key) ≡ r →
          (place < length key) ⊎ (length key ≤ place) → (c : Option OpaqueNodePtr) → child_at shown.children (get_or key place 0) ≡ c → Below to after
      go (Err m) e long c there = let k = rw e at some in absurd cc
      go (Ok m) e (inr end) c there = let k = rw (e, le-ltb place (length key) end) at some in absurd cc
      go (Ok m) e (inl long) None there = let k = rw (e, lt-ltb place (length key) long, there) at some in absurd cc
      go (Ok m) e (inl long) (Some other) there =
          let k = rw (e, lt-ltb place (length key) long, there) at some in
          let same : ◌≡◌ {A = ℕ × OpaqueNodePtr} (place, other) to = cc in
          let down = goes_on d at {to = other} {after = behavior'} long there (λ sure.
          let (was, all, stored) = ok_compared shown.prefix (drop depth key) behavior m e (sym is ∙ sure) in
          still_compared d at was all stored) (λ was stored. is ∙ ok_sure shown.prefix (drop depth key) behavior m e was stored) in
          subst (Below to) (sym counted) (subst (λ z. Below z (now + 1)) same down)

  -- the node's prefix ends with these bytes of the key
  module _ (front : List ℕ) (ended : depth + shown.prefix.len ≡ length front) where
    -- the key has no more bytes
    pub stops_whole : {after : ℕ} → after ≡ now + 1 → key ≡ front ++ [] → Ends after
    stops_whole counted is =
        let l = ap length is in
        let k = length-append front [] in
        stops counted (none_beyond behavior shown key depth (omega arith))

    -- the key has one more byte
    module _ (last : ℕ) (is : key ≡ front ++ last ∷ []) {left : PrefixMatchBehavior} (same : left ≡ behavior) where
      below_same : child_below left shown (front ++ last ∷ []) depth ≡ child_below behavior shown key depth
      below_same = ap₂ (λ b k. child_below b shown k depth) same (sym is)

      -- no child is under it
      pub stops_last : {after : ℕ} → after ≡ now + 1 → None ≡ child_below left shown (front ++ last ∷ []) depth → Ends after
      stops_last counted none = stops counted (none ∙ below_same)

      -- a child is under it
      pub steps_last : {after : ℕ} {child : OpaqueNodePtr} {behavior' : PrefixMatchBehavior} → after ≡ now + 1 →
          Some (length front, child) ≡ child_below left shown (front ++ last ∷ []) depth →
          behavior' ≡ behavior_after left shown.prefix (drop depth (front ++ last ∷ [])) →
          IsOnWay bytes P start key layout (step_down way p last) child (length front + 1) behavior' before after
      steps_last {after} {child} {behavior'} counted some compared =
          subst (λ b. IsOnWay bytes P start key layout (step_down way p b) child (length front + 1) behavior' before after)
          (ap (λ k. get_or k (length front) 0) is ∙ get_or-append_seam front last [] 0)
          (steps {to = (length front, child)} counted (some ∙ below_same) (compared ∙ ap₂ (λ b k. behavior_after b shown.prefix (drop depth k)) same (sym is)))

module _ {K V : Type 0} {s : Nodes K V} {bytes : K × V → List ℕ} {P : ℕ} {root : OpaqueNodePtr} {pairs : List (K × V)}
    {layout : Tree OpaqueNodePtr (K × V)} {start : PrefixMatchBehavior} {key : List ℕ} {way : TreePath} {name : OpaqueNodePtr} {depth : ℕ}
    {behavior : PrefixMatchBehavior}
    {before now : ℕ} (by : IsCanonicalTree bytes P s root pairs layout) (d : IsOnWay bytes P start key layout way name depth behavior before now) where
  -- at an inner node after the end of the key no key matches
  pub stops_after : {after : ℕ} → after ≡ now + 1 → name.kind ≢ Leaf → length key ≤ depth →
      (match_of bytes key pairs ≡ []) × (before + length (nodes_on_way bytes key layout) ≤ after)
      × (ComparesAll P start layout → before + length (nodes_on_way bytes key layout) ≡ after)
  stops_after {after} counted proper short = go (map.get s.inners (as_inner name)) refl
    where
      go : (o : Option Inner) → map.get s.inners (as_inner name) ≡ o →
          (match_of bytes key pairs ≡ []) × (before + length (nodes_on_way bytes key layout) ≤ after)
          × (ComparesAll P start layout → before + length (nodes_on_way bytes key layout) ≡ after)
      go None gone = absurd (inner_met (node_there by d) proper refl (sym gone))
      go (Some shown) there = stops by d (shown_met (node_there by d) proper refl (sym there)) counted (none_beyond behavior shown key depth (omega arith))
