-- a tree that is being built
use Rattle.std.proofs.Common.{◌≡◌, ℕ, ◌+◌, ◌<◌, List, [], ◌∷◌, ◌++◌, ap, sym, ◌∙◌, subst, arith, length-append, Option, Some, None, Result, Ok, Err, OnOk, OnErr, IfErr}
use Rattle.std.specs.FinMap as map
use Rattle.art_building.specs.Built.{HasAppended, HoldsEdge, IsEdgeOf, root_of}
use Rattle.art_building.specs.Pushes.{IsPushError, IsReasonAfter}
use Rattle.art_changing.specs.MapPairs.{HoldsPairs, pairs_at}
use Rattle.art_changing.proofs.Enough.{enough}
use Rattle.art_changing.proofs.MapPuts.{at_root, left_holds, planted, stays}
use Rattle.art_changing.proofs.ViewsOfPairs.{view_of}
use Rattle.art_loading.specs.Edges.{IsEdge}
use Rattle.art_loading.specs.declared.append.Edge.{Edge}
use Rattle.art_loading.specs.declared.append.AppendError.{AppendError}
use Rattle.art_loading.specs.declared.append.AppendReason.{AppendReason}
use Rattle.art_loading.specs.NextKeys.{IsReason}
use Rattle.art_loading.specs.declared.edge.Step.{Step}
use Rattle.art_loading.proofs.Edges.{edge_last, edge_stays}
use Rattle.art_model.specs.Kept.{ChangesInPlace}
use Rattle.art_model.specs.Pairs.{last_of, of_key}
use Rattle.art_model.specs.Roots.{ForTree, IsRootOf}
use Rattle.art_model.specs.Trees.{Tree}
use Rattle.art_model.proofs.stores.StoreLaws.{has_one_map}
use Rattle.art_nodes.specs.Nodes.{Nodes}
use Rattle.art_parts.specs.Names.{leaf_name}
use Rattle.art_parts.specs.declared.names.LeafPtr.{LeafPtr}
use Rattle.art_writing.specs.ParentWrites.{IsPlanted}
use Rattle.art_parts.specs.declared.names.OpaqueNodePtr.{OpaqueNodePtr}

module _ {K V : Type 0} {bytes : K × V → List ℕ} {P : ℕ} where
  -- what is held is seen
  pub seen : {s : Nodes K V} {edge : Option Edge} {len : ℕ} {pairs : List (K × V)} → HoldsEdge bytes P s edge len pairs → pairs_at s (root_of edge) ≡ pairs
  seen {s} h = view_of bytes P s h.held

  pub seen_holds : {s : Nodes K V} {edge : Option Edge} {len : ℕ} {pairs : List (K × V)} → HoldsEdge bytes P s edge len pairs →
      HoldsEdge bytes P s edge len (pairs_at s (root_of edge))
  seen_holds {s} {edge} {len} h = subst (HoldsEdge bytes P s edge len) (sym (seen h)) h

  -- the edge where there is one
  pub edge_at : {s : Nodes K V} {edge : Option Edge} {right : Edge} {len : ℕ} {pairs : List (K × V)} → edge ≡ Some right → HoldsEdge bytes P s edge len pairs →
      IsEdge bytes P s right.root right.steps.items right.leaf pairs
  edge_at {s} {pairs = pairs} is h = subst (λ e. IsEdgeOf bytes P s e pairs) is h.edge_is

  held_at : {s : Nodes K V} {edge : Option Edge} {right : Edge} {len : ℕ} {pairs : List (K × V)} → edge ≡ Some right → HoldsEdge bytes P s edge len pairs →
      HoldsPairs bytes P s (Some right.root) len pairs
  held_at {s} {len = len} {pairs} is h = subst (λ e. HoldsPairs bytes P s (root_of e) len pairs) is h.held

  -- one pair more is held
  module _ {s t : Nodes K V} {edge : Option Edge} {right : Edge} (after : Edge) {len : ℕ} {pairs : List (K × V)} (new : K × V) (is : edge ≡ Some right)
      (h : HoldsEdge bytes P s edge len pairs) (appended : IsEdge bytes P t after.root after.steps.items after.leaf (pairs ++ new ∷ []))
      (kept : (e : IsEdge bytes P s right.root right.steps.items right.leaf pairs) →
      ForTree bytes P t after.root (λ others tree. ChangesInPlace bytes s t (Some e.layout) (Some tree))) where
    pub fits : len < map.len t.leaves
    fits =
        let most = enough appended.by in
        let count = length-append pairs (new ∷ []) in
        let same = h.held.len_is in
        omega arith

    pub more_held : {more : ℕ} → more ≡ len + 1 → HoldsEdge bytes P t (Some after) more (pairs ++ new ∷ [])
    more_held counted =
        let has = at_root bytes P (held_at is h) in
        let e = edge_at is h in
        let one = has_one_map bytes P s right.root pairs pairs has.layout e.layout has.by e.by in
        let same = h.held.len_is in
        let count = length-append pairs (new ∷ []) in
        record {
          held = left_holds bytes P has (appended.layout, appended.by)
              (λ others tree by. subst (λ l. ChangesInPlace bytes s t (Some l) (Some tree)) one.1 (kept e others tree by)) (omega arith);
          edge_is = appended;
        }

  -- nothing is changed
  pub still_held : {s t : Nodes K V} {edge : Option Edge} {right after : Edge} {len : ℕ} {pairs : List (K × V)} → edge ≡ Some right →
      HoldsEdge bytes P s edge len pairs → t.leaves ≡ s.leaves → t.inners ≡ s.inners → after.root ≡ right.root → after.steps.items ≡ right.steps.items →
      after.leaf ≡ right.leaf → HoldsEdge bytes P t (Some after) len pairs
  still_held {s} {t} {right = right} {after} {len} {pairs} is h leaves inners root steps leaf = record {
    held = subst (λ r. HoldsPairs bytes P t (Some r) len pairs) (sym root) (stays bytes P s t leaves inners (held_at is h));
    edge_is = subst (λ r. IsEdge bytes P t r after.steps.items after.leaf pairs) (sym root)
        (subst (λ (l : List Step). IsEdge bytes P t right.root l after.leaf pairs) (sym steps)
        (subst (λ (l : LeafPtr). IsEdge bytes P t right.root right.steps.items l pairs) (sym leaf) (edge_stays leaves inners (edge_at is h))));
  }

module _ {K V : Type 0} (bytes : K → List ℕ) (P : ℕ) where
  -- where there is no tree there are no pairs
  bare : {s : Nodes K V} {len : ℕ} {pairs : List (K × V)} → HoldsPairs (of_key bytes) P s None len pairs → pairs ≡ []
  bare {s} {len} {pairs} is = go is.tree is.canonical
    where
      go : (tree : Option (Tree OpaqueNodePtr (K × V))) → IsRootOf (of_key bytes) P s None pairs tree → pairs ≡ []
      go None h = h
      go (Some l) h = absurd h

  -- a tree is begun
  pub begun_held : {s t : Nodes K V} {edge : Option Edge} {begun : Edge} {len : ℕ} {pairs : List (K × V)} {key : K} {value : V} → edge ≡ None →
      HoldsEdge (of_key bytes) P s edge len pairs → begun.root ≡ leaf_name begun.leaf → IsPlanted s t begun.leaf (key, value) →
      IsEdge (of_key bytes) P t begun.root begun.steps.items begun.leaf ((key, value) ∷ []) →
      HoldsEdge (of_key bytes) P t (Some begun) 1 (pairs ++ (key, value) ∷ [])
  begun_held {s} {t} {begun = begun} {len} {pairs} {key} {value} none h root new edge =
      let held : HoldsPairs (of_key bytes) P s None len pairs = subst (λ e. HoldsPairs (of_key bytes) P s (root_of e) len pairs) none h.held in
      subst (λ ps. HoldsEdge (of_key bytes) P t (Some begun) 1 (ps ++ (key, value) ∷ [])) (sym (bare held)) (record {
        held = subst (λ r. HoldsPairs (of_key bytes) P t (Some r) 1 ((key, value) ∷ [])) (sym root) (planted bytes P held new);
        edge_is = edge;
      })

  module _ (t : Nodes K V) (edge : Option Edge) (len : ℕ) (pairs : List (K × V)) (key : K) (value : V) where
    -- what is left is held
    pub appended_holds : (result : Result (Unit {0}) (AppendError K V)) → HasAppended bytes P pairs key value result t edge len →
        HoldsEdge (of_key bytes) P t edge len (pairs_at t (root_of edge))
    appended_holds (Ok done) h = seen_holds h
    appended_holds (Err error) h = seen_holds h.0

    module _ {before : List (K × V)} (same : pairs ≡ before) where
      pub pushed : (result : Result (Unit {0}) (AppendError K V)) → HasAppended bytes P pairs key value result t edge len →
          OnOk result (pairs_at t (root_of edge) ≡ before ++ (key, value) ∷ [])
      pushed (Ok done) h = seen h ∙ ap (λ ps. ps ++ (key, value) ∷ []) same
      pushed (Err error) h = tt

      pub unchanged : (result : Result (Unit {0}) (AppendError K V)) → HasAppended bytes P pairs key value result t edge len →
          OnErr result (pairs_at t (root_of edge) ≡ before)
      unchanged (Ok done) h = tt
      unchanged (Err error) h = seen h.0 ∙ same

      pub returned : (result : Result (Unit {0}) (AppendError K V)) → HasAppended bytes P pairs key value result t edge len →
          IfErr result (IsPushError bytes before key value)
      returned (Ok done) h = tt
      returned (Err error) h = subst (λ ps. IsPushError bytes ps key value error) same h.1

-- the reason is about the last pair
pub reason_after : {K V : Type 0} (bytes : K → List ℕ) {P : ℕ} {s : Nodes K V} (right : Edge) {pairs : List (K × V)} (key : K) (reason : AppendReason) →
    IsEdge (of_key bytes) P s right.root right.steps.items right.leaf pairs →
    ((last : K × V) → last_of pairs ≡ Some last → IsReason (bytes last.0) (bytes key) reason) → IsReasonAfter bytes (last_of pairs) key reason
reason_after bytes right key reason e told = subst (λ o. IsReasonAfter bytes o key reason) (sym (edge_last e)) (told e.pair (edge_last e))
