-- a radix tree is the tree of its pairs
use Rattle.std.proofs.Common.{◌≡◌, ℕ, suc, zero, ◌+◌, ◌<◌, ◌≤◌, List, [], ◌∷◌, ◌++◌, length, drop, refl, ap, ◌∙◌, append_assoc, append-nil, arith, length-append, Some}
use Rattle.std.specs.List.{AllByRecursion as Each}
use Rattle.std.proofs.lemmas.Bool.{ne_eqb}
use Rattle.std.proofs.lemmas.List.{get_or_at}
use Rattle.art_model.specs.Prelude.{IsFront, shared_part, groups, Tree, leaf, inner, Subtrees, child, no_child, NodeHeader, tree_of, node_of, IsRadix, AreRadix, BytesRise, bytes_of, pairs_of, pairs_below, unmarked, all_unmarked}
use Rattle.art_model.specs.Trees.{byte_at, tree_within, children_of}
use Rattle.art_model.proofs.lists.Lists.{Each-append, Each-left, Each-right, front_cut, after_front, Each-weaker}
use Rattle.art_model.proofs.radix.Groups.{StartsApart, groups-block, shared_part-front, shared_part_shared}

module _ {A : Type 0} (bytes : A → List ℕ) where
  pub byte_after : (front : List ℕ) (b : ℕ) (x : A) → IsFront (front ++ b ∷ []) (bytes x) → byte_at bytes (length front) x ≡ b
  byte_after front b x (r, e) = rw (e, append_assoc front (b ∷ []) r) (get_or_at front b r 0 (length front) refl)

module _ {N A : Type 0} (bytes : A → List ℕ) (P : ℕ) where
  -- each key below a node starts with the node's place
  mutual
    pub radix_way : (t : Tree N A) (place : List ℕ) → IsRadix bytes P place t → Each (λ x. IsFront place (bytes x)) (pairs_of t)
    radix_way (leaf n x) place h = (h, tt)
    radix_way (inner n h cs) place (part, e, two, up, below) =
        Each-weaker (λ x. IsFront (place ++ part) (bytes x)) (λ x. IsFront place (bytes x)) (λ x f. front_cut place part (bytes x) f)
        (pairs_below cs) (radix_below cs (place ++ part) below)

    pub radix_below : (cs : Subtrees N A) (front : List ℕ) → AreRadix bytes P front cs → Each (λ x. IsFront front (bytes x)) (pairs_below cs)
    radix_below no_child front h = tt
    radix_below (child b t cs) front h = Each-append (λ x. IsFront front (bytes x)) (pairs_of t) (pairs_below cs)
        (Each-weaker (λ x. IsFront (front ++ b ∷ []) (bytes x)) (λ x. IsFront front (bytes x)) (λ x f. front_cut front (b ∷ []) (bytes x) f)
        (pairs_of t) (radix_way t (front ++ b ∷ []) h.0))
        (radix_below cs front h.1)

  -- a radix tree has a pair
  mutual
    pub radix_some : (t : Tree N A) (place : List ℕ) → IsRadix bytes P place t → (x : A) × (xs : List A) × (pairs_of t ≡ x ∷ xs)
    radix_some (leaf n x) place h = (x, [], refl)
    radix_some (inner n h cs) place (part, e, two, up, below) = radix_some_below cs (place ++ part) two below

    radix_some_below : (cs : Subtrees N A) (front : List ℕ) → 2 ≤ length (bytes_of cs) → AreRadix bytes P front cs →
        (x : A) × (xs : List A) × (pairs_below cs ≡ x ∷ xs)
    radix_some_below no_child front two h = absurd (omega arith)
    radix_some_below (child b t cs) front two h =
        let r = radix_some t (front ++ b ∷ []) h.0 in (r.0, r.1 ++ pairs_below cs, ap (λ xs. xs ++ pairs_below cs) r.2)

  radix_long : (cs : Subtrees N A) (front : List ℕ) → AreRadix bytes P front cs → length (bytes_of cs) ≤ length (pairs_below cs)
  radix_long no_child front h = omega arith
  radix_long (child b t cs) front h =
      let r = radix_some t (front ++ b ∷ []) h.0 in
      let more = radix_long cs front h.1 in
      rw (length-append, r.2) (omega arith)

  -- the groups are the children's pairs
  abbrev groups_of : Subtrees N A → List (ℕ × List A)
  groups_of no_child = []
  groups_of (child b t cs) = (b, pairs_of t) ∷ groups_of cs

  length-groups_of : (cs : Subtrees N A) → length (groups_of cs) ≡ length (bytes_of cs)
  length-groups_of no_child = refl
  length-groups_of (child b t cs) = ap suc (length-groups_of cs)

  apart_from : (b : ℕ) (cs : Subtrees N A) → Each (λ c. b < c) (bytes_of cs) → StartsApart b (groups_of cs)
  apart_from b no_child h = tt
  apart_from b (child c t cs) h = ne_eqb b c (λ e. omega arith)

  groups_below : (cs : Subtrees N A) (front : List ℕ) → AreRadix bytes P front cs → BytesRise (bytes_of cs) →
      groups (byte_at bytes (length front)) (pairs_below cs) ≡ groups_of cs
  groups_below no_child front h up = refl
  groups_below (child b t cs) front h up =
      let r = radix_some t (front ++ b ∷ []) h.0 in
      let place : Each (λ x. byte_at bytes (length front) x ≡ b) (pairs_of t) =
      Each-weaker (λ x. IsFront (front ++ b ∷ []) (bytes x)) (λ x. byte_at bytes (length front) x ≡ b) (byte_after bytes front b)
      (pairs_of t) (radix_way t (front ++ b ∷ []) h.0) in
      rw r.2 (groups-block (byte_at bytes (length front)) b r.0 r.1 (pairs_below cs) (groups_of cs) (rw r.2 at place)
      (groups_below cs front h.1 up.1) (apart_from b cs up.0))

module _ {A : Type 0} (bytes : A → List ℕ) (P : ℕ) where
  tree_two : (turns d : ℕ) (xs : List A) → 2 ≤ length xs → tree_within bytes (suc turns) P d xs ≡ node_of bytes (tree_within bytes turns P) P d xs
  tree_two turns d [] two = absurd (omega arith)
  tree_two turns d (x ∷ []) two = absurd (omega arith)
  tree_two turns d (x ∷ y ∷ xs) two = refl

two_fronts : (s : List ℕ) (b c : ℕ) (k l : List ℕ) → b < c → IsFront s (b ∷ k) → IsFront s (c ∷ l) → s ≡ []
two_fronts [] b c k l h f g = refl
two_fronts (x ∷ s) b c k l h (r, e) (q, f) = let p : b ≡ x = cc in let o : c ≡ x = cc in absurd (omega arith)

module _ {N A : Type 0} (bytes : A → List ℕ) (P : ℕ) where
  -- the first key below a child, from the end of the prefix on
  first_below : (t : Tree N A) (front : List ℕ) (b : ℕ) (s : List ℕ) → IsRadix bytes P (front ++ b ∷ []) t →
      Each (λ x. IsFront s (drop (length front) (bytes x))) (pairs_of t) → (k : List ℕ) × IsFront s (b ∷ k)
  first_below t front b s h shared =
      let r = radix_some bytes P t (front ++ b ∷ []) h in
      let w : Each (λ x. IsFront (front ++ b ∷ []) (bytes x)) (pairs_of t) = radix_way bytes P t (front ++ b ∷ []) h in
      let first : IsFront (front ++ b ∷ []) (bytes r.0) = (rw r.2 at w).0 in
      let f : IsFront s (drop (length front) (bytes r.0)) = (rw r.2 at shared).0 in
      (first.0, rw (after_front front (bytes r.0) (b ∷ first.0) (first.1 ∙ append_assoc front (b ∷ []) first.0)) at f)

  shared_below : (cs : Subtrees N A) (place part : List ℕ) → 2 ≤ length (bytes_of cs) → BytesRise (bytes_of cs) → AreRadix bytes P (place ++ part) cs →
      shared_part bytes (length place) (pairs_below cs) ≡ part
  shared_below no_child place part two up h = absurd (omega arith)
  shared_below (child b t no_child) place part two up h = absurd (omega arith)
  shared_below (child b t (child c u cs)) place part two up h =
      let front = place ++ part in
      let all = child b t (child c u cs) in
      let s = shared_part bytes (length front) (pairs_below all) in
      let shared = shared_part_shared bytes (length front) (pairs_below all) in
      let Q = λ (x : A). IsFront s (drop (length front) (bytes x)) in
      let one = first_below t front b s h.0 (Each-left Q (pairs_of t) (pairs_below (child c u cs)) shared) in
      let other = first_below u front c s h.1.0 (Each-left Q (pairs_of u) (pairs_below cs) (Each-right Q (pairs_of t) (pairs_below (child c u cs)) shared)) in
      let none : s ≡ [] = two_fronts s b c one.0 other.0 up.0.0 one.1 other.1 in
      let r = radix_some_below bytes P all front two h in
      let ways : Each (λ x. IsFront front (bytes x)) (pairs_below all) = radix_below bytes P all front h in
      let e : shared_part bytes (length place) (pairs_below all) ≡ part ++ s = rw r.2 (shared_part-front bytes place part r.0 r.1 (rw r.2 at ways)) in
      e ∙ ap (λ z. part ++ z) none ∙ append-nil part

  -- a radix tree is what grouping its pairs gives
  mutual
    rebuild : (t : Tree N A) (place : List ℕ) (turns : ℕ) → IsRadix bytes P place t → length (pairs_of t) ≤ turns →
        tree_within bytes turns P (length place) (pairs_of t) ≡ Some (unmarked t)
    rebuild (leaf n x) place zero h enough = absurd (omega arith)
    rebuild (leaf n x) place (suc turns) h enough = refl
    rebuild (inner n h cs) place zero (part, e, two, up, below) enough = let more = radix_long bytes P cs (place ++ part) below in absurd (omega arith)
    rebuild (inner n h cs) place (suc turns) (part, e, two, up, below) enough =
        let more = radix_long bytes P cs (place ++ part) below in
        let s = shared_below cs place part two up below in
        let g = groups_below bytes P cs (place ++ part) below up in
        let ih = rebuild_below cs (place ++ part) turns below (omega arith) in
        tree_two bytes P turns (length place) (pairs_below cs) (omega arith) ∙ rw (s, ← length-append place part, g, length-groups_of bytes P cs, ih, e) refl

    rebuild_below : (cs : Subtrees N A) (front : List ℕ) (turns : ℕ) → AreRadix bytes P front cs →
        length (pairs_below cs) + 1 ≤ turns + length (bytes_of cs) →
        children_of (tree_within bytes turns P (length front + 1)) (groups_of bytes P cs) ≡ all_unmarked cs
    rebuild_below no_child front turns h enough = refl
    rebuild_below (child b t cs) front turns h enough =
        let some = radix_some bytes P t (front ++ b ∷ []) h.0 in
        let one : 1 ≤ length (pairs_of t) = rw some.2 (omega arith) in
        let more = radix_long bytes P cs front h.1 in
        let sum = length-append (pairs_of t) (pairs_below cs) in
        rw (← length-append front (b ∷ []), rebuild t (front ++ b ∷ []) turns h.0 (omega arith), rebuild_below cs front turns h.1 (omega arith)) refl

  -- the same without a bound on the recursion
  rebuild_each : (cs : Subtrees N A) (front : List ℕ) → AreRadix bytes P front cs →
      children_of (λ group. tree_of bytes group P (length front + 1)) (groups_of bytes P cs) ≡ all_unmarked cs
  rebuild_each no_child front h = refl
  rebuild_each (child b t cs) front h =
      let own : tree_of bytes (pairs_of t) P (length front + 1) ≡ Some (unmarked t) =
      rw (← length-append front (b ∷ [])) (rebuild t (front ++ b ∷ []) (length (pairs_of t)) h.0 (omega arith)) in
      rw (own, rebuild_each cs front h.1) refl

  pub rebuild_node : (n : N) (h : NodeHeader) (cs : Subtrees N A) (place : List ℕ) → IsRadix bytes P place (inner n h cs) →
      node_of bytes (λ d group. tree_of bytes group P d) P (length place) (pairs_below cs) ≡ Some (unmarked (inner n h cs))
  rebuild_node n h cs place (part, e, two, up, below) =
      let s = shared_below cs place part two up below in
      let g = groups_below bytes P cs (place ++ part) below up in
      rw (s, ← length-append place part, g, length-groups_of bytes P cs, rebuild_each cs (place ++ part) below, e) refl

  pub rebuild_root : (t : Tree N A) → IsRadix bytes P [] t → tree_of bytes (pairs_of t) P 0 ≡ Some (unmarked t)
  rebuild_root t h = rebuild t [] (length (pairs_of t)) h (omega arith)
