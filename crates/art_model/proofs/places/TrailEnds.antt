-- Trails in a store from the root of a tree end at subtrees, and are read as the places of these.
use Rattle.std.proofs.Common.{◌≡◌, ◌≢◌, ℕ, List, [], ◌∷◌, ◌++◌, length, take, drop, refl, ap, ap₂, sym, ◌∙◌, arith, subst, append_assoc, Option, Some, None, inl, inr}
use Rattle.std.proofs.Math.Seq.{take-append_seam, drop-append_seam}
use Rattle.std.proofs.lemmas.List.{take_all}
use Rattle.std.specs.List.{AllByRecursion as Each}
use Rattle.art_model.specs.Prelude.{child_at, OpaqueNodePtr, IsIn, IsFront, Node, leaf_node, name_of, slots_of, names_of, names_below, AreDistinct, Holds, HoldsBelow, IsRadix, AreRadix, bottom_of, end_of, IsDescent, IsPrefix, HasPrefix, IsTrail, IsReadAs, Tree, leaf, inner, Subtrees, child, no_child, NodeHeader}
use Rattle.art_model.proofs.lists.Lists.{Each-weaker, each_in, in_left, in_right, front_cut}
use Rattle.art_model.proofs.places.OnWay.{child_under}
use Rattle.art_model.proofs.places.Paths.{names_below-join}
use Rattle.art_model.proofs.lists.Pairwises.{Pairwise-left, Pairwise-right}
use Rattle.art_model.proofs.radix.Radix.{AreRadix-right}
use Rattle.art_model.proofs.stores.Stores.{HoldsBelow-right}

module _ {A : Type 0} (at : OpaqueNodePtr → Option (Node OpaqueNodePtr A)) (bytes : A → List ℕ) (P : ℕ) where
  -- A tree of which this one is a part is at a place, under a name.
  pub record IsSub (whole : Tree OpaqueNodePtr A) (place : List ℕ) (name : OpaqueNodePtr) : Type 0 where
    pub tree : Tree OpaqueNodePtr A
    pub named : name_of tree ≡ name
    pub holds : Holds at tree
    pub radix : IsRadix bytes P place tree
    pub within : (k : OpaqueNodePtr) → IsIn k (names_of tree) → IsIn k (names_of whole)
    pub apart : AreDistinct (names_of whole) → AreDistinct (names_of tree)

  -- where a descent ends at a leaf the key starts with the tree's place, and that of an inner node with its prefix too
  mutual
    pub descent_front : (t : Tree OpaqueNodePtr A) (place : List ℕ) (ns : List OpaqueNodePtr) (x : A) → Holds at t → IsRadix bytes P place t →
        IsDescent at (name_of t) ns → at (bottom_of (name_of t) ns) ≡ Some (leaf_node x) → IsFront place (bytes x)
    descent_front (leaf n y) place [] x holds radix d e = let same : y ≡ x = cc in subst (λ z. IsFront place (bytes z)) same radix
    descent_front (leaf n y) place (m ∷ ms) x holds radix d e = let h = d.0.3 in absurd cc
    descent_front (inner n h cs) place ns x holds radix d e = front_cut place radix.0 (bytes x) (prefix_front n h cs place ns x holds radix d e)

    pub prefix_front : (n : OpaqueNodePtr) (h : NodeHeader) (cs : Subtrees OpaqueNodePtr A) (place : List ℕ) (ns : List OpaqueNodePtr) (x : A) →
        Holds at (inner n h cs) → (radix : IsRadix bytes P place (inner n h cs)) → IsDescent at n ns →
        at (bottom_of n ns) ≡ Some (leaf_node x) → IsFront (place ++ radix.0) (bytes x)
    prefix_front n h cs place [] x holds radix d e = let f = holds.0 in absurd cc
    prefix_front n h no_child place (m ∷ ms) x holds radix d e = let l = radix.2 in absurd (omega arith)
    prefix_front n h (child b t cs) place (m ∷ ms) x holds radix d e =
        let f = holds.0 in
        let g = d.0.3 in
        let both : ◌≡◌ {A = ℕ × OpaqueNodePtr} (d.0.1, m) (b, name_of t) = cc in
        let same : m ≡ name_of t = ap (λ c. c.1) both in
        front_cut (place ++ radix.0) (b ∷ []) (bytes x) (descent_front t ((place ++ radix.0) ++ b ∷ []) ms x holds.1.0 radix.4.0
        (subst (λ k. IsDescent at k ms) same d.1) (subst (λ k. at (bottom_of k ms) ≡ Some (leaf_node x)) same e))

  -- the prefix of a node as read is its whole prefix
  pub read_whole : (n : OpaqueNodePtr) (h : NodeHeader) (cs : Subtrees OpaqueNodePtr A) (place part : List ℕ) → Holds at (inner n h cs) →
      (radix : IsRadix bytes P place (inner n h cs)) → HasPrefix at bytes P (length place) n part → part ≡ radix.0
  read_whole n h cs place part holds radix (k, slots, there, is) =
      let f = holds.0 in
      let same : k ≡ h = cc in
      go (subst (λ z. IsPrefix at bytes P (length place) n z part) same is)
    where
      long : h.length_of ≡ length radix.0
      long = ap (λ z. z.length_of) radix.1

      go : IsPrefix at bytes P (length place) n h part → part ≡ radix.0
      go (inl (l, e)) = e ∙ ap (λ z. z.stored) radix.1 ∙ take_all P radix.0 (let m = long in omega arith)
      go (inr (m, (x, (ns, d, bottom), enough, e))) =
          let (rest, whole) = prefix_front n h cs place ns x holds radix d bottom in
          e ∙ ap₂ (λ i l. take i (drop (length place) l)) long (whole ∙ append_assoc place radix.0 rest) ∙
          ap (take (length radix.0)) (drop-append_seam place (radix.0 ++ rest)) ∙ take-append_seam radix.0 rest

  -- a trail from the root of a tree ends at a part of it, and is read as the place of that
  pub trail_sub : (t : Tree OpaqueNodePtr A) (front place : List ℕ) (steps : List (ℕ × OpaqueNodePtr)) → Holds at t → IsRadix bytes P front t →
      IsTrail at (name_of t) steps → IsReadAs at bytes P front (name_of t) steps place → IsSub t place (end_of (name_of t) steps)
  trail_sub t front place [] holds radix trail read =
      record {
        tree = t;
        named = refl;
        holds = holds;
        radix = subst (λ p. IsRadix bytes P p t) (sym read) radix;
        within = λ k i. i;
        apart = λ d. d;
      }
  trail_sub (leaf n x) front place (s ∷ ss) holds radix ((h, slots, there, under), trail) read = absurd cc
  trail_sub (inner n h cs) front place (s ∷ ss) holds radix ((k, slots, there, under), trail) (part, has, read) =
      let f = holds.0 in
      let same : slots ≡ slots_of cs = cc in
      let c = child_under cs s.0 s.1 radix.3 (subst (λ l. child_at l s.0 ≡ Some s.1) same under) in
      let whole = read_whole n h cs front part holds radix has in
      let held = HoldsBelow-right at c.left (child s.0 c.tree c.right) (subst (HoldsBelow at) c.whole holds.1) in
      let below = AreRadix-right bytes P (front ++ radix.0) c.left (child s.0 c.tree c.right) (subst (AreRadix bytes P (front ++ radix.0)) c.whole radix.4) in
      let sub =
      trail_sub c.tree ((front ++ radix.0) ++ s.0 ∷ []) place ss held.0 below.0 (subst (λ m. IsTrail at m ss) (sym c.named) trail)
      (subst (λ m. IsReadAs at bytes P ((front ++ radix.0) ++ s.0 ∷ []) m ss place) (sym c.named)
      (subst (λ p. IsReadAs at bytes P ((front ++ p) ++ s.0 ∷ []) s.1 ss place) whole read)) in
      record {
        tree = sub.tree;
        named = sub.named ∙ ap (λ m. end_of m ss) c.named;
        holds = sub.holds;
        radix = sub.radix;
        apart = λ d. sub.apart (Pairwise-left ◌≢◌ (names_of c.tree) (names_below c.right)
            (Pairwise-right ◌≢◌ (names_below c.left) (names_below (child s.0 c.tree c.right))
            (subst AreDistinct (ap names_below c.whole ∙ names_below-join c.left (child s.0 c.tree c.right)) d.1)));
        within = λ m i. inr (subst (λ ds. IsIn m (names_below ds)) (sym c.whole)
            (subst (IsIn m) (sym (names_below-join c.left (child s.0 c.tree c.right)))
            (in_right m (names_below c.left) (names_below (child s.0 c.tree c.right)) (in_left m (names_of c.tree) (names_below c.right) (sub.within m i)))));
      }

  -- ---- descents
  -- there is a node under each name of a tree
  pub is_held : (t : Tree OpaqueNodePtr A) → Holds at t → at (name_of t) ≡ None → ⊥
  is_held (leaf n x) holds gone = absurd cc
  is_held (inner n h cs) holds gone = let f = holds.0 in absurd cc

  -- a descent from the root of a tree ends at a part of it
  pub descent_sub : (t : Tree OpaqueNodePtr A) (place : List ℕ) (ns : List OpaqueNodePtr) → Holds at t → IsRadix bytes P place t →
      IsDescent at (name_of t) ns → (deeper : List ℕ) × (u : Tree OpaqueNodePtr A) × (name_of u ≡ bottom_of (name_of t) ns) × Holds at u ×
      IsRadix bytes P deeper u
  descent_sub t place [] holds radix d = (place, t, refl, holds, radix)
  descent_sub (leaf n x) place (m ∷ ms) holds radix d = let h = d.0.3 in absurd cc
  descent_sub (inner n h no_child) place (m ∷ ms) holds radix d = let l = radix.2 in absurd (omega arith)
  descent_sub (inner n h (child b t cs)) place (m ∷ ms) holds radix d =
      let f = holds.0 in
      let g = d.0.3 in
      let both : ◌≡◌ {A = ℕ × OpaqueNodePtr} (d.0.1, m) (b, name_of t) = cc in
      let same : m ≡ name_of t = ap (λ c. c.1) both in
      let (deeper, u, named, held, own) = descent_sub t ((place ++ radix.0) ++ b ∷ []) ms holds.1.0 radix.4.0 (subst (λ k. IsDescent at k ms) same d.1) in
      (deeper, u, named ∙ ap (λ k. bottom_of k ms) (sym same), held, own)

  -- all its names are names of the tree
  descent_in : (t : Tree OpaqueNodePtr A) (ns : List OpaqueNodePtr) → Holds at t → IsDescent at (name_of t) ns →
      Each (λ k. IsIn k (names_of t)) (name_of t ∷ ns)
  descent_in (leaf n x) [] holds d = (inl refl, tt)
  descent_in (inner n h cs) [] holds d = (inl refl, tt)
  descent_in (leaf n x) (m ∷ ms) holds d = let h = d.0.3 in absurd cc
  descent_in (inner n h no_child) (m ∷ ms) holds d = let f = holds.0 in let g = d.0.3 in absurd cc
  descent_in (inner n h (child b t cs)) (m ∷ ms) holds d =
      let f = holds.0 in
      let g = d.0.3 in
      let both : ◌≡◌ {A = ℕ × OpaqueNodePtr} (d.0.1, m) (b, name_of t) = cc in
      let same : m ≡ name_of t = ap (λ c. c.1) both in
      let below = descent_in t ms holds.1.0 (subst (λ k. IsDescent at k ms) same d.1) in (
        inl refl,
        Each-weaker (λ k. IsIn k (names_of t)) (λ k. IsIn k (names_of (inner n h (child b t cs))))
            (λ k i. inr (in_left k (names_of t) (names_below cs) i)) (m ∷ ms) (subst (λ z. Each (λ k. IsIn k (names_of t)) (z ∷ ms)) (sym same) below),
      )

  -- none of which it meets twice
  pub descent_apart : (t : Tree OpaqueNodePtr A) (ns : List OpaqueNodePtr) → Holds at t → AreDistinct (names_of t) →
      IsDescent at (name_of t) ns → AreDistinct (name_of t ∷ ns)
  descent_apart t [] holds apart d = (tt, tt)
  descent_apart (leaf n x) (m ∷ ms) holds apart d = let h = d.0.3 in absurd cc
  descent_apart (inner n h no_child) (m ∷ ms) holds apart d = let f = holds.0 in let g = d.0.3 in absurd cc
  descent_apart (inner n h (child b t cs)) (m ∷ ms) holds apart d =
      let f = holds.0 in
      let g = d.0.3 in
      let both : ◌≡◌ {A = ℕ × OpaqueNodePtr} (d.0.1, m) (b, name_of t) = cc in
      let same : m ≡ name_of t = ap (λ c. c.1) both in
      let down = subst (λ k. IsDescent at k ms) same d.1 in
      subst (λ z. AreDistinct (n ∷ z ∷ ms)) (sym same) (
        Each-weaker (λ k. IsIn k (names_of t)) (λ k. n ≢ k) (λ k i. each_in (λ z. n ≢ z) k (names_below (child b t cs)) apart.0
            (in_left k (names_of t) (names_below cs) i)) (name_of t ∷ ms) (descent_in t ms holds.1.0 down),
        descent_apart t ms holds.1.0 (Pairwise-left ◌≢◌ (names_of t) (names_below cs) apart.1) down,
      )
