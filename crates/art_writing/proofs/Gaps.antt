-- where a new leaf is placed among the children of a node: its neighbours
use Rattle.std.proofs.Common.{◌≡◌, ◌≢◌, ◌⊎◌, ℕ, ◌<◌, ◌∷◌, ◌++◌, length, cond, ltb, Bool, true, false, Option, Some, None, refl, ap, sym, ◌∙◌, subst, arith, inl, inr}
use Rattle.std.specs.List.{AllByRecursion as Each}
use Rattle.std.specs.FinMap as map
use Rattle.art_model.specs.Prelude.{Inner, Children, child_at, inner_name, Nodes, Leaf, InnerPtr, LeafPtr, OpaqueNodePtr, IsNextTo, AreDistinct, name_of, names_of, names_below, slots_of, BytesRise, bytes_of, join, IsFullTree, node_at, Tree, inner, Subtrees, child, no_child, NodeHeader}
use Rattle.std.proofs.lemmas.Bool.{cases_eq, ltb-true, ltb-false}
use Rattle.art_inner.proofs.ChildrenLaws.{at_here, at_later}
use Rattle.art_model.proofs.places.EdgeDescents.{children_right}
use Rattle.art_model.proofs.lists.Pairwises.{Pairwise-left, Pairwise-right}
use Rattle.art_model.proofs.places.Paths.{names_below-join}
use Rattle.art_model.proofs.places.PlaceLaws.{join_assoc}
use Rattle.art_model.proofs.stores.Slots.{length-slots_of}
use Rattle.art_model.proofs.stores.Stores.{HoldsBelow-right}
use Rattle.art_model.proofs.stores.Views as views
use Rattle.art_copying.specs.declared.links.Direction.{Direction}
use Rattle.art_copying.specs.declared.links.Direction.TheVariants.{Before, After}
use Rattle.art_writing.specs.ParentWrites.{ComesBetween, HasGap, IsBeside}
use Rattle.art_copying.specs.Directions.{side_of}

-- a child of a full tree is one
full_child : {K V : Type 0} (s : Nodes K V) {name m to : OpaqueNodePtr} {h : NodeHeader} (l r : Subtrees OpaqueNodePtr (K × V)) (c : ℕ)
    (t : Tree OpaqueNodePtr (K × V)) → IsFullTree s name (inner m h (join l (child c t r))) → name_of t ≡ to → IsFullTree s to t
full_child s l r c t (is, full) named =
    let below = HoldsBelow-right (node_at s) l (child c t r) is.holds.1 in
    let distinct = subst AreDistinct (names_below-join l (child c t r)) is.distinct.1 in (
      record {
        named = named;
        holds = below.0;
        distinct = Pairwise-left (λ n k. n ≢ k) (names_of t) (names_below r)
            (Pairwise-right (λ n k. n ≢ k) (names_below l) (names_of t ++ names_below r) distinct);
      },
      (children_right 1 l (child c t r) full.1).0,
    )

-- a child under a byte and no child under it exclude each other
there_is : {X : Type 0} {x : X} → ◌≡◌ {A = Option X} None (Some x) → ⊥
there_is e = cc

-- the rest has no child under a byte under which the whole has none
none_later : (c : ℕ × OpaqueNodePtr) (rest : Children) (k : ℕ) → child_at (c ∷ rest) k ≡ None → child_at rest k ≡ None
none_later c rest k none = sym (at_later c rest k (λ e. there_is (sym none ∙ at_here c rest k e))) ∙ none

module _ {A : Type 0} where
  -- a byte of a child has what all of them have
  byte_there : (Good : ℕ → Type 0) (cs : Subtrees OpaqueNodePtr A) {d : ℕ} {to : OpaqueNodePtr} → Each Good (bytes_of cs) →
      child_at (slots_of cs) d ≡ Some to → Good d
  byte_there Good no_child all is = absurd cc
  byte_there Good (child c t cs) {d} all is = elim (cases_eq c d) [
    | inl e ↦ subst Good e all.0
    | inr n ↦ byte_there Good cs all.1 (sym (at_later (c, name_of t) (slots_of cs) d n) ∙ is)
  ]

  module _ (b : ℕ) where
    -- the byte of the gap has no child
    nothing_there : (l r : Subtrees OpaqueNodePtr A) → Each (λ c. c < b) (bytes_of l) → Each (λ c. b < c) (bytes_of r) → child_at (slots_of (join l r)) b ≡ None
    nothing_there no_child no_child low high = refl
    nothing_there no_child (child c t r) low high = at_later (c, name_of t) (slots_of r) b (λ e. omega (arith, e, high.0)) ∙ nothing_there no_child r tt high.1
    nothing_there (child c t l) r low high = at_later (c, name_of t) (slots_of (join l r)) b (λ e. omega (arith, e, low.0)) ∙ nothing_there l r low.1 high

    module _ (d : ℕ) (to : OpaqueNodePtr) where
      -- the nearest child above the gap is the first on the right
      right_first : (l r : Subtrees OpaqueNodePtr A) → Each (λ c. c < b) (bytes_of l) → Each (λ c. b < c) (bytes_of r) →
          BytesRise (bytes_of (join l r)) → b < d →
          child_at (slots_of (join l r)) d ≡ Some to → ((k : ℕ) → b < k → k < d → child_at (slots_of (join l r)) k ≡ None) →
          (t : Tree OpaqueNodePtr A) × (others : Subtrees OpaqueNodePtr A) × (r ≡ child d t others) × (name_of t ≡ to)
      right_first (child c t l) r low high up above is none =
          right_first l r low.1 high up.1 above (sym (at_later (c, name_of t) (slots_of (join l r)) d (λ e. omega (arith, e, low.0, above))) ∙ is)
          (λ k from to. none_later (c, name_of t) (slots_of (join l r)) k (none k from to))
      right_first no_child no_child low high up above is none = absurd cc
      right_first no_child (child c t others) low high up above is none = elim (cases_eq c d) [
        | inl e ↦
            let same : Some (name_of t) ≡ Some to = sym (at_here (c, name_of t) (slots_of others) d e) ∙ is in
            (t, others, ap (λ z. child z t others) e, cc)
        | inr n ↦
            let later = byte_there (λ z. c < z) others up.0 (sym (at_later (c, name_of t) (slots_of others) d n) ∙ is) in
            absurd (there_is (sym (none c high.0 later) ∙ at_here (c, name_of t) (slots_of others) c refl))
      ]

      -- the nearest child below the gap is the last on the left
      left_last : (l r : Subtrees OpaqueNodePtr A) → Each (λ c. c < b) (bytes_of l) → Each (λ c. b < c) (bytes_of r) → BytesRise (bytes_of (join l r)) → d < b →
          child_at (slots_of (join l r)) d ≡ Some to → ((k : ℕ) → d < k → k < b → child_at (slots_of (join l r)) k ≡ None) →
          (t : Tree OpaqueNodePtr A) × (others : Subtrees OpaqueNodePtr A) × (l ≡ join others (child d t no_child)) × (name_of t ≡ to)
      left_last no_child r low high up below is none = absurd (omega (arith, below, byte_there (λ z. b < z) r high is))
      left_last (child c t l) r low high up below is none = by_byte l low.1 up is none (cases_eq c d) (left_last l r low.1 high up.1 below)
        where
          LastOf : Subtrees OpaqueNodePtr A → Type 0
          LastOf cs = (u : Tree OpaqueNodePtr A) × (others : Subtrees OpaqueNodePtr A) × (cs ≡ join others (child d u no_child)) × (name_of u ≡ to)

          by_byte : (l : Subtrees OpaqueNodePtr A) → Each (λ c. c < b) (bytes_of l) → BytesRise (c ∷ bytes_of (join l r)) →
              child_at ((c, name_of t) ∷ slots_of (join l r)) d ≡ Some to →
              ((k : ℕ) → d < k → k < b → child_at ((c, name_of t) ∷ slots_of (join l r)) k ≡ None) → (c ≡ d) ⊎ (c ≢ d) →
              (child_at (slots_of (join l r)) d ≡ Some to → ((k : ℕ) → d < k → k < b → child_at (slots_of (join l r)) k ≡ None) →
              LastOf l) → LastOf (child c t l)
          by_byte no_child low up is none (inl e) later =
              let same : Some (name_of t) ≡ Some to = sym (at_here (c, name_of t) (slots_of r) d e) ∙ is in
              (t, no_child, ap (λ z. child z t no_child) e, cc)
          by_byte (child e u l) low up is none (inl same) later =
              let here = at_later (c, name_of t) ((e, name_of u) ∷ slots_of (join l r)) e (λ k. omega (arith, k, up.0.0))
              ∙ at_here (e, name_of u) (slots_of (join l r)) e refl in
              absurd (there_is (sym (none e (omega (arith, same, up.0.0)) low.0) ∙ here))
          by_byte l low up is none (inr n) later =
              let (u, others, whole, named) = later (sym (at_later (c, name_of t) (slots_of (join l r)) d n) ∙ is)
              (λ k from to. none_later (c, name_of t) (slots_of (join l r)) k (none k from to)) in
              (u, child c t others, ap (child c t) whole, named)

module _ {K V : Type 0} {s : Nodes K V} {p : InnerPtr} {b : ℕ} {l r : Subtrees OpaqueNodePtr (K × V)} {shown : Inner} (proper : p.kind ≢ Leaf)
    (gap : HasGap s p b l r) (there : Some shown ≡ map.get s.inners p) where
  -- the node's children
  gap_slots : shown.children ≡ slots_of (join l r)
  gap_slots =
      let (node, got, head, slots) = views.inner_there s p gap.header (slots_of (join l r)) proper gap.full.0.holds.0 in
      let same : node ≡ shown = let e : Some node ≡ Some shown = sym got ∙ sym there in cc in
      ap (λ z. z.children) (sym same) ∙ slots

  -- there is a child
  pub gap_some : 0 < length shown.children
  gap_some = let n = length-slots_of (join l r) in let f = gap.full.1.0 in let e = ap length gap_slots in omega arith

  -- the byte has none
  pub gap_absent : child_at shown.children b ≡ None
  gap_absent = ap (λ z. child_at z b) gap_slots ∙ nothing_there b l r gap.low gap.high

  module _ {found : ℕ × OpaqueNodePtr} (beside : IsNextTo shown.children b found) where
    in_slots : IsNextTo (slots_of (join l r)) b found
    in_slots = subst (λ z. IsNextTo z b found) gap_slots beside

    -- it is another byte's
    other_byte : found.0 ≢ b
    other_byte e = there_is (sym gap_absent ∙ ap (child_at shown.children) (sym e) ∙ beside.there)

    -- so it is above or below
    by_side : (Holds : Direction → Type 0) → (b < found.0 → Holds Before) → (found.0 < b → Holds After) → Holds (side_of b found.0)
    by_side Holds above below = go (ltb found.0 b) refl
      where
        go : (t : Bool) → ltb found.0 b ≡ t → Holds (cond t After Before)
        go true e = below (ltb-true found.0 b e)
        go false e = let l = ltb-false found.0 b e in above (omega (arith, other_byte))

    module _ (above : b < found.0) where
      first_right : (t : Tree OpaqueNodePtr (K × V)) × (others : Subtrees OpaqueNodePtr (K × V)) × (r ≡ child found.0 t others) × (name_of t ≡ found.1)
      first_right = right_first b found.0 found.1 l r gap.low gap.high gap.rising above in_slots.there in_slots.above

      of_right : (others : Subtrees OpaqueNodePtr (K × V)) (t : Tree OpaqueNodePtr (K × V)) → r ≡ child found.0 t others →
          name_of t ≡ found.1 → IsFullTree s found.1 t
      of_right others t whole named =
          full_child s l others found.0 t (subst (λ z. IsFullTree s (inner_name p) (inner (inner_name p) gap.header (join l z)))
          whole gap.full) named

      right_full : (t : Tree OpaqueNodePtr (K × V)) × IsFullTree s found.1 t
      right_full = let (t, others, whole, named) = first_right in (t, of_right others t whole named)

      right_before : (previous next : Option LeafPtr) →
          ((t : Tree OpaqueNodePtr (K × V)) → IsFullTree s found.1 t → IsBeside s t Before previous next) → ComesBetween s l r previous next
      right_before previous next comes = let (t, others, whole, named) = first_right in inl (found.0, t, others, whole, comes t (of_right others t whole named))

    module _ (below : found.0 < b) where
      last_left : (t : Tree OpaqueNodePtr (K × V)) × (others : Subtrees OpaqueNodePtr (K × V)) ×
          (l ≡ join others (child found.0 t no_child)) × (name_of t ≡ found.1)
      last_left = left_last b found.0 found.1 l r gap.low gap.high gap.rising below in_slots.there in_slots.below

      of_left : (others : Subtrees OpaqueNodePtr (K × V)) (t : Tree OpaqueNodePtr (K × V)) → l ≡ join others (child found.0 t no_child) →
          name_of t ≡ found.1 → IsFullTree s found.1 t
      of_left others t whole named =
          let all = ap (λ z. join z r) whole ∙ join_assoc others (child found.0 t no_child) r in
          full_child s others r found.0 t (subst (λ z. IsFullTree s (inner_name p) (inner (inner_name p) gap.header z)) all gap.full) named

      left_full : (t : Tree OpaqueNodePtr (K × V)) × IsFullTree s found.1 t
      left_full = let (t, others, whole, named) = last_left in (t, of_left others t whole named)

      left_after : (previous next : Option LeafPtr) →
          ((t : Tree OpaqueNodePtr (K × V)) → IsFullTree s found.1 t → IsBeside s t After previous next) → ComesBetween s l r previous next
      left_after previous next comes = let (t, others, whole, named) = last_left in inr (others, found.0, t, whole, comes t (of_left others t whole named))

    -- the child stands for a full tree
    pub beside_full : (t : Tree OpaqueNodePtr (K × V)) × IsFullTree s found.1 t
    beside_full = by_side (λ side. (t : Tree OpaqueNodePtr (K × V)) × IsFullTree s found.1 t) right_full left_full

    -- and the neighbours of its leaves are those of the gap
    pub beside_between : (previous next : Option LeafPtr) →
        ((t : Tree OpaqueNodePtr (K × V)) → IsFullTree s found.1 t → IsBeside s t (side_of b found.0) previous next) → ComesBetween s l r previous next
    beside_between previous next =
        by_side (λ side. ((t : Tree OpaqueNodePtr (K × V)) → IsFullTree s found.1 t → IsBeside s t side previous next) → ComesBetween s l r previous next)
        (λ above. right_before above previous next) (λ below. left_after below previous next)
