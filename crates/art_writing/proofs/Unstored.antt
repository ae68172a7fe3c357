-- A key that ends at no leaf of its own is not stored.
use Rattle.std.proofs.Common.{◌≡◌, ℕ, ◌+◌, ◌<◌, ◌≤◌, List, [], ◌∷◌, ◌++◌, length, take, refl, ap, sym, ◌∙◌, subst, arith, true, false, is_some}
use Rattle.std.proofs.Math.Dec.{leb-zero}
use Rattle.std.specs.List.{AllByRecursion as Each}
use Rattle.art_model.specs.Prelude.{Nodes, LeafPtr, OpaqueNodePtr, IsCanonicalTree, IsFront, are_same, name_of, first_of, has_key, with_key, depth_of, place_of, places, places_below, is_covered, IsRadix, AreRadix, pairs_of, pairs_below, Tree, inner, Subtrees, child, no_child, NodeHeader}
use Rattle.art_model.proofs.places.InHole.{with_key-hole}
use Rattle.art_model.proofs.keys.Keys.{same_related}
use Rattle.art_model.proofs.lists.Lists.{Each-append, Each-left, Each-right, Each-weaker, filter_none}
use Rattle.art_model.proofs.places.PlaceLaws.{places_at, own_place}
use Rattle.art_model.proofs.places.Places.{place_is, deeper}
use Rattle.art_model.proofs.radix.Rebuild.{radix_way}
use Rattle.art_writing.specs.Inserted.{placed_for}
use Rattle.art_reading.specs.EndNodes.{IsKindOf}
use Rattle.art_writing.specs.Points.{AnswersTo}
use Rattle.art_reading.specs.declared.end_node.InsertKind.{InsertKind}
use Rattle.art_reading.specs.declared.end_node.InsertKind.TheVariants.{MismatchPrefix, SplitLeaf, Exact, IntoExisting}
use Rattle.art_writing.specs.declared.insert.InsertPoint.{InsertPoint}
use Rattle.art_writing.proofs.BranchLemmas.{end_laid, end_hole, end_depth}
use Rattle.art_model.proofs.pairs.Puts.{any_is_first}
use Rattle.art_model.proofs.keys.Keys.{not_same}

module _ {N A : Type 0} (bytes : A → List ℕ) (P : ℕ) (key : List ℕ) (end : ℕ) where
  -- a place that is a prefix of the key is no longer than this
  abbrev NoLonger : (List ℕ × N) → Type 0
  NoLonger place = IsFront place.0 key → length place.0 ≤ end

  -- children below the end of a key have no pair with it, since the place of the child would be longer
  not_below : (cs : Subtrees N A) (front : List ℕ) (d : ℕ) → end < d → ((b : ℕ) → d ≡ length (front ++ b ∷ [])) → AreRadix bytes P front cs →
      Each NoLonger (places_below bytes d cs) → Each (λ x. are_same key (bytes x) ≡ false) (pairs_below cs)
  not_below no_child front d deep len radix long = tt
  not_below (child b t cs) front d deep len radix long =
      Each-append (λ x. are_same key (bytes x) ≡ false) (pairs_of t) (pairs_below cs)
      (Each-weaker (λ x. IsFront (front ++ b ∷ []) (bytes x)) (λ x. are_same key (bytes x) ≡ false)
      (λ x way. not_same key (bytes x) (λ same. longer (subst (IsFront (front ++ b ∷ [])) (sym same) way))) (pairs_of t)
      (radix_way bytes P t (front ++ b ∷ []) radix.0))
      (not_below cs front d deep len radix.1 (Each-right NoLonger (places bytes d t) (places_below bytes d cs) long))
    where
      longer : IsFront (front ++ b ∷ []) key → ⊥
      longer way =
          let own : place_of bytes d t ≡ front ++ b ∷ [] =
          subst (λ n. place_of bytes n t ≡ front ++ b ∷ []) (sym (len b)) (place_is bytes P t (front ++ b ∷ []) radix.0) in
          let short : length (front ++ b ∷ []) ≤ end =
          subst NoLonger (ap (λ p. (p, name_of t)) own)
          (own_place bytes P NoLonger d t (Each-left NoLonger (places bytes d t) (places_below bytes d cs) long)) way in
          let deep_is = len b in
          omega arith

module _ {K V : Type 0} {bytes : K × V → List ℕ} {P : ℕ} {s : Nodes K V} {key : List ℕ} {point : InsertPoint} {pairs : List (K × V)}
    {layout : Tree OpaqueNodePtr (K × V)} (by : IsCanonicalTree bytes P s point.root pairs layout) (at : AnswersTo bytes P layout key point) where
  -- what the end node does not have is not stored
  not_stored : with_key bytes key (pairs_of at.node) ≡ [] → has_key bytes key pairs ≡ false
  not_stored none =
      any_is_first (λ x. are_same key (bytes x)) pairs ∙ ap (λ xs. is_some (first_of xs)) (ap (with_key bytes key) (sym (end_laid by at).pairs_are)
      ∙ with_key-hole bytes P at.path (take (depth_of at.path) key) key at.node (end_hole by at).path (end_hole by at).front ∙ none)

  -- an inner node at which a key ends has no pair with it
  ends_at_inner : (name : OpaqueNodePtr) (header : NodeHeader) (cs : Subtrees OpaqueNodePtr (K × V)) → at.node ≡ inner name header cs →
      has_key bytes key pairs ≡ false
  ends_at_inner name header cs is =
      let place = take (depth_of at.path) key in
      let (part, head, two, up, below) : IsRadix bytes P place (inner name header cs) = subst (IsRadix bytes P place) is (end_hole by at).radix in
      let Q = NoLonger {N = OpaqueNodePtr} bytes P key (depth_of at.path) in
      let long = places_at bytes P Q at.path at.node (subst (λ t. Each Q (places bytes 0 t)) (sym at.is_end.whole) at.is_end.is_longest) in
      let long_below = subst (λ t. Each Q (places bytes (depth_of at.path) t)) is long in
      let len = λ (b : ℕ). ap (λ n. n + header.length_of + 1) (end_depth by at) ∙ deeper place part b header.length_of (ap (λ h. h.length_of) head) in
      not_stored (ap (λ t. with_key bytes key (pairs_of t)) is ∙ filter_none (λ x. are_same key (bytes x)) (pairs_below cs)
      (not_below bytes P key (depth_of at.path) cs (place ++ part) (depth_of at.path + header.length_of + 1) (omega arith) len below long_below.1))

  -- so a key that ends at no leaf of its own is not stored
  pub unstored : ((p : LeafPtr) → point.insert_kind ≡ Exact p → ⊥) → has_key bytes key pairs ≡ false
  unstored off = go point.key_bytes_used point.insert_kind at.kind_is off
    where
      go : (used : ℕ) (kind : InsertKind) → IsKindOf bytes P key at.node (depth_of at.path) used kind →
          ((p : LeafPtr) → kind ≡ Exact p → ⊥) → has_key bytes key pairs ≡ false
      go used (Exact p) h off = absurd (off p refl)
      go used (SplitLeaf p n) (e, (pair, is, (apart, shared))) off =
          let other = same_related key (bytes pair) apart in
          not_stored (ap (λ t. with_key bytes key (pairs_of t)) is ∙ rw other refl)
      go used (IntoExisting p) (goes_on, (header, cs, is, free)) off = ends_at_inner _ header cs is
      go used (MismatchPrefix m p) (e, (header, cs, is, (part, short))) off = ends_at_inner _ header cs is

  -- nor is one whose insertion may fail
  pub refused_new : (is_covered (placed_for s point.insert_kind) s.promise ≡ true → ⊥) → has_key bytes key pairs ≡ false
  refused_new uncovered =
      unstored (λ p exact. uncovered (subst (λ kind. is_covered (placed_for s kind) s.promise ≡ true) (sym exact) (leb-zero s.promise.leaves)))
