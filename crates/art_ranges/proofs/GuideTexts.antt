-- No key of a tree shares more bytes with a key than a guide leaf's.
use Rattle.std.proofs.Common.{◌≡◌, ◌≢◌, ℕ, ◌+◌, ◌<◌, List, [], ◌∷◌, ◌++◌, length, take, ap, refl, sym, ◌∙◌, arith, subst, length-append, inl, inr}
use Rattle.std.specs.List.{AllByRecursion as Each}
use Rattle.std.proofs.lemmas.Bool.{cases_lt}
use Rattle.std.proofs.lemmas.List.{take_at}
use Rattle.art_model.specs.Prelude.{Nodes, LeafPtr, OpaqueNodePtr, IsCanonicalTree, IsIn, IsFront, common_front, is_front, without_last, place_of, places, places_below, AreRadix, BytesRise, IsRadix, bytes_of, pairs_below, pairs_of, text_of, texts_in_front, Subtrees, Tree, child, inner, leaf, no_child}
use Rattle.art_model.proofs.keys.KeyLaws.{common_front_is_longest}
use Rattle.art_model.proofs.keys.Texts.{front_of_fronts}
use Rattle.art_model.proofs.lists.Lists.{Each-left, Each-right, common_front_left, common_front_right, each_from, each_in, front_cut, front_trans, in_either}
use Rattle.art_model.proofs.places.OnWay.{byte_after}
use Rattle.art_model.proofs.places.PlaceLaws.{own_place}
use Rattle.art_model.proofs.places.Places.{place_is}
use Rattle.art_model.proofs.radix.Rebuild.{radix_way}
use Rattle.art_model.proofs.stores.Canonical.{tree_radix}
use Rattle.art_reading.specs.Guides.{IsGuide}
use Rattle.art_reading.specs.Matching.{shared_len}
use Rattle.art_reading.proofs.Guides.{GoesToo, in_tree}
use Rattle.art_ranges.proofs.LongestTexts.{filter_same, same_front}

-- of two keys of a tree, the second one has each place that is a prefix of a third key: then it has each prefix of that key which the first one has
module _ {A : Type 0} (bytes : A → List ℕ) (key part : List ℕ) (on_key : IsFront part key) (x y : A) (leads : IsFront part (bytes x)) where
  -- where the two are under different bytes
  across : (front : List ℕ) (b c : ℕ) → b ≢ c → IsFront (front ++ b ∷ []) (bytes x) →
      (IsFront (front ++ b ∷ []) key → IsFront (front ++ b ∷ []) (bytes y)) → IsFront (front ++ c ∷ []) (bytes y) → IsFront part (bytes y)
  across front b c other of_x goes of_y = elim (cases_lt (length front) (length part)) [
    | inl less ↦
        let count = length-append front (b ∷ []) in
        let also = goes (front_trans (front ++ b ∷ []) part key (front_of_fronts (front ++ b ∷ []) part (bytes x) of_x leads (omega arith)) on_key) in
        absurd (other (sym (byte_after front (bytes y) b also) ∙ byte_after front (bytes y) c of_y))
    | inr short ↦
        front_trans part front (bytes y) (front_of_fronts part front (bytes x) leads (front_cut front (b ∷ []) (bytes x) of_x) short)
        (front_cut front (c ∷ []) (bytes y) of_y)
  ]

module _ {N A : Type 0} (bytes : A → List ℕ) (P : ℕ) (key part : List ℕ) (on_key : IsFront part key) (x y : A) (leads : IsFront part (bytes x)) where
  abbrev Goes : (List ℕ × N) → Type 0
  Goes = GoesToo key (bytes y)

  at_child : (front : List ℕ) (b : ℕ) (t : Tree N A) → IsRadix bytes P (front ++ b ∷ []) t → Each Goes (places bytes (length front + 1) t) →
      IsFront (front ++ b ∷ []) key → IsFront (front ++ b ∷ []) (bytes y)
  at_child front b t h all =
      subst (λ z. IsFront z key → IsFront z (bytes y))
      (ap (λ n. place_of bytes n t) (sym (length-append front (b ∷ []))) ∙ place_is bytes P t (front ++ b ∷ []) h)
      (own_place bytes P Goes (length front + 1) t all)

  -- the first is below a later child
  from_later : (front : List ℕ) (c : ℕ) (cs : Subtrees N A) → AreRadix bytes P front cs → Each Goes (places_below bytes (length front + 1) cs) →
      Each (λ b. c < b) (bytes_of cs) → IsIn x (pairs_below cs) → IsFront (front ++ c ∷ []) (bytes y) → IsFront part (bytes y)
  from_later front c no_child h all up i of_y = absurd i
  from_later front c (child b t cs) h all up i of_y = elim (in_either x (pairs_of t) (pairs_below cs) i) [
    | inl own ↦
        across bytes key part on_key x y leads front b c (let less = up.0 in λ same. omega arith)
        (each_in (λ z. IsFront (front ++ b ∷ []) (bytes z)) x (pairs_of t) (radix_way bytes P t (front ++ b ∷ []) h.0) own)
        (at_child front b t h.0 (Each-left Goes (places bytes (length front + 1) t) (places_below bytes (length front + 1) cs) all)) of_y
    | inr later ↦ from_later front c cs h.1 (Each-right Goes (places bytes (length front + 1) t) (places_below bytes (length front + 1) cs) all) up.1 later of_y
  ]

  -- the second is
  to_later : (front : List ℕ) (b : ℕ) (cs : Subtrees N A) → AreRadix bytes P front cs → Each (λ c. b < c) (bytes_of cs) → IsIn y (pairs_below cs) →
      IsFront (front ++ b ∷ []) (bytes x) → (IsFront (front ++ b ∷ []) key → IsFront (front ++ b ∷ []) (bytes y)) → IsFront part (bytes y)
  to_later front b no_child h up i of_x goes = absurd i
  to_later front b (child c t cs) h up i of_x goes = elim (in_either y (pairs_of t) (pairs_below cs) i) [
    | inl own ↦
        across bytes key part on_key x y leads front b c (let less = up.0 in λ same. omega arith) of_x goes
        (each_in (λ z. IsFront (front ++ c ∷ []) (bytes z)) y (pairs_of t) (radix_way bytes P t (front ++ c ∷ []) h.0) own)
    | inr later ↦ to_later front b cs h.1 up.1 later of_x goes
  ]

  mutual
    pub shared : (t : Tree N A) (place : List ℕ) → IsRadix bytes P place t → Each Goes (places bytes (length place) t) →
        IsIn x (pairs_of t) → IsIn y (pairs_of t) → IsFront part (bytes y)
    shared (leaf n z) place h all (inl one) (inl other) = subst (λ w. IsFront part (bytes w)) (sym one ∙ other) leads
    shared (leaf n z) place h all (inr none) j = absurd none
    shared (leaf n z) place h all (inl one) (inr none) = absurd none
    shared (inner n header cs) place (prefix, head, two, up, below) all i j =
        let len : header.length_of ≡ length prefix = ap (λ z. z.length_of) head in
        let count = length-append place prefix in
        let deep : length place + header.length_of + 1 ≡ length (place ++ prefix) + 1 = omega arith in
        shared_below cs (place ++ prefix) below up (subst (λ d. Each Goes (places_below bytes d cs)) deep all.1) i j

    shared_below : (cs : Subtrees N A) (front : List ℕ) → AreRadix bytes P front cs → BytesRise (bytes_of cs) →
        Each Goes (places_below bytes (length front + 1) cs) → IsIn x (pairs_below cs) → IsIn y (pairs_below cs) → IsFront part (bytes y)
    shared_below no_child front h up all i j = absurd i
    shared_below (child b t cs) front h up all i j =
        let d = length front + 1 in
        let own = Each-left Goes (places bytes d t) (places_below bytes d cs) all in
        let others = Each-right Goes (places bytes d t) (places_below bytes d cs) all in
        let way = radix_way bytes P t (front ++ b ∷ []) h.0 in
        elim (in_either x (pairs_of t) (pairs_below cs) i) [
          | inl here ↦ elim (in_either y (pairs_of t) (pairs_below cs) j) [
            | inl too ↦ shared t (front ++ b ∷ []) h.0 (subst (λ n. Each Goes (places bytes n t)) (sym (length-append front (b ∷ []))) own) here too
            | inr later ↦ to_later front b cs h.1 up.0 later (each_in (λ z. IsFront (front ++ b ∷ []) (bytes z)) x (pairs_of t) way here)
                (at_child front b t h.0 own)
          ]
          | inr later ↦ elim (in_either y (pairs_of t) (pairs_below cs) j) [
            | inl here ↦ from_later front b cs h.1 others up.0 later (each_in (λ z. IsFront (front ++ b ∷ []) (bytes z)) y (pairs_of t) way here)
            | inr too ↦ shared_below cs front h.1 up.1 others later too
          ]
        ]

-- a text is a prefix of its key
text_first : (key : List ℕ) → IsFront (without_last key) key
text_first [] = ([], refl)
text_first (x ∷ []) = (x ∷ [], refl)
text_first (x ∷ y ∷ key) = let (r, e) = text_first (y ∷ key) in (r, ap (λ z. x ∷ z) e)

module _ {K V : Type 0} {s : Nodes K V} {bytes : K × V → List ℕ} {P : ℕ} {root : OpaqueNodePtr} {pairs : List (K × V)} {layout : Tree OpaqueNodePtr (K × V)}
    (by : IsCanonicalTree bytes P s root pairs layout) {key : List ℕ} {guide : LeafPtr} (g : IsGuide bytes key layout guide) where
  -- a guide leaf's key has each prefix of the key that another one of the tree has
  has_too : (part : List ℕ) → IsFront part key → (x : K × V) → IsIn x (pairs_of layout) → IsFront part (bytes x) → IsFront part (bytes g.pair)
  has_too part on x i leads = shared bytes P key part on x g.pair leads layout [] (tree_radix by).0 g.along i (in_tree by g)

  -- so the texts that are prefixes of the key are those that are prefixes of what both share
  pub same_texts : {own : List ℕ} → own ≡ bytes g.pair → {n : ℕ} → n ≡ shared_len own key →
      texts_in_front bytes (take n own) pairs ≡ texts_in_front bytes key pairs
  same_texts {own} own_is {n} is =
      let are = (tree_radix by).1 in
      let both = common_front own key in
      let (r, e) = common_front_left own key in
      let cut : take n own ≡ both = ap (take n) e ∙ take_at both r n (sym is) in
      let agree : Each (λ x. is_front (text_of bytes x) both ≡ is_front (text_of bytes x) key) (pairs_of layout) =
      each_from (λ x. is_front (text_of bytes x) both ≡ is_front (text_of bytes x) key) (pairs_of layout) (λ x i.
      same_front (text_of bytes x) both key (λ f. front_trans (text_of bytes x) both key f (common_front_right own key))
      (λ f. (common_front_is_longest own key).2 (text_of bytes x)
      (subst (IsFront (text_of bytes x)) (sym own_is) (has_too (text_of bytes x) f x i (text_first (bytes x)))) f)) in
      ap (λ q. texts_in_front bytes q pairs) cut ∙ ap (texts_in_front bytes both) (sym are)
      ∙ filter_same (λ x. is_front (text_of bytes x) both) (λ x. is_front (text_of bytes x) key) (pairs_of layout) agree ∙ ap (texts_in_front bytes key) are
