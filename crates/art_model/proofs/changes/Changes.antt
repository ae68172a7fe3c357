-- What each change does to the tree in the hole: a radix tree again, with the pairs that the map's operation leaves.
use Rattle.std.proofs.Common.{◌≡◌, ℕ, suc, ◌<◌, ◌≤◌, List, [], ◌∷◌, ◌++◌, length, refl, ap, sym, ◌∙◌, append_assoc, append-nil, arith, length-append, subst, cond, ltb, ◌⊎◌, inl, inr}
use Rattle.std.specs.List.{AllByRecursion as Each}
use Rattle.std.proofs.lemmas.Bool.{cases_order, le-ltb, lt-ltb}
use Rattle.art_model.specs.Prelude.{IsFront, Precedes, Tree, leaf, inner, Subtrees, child, no_child, canonical_header, NodeHeader, IsRadix, AreRadix, BytesRise, bytes_of, pairs_of, pairs_below, join, replace_key, remove_key}
use Rattle.art_model.proofs.lists.Lists.{front_cut, Each-weaker}
use Rattle.art_model.proofs.radix.Rebuild.{radix_way}
use Rattle.art_model.proofs.radix.Radix.{bytes_of-join, pairs_below-join, AreRadix-join, AreRadix-left, AreRadix-right, parts, PartsBelow, PartsAbove, all_below, all_above}
use Rattle.art_model.proofs.lists.Pairwises.{Pairwise-before, Pairwise-after, Pairwise-without, Pairwise-with}
use Rattle.art_model.proofs.pairs.Between.{replace_key-between, remove_key-between}
use Rattle.art_model.proofs.keys.Keys.{front_same}

module _ {N A : Type 0} where
  -- two children in the order of their bytes
  abbrev pub two_children : ℕ → Tree N A → ℕ → Tree N A → Subtrees N A
  two_children b t c u = cond (ltb b c) (child b t (child c u no_child)) (child c u (child b t no_child))

module _ {N A : Type 0} (bytes : A → List ℕ) (P : ℕ) where
  -- a new node over an old one and a new leaf: a leaf is split, or a prefix
  pub branch : (place part : List ℕ) (b c : ℕ) (t : Tree N A) (m n : N) (new : A) →
      IsRadix bytes P ((place ++ part) ++ b ∷ []) t → IsFront ((place ++ part) ++ c ∷ []) (bytes new) → (b ≡ c → ⊥) →
      let u = inner m (canonical_header P part 2) (two_children b t c (leaf n new)) in
      IsRadix bytes P place u × (pairs_of u ≡ replace_key bytes new (pairs_of t))
  branch place part b c t m n new h k apart = go (cases_order b c)
    where
      ways : Each (λ x. IsFront ((place ++ part) ++ b ∷ []) (bytes x)) (pairs_of t)
      ways = radix_way bytes P t ((place ++ part) ++ b ∷ []) h

      Goal : Subtrees N A → Type 0
      Goal cs = IsRadix bytes P place (inner m (canonical_header P part 2) cs) × (pairs_below cs ≡ replace_key bytes new (pairs_of t))

      go : (b ≡ c) ⊎ ((b < c) ⊎ (c < b)) → Goal (two_children b t c (leaf n new))
      go (inl e) = absurd (apart e)
      go (inr (inl l)) =
          let low =
          Each-weaker (λ x. IsFront ((place ++ part) ++ b ∷ []) (bytes x)) (λ x. Precedes (bytes x) (bytes new))
          (λ x f. parts bytes (place ++ part) b c (bytes x) (bytes new) f k l) (pairs_of t) ways in
          rw (lt-ltb b c l) (
            (part, refl, omega arith, ((l, tt), (tt, tt)), (h, (k, tt))),
            sym (ap (replace_key bytes new) (sym (append-nil (pairs_of t ++ []) ∙ append-nil (pairs_of t))) ∙
                replace_key-between bytes new (pairs_of t) [] [] low tt ∙ append-nil (pairs_of t ++ new ∷ [])),
          )
      go (inr (inr l)) =
          let high =
          Each-weaker (λ x. IsFront ((place ++ part) ++ b ∷ []) (bytes x)) (λ x. Precedes (bytes new) (bytes x))
          (λ x f. parts bytes (place ++ part) c b (bytes new) (bytes x) k f l) (pairs_of t) ways in
          rw (le-ltb b c (omega arith)) (
            (part, refl, omega arith, ((l, tt), (tt, tt)), (k, (h, tt))),
            ap (λ l. new ∷ l) (append-nil (pairs_of t)) ∙ sym (replace_key-between bytes new [] [] (pairs_of t) tt high),
          )

  -- a node whose prefix lost its first part, a byte further down
  pub trimmed : (place m q : List ℕ) (b : ℕ) (n : N) (h : NodeHeader) (cs : Subtrees N A) → 2 ≤ length (bytes_of cs) →
      BytesRise (bytes_of cs) → AreRadix bytes P (place ++ (m ++ b ∷ q)) cs →
      IsRadix bytes P ((place ++ m) ++ b ∷ []) (inner n (canonical_header P q (length (bytes_of cs))) cs)
  trimmed place m q b n h cs two up below = (q, refl, two, up, subst (λ f. AreRadix bytes P f cs) (simp append_assoc) below)

  -- a node whose prefix got its parent's prefix and its byte prepended
  pub merged : (place part : List ℕ) (c : ℕ) (q : List ℕ) (n : N) (cs : Subtrees N A) → 2 ≤ length (bytes_of cs) → BytesRise (bytes_of cs) →
      AreRadix bytes P (((place ++ part) ++ c ∷ []) ++ q) cs →
      IsRadix bytes P place (inner n (canonical_header P (part ++ c ∷ q) (length (bytes_of cs))) cs)
  merged place part c q n cs two up below = (part ++ c ∷ q, refl, two, up, subst (λ f. AreRadix bytes P f cs) (simp append_assoc) below)

  -- a leaf a byte further up
  pub raised : (place part : List ℕ) (c : ℕ) (n : N) (x : A) → IsRadix bytes P ((place ++ part) ++ c ∷ []) (leaf n x) → IsRadix bytes P place (leaf n x)
  raised place part c n x h = front_cut place part (bytes x) (front_cut (place ++ part) (c ∷ []) (bytes x) h)

  -- a new leaf under a byte that had no child
  unfoldable pub with_child : (place part : List ℕ) (cs ds : Subtrees N A) (b : ℕ) (m n : N) (new : A) →
      BytesRise (bytes_of (join cs ds)) → Each (λ c. c < b) (bytes_of cs) → Each (λ c. b < c) (bytes_of ds) → 1 ≤ length (bytes_of (join cs ds)) →
      AreRadix bytes P (place ++ part) (join cs ds) → IsFront ((place ++ part) ++ b ∷ []) (bytes new) →
      let u = inner m (canonical_header P part (suc (length (bytes_of (join cs ds))))) (join cs (child b (leaf n new) ds)) in
      IsRadix bytes P place u × (pairs_of u ≡ replace_key bytes new (pairs_below (join cs ds)))
  with_child place part cs ds b m n new up l r some all k =
      let front = place ++ part in
      let hl = AreRadix-left bytes P front cs ds all in
      let hr = AreRadix-right bytes P front cs ds all in
      let old = bytes_of-join cs ds in
      let bs = bytes_of-join cs (child b (leaf n new) ds) in
      let s = length-append (bytes_of cs) (bytes_of ds) in
      let s' = length-append (bytes_of cs) (b ∷ bytes_of ds) in
      let count : suc (length (bytes_of (join cs ds))) ≡ length (bytes_of (join cs (child b (leaf n new) ds))) = rw (old, bs) (omega arith) in
      let low =
      Each-weaker (PartsBelow bytes front b) (λ x. Precedes (bytes x) (bytes new))
      (λ x g. parts bytes front g.0 b (bytes x) (bytes new) g.2 k g.1) (pairs_below cs) (all_below bytes P front b cs hl l) in
      let high =
      Each-weaker (PartsAbove bytes front b) (λ x. Precedes (bytes new) (bytes x))
      (λ x g. parts bytes front b g.0 (bytes new) (bytes x) k g.2 g.1) (pairs_below ds) (all_above bytes P front b ds hr r) in (
        (
          part,
          ap (canonical_header P part) count,
          rw (← count) (omega arith),
          subst BytesRise (sym bs)
              (Pairwise-with ◌<◌ (bytes_of cs) (bytes_of ds) b l r (rw old at up)),
          AreRadix-join bytes P front cs (child b (leaf n new) ds) hl (k, hr),
        ),
        pairs_below-join cs (child b (leaf n new) ds) ∙ sym (ap (replace_key bytes new)
            (pairs_below-join cs ds ∙ ap (λ l. l ++ pairs_below ds) (sym (append-nil (pairs_below cs)))) ∙
            replace_key-between bytes new (pairs_below cs) [] (pairs_below ds) low high ∙ append_assoc (pairs_below cs) (new ∷ []) (pairs_below ds)),
      )

  -- a child that is a leaf is removed: what is left below
  pub without_child : (place part : List ℕ) (cs ds : Subtrees N A) (b : ℕ) (n : N) (x : A) →
      BytesRise (bytes_of (join cs (child b (leaf n x) ds))) → AreRadix bytes P (place ++ part) (join cs (child b (leaf n x) ds)) →
      BytesRise (bytes_of (join cs ds)) × AreRadix bytes P (place ++ part) (join cs ds) ×
      (pairs_below (join cs ds) ≡ remove_key bytes (bytes x) (pairs_below (join cs (child b (leaf n x) ds))))
  without_child place part cs ds b n x up all =
      let front = place ++ part in
      let hl = AreRadix-left bytes P front cs (child b (leaf n x) ds) all in
      let hr = AreRadix-right bytes P front cs (child b (leaf n x) ds) all in
      let bs = bytes_of-join cs (child b (leaf n x) ds) in
      let up' : BytesRise (bytes_of cs ++ b ∷ bytes_of ds) = subst BytesRise bs up in
      let low =
      Each-weaker (PartsBelow bytes front b) (λ y. Precedes (bytes y) (bytes x)) (λ y g. parts bytes front g.0 b (bytes y) (bytes x) g.2 hr.0 g.1)
      (pairs_below cs) (all_below bytes P front b cs hl (Pairwise-before ◌<◌ (bytes_of cs) (bytes_of ds) b up')) in
      let high =
      Each-weaker (PartsAbove bytes front b) (λ y. Precedes (bytes x) (bytes y)) (λ y g. parts bytes front b g.0 (bytes x) (bytes y) hr.0 g.2 g.1)
      (pairs_below ds) (all_above bytes P front b ds hr.1 (Pairwise-after ◌<◌ (bytes_of cs) (bytes_of ds) b up')) in (
        subst BytesRise (sym (bytes_of-join cs ds)) (Pairwise-without ◌<◌ (bytes_of cs) (bytes_of ds) b up'),
        AreRadix-join bytes P front cs ds hl hr.1,
        pairs_below-join cs ds ∙ sym (ap (remove_key bytes (bytes x))
            (pairs_below-join cs (child b (leaf n x) ds) ∙ sym (append_assoc (pairs_below cs) (x ∷ []) (pairs_below ds))) ∙
            remove_key-between bytes (bytes x) (pairs_below cs) (x ∷ []) (pairs_below ds) low high ∙ gone),
      )
    where
      gone : pairs_below cs ++ remove_key bytes (bytes x) (x ∷ []) ++ pairs_below ds ≡ pairs_below cs ++ pairs_below ds
      gone = rw (front_same (bytes x)) (ap (λ l. l ++ pairs_below ds) (append-nil (pairs_below cs)))

  -- a child that is a leaf is removed, and two or more stay: the node keeps its kind or shrinks
  unfoldable pub child_removed : (place part : List ℕ) (cs ds : Subtrees N A) (b : ℕ) (m n : N) (x : A) →
      BytesRise (bytes_of (join cs (child b (leaf n x) ds))) → AreRadix bytes P (place ++ part) (join cs (child b (leaf n x) ds)) →
      2 ≤ length (bytes_of (join cs ds)) →
      let u = inner m (canonical_header P part (length (bytes_of (join cs ds)))) (join cs ds) in
      IsRadix bytes P place u × (pairs_of u ≡ remove_key bytes (bytes x) (pairs_below (join cs (child b (leaf n x) ds))))
  child_removed place part cs ds b m n x up all two =
      let (rising, below, its) = without_child place part cs ds b n x up all in ((part, refl, two, rising, below), its)

  -- a child that is a leaf is removed, and one is left
  pub child_left : (place part : List ℕ) (cs ds : Subtrees N A) (b c : ℕ) (n : N) (x : A) (v : Tree N A) →
      BytesRise (bytes_of (join cs (child b (leaf n x) ds))) → AreRadix bytes P (place ++ part) (join cs (child b (leaf n x) ds)) →
      join cs ds ≡ child c v no_child →
      IsRadix bytes P ((place ++ part) ++ c ∷ []) v × (pairs_of v ≡ remove_key bytes (bytes x) (pairs_below (join cs (child b (leaf n x) ds))))
  child_left place part cs ds b c n x v up all one =
      let (rising, below, its) = without_child place part cs ds b n x up all in
      ((subst (AreRadix bytes P (place ++ part)) one below).0, sym (append-nil (pairs_of v)) ∙ ap pairs_below (sym one) ∙ its)

module _ {A : Type 0} (bytes : A → List ℕ) where
  -- a pair replaces the one with its key
  pub exact : (new x : A) → bytes new ≡ bytes x → replace_key bytes new (x ∷ []) ≡ new ∷ []
  exact new x e = rw (← e, front_same (bytes new)) refl

  -- the only pair is removed
  pub alone : (x : A) → remove_key bytes (bytes x) (x ∷ []) ≡ []
  alone x = rw (front_same (bytes x)) refl
