-- places, and the end node of a key
use Rattle.std.proofs.Common.{◌≡◌, ℕ, ◌+◌, ◌<◌, ◌≤◌, List, [], ◌∷◌, ◌++◌, length, take, refl, ap, sym, ◌∙◌, arith, subst, append_assoc, append-nil, length-append, take_at, inl, inr}
use Rattle.std.specs.List.{AllByRecursion as Each}
use Rattle.std.proofs.lemmas.List.{append_cancel_left}
use Rattle.art_model.specs.Prelude.{Tree, leaf, inner, Subtrees, child, no_child, NodeHeader, IsRadix, AreRadix, bytes_of, join, IsFront, Frame, fill, plug, IsPath, least_key, least_below, places, places_below, prefix_of, IsIn}
use Rattle.art_model.proofs.places.Paths.{fill_radix}
use Rattle.art_model.proofs.lists.Lists.{each_in, Each-append, Each-left, Each-right, Each-weaker, front_cut, front_trans, after_front}
use Rattle.art_model.proofs.lists.Pairwises.{Pairwise-before, Pairwise-after}

-- a key continues after a prefix with one byte
pub one_way : (front : List ℕ) (b c : ℕ) (key : List ℕ) → IsFront (front ++ b ∷ []) key → IsFront (front ++ c ∷ []) key → b ≡ c
one_way front b c key (r, e) (s, f) =
    let p : b ∷ r ≡ c ∷ s = append_cancel_left front (b ∷ r) (c ∷ s) (sym (append_assoc front (b ∷ []) r) ∙ sym e ∙ f ∙ append_assoc front (c ∷ []) s) in cc

-- a prefix is what is taken of its length
pub taken : (place k : List ℕ) → IsFront place k → take (length place) k ≡ place
taken place k (r, e) = rw e (take_at place r (length place) refl)

-- the depth of a child, by its parent
pub deeper : (place part : List ℕ) (b n : ℕ) → n ≡ length part → length place + n + 1 ≡ length ((place ++ part) ++ b ∷ [])
deeper place part b n e = simp length-append (omega arith)

module _ {N A E : Type 0} (way : E → List ℕ) where
  -- the path continues after the prefix with the byte of a child
  abbrev pub Under : List ℕ → Subtrees N A → E → Type 0
  Under front cs e = (c : ℕ) × IsIn c (bytes_of cs) × IsFront (front ++ c ∷ []) (way e)

  -- bytes that lead below a node start with its place
  pub under_front : (place part : List ℕ) (cs : Subtrees N A) (es : List E) → Each (Under (place ++ part) cs) es → Each (λ e. IsFront place (way e)) es
  under_front place part cs es below =
      Each-weaker (Under (place ++ part) cs) (λ e. IsFront place (way e))
      (λ e u. front_cut place part (way e) (front_cut (place ++ part) (u.0 ∷ []) (way e) u.2)) es below

  -- bytes that lead below a first child, and below the others
  pub under_child : (front : List ℕ) (b : ℕ) (t : Tree N A) (cs : Subtrees N A) (own others : List E) →
      Each (λ e. IsFront (front ++ b ∷ []) (way e)) own → Each (Under front cs) others →
      Each (Under front (child b t cs)) (own ++ others)
  under_child front b t cs own others first rest = Each-append (Under front (child b t cs)) own others
      (Each-weaker (λ e. IsFront (front ++ b ∷ []) (way e)) (Under front (child b t cs)) (λ e f. (b, inl refl, f)) own first)
      (Each-weaker (Under front cs) (Under front (child b t cs)) (λ e u. (u.0, inr u.1, u.2)) others rest)

-- a place that is a prefix of the key is no longer than n
abbrev pub NoLonger : {N : Type 0} → List ℕ → ℕ → List ℕ × N → Type 0
NoLonger key n p = IsFront p.0 key → length p.0 ≤ n

module _ {N A : Type 0} (bytes : A → List ℕ) (P : ℕ) where
  mutual
    -- a place is a prefix of the least key below it
    least_way : (t : Tree N A) (place : List ℕ) → IsRadix bytes P place t → IsFront place (least_key bytes t)
    least_way (leaf n x) place h = h
    least_way (inner n h cs) place (part, e, two, up, below) = front_cut place part (least_below bytes cs) (least_way_below cs (place ++ part) two below)

    pub least_way_below : (cs : Subtrees N A) (front : List ℕ) → 2 ≤ length (bytes_of cs) → AreRadix bytes P front cs → IsFront front (least_below bytes cs)
    least_way_below no_child front two h = absurd (omega arith)
    least_way_below (child b t cs) front two h = front_cut front (b ∷ []) (least_key bytes t) (least_way t (front ++ b ∷ []) h.0)

  -- the place and the whole prefix, read off the least key
  pub place_is : (t : Tree N A) (place : List ℕ) → IsRadix bytes P place t → take (length place) (least_key bytes t) ≡ place
  place_is t place h = taken place (least_key bytes t) (least_way t place h)

  -- the whole prefix, read off the least key
  pub prefix_is : (n : N) (h : NodeHeader) (cs : Subtrees N A) (place : List ℕ) (radix : IsRadix bytes P place (inner n h cs)) →
      prefix_of bytes (length place) (inner n h cs) ≡ radix.0
  prefix_is n h cs place (part, e, two, up, below) =
      let (r, f) = least_way_below cs (place ++ part) two below in
      let len : h.length_of ≡ length part = ap (λ z. z.length_of) e in
      rw (len, after_front place (least_below bytes cs) (part ++ r) (f ∙ append_assoc place part r)) (take_at part r (length part) refl)

  -- all places below a node start with its own, and continue with the byte of a child
  mutual
    pub places_way : (t : Tree N A) (place : List ℕ) → IsRadix bytes P place t → Each (λ p. IsFront place p.0) (places bytes (length place) t)
    places_way (leaf n x) place h = (([], place_is (leaf n x) place h ∙ sym (append-nil place)), tt)
    places_way (inner n h cs) place (part, e, two, up, below) = (
      (
        [],
        taken place (least_below bytes cs) (front_cut place part (least_below bytes cs) (least_way_below cs (place ++ part) two below))
            ∙ sym (append-nil place),
      ),
      under_front (λ (p : List ℕ × N). p.0) place part cs (places_below bytes (length place + h.length_of + 1) cs)
          (places_under cs (place ++ part) (length place + h.length_of + 1) (λ b. deeper place part b h.length_of (ap (λ z. z.length_of) e)) below),
    )

    pub places_under : (cs : Subtrees N A) (front : List ℕ) (d : ℕ) → ((b : ℕ) → d ≡ length (front ++ b ∷ [])) → AreRadix bytes P front cs →
        Each (Under (λ (p : List ℕ × N). p.0) front cs) (places_below bytes d cs)
    places_under no_child front d e h = tt
    places_under (child b t cs) front d e h = under_child (λ (p : List ℕ × N). p.0) front b t cs (places bytes d t) (places_below bytes d cs)
        (subst (λ z. Each (λ p. IsFront (front ++ b ∷ []) p.0) (places bytes z t)) (sym (e b)) (places_way t (front ++ b ∷ []) h.0))
        (places_under cs front d e h.1)

  -- children whose bytes the key does not continue with
  pub beside : (cs : Subtrees N A) (front key : List ℕ) (d n : ℕ) → ((b : ℕ) → d ≡ length (front ++ b ∷ [])) → AreRadix bytes P front cs →
      Each (λ b. IsFront (front ++ b ∷ []) key → ⊥) (bytes_of cs) → Each (NoLonger key n) (places_below bytes d cs)
  beside cs front key d n e h off = Each-weaker (Under (λ (p : List ℕ × N). p.0) front cs) (NoLonger key n)
      (λ p u k. absurd (each_in (λ b. IsFront (front ++ b ∷ []) key → ⊥) u.0 (bytes_of cs) off u.1 (front_trans (front ++ u.0 ∷ []) p.0 key u.2 k)))
      (places_below bytes d cs) (places_under cs front d e h)

  places_join : (cs ds : Subtrees N A) (Q : (List ℕ × N) → Type 0) (d : ℕ) → Each Q (places_below bytes d cs) →
      Each Q (places_below bytes d ds) → Each Q (places_below bytes d (join cs ds))
  places_join no_child ds Q d h k = k
  places_join (child b t cs) ds Q d h k =
      Each-append Q (places bytes d t) (places_below bytes d (join cs ds)) (Each-left Q (places bytes d t) (places_below bytes d cs) h)
      (places_join cs ds Q d (Each-right Q (places bytes d t) (places_below bytes d cs) h) k)

  -- The search may stop where no child continues: no place of the whole tree that is a prefix of the key is longer.
  pub ended : (fs : List (Frame N A)) (place key : List ℕ) (t : Tree N A) (n : ℕ) → IsPath bytes P place fs → IsRadix bytes P place t →
      IsFront place key → length place ≤ n → Each (NoLonger key n) (places bytes (length place) t) → Each (NoLonger key n) (places bytes 0 (plug fs t))
  ended [] place key t n e h k l q = subst (λ w. Each (NoLonger key n) (places bytes (length w) t)) e q
  ended (f ∷ fs) place key t n (outer, part, e, head, two, up, hl, hr, path) h k l q =
      let front = outer ++ part in
      let k' : IsFront (front ++ f.byte ∷ []) key = subst (λ w. IsFront w key) e k in
      let d = length outer + f.header.length_of + 1 in
      let depth = λ (b : ℕ). deeper outer part b f.header.length_of (ap (λ z. z.length_of) head) in
      let node : IsRadix bytes P outer (fill f t) = fill_radix bytes P f fs place t (outer, part, e, head, two, up, hl, hr, path) h in
      let short : length outer ≤ n = let le = ap length e in omega (arith, simp length-append at le) in
      let own : Each (NoLonger key n) (places bytes d t) = subst (λ z. Each (NoLonger key n) (places bytes z t)) (ap length e ∙ sym (depth f.byte)) q in
      ended fs outer key (fill f t) n path node (front_cut outer part key (front_cut front (f.byte ∷ []) key k')) short (
        (λ g. rw (place_is (fill f t) outer node) short),
        places_join f.left (child f.byte t f.right) (NoLonger key n) d
            (beside f.left front key d n depth hl (Each-weaker (λ c. c < f.byte) (λ c. IsFront (front ++ c ∷ []) key → ⊥)
            (λ c o g. let p = one_way front c f.byte key g k' in absurd (omega arith)) (bytes_of f.left)
            (Pairwise-before ◌<◌ (bytes_of f.left) (bytes_of f.right) f.byte up)))
            (Each-append (NoLonger key n) (places bytes d t) (places_below bytes d f.right) own
            (beside f.right front key d n depth hr (Each-weaker (λ c. f.byte < c) (λ c. IsFront (front ++ c ∷ []) key → ⊥)
            (λ c o g. let p = one_way front c f.byte key g k' in absurd (omega arith)) (bytes_of f.right)
            (Pairwise-after ◌<◌ (bytes_of f.left) (bytes_of f.right) f.byte up)))),
      )
