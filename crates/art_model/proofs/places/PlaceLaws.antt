-- the laws of places and of end nodes
use Rattle.std.proofs.Common.{◌≡◌, ℕ, ◌+◌, ◌<◌, ◌≤◌, List, [], ◌∷◌, ◌++◌, length, take, refl, ap, sym, ◌∙◌, subst, arith, append_assoc, true, false, Bool, inl, inr}
use Rattle.std.specs.List.{AllByRecursion as Each}
use Rattle.std.proofs.lemmas.Bool.{true≢false}
use Rattle.art_model.specs.Prelude.{IsFront, is_front, is_before, Pairwise, Tree, leaf, inner, Subtrees, child, no_child, NodeHeader, canonical_header, bytes_of, join, IsRadix, AreRadix, BytesRise, name_of, Frame, fill, plug, IsPath, depth_of, place_of, places, places_below, IsEndNode}
use Rattle.art_model.specs.PlaceLaws.{PlacesAreReadOff, PrefixesAreReadOff, PlacesRise, HasEndNode, HasOneEnd}
use Rattle.art_model.proofs.lists.Lists.{each_in, each_from, Each-left, Each-right, Each-weaker}
use Rattle.art_model.proofs.lists.Pairwises.{Pairwise-append}
use Rattle.art_model.proofs.keys.KeyLaws.{fronts_are_decided, order_is_decided, order_is_strict}
use Rattle.art_model.proofs.lists.Filters.{Each-both}
use Rattle.art_model.proofs.radix.Rebuild.{radix_below}
use Rattle.art_model.proofs.places.Paths.{path_down, radix_plug}
use Rattle.art_model.proofs.places.Places.{NoLonger, Under, places_under, taken, place_is, prefix_is, places_way, deeper, beside, ended}

by_test : {X : Type 0} (t : Bool) → (t ≡ true → X) → (t ≡ false → X) → X
by_test true f g = f refl
by_test false f g = g refl

-- joined twice, in whatever order
pub join_assoc : {N A : Type 0} (cs ds es : Subtrees N A) → join (join cs ds) es ≡ join cs (join ds es)
join_assoc no_child ds es = refl
join_assoc (child b t cs) ds es = ap (child b t) (join_assoc cs ds es)

-- no children on the right
pub join_none : {N A : Type 0} (cs : Subtrees N A) → join cs no_child ≡ cs
join_none no_child = refl
join_none (child b t cs) = ap (child b t) (join_none cs)

module _ {N A : Type 0} where
  pub places_are_read_off : PlacesAreReadOff N A
  places_are_read_off bytes P place t h = place_is bytes P t place h

  pub prefixes_are_read_off : PrefixesAreReadOff N A
  prefixes_are_read_off bytes P place n h cs radix =
      let e = prefix_is bytes P n h cs place radix in
      (rw e radix.1, rw e (radix_below bytes P cs (place ++ radix.0) radix.4))

module _ {N A : Type 0} (bytes : A → List ℕ) (P : ℕ) where
  -- ---- places increase

  abbrev Before : (List ℕ × N) → (List ℕ × N) → Type 0
  Before p q = is_before p.0 q.0 ≡ true

  -- a place continues after a prefix with a byte of which this holds
  abbrev GoesOn : List ℕ → (ℕ → Type 0) → (List ℕ × N) → Type 0
  GoesOn front Q p = (c : ℕ) × Q c × IsFront (front ++ c ∷ []) p.0

  under : (front : List ℕ) (d b : ℕ) (t : Tree N A) → d ≡ length (front ++ b ∷ []) → IsRadix bytes P (front ++ b ∷ []) t →
      Each (λ p. IsFront (front ++ b ∷ []) p.0) (places bytes d t)
  under front d b t e h = subst (λ z. Each (λ p. IsFront (front ++ b ∷ []) p.0) (places bytes z t)) (sym e) (places_way bytes P t (front ++ b ∷ []) h)

  all_go_on : (Q : ℕ → Type 0) (cs : Subtrees N A) (front : List ℕ) (d : ℕ) → ((b : ℕ) → d ≡ length (front ++ b ∷ [])) → AreRadix bytes P front cs →
      Each Q (bytes_of cs) → Each (GoesOn front Q) (places_below bytes d cs)
  all_go_on Q cs front d e h q =
      Each-weaker (Under (λ (p : List ℕ × N). p.0) front cs) (GoesOn front Q) (λ p u. (u.0, each_in Q u.0 (bytes_of cs) q u.1, u.2))
      (places_below bytes d cs) (places_under bytes P cs front d e h)

  before_below : (place part : List ℕ) (p q : List ℕ × N) → p.0 ≡ place → GoesOn (place ++ part) (λ c. Unit {0}) q → Before p q
  before_below place part p q e (c, u, (r, f)) = (order_is_decided p.0 q.0).1 (inl (first part refl))
    where
      first : (part' : List ℕ) → part' ≡ part → (byte : ℕ) × (rest : List ℕ) × (q.0 ≡ p.0 ++ byte ∷ rest)
      first [] g = (c, r, rw (e, f, ← g) (simp append_assoc))
      first (b ∷ bs) g = (b, bs ++ c ∷ r, rw (e, f, ← g) (simp append_assoc))

  before_beside : (front : List ℕ) (b : ℕ) (p q : List ℕ × N) → IsFront (front ++ b ∷ []) p.0 → GoesOn front (λ c. b < c) q → Before p q
  before_beside front b p q (r, e) (c, less, (s, f)) =
      (order_is_decided p.0 q.0).1 (inr (front, b, c, r, s, e ∙ append_assoc front (b ∷ []) r, f ∙ append_assoc front (c ∷ []) s, less))

  mutual
    rise : (t : Tree N A) (place : List ℕ) → IsRadix bytes P place t → Pairwise Before (places bytes (length place) t)
    rise (leaf n x) place h = (tt, tt)
    rise (inner n h cs) place (part, e, two, up, below) =
        let d = length place + h.length_of + 1 in
        let depth = λ (b : ℕ). deeper place part b h.length_of (ap (λ z. z.length_of) e) in
        let own = place_is bytes P (inner n h cs) place (part, e, two, up, below) in (
          Each-weaker (GoesOn (place ++ part) (λ c. Unit {0})) (Before (place_of bytes (length place) (inner n h cs), n))
              (λ q g. before_below place part (place_of bytes (length place) (inner n h cs), n) q own g) (places_below bytes d cs)
              (all_go_on (λ c. Unit {0}) cs (place ++ part) d depth below (each_from (λ c. Unit {0}) (bytes_of cs) (λ c i. tt))),
          rise_below cs (place ++ part) d depth up below,
        )

    rise_below : (cs : Subtrees N A) (front : List ℕ) (d : ℕ) → ((b : ℕ) → d ≡ length (front ++ b ∷ [])) → BytesRise (bytes_of cs) →
        AreRadix bytes P front cs → Pairwise Before (places_below bytes d cs)
    rise_below no_child front d e up h = tt
    rise_below (child b t cs) front d e up h =
        Pairwise-append Before (places bytes d t) (places_below bytes d cs)
        (subst (λ z. Pairwise Before (places bytes z t)) (sym (e b)) (rise t (front ++ b ∷ []) h.0)) (rise_below cs front d e up.1 h.1)
        (Each-weaker (λ p. IsFront (front ++ b ∷ []) p.0) (λ p. Each (Before p) (places_below bytes d cs))
        (λ p f. Each-weaker (GoesOn front (λ c. b < c)) (Before p) (λ q g. before_beside front b p q f g) (places_below bytes d cs)
        (all_go_on (λ c. b < c) cs front d e h.1 up.0)) (places bytes d t) (under front d b t (e b) h.0))

  -- entries with the same place have the same name
  abbrev HaveOneName : (List ℕ × N) → (List ℕ × N) → Type 0
  HaveOneName p q = q.0 ≡ p.0 → q.1 ≡ p.1

  one_name : (ps : List (List ℕ × N)) → Pairwise Before ps → Each (λ p. Each (HaveOneName p) ps) ps
  one_name [] h = tt
  one_name (p ∷ ps) h = (
    ((λ e. refl), Each-weaker (Before p) (HaveOneName p) (λ q b e. absurd (differ p q b e)) ps h.0),
    Each-both (Before p) (λ q. Each (HaveOneName q) ps) (λ q. Each (HaveOneName q) (p ∷ ps))
        (λ q b k. ((λ e. absurd (differ p q b (sym e))), k)) ps h.0 (one_name ps h.1),
  )
    where
      differ : (p q : List ℕ × N) → Before p q → q.0 ≡ p.0 → ⊥
      differ p q b e = true≢false (sym (subst (λ z. is_before p.0 z ≡ true) e b) ∙ order_is_strict p.0)

  -- ---- end nodes

  pub depth_is : (fs : List (Frame N A)) (place : List ℕ) → IsPath bytes P place fs → depth_of fs ≡ length place
  depth_is [] place path = sym (ap length path)
  depth_is (f ∷ fs) place (outer, part, e, head, two, up, l, r, path) =
      let above = depth_is fs outer path in
      ap (λ z. z + f.header.length_of + 1) above ∙ deeper outer part f.byte f.header.length_of (ap (λ z. z.length_of) head) ∙ ap length (sym e)

  -- a node on the key's path is its end node, where no place below is longer
  pub ends_at : (key : List ℕ) (fs : List (Frame N A)) (place : List ℕ) (t : Tree N A) → IsPath bytes P place fs → IsRadix bytes P place t →
      IsFront place key → Each (NoLonger key (length place)) (places bytes (length place) t) → IsEndNode bytes (plug fs t) key fs t
  ends_at key fs place t path radix front below =
      let depth = depth_is fs place path in
      record {
        whole = refl;
        is_front = subst (λ w. IsFront w key) (sym (ap (λ d. place_of bytes d t) depth ∙ place_is bytes P t place radix)) front;
        is_longest = subst (λ d. Each (NoLonger key d) (places bytes 0 (plug fs t))) (sym depth)
            (ended bytes P fs place key t (length place) path radix front (omega arith) below);
      }

  abbrev End : List ℕ → Tree N A → Type 0
  End key tree = (path : List (Frame N A)) × (node : Tree N A) × IsEndNode bytes tree key path node

  join_one : (cs ds : Subtrees N A) (b : ℕ) (t : Tree N A) → join (join cs (child b t no_child)) ds ≡ join cs (child b t ds)
  join_one no_child ds b t = refl
  join_one (child c u cs) ds b t = ap (child c u) (join_one cs ds b t)

  off_both : (Q : ℕ → Type 0) (cs : Subtrees N A) (b : ℕ) (t : Tree N A) → Each Q (bytes_of cs) → Q b → Each Q (bytes_of (join cs (child b t no_child)))
  off_both Q no_child b t h q = (q, tt)
  off_both Q (child c u cs) b t h q = (h.0, off_both Q cs b t h.1 q)

  mutual
    -- a node on the key's path: its end node is there or below
    from_node : (key : List ℕ) (t : Tree N A) (fs : List (Frame N A)) (place : List ℕ) → IsPath bytes P place fs → IsRadix bytes P place t →
        IsFront place key → End key (plug fs t)
    from_node key (leaf n x) fs place path radix front =
        (fs, leaf n x, ends_at key fs place (leaf n x) path radix front ((λ g. rw (place_is bytes P (leaf n x) place radix) (omega arith)), tt))
    from_node key (inner n h cs) fs place path (part, e, two, up, below) front =
        from_children key n h cs no_child cs refl fs place path part e two up below front tt

    -- the key continues with none of the children on the left
    from_children : (key : List ℕ) (n : N) (h : NodeHeader) (all left cs : Subtrees N A) → join left cs ≡ all →
        (fs : List (Frame N A)) (place : List ℕ) → IsPath bytes P place fs →
        (part : List ℕ) → h ≡ canonical_header P part (length (bytes_of all)) → 2 ≤ length (bytes_of all) → BytesRise (bytes_of all) →
        AreRadix bytes P (place ++ part) all →
        IsFront place key → Each (λ b. IsFront ((place ++ part) ++ b ∷ []) key → ⊥) (bytes_of left) → End key (plug fs (inner n h all))
    from_children key n h all left no_child eq fs place path part e two up below front off =
        let radix : IsRadix bytes P place (inner n h all) = (part, e, two, up, below) in
        let none : Each (λ b. IsFront ((place ++ part) ++ b ∷ []) key → ⊥) (bytes_of all) =
        subst (λ z. Each (λ b. IsFront ((place ++ part) ++ b ∷ []) key → ⊥) (bytes_of z)) (sym (join_none left) ∙ eq) off in (
          fs,
          inner n h all,
          ends_at key fs place (inner n h all) path radix front (
            (λ g. rw (place_is bytes P (inner n h all) place radix) (omega arith)),
            beside bytes P all (place ++ part) key (length place + h.length_of + 1) (length place)
                (λ b. deeper place part b h.length_of (ap (λ z. z.length_of) e)) below none,
          ),
        )
    from_children key n h all left (child b t cs) eq fs place path part e two up below front off =
        let f : Frame N A = record { mark = n; header = h; left = left; byte = b; right = cs } in
        by_test (is_front ((place ++ part) ++ b ∷ []) key)
        (λ goes.
        let back = sym eq in
        let radix : IsRadix bytes P place (fill f t) = (
          part,
          subst (λ c. h ≡ canonical_header P part (length (bytes_of c))) back e,
          subst (λ c. 2 ≤ length (bytes_of c)) back two,
          subst
              (λ c. BytesRise (bytes_of c)) back up,
          subst (AreRadix bytes P (place ++ part)) back below,
        ) in
        let (longer, under_it) = path_down bytes P fs place f t path radix in
        subst (λ c. End key (plug fs (inner n h c))) eq
        (from_node key t (f ∷ fs) ((place ++ part) ++ b ∷ []) longer under_it
        ((fronts_are_decided ((place ++ part) ++ b ∷ []) key).0 goes)))
        (λ stops. from_children key n h all (join left (child b t no_child)) cs (join_one left cs b t ∙ eq) fs place path part e two up below front
        (off_both (λ c. IsFront ((place ++ part) ++ c ∷ []) key → ⊥) left b t off
        (λ g. true≢false (sym ((fronts_are_decided ((place ++ part) ++ b ∷ []) key).1 g) ∙ stops))))

  -- ---- end nodes of a key have the same place

  places_left : (Q : (List ℕ × N) → Type 0) (d : ℕ) (cs ds : Subtrees N A) → Each Q (places_below bytes d (join cs ds)) → Each Q (places_below bytes d ds)
  places_left Q d no_child ds h = h
  places_left Q d (child b t cs) ds h = places_left Q d cs ds (Each-right Q (places bytes d t) (places_below bytes d (join cs ds)) h)

  -- what holds of all places of a tree holds of those below a path
  pub places_at : (Q : (List ℕ × N) → Type 0) (fs : List (Frame N A)) (t : Tree N A) → Each Q (places bytes 0 (plug fs t)) →
      Each Q (places bytes (depth_of fs) t)
  places_at Q [] t h = h
  places_at Q (f ∷ fs) t h =
      let d = depth_of fs + f.header.length_of + 1 in
      Each-left Q (places bytes d t) (places_below bytes d f.right) (places_left Q d f.left (child f.byte t f.right) (places_at Q fs (fill f t) h).1)

  -- and so does the place of a node
  pub own_place : (Q : (List ℕ × N) → Type 0) (d : ℕ) (t : Tree N A) → Each Q (places bytes d t) → Q (place_of bytes d t, name_of t)
  own_place Q d (leaf n x) h = h.0
  own_place Q d (inner n h cs) k = k.0

  place_long : (tree : Tree N A) (fs : List (Frame N A)) (t : Tree N A) → plug fs t ≡ tree → IsRadix bytes P [] tree →
      length (place_of bytes (depth_of fs) t) ≡ depth_of fs
  place_long tree fs t whole h =
      let (place, path, node) = radix_plug bytes P fs t (subst (IsRadix bytes P []) (sym whole) h) in
      let depth = depth_is fs place path in
      ap length (ap (λ d. place_of bytes d t) depth ∙ place_is bytes P t place node) ∙ sym depth

  -- the place of an end node is no longer than that of another
  no_longer : (tree : Tree N A) (key : List ℕ) (path road : List (Frame N A)) (node other : Tree N A) → IsRadix bytes P [] tree →
      IsEndNode bytes tree key path node → IsEndNode bytes tree key road other →
      length (place_of bytes (depth_of path) node) ≤ length (place_of bytes (depth_of road) other)
  no_longer tree key path road node other h one two =
      let Q = λ (p : List ℕ × N). IsFront p.0 key → length p.0 ≤ depth_of road in
      let least =
      own_place Q (depth_of path) node (places_at Q path node
      (subst (λ t. Each Q (places bytes 0 t)) (sym one.whole) two.is_longest)) one.is_front in
      let long = place_long tree road other two.whole h in
      omega arith

module _ {N A : Type 0} where
  pub places_rise : PlacesRise N A
  places_rise bytes P tree h = rise bytes P tree [] h

  pub has_end_node : HasEndNode N A
  has_end_node bytes P tree key h = from_node bytes P key tree [] [] refl h (key, refl)

  pub has_one_end : HasOneEnd N A
  has_one_end bytes P tree key path road node other h one two =
      let a = place_of bytes (depth_of path) node in
      let b = place_of bytes (depth_of road) other in
      let here = no_longer bytes P tree key path road node other h one two in
      let there = no_longer bytes P tree key road path other node h two one in
      let length_is : length b ≡ length a = omega arith in
      let same : b ≡ a = sym (taken b key two.is_front) ∙ ap (λ n. take n key) length_is ∙ taken a key one.is_front in
      let R = HaveOneName bytes P in
      let names = one_name bytes P (places bytes 0 tree) (rise bytes P tree [] h) in
      let of_node : Each (R (a, name_of node)) (places bytes 0 tree) =
      own_place bytes P (λ p. Each (R p) (places bytes 0 tree)) (depth_of path) node
      (places_at bytes P (λ p. Each (R p) (places bytes 0 tree)) path node
      (subst (λ t. Each (λ p. Each (R p) (places bytes 0 tree)) (places bytes 0 t)) (sym one.whole) names)) in
      let of_both : R (a, name_of node) (b, name_of other) =
      own_place bytes P (R (a, name_of node)) (depth_of road) other
      (places_at bytes P (R (a, name_of node)) road other (subst (λ t. Each (R (a, name_of node)) (places bytes 0 t)) (sym two.whole) of_node)) in
      (same, of_both same)
