-- The whole bytes of inner nodes: no two nodes of a tree have the same ones, so names that stay are determined by them.
use Rattle.std.proofs.Common.{◌≡◌, ◌≢◌, ℕ, ◌+◌, ◌<◌, ◌≤◌, List, [], ◌∷◌, ◌++◌, length, take, refl, ap, ap₂, sym, ◌∙◌, arith, subst, append_assoc, append-nil, length-append, inl, inr}
use Rattle.std.specs.List.{AllByRecursion as Each}
use Rattle.art_model.specs.Prelude.{NodeType, IsFront, Tree, leaf, inner, Subtrees, child, no_child, NodeHeader, canonical_header, IsRadix, AreRadix, BytesRise, bytes_of, join, Pairwise, Frame, fill, plug, IsPath, least_below, inner_nodes, inner_nodes_below, IsIn}
use Rattle.art_model.proofs.lists.Lists.{Each-weaker, each_in}
use Rattle.art_model.proofs.lists.Pairwises.{Pairwise-append}
use Rattle.art_model.proofs.lists.Entries.{Keep, same_entry, keep_among, keep_between}
use Rattle.art_model.proofs.places.Paths.{fill_radix, plug_radix}
use Rattle.art_model.proofs.places.Places.{Under, least_way_below, taken, deeper, one_way, under_front, under_child}

-- the kind, whole bytes and name of an inner node
abbrev pub Entry : Type 0 → Type 0
Entry N = NodeType × List ℕ × N

module _ {N : Type 0} where
  abbrev Differ : Entry N → Entry N → Type 0
  Differ e f = e.1 ≢ f.1

  -- an inner node of the second list that has the kind and the whole bytes of one of the first has its name
  abbrev pub KeepNames : List (Entry N) → List (Entry N) → Type 0
  KeepNames = Keep (λ e. e.1) (λ e. e.2) (λ e f. e.0 ≡ f.0)

  -- names are kept where all entries are among some that differ
  pub kept_among : (xs old new : List (Entry N)) → Pairwise Differ xs → ((e : Entry N) → IsIn e old → IsIn e xs) →
      ((e : Entry N) → IsIn e new → IsIn e xs) → KeepNames old new
  kept_among = keep_among (λ e. e.1) (λ e. e.2) (λ e f. e.0 ≡ f.0)

  -- where one entry becomes another with its whole bytes, which has its name or another kind
  pub kept_head : (e f : Entry N) (rest : List (Entry N)) → e.1 ≡ f.1 → (e.0 ≡ f.0 → e.2 ≡ f.2) → Pairwise Differ (e ∷ rest) → KeepNames (e ∷ rest) (f ∷ rest)
  kept_head e f rest whole named d x y (inl i) (inl j) kind same =
      ap (λ z. z.2) (sym i) ∙ named (ap (λ z. z.0) i ∙ kind ∙ ap (λ z. z.0) (sym j)) ∙ ap (λ z. z.2) j
  kept_head e f rest whole named d x y (inl i) (inr j) kind same = absurd (each_in (Differ e) y rest d.0 j (ap (λ z. z.1) i ∙ same))
  kept_head e f rest whole named d x y (inr i) (inl j) kind same = absurd (each_in (Differ e) x rest d.0 i (whole ∙ ap (λ z. z.1) j ∙ sym same))
  kept_head e f rest whole named d x y (inr i) (inr j) kind same = ap (λ z. z.2) (same_entry (λ e. e.1) (λ e. e.2) (λ e f. e.0 ≡ f.0) rest d.1 x y i j same)

module _ {N A : Type 0} (bytes : A → List ℕ) (P : ℕ) where
  -- the whole bytes of a node are its place and its whole prefix
  pub whole_is : (h : NodeHeader) (place part : List ℕ) (n : ℕ) (cs : Subtrees N A) → h ≡ canonical_header P part n → 2 ≤ length (bytes_of cs) →
      AreRadix bytes P (place ++ part) cs → take (length place + h.length_of) (least_below bytes cs) ≡ place ++ part
  whole_is h place part n cs e two below =
      let l : length place + h.length_of ≡ length (place ++ part) = ap (λ z. length place + z) (ap (λ z. z.length_of) e) ∙ sym (length-append place part) in
      rw l (taken (place ++ part) (least_below bytes cs) (least_way_below bytes P cs (place ++ part) two below))

  -- all start with the place, and below a node they continue with the byte of a child
  mutual
    pub whole_way : (t : Tree N A) (place : List ℕ) → IsRadix bytes P place t → Each (λ e. IsFront place e.1) (inner_nodes bytes (length place) t)
    whole_way (leaf n x) place h = tt
    whole_way (inner n h cs) place (part, e, two, up, below) = (
      (part, whole_is h place part (length (bytes_of cs)) cs e two below),
      under_front (λ (e : Entry N). e.1) place part cs (inner_nodes_below bytes (length place + h.length_of + 1) cs)
          (whole_under cs (place ++ part) (length place + h.length_of + 1) (λ b. deeper place part b h.length_of (ap (λ z. z.length_of) e)) below),
    )

    whole_under : (cs : Subtrees N A) (front : List ℕ) (d : ℕ) → ((b : ℕ) → d ≡ length (front ++ b ∷ [])) → AreRadix bytes P front cs →
        Each (Under (λ (e : Entry N). e.1) front cs) (inner_nodes_below bytes d cs)
    whole_under no_child front d e h = tt
    whole_under (child b t cs) front d e h = under_child (λ (e : Entry N). e.1) front b t cs (inner_nodes bytes d t) (inner_nodes_below bytes d cs)
        (subst (λ z. Each (λ e. IsFront (front ++ b ∷ []) e.1) (inner_nodes bytes z t)) (sym (e b)) (whole_way t (front ++ b ∷ []) h.0))
        (whole_under cs front d e h.1)

  -- no two inner nodes have the same whole bytes
  mutual
    pub whole_differ : (t : Tree N A) (place : List ℕ) → IsRadix bytes P place t → Pairwise Differ (inner_nodes bytes (length place) t)
    whole_differ (leaf n x) place h = tt
    whole_differ (inner n h cs) place (part, e, two, up, below) =
        let w = whole_is h place part (length (bytes_of cs)) cs e two below in
        let d = length place + h.length_of + 1 in
        let depth = λ (b : ℕ). deeper place part b h.length_of (ap (λ z. z.length_of) e) in (
          Each-weaker (Under (λ (e : Entry N). e.1) (place ++ part) cs) (λ f. take (length place + h.length_of) (least_below bytes cs) ≢ f.1)
              (λ f u same. let l = ap length (sym w ∙ same ∙ u.2.1) in absurd (omega (arith, simp length-append at l)))
              (inner_nodes_below bytes d cs) (whole_under cs (place ++ part) d depth below),
          whole_differ_below cs (place ++ part) d depth up below,
        )

    whole_differ_below : (cs : Subtrees N A) (front : List ℕ) (d : ℕ) → ((b : ℕ) → d ≡ length (front ++ b ∷ [])) → BytesRise (bytes_of cs) →
        AreRadix bytes P front cs → Pairwise Differ (inner_nodes_below bytes d cs)
    whole_differ_below no_child front d e up h = tt
    whole_differ_below (child b t cs) front d e up h =
        let own = subst (λ z. Each (λ e. IsFront (front ++ b ∷ []) e.1) (inner_nodes bytes z t)) (sym (e b)) (whole_way t (front ++ b ∷ []) h.0) in
        Pairwise-append Differ (inner_nodes bytes d t) (inner_nodes_below bytes d cs)
        (subst (λ z. Pairwise Differ (inner_nodes bytes z t)) (sym (e b)) (whole_differ t (front ++ b ∷ []) h.0)) (whole_differ_below cs front d e up.1 h.1)
        (Each-weaker (λ e. IsFront (front ++ b ∷ []) e.1) (λ e. Each (Differ e) (inner_nodes_below bytes d cs))
        (λ f k. Each-weaker (Under (λ (e : Entry N). e.1) front cs) (Differ f)
        (λ g u same. let p = one_way front b u.0 g.1 (subst (λ z. IsFront (front ++ b ∷ []) z) same k) u.2 in let lt = each_in (λ c. b < c) u.0
        (bytes_of cs) up.0 u.1 in absurd (omega arith)) (inner_nodes_below bytes d cs) (whole_under cs front d e h.1)) (inner_nodes bytes d t) own)

-- ---- the inner nodes of a plugged path

module _ {N A : Type 0} (bytes : A → List ℕ) where
  -- inner nodes of joined children
  pub inner_nodes_below-join : (d : ℕ) (cs ds : Subtrees N A) →
      inner_nodes_below bytes d (join cs ds) ≡ inner_nodes_below bytes d cs ++ inner_nodes_below bytes d ds
  inner_nodes_below-join d no_child ds = refl
  inner_nodes_below-join d (child b t cs) ds =
      ap (λ z. inner_nodes bytes d t ++ z) (inner_nodes_below-join d cs ds)
      ∙ sym (append_assoc (inner_nodes bytes d t) (inner_nodes_below bytes d cs) (inner_nodes_below bytes d ds))

module _ {N A : Type 0} (bytes : A → List ℕ) (P : ℕ) where
  -- the inner nodes before and after a hole, whatever is in it
  abbrev pub nodes_before : (fs : List (Frame N A)) (place : List ℕ) → IsPath bytes P place fs → List (Entry N)
  nodes_before [] place p = []
  nodes_before (f ∷ fs) place (outer, part, e, head, two, up, hl, hr, path) =
      nodes_before fs outer path ++ (f.header.kind, outer ++ part, f.mark) ∷ inner_nodes_below bytes (length outer + f.header.length_of + 1) f.left

  abbrev pub nodes_after : (fs : List (Frame N A)) (place : List ℕ) → IsPath bytes P place fs → List (Entry N)
  nodes_after [] place p = []
  nodes_after (f ∷ fs) place (outer, part, e, head, two, up, hl, hr, path) =
      inner_nodes_below bytes (length outer + f.header.length_of + 1) f.right ++ nodes_after fs outer path

  -- the inner nodes before the hole, in it and after it
  pub inner_nodes-plug : (fs : List (Frame N A)) (place : List ℕ) (t : Tree N A) (p : IsPath bytes P place fs) → IsRadix bytes P place t →
      inner_nodes bytes 0 (plug fs t) ≡ nodes_before fs place p ++ inner_nodes bytes (length place) t ++ nodes_after fs place p
  unfolding fill_radix
  inner_nodes-plug [] place t p h = ap (λ w. inner_nodes bytes (length w) t) (sym p) ∙ sym (append-nil (inner_nodes bytes (length place) t))
  inner_nodes-plug (f ∷ fs) place t (outer, part, e, head, two, up, hl, hr, path) h =
      let d = length outer + f.header.length_of + 1 in
      let node : IsRadix bytes P outer (fill f t) = fill_radix bytes P f fs place t (outer, part, e, head, two, up, hl, hr, path) h in
      let own : take (length outer + f.header.length_of) (least_below bytes (join f.left (child f.byte t f.right))) ≡ outer ++ part =
      whole_is bytes P f.header outer part (length (bytes_of (join f.left (child f.byte t f.right))))
      (join f.left (child f.byte t f.right)) node.1 node.2 node.4 in
      let deep : d ≡ length place = deeper outer part f.byte f.header.length_of (ap (λ z. z.length_of) head) ∙ ap length (sym e) in
      let below : inner_nodes_below bytes d (join f.left (child f.byte t f.right))
      ≡ inner_nodes_below bytes d f.left ++ inner_nodes bytes (length place) t ++ inner_nodes_below bytes d f.right =
      inner_nodes_below-join bytes d f.left (child f.byte t f.right) ∙
      ap (λ z. inner_nodes_below bytes d f.left ++ (inner_nodes bytes z t ++ inner_nodes_below bytes d f.right)) deep ∙
      sym (append_assoc (inner_nodes_below bytes d f.left) (inner_nodes bytes (length place) t) (inner_nodes_below bytes d f.right)) in
      inner_nodes-plug fs outer (fill f t) path node
      ∙ ap₂ (λ w z. nodes_before fs outer path ++ ((f.header.kind, w, f.mark) ∷ z) ++ nodes_after fs outer path) own below
      ∙ simp append_assoc

  -- Inner nodes that stay keep their names in the whole tree where those in the hole do.
  pub kept : (fs : List (Frame N A)) (place : List ℕ) (t u : Tree N A) → IsPath bytes P place fs → IsRadix bytes P place t → IsRadix bytes P place u →
      KeepNames (inner_nodes bytes (length place) t) (inner_nodes bytes (length place) u) →
      KeepNames (inner_nodes bytes 0 (plug fs t)) (inner_nodes bytes 0 (plug fs u))
  kept fs place t u p rt ru local =
      let was = inner_nodes-plug fs place t p rt in
      let is = inner_nodes-plug fs place u p ru in
      let apart = λ (v : Tree N A) (r : IsRadix bytes P place v). whole_differ bytes P (plug fs v) [] (plug_radix bytes P fs place v p r) in
      subst (λ xs. KeepNames xs (inner_nodes bytes 0 (plug fs u))) (sym was)
      (subst (λ xs. KeepNames (nodes_before fs place p ++ inner_nodes bytes (length place) t ++ nodes_after fs place p) xs) (sym is)
      (keep_between (λ e. e.1) (λ e. e.2) (λ e f. e.0 ≡ f.0) (nodes_before fs place p) (inner_nodes bytes (length place) t)
      (inner_nodes bytes (length place) u) (nodes_after fs place p)
      (subst (Pairwise Differ) was (apart t rt)) (subst (Pairwise Differ) is (apart u ru)) local))
