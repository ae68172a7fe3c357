-- Paths: what is before the hole, in it and after it, and what a change in the hole makes of the whole tree.
use Rattle.std.proofs.Common.{◌≡◌, ℕ, ◌+◌, ◌<◌, ◌≤◌, List, [], ◌∷◌, ◌++◌, length, refl, ap, sym, ◌∙◌, append_assoc, append-nil, arith, length-append, subst, map, ap₂, false}
use Rattle.std.specs.List.{AllByRecursion as Each}
use Rattle.std.proofs.lemmas.List.{map-append}
use Rattle.std.proofs.lemmas.List.Elements.{filter-append}
use Rattle.art_model.specs.Prelude.{IsFront, Precedes, are_related, related_to, Tree, leaf, inner, Subtrees, child, no_child, canonical_header, IsRadix, BytesRise, bytes_of, join, pairs_of, pairs_below, name_of, slots_of, names_of, names_below, leaf_names, leaf_names_below, entries_of, entries_below, Frame, fill, plug, pairs_before, pairs_after, names_before, names_after, leaves_before, leaves_after, IsPath, IsIn}
use Rattle.art_model.proofs.radix.Rebuild.{radix_way}
use Rattle.art_model.proofs.lists.Lists.{each_in, Each-append, filter_none, front_cut, Each-weaker}
use Rattle.art_model.proofs.keys.Keys.{related_sym}
use Rattle.art_model.proofs.lists.Pairwises.{Pairwise-before, Pairwise-after}
use Rattle.art_model.proofs.pairs.Between.{IsLocal}
use Rattle.art_model.proofs.radix.Radix.{bytes_of-join, pairs_below-join, AreRadix-join, AreRadix-left, AreRadix-right, parts, PartsBelow, PartsAbove, all_below, all_above}

-- ---- what joined children and a plugged path consist of

module _ {N A : Type 0} where
  -- slots of joined children
  pub slots_of-join : (cs ds : Subtrees N A) → slots_of (join cs ds) ≡ slots_of cs ++ slots_of ds
  slots_of-join no_child ds = refl
  slots_of-join (child b t cs) ds = ap (λ l. (b, name_of t) ∷ l) (slots_of-join cs ds)

  -- names of joined children
  pub names_below-join : (cs ds : Subtrees N A) → names_below (join cs ds) ≡ names_below cs ++ names_below ds
  names_below-join no_child ds = refl
  names_below-join (child b t cs) ds = ap (λ l. names_of t ++ l) (names_below-join cs ds) ∙ sym (append_assoc (names_of t) (names_below cs) (names_below ds))

  -- names of joined children's leaves
  pub leaf_names_below-join : (cs ds : Subtrees N A) → leaf_names_below (join cs ds) ≡ leaf_names_below cs ++ leaf_names_below ds
  leaf_names_below-join no_child ds = refl
  leaf_names_below-join (child b t cs) ds =
      ap (λ l. leaf_names t ++ l) (leaf_names_below-join cs ds)
      ∙ sym (append_assoc (leaf_names t) (leaf_names_below cs) (leaf_names_below ds))

  -- entries of joined children
  pub entries_below-join : (cs ds : Subtrees N A) → entries_below (join cs ds) ≡ entries_below cs ++ entries_below ds
  entries_below-join no_child ds = refl
  entries_below-join (child b t cs) ds =
      ap (λ l. entries_of t ++ l) (entries_below-join cs ds) ∙ sym (append_assoc (entries_of t) (entries_below cs) (entries_below ds))

  -- entries on the left, in the middle and on the right
  pub entries_below-three : (l middle r : Subtrees N A) → entries_below (join l (join middle r)) ≡ entries_below l ++ entries_below middle ++ entries_below r
  entries_below-three l middle r =
      entries_below-join l (join middle r) ∙ ap (λ z. entries_below l ++ z) (entries_below-join middle r)
      ∙ sym (append_assoc (entries_below l) (entries_below middle) (entries_below r))

  -- the names of the leaves on the left, in the middle and on the right
  pub leaf_names_below-three : (l middle r : Subtrees N A) →
      leaf_names_below (join l (join middle r)) ≡ leaf_names_below l ++ leaf_names_below middle ++ leaf_names_below r
  leaf_names_below-three l middle r =
      leaf_names_below-join l (join middle r) ∙ ap (λ z. leaf_names_below l ++ z) (leaf_names_below-join middle r) ∙
      sym (append_assoc (leaf_names_below l) (leaf_names_below middle) (leaf_names_below r))

  -- the pairs before the hole, in it and after it
  pub pairs_of-plug : (fs : List (Frame N A)) (t : Tree N A) → pairs_of (plug fs t) ≡ pairs_before fs ++ pairs_of t ++ pairs_after fs
  pairs_of-plug [] t = sym (append-nil (pairs_of t))
  pairs_of-plug (f ∷ fs) t = pairs_of-plug fs (fill f t) ∙ simp (pairs_below-join, append_assoc)

  -- the names before the hole, in it and after it
  pub names_of-plug : (fs : List (Frame N A)) (t : Tree N A) → names_of (plug fs t) ≡ names_before fs ++ names_of t ++ names_after fs
  names_of-plug [] t = sym (append-nil (names_of t))
  names_of-plug (f ∷ fs) t = names_of-plug fs (fill f t) ∙ simp (names_below-join, append_assoc)

  -- the names of the leaves before the hole, in it and after it
  pub leaf_names-plug : (fs : List (Frame N A)) (t : Tree N A) → leaf_names (plug fs t) ≡ leaves_before fs ++ leaf_names t ++ leaves_after fs
  leaf_names-plug [] t = sym (append-nil (leaf_names t))
  leaf_names-plug (f ∷ fs) t = leaf_names-plug fs (fill f t) ∙ simp (leaf_names_below-join, append_assoc)

  mutual
    -- the pairs of the entries are those of the tree, and their names those of its leaves
    entries_are : (t : Tree N A) → (map (λ e. e.0) (entries_of t) ≡ pairs_of t) × (map (λ e. e.1) (entries_of t) ≡ leaf_names t)
    entries_are (leaf n x) = (refl, refl)
    entries_are (inner n h cs) = entries_below_are cs

    entries_below_are : (cs : Subtrees N A) → (map (λ e. e.0) (entries_below cs) ≡ pairs_below cs) × (map (λ e. e.1) (entries_below cs) ≡ leaf_names_below cs)
    entries_below_are no_child = (refl, refl)
    entries_below_are (child b t cs) =
        let own = entries_are t in
        let others = entries_below_are cs in (
          map-append (λ e. e.0) (entries_of t) (entries_below cs) ∙ ap₂ (λ (xs ys : List A). xs ++ ys) own.0 others.0,
          map-append (λ e. e.1) (entries_of t) (entries_below cs) ∙ ap₂ (λ (ks ls : List N). ks ++ ls) own.1 others.1,
        )

  pub pairs_of-leaves : (t : Tree N A) → map (λ e. e.0) (entries_of t) ≡ pairs_of t
  pairs_of-leaves t = (entries_are t).0

  pub leaf_names-leaves : (t : Tree N A) → map (λ e. e.1) (entries_of t) ≡ leaf_names t
  leaf_names-leaves t = (entries_are t).1

  mutual
    -- there are as many leaves as pairs
    pub length-leaf_names : (t : Tree N A) → length (leaf_names t) ≡ length (pairs_of t)
    length-leaf_names (leaf n x) = refl
    length-leaf_names (inner n h cs) = length-leaf_names_below cs

    length-leaf_names_below : (cs : Subtrees N A) → length (leaf_names_below cs) ≡ length (pairs_below cs)
    length-leaf_names_below no_child = refl
    length-leaf_names_below (child b t cs) =
        length-append (leaf_names t) (leaf_names_below cs) ∙ ap₂ ◌+◌ (length-leaf_names t) (length-leaf_names_below cs)
        ∙ sym (length-append (pairs_of t) (pairs_below cs))

  -- trees with the same entries have the same pairs and the same leaves
  pub same_pairs_of : (t u : Tree N A) → entries_of u ≡ entries_of t → pairs_of u ≡ pairs_of t
  same_pairs_of t u e = sym (pairs_of-leaves u) ∙ ap (map (λ e. e.0)) e ∙ pairs_of-leaves t

  -- and the same names of leaves
  pub same_leaf_names : (t u : Tree N A) → entries_of u ≡ entries_of t → leaf_names u ≡ leaf_names t
  same_leaf_names t u e = sym (leaf_names-leaves u) ∙ ap (map (λ e. e.1)) e ∙ leaf_names-leaves t

  -- the pairs and names of the leaves before the hole, and of those after it
  abbrev pub entries_before : List (Frame N A) → List (A × N)
  entries_before [] = []
  entries_before (f ∷ fs) = entries_before fs ++ entries_below f.left

  abbrev pub entries_after : List (Frame N A) → List (A × N)
  entries_after [] = []
  entries_after (f ∷ fs) = entries_below f.right ++ entries_after fs

  -- the entries before the hole, in it and after it
  pub entries_of-plug : (fs : List (Frame N A)) (t : Tree N A) → entries_of (plug fs t) ≡ entries_before fs ++ entries_of t ++ entries_after fs
  entries_of-plug [] t = sym (append-nil (entries_of t))
  entries_of-plug (f ∷ fs) t = entries_of-plug fs (fill f t) ∙ simp (entries_below-join, append_assoc)

  -- the root's name, where the tree in the hole may have another name
  abbrev pub root_with : List (Frame N A) → N → N → N
  root_with [] root hole = hole
  root_with (f ∷ fs) root hole = root

  -- the root's name after a change in the hole
  pub name_of-plug : (fs : List (Frame N A)) (t u : Tree N A) → name_of (plug fs u) ≡ root_with fs (name_of (plug fs t)) (name_of u)
  name_of-plug [] t u = refl
  name_of-plug (f ∷ fs) t u = same_root fs (fill f t) (fill f u) refl
    where
      same_root : (gs : List (Frame N A)) (t u : Tree N A) → name_of u ≡ name_of t → name_of (plug gs u) ≡ name_of (plug gs t)
      same_root [] t u e = e
      same_root (g ∷ gs) t u e = same_root gs (fill g t) (fill g u) refl

-- ---- paths of a radix tree

module _ {N A : Type 0} (bytes : A → List ℕ) (P : ℕ) where
  -- a radix tree in the hole of a frame makes a radix tree
  unfoldable pub fill_radix : (f : Frame N A) (fs : List (Frame N A)) (place : List ℕ) (t : Tree N A) (path : IsPath bytes P place (f ∷ fs)) →
      IsRadix bytes P place t → IsRadix bytes P path.0 (fill f t)
  fill_radix f fs place t (outer, part, e, head, two, up, l, r, path) h =
      let bs = bytes_of-join f.left (child f.byte t f.right) in
      let count = length-append (bytes_of f.left) (f.byte ∷ bytes_of f.right) in (
        part,
        head ∙ ap (λ z. canonical_header P part (length z)) (sym bs),
        rw bs (omega arith),
        subst BytesRise (sym bs) up,
        AreRadix-join bytes P (outer ++ part) f.left (child f.byte t f.right) l (subst (λ w. IsRadix bytes P w t) e h, r),
      )

  -- a radix tree in the hole of a path makes a radix tree
  pub plug_radix : (fs : List (Frame N A)) (place : List ℕ) (t : Tree N A) → IsPath bytes P place fs → IsRadix bytes P place t → IsRadix bytes P [] (plug fs t)
  plug_radix [] place t e h = subst (λ w. IsRadix bytes P w t) e h
  plug_radix (f ∷ fs) place t (outer, part, e, head, two, up, l, r, path) h =
      plug_radix fs outer (fill f t) path (fill_radix f fs place t (outer, part, e, head, two, up, l, r, path) h)

  -- one step down
  pub path_down : (fs : List (Frame N A)) (place : List ℕ) (f : Frame N A) (t : Tree N A) → IsPath bytes P place fs →
      (radix : IsRadix bytes P place (fill f t)) →
      IsPath bytes P ((place ++ radix.0) ++ f.byte ∷ []) (f ∷ fs) × IsRadix bytes P ((place ++ radix.0) ++ f.byte ∷ []) t
  path_down fs place f t path (part, head, two, up, all) =
      let bs = bytes_of-join f.left (child f.byte t f.right) in
      let l = AreRadix-left bytes P (place ++ part) f.left (child f.byte t f.right) all in
      let r = AreRadix-right bytes P (place ++ part) f.left (child f.byte t f.right) all in
      let count = length-append (bytes_of f.left) (f.byte ∷ bytes_of f.right) in
      let two' : 2 ≤ length (bytes_of f.left ++ f.byte ∷ bytes_of f.right) = rw bs at two in
      ((place, part, refl, head ∙ ap (λ z. canonical_header P part (length z)) bs, omega arith, subst BytesRise bs up, l, r.1, path), r.0)

  -- keys before and after a place
  pub path_before : (fs : List (Frame N A)) (place key : List ℕ) → IsPath bytes P place fs → IsFront place key →
      Each (λ x. Precedes (bytes x) key) (pairs_before fs)
  path_before [] place key path k = tt
  path_before (f ∷ fs) place key (outer, part, e, head, two, up, l, r, path) k =
      let k' : IsFront ((outer ++ part) ++ f.byte ∷ []) key = subst (λ w. IsFront w key) e k in
      Each-append (λ x. Precedes (bytes x) key) (pairs_before fs) (pairs_below f.left)
      (path_before fs outer key path (front_cut outer part key (front_cut (outer ++ part) (f.byte ∷ []) key k')))
      (Each-weaker (PartsBelow bytes (outer ++ part) f.byte) (λ x. Precedes (bytes x) key)
      (λ x g. parts bytes (outer ++ part) g.0 f.byte (bytes x) key g.2 k' g.1) (pairs_below f.left)
      (all_below bytes P (outer ++ part) f.byte f.left l (Pairwise-before ◌<◌ (bytes_of f.left) (bytes_of f.right) f.byte up)))

  -- and keys after it
  pub path_after : (fs : List (Frame N A)) (place key : List ℕ) → IsPath bytes P place fs → IsFront place key →
      Each (λ x. Precedes key (bytes x)) (pairs_after fs)
  path_after [] place key path k = tt
  path_after (f ∷ fs) place key (outer, part, e, head, two, up, l, r, path) k =
      let k' : IsFront ((outer ++ part) ++ f.byte ∷ []) key = subst (λ w. IsFront w key) e k in
      Each-append (λ x. Precedes key (bytes x)) (pairs_below f.right) (pairs_after fs)
      (Each-weaker (PartsAbove bytes (outer ++ part) f.byte) (λ x. Precedes key (bytes x))
      (λ x g. parts bytes (outer ++ part) f.byte g.0 key (bytes x) k' g.2 g.1) (pairs_below f.right)
      (all_above bytes P (outer ++ part) f.byte f.right r (Pairwise-after ◌<◌ (bytes_of f.left) (bytes_of f.right) f.byte up)))
      (path_after fs outer key path (front_cut outer part key (front_cut (outer ++ part) (f.byte ∷ []) key k')))

  -- so the pairs that are related to the key are in the hole
  pub related_at : (fs : List (Frame N A)) (place key : List ℕ) (t : Tree N A) → IsPath bytes P place fs → IsFront place key →
      related_to bytes key (pairs_of (plug fs t)) ≡ related_to bytes key (pairs_of t)
  related_at fs place key t path front =
      let before =
      filter_none (λ x. are_related key (bytes x)) (pairs_before fs)
      (Each-weaker (λ x. Precedes (bytes x) key) (λ x. are_related key (bytes x) ≡ false) (λ x h. related_sym key (bytes x) ∙ h.1)
      (pairs_before fs) (path_before fs place key path front)) in
      let after =
      filter_none (λ x. are_related key (bytes x)) (pairs_after fs)
      (Each-weaker (λ x. Precedes key (bytes x)) (λ x. are_related key (bytes x) ≡ false) (λ x h. h.1) (pairs_after fs) (path_after fs place key path front)) in
      rw pairs_of-plug (simp (filter-append, before, after) (append-nil (related_to bytes key (pairs_of t))))

  -- what such a tree is: a radix tree in the hole of a path
  pub radix_plug : (fs : List (Frame N A)) (t : Tree N A) → IsRadix bytes P [] (plug fs t) →
      (place : List ℕ) × IsPath bytes P place fs × IsRadix bytes P place t
  radix_plug [] t h = ([], refl, h)
  radix_plug (f ∷ fs) t h =
      let (outer, path, node) = radix_plug fs (fill f t) h in
      let (down, radix) = path_down fs outer f t path node in
      ((outer ++ node.0) ++ f.byte ∷ [], down, radix)

-- the tree in the hole of a path is a radix tree at a place that is a prefix of the key
pub record IsHole {N A : Type 0} (bytes : A → List ℕ) (P : ℕ) (fs : List (Frame N A)) (place : List ℕ) (t : Tree N A) (key : List ℕ) : Type 0 where
  pub path : IsPath bytes P place fs
  pub radix : IsRadix bytes P place t
  pub front : IsFront place key

-- in a radix tree each path is one, and what is in its hole is a hole for each of its pairs
pub hole_of : {N A : Type 0} (bytes : A → List ℕ) (P : ℕ) (fs : List (Frame N A)) (t : Tree N A) (x : A) → IsRadix bytes P [] (plug fs t) →
    IsIn x (pairs_of t) → (place : List ℕ) × IsHole bytes P fs place t (bytes x)
hole_of bytes P fs t x radix i =
    let (place, path, own) = radix_plug bytes P fs t radix in
    (place, record { path = path; radix = own; front = each_in (λ y. IsFront place (bytes y)) x (pairs_of t) (radix_way bytes P t place own) i })

-- A change in the hole of a path is a change of the whole, where it is a local one at a key that continues from the hole.
module _ {N A : Type 0} (bytes : A → List ℕ) (P : ℕ) (fs : List (Frame N A)) (place : List ℕ) (path : IsPath bytes P place fs)
    (t u : Tree N A) (radix : IsRadix bytes P place u) where
  -- the tree is a radix tree again, and its pairs are those of the change
  pub changed_at : (key : List ℕ) (F : List A → List A) → IsLocal bytes key F → IsFront place key → pairs_of u ≡ F (pairs_of t) →
      IsRadix bytes P [] (plug fs u) × (pairs_of (plug fs u) ≡ F (pairs_of (plug fs t)))
  changed_at key F local k e = (
    plug_radix bytes P fs place u path radix,
    rw (
      pairs_of-plug fs u,
      pairs_of-plug fs t,
      local (pairs_before fs) (pairs_of t) (pairs_after fs) (path_before bytes P fs place key path k)
          (path_after bytes P fs place key path k),
      e,
    ) refl,
  )
