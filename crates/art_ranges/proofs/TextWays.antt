-- The descent along a query, with the text that is kept so far.
use Rattle.std.proofs.Common.{◌≡◌, ◌≢◌, ℕ, ◌+◌, ◌<◌, ◌≤◌, ◌⊎◌, List, [], ◌∷◌, ◌++◌, length, length-append, get_or, refl, ap, sym, ◌∙◌, subst, arith, append-nil, Option, Some, None, inl, inr}
use Rattle.std.specs.Bool.{⊤}
use Rattle.std.specs.List.{AllByRecursion as Each}
use Rattle.std.specs.Option.{option_map, unwrap_or}
use Rattle.std.specs.Prelude.{IsSome}
use Rattle.std.proofs.lemmas.Bool.{cases_lt}
use Rattle.art_inner.specs.Inner.{Inner, child_at}
use Rattle.art_nodes.specs.Nodes.{Nodes}
use Rattle.art_parts.specs.Names.{inner_name, leaf_name}
use Rattle.art_parts.specs.declared.names.InnerPtr.{InnerPtr}
use Rattle.art_parts.specs.declared.names.LeafPtr.{LeafPtr}
use Rattle.art_parts.specs.declared.names.NodeType.TheVariants.{Leaf}
use Rattle.art_parts.specs.declared.names.OpaqueNodePtr.{OpaqueNodePtr}
use Rattle.art_model.specs.Canonical.{IsCanonicalTree}
use Rattle.art_model.specs.Footprints.{IsIn}
use Rattle.art_parts.specs.Keys.{IsFront}
use Rattle.art_model.specs.Layouts.{Holds, name_of}
use Rattle.art_model.specs.Lookups.{HasLeaf}
use Rattle.art_model.specs.Pairs.{without_last}
use Rattle.art_model.specs.Places.{prefix_of}
use Rattle.art_model.specs.Paths.{plug, pairs_before, pairs_after}
use Rattle.art_model.specs.Radix.{IsRadix, AreRadix, bytes_of, pairs_of, pairs_below}
use Rattle.art_model.specs.Stores.{header_at, node_at}
use Rattle.art_model.specs.Trees.{Tree, leaf, inner, Subtrees, child, no_child, NodeHeader}
use Rattle.art_model.proofs.lists.Filters.{Each-both}
use Rattle.art_model.proofs.lists.Lists.{Each-append, Each-left, Each-right, Each-weaker, front_cut, front_trans}
use Rattle.art_model.proofs.places.OnWay.{byte_after, child_under}
use Rattle.art_model.proofs.places.Places.{prefix_is}
use Rattle.art_model.proofs.places.Paths.{pairs_of-plug}
use Rattle.art_model.proofs.radix.Radix.{AreRadix-right}
use Rattle.art_model.proofs.radix.Rebuild.{radix_some, radix_way}
use Rattle.art_model.proofs.stores.Canonical.{tree_radix}
use Rattle.art_model.proofs.stores.Shown.{IsShown, leaf_named}
use Rattle.art_model.proofs.stores.Views.{inner_name_is}
use Rattle.art_reading.specs.PartEnds.{StandsBetween}
use Rattle.art_reading.proofs.Descents.{IsDescent, start, stands_there, shown_radix, front, front_len, child_there, each_under, down}
use Rattle.art_model.specs.Texts.{AreEnded, IsEndedBy, text_of}
use Rattle.art_ranges.specs.ShortTexts.{IsSought}
use Rattle.art_ranges.specs.TextWays.{EndsAt, EndsWalk, IsKept, IsLeafOr, IsTextStep}
use Rattle.art_reading.specs.declared.lookup.descent.End.{End}
use Rattle.art_reading.specs.declared.lookup.descent.End.TheVariants.{First, Last}
use Rattle.art_ranges.specs.declared.texts.TextEnd.{TextEnd}
use Rattle.art_ranges.specs.declared.texts.TextEnd.TheVariants.{Whole}
use Rattle.art_model.proofs.keys.Texts.{ended_text, front_in_text, front_of_fronts, front_short, goes_within, mark_ends}

pub unmapped : {A B : Type 0} (f : A → B) (o : Option A) → option_map f o ≡ None → o ≡ None
unmapped f None e = refl
unmapped f (Some x) e = absurd cc

pub same_parts : {A B : Type 0} {a c : A} {b d : B} → ◌≡◌ {A = Option (A × B)} (Some (a, b)) (Some (c, d)) → (a ≡ c) × (b ≡ d)
same_parts {A = A} {B = B} {a = a} {b = b} e =
    let both : ◌≡◌ {A = A × B} (a, b) _ = ap (λ o. unwrap_or o (a, b)) e in
    (ap (λ (both : A × B). both.0) both, ap (λ (both : A × B). both.1) both)

pub kept_same : (kept : End) (f t : List ℕ) → f ≡ t → IsKept kept f t
kept_same First f t same = ([], sym same ∙ sym (append-nil f))
kept_same Last f t same = ([], same ∙ sym (append-nil t))

pub none_kept : {A : Type 0} (found : Option A) → (IsSome found → ⊥) → found ≡ None
none_kept None off = refl
none_kept (Some x) off = absurd (off refl)

-- a text was found that is kept of it and this one
abbrev Covered : End → Option (List ℕ) → List ℕ → Type 0
Covered kept None t = ⊥
Covered kept (Some f) t = IsKept kept f t

-- the text that was found is a prefix of the query
abbrev IsOnTrack : Option (List ℕ) → List ℕ → Type 0
IsOnTrack None query = ⊤
IsOnTrack (Some f) query = IsFront f query

module _ {A : Type 0} (bytes : A → List ℕ) (end : ℕ) (query : List ℕ) (at_least : ℕ) (kept : End) where
  -- if the text of the pair is searched for, one was found that is kept of both
  abbrev pub IsCovered : Option (List ℕ) → A → Type 0
  IsCovered found x = (t : List ℕ) → bytes x ≡ t ++ end ∷ [] → IsFront t query → at_least ≤ length t → Covered kept found t

  -- if the query is a prefix of the key of the pair, what was found is a prefix of the query
  abbrev IsAlong : Option (List ℕ) → A → Type 0
  IsAlong found x = IsFront query (bytes x) → IsOnTrack found query

  -- A pair outside the path.
  pub record IsAside (found : Option (List ℕ)) (x : A) : Type 0 where
    pub covered : IsCovered found x
    pub off : IsFront query (bytes x) → ⊥

  module _ (tree : Tree OpaqueNodePtr A) (place : List ℕ) where
    -- The leaf of the text that was found, which leads to the place.
    pub record IsBest (best : LeafPtr) (f : List ℕ) : Type 0 where
      pub x : A
      pub has : HasLeaf tree (leaf_name best) x
      pub ended : bytes x ≡ f ++ end ∷ []
      pub above : Each (λ byte. end < byte) f
      pub leads : IsFront f place
      pub short : length f ≤ length query
      pub long : at_least ≤ length f

    abbrev IsFound : Option LeafPtr → Option (List ℕ) → Type 0
    IsFound None None = ⊤
    IsFound None (Some f) = ⊥
    IsFound (Some best) None = ⊥
    IsFound (Some best) (Some f) = IsBest best f

module _ {A : Type 0} (bytes : A → List ℕ) (end : ℕ) (query : List ℕ) (at_least : ℕ) (kept : End) (tree : Tree OpaqueNodePtr A) where
  -- what leads to a place leads further
  leads_on : (place further : List ℕ) → IsFront place further → (best : Option LeafPtr) (found : Option (List ℕ)) →
      IsFound bytes end query at_least kept tree place best found → IsFound bytes end query at_least kept tree further best found
  leads_on place further on None None is = tt
  leads_on place further on None (Some f) is = is
  leads_on place further on (Some best) None is = is
  leads_on place further on (Some best) (Some f) is = record {
    x = is.x;
    has = is.has;
    ended = is.ended;
    above = is.above;
    leads = front_trans f place further is.leads on;
    short = is.short;
    long = is.long;
  }

  -- a key that starts with the place, and with the query
  along_place : (place : List ℕ) (best : Option LeafPtr) (found : Option (List ℕ)) → IsFound bytes end query at_least kept tree place best found →
      (x : A) → IsFront place (bytes x) → IsAlong bytes end query at_least kept found x
  along_place place None None is x at begins = tt
  along_place place None (Some f) is x at begins = absurd is
  along_place place (Some best) None is x at begins = absurd is
  along_place place (Some best) (Some f) is x at begins = front_of_fronts f query (bytes x) (front_trans f place (bytes x) is.leads at) begins is.short

  -- the path ends, and all pairs are covered
  pub finish : (place : List ℕ) (best : Option LeafPtr) (found : Option (List ℕ)) → IsFound bytes end query at_least kept tree place best found →
      (xs : List A) → AreEnded bytes end xs →
      Each (IsCovered bytes end query at_least kept found) xs → Each (IsAlong bytes end query at_least kept found) xs → EndsWalk bytes query at_least kept xs tree best
  finish place None None is xs ended covered along =
      Each-both (λ x. IsEndedBy end (bytes x)) (IsCovered bytes end query at_least kept None) (λ x. IsSought bytes query at_least x → ⊥)
      (λ x e c (f, m).
      let text : text_of bytes x ≡ e.text = ap without_last e.is ∙ ended_text e.text end in
      c e.text e.is (subst (λ z. IsFront z query) text f) (subst (λ z. at_least ≤ length z) text m)) xs ended covered
  finish place None (Some f) is xs ended covered along = absurd is
  finish place (Some best) None is xs ended covered along = absurd is
  finish place (Some best) (Some f) is xs ended covered along =
      let own : text_of bytes is.x ≡ f = ap without_last is.ended ∙ ended_text f end in
      record {
        pair = is.x;
        has = is.has;
        covers = Each-both (λ x. IsEndedBy end (bytes x)) (IsCovered bytes end query at_least kept (Some f))
            (λ x. IsSought bytes query at_least x → IsKept kept (text_of bytes is.x) (text_of bytes x))
            (λ x e c (g, m).
            let text : text_of bytes x ≡ e.text = ap without_last e.is ∙ ended_text e.text end in
            subst (λ z. IsKept kept z (text_of bytes x)) (sym own)
            (subst (IsKept kept f) (sym text)
            (c e.text e.is (subst (λ z. IsFront z query) text g) (subst (λ z. at_least ≤ length z) text m)))) xs ended covered;
        along = Each-weaker (IsAlong bytes end query at_least kept (Some f)) (λ x. IsFront query (bytes x) → IsFront (text_of bytes is.x) query)
            (λ x a b. subst (λ z. IsFront z query) (sym own) (a b)) xs along;
        short = subst (λ z. length z ≤ length query) (sym own) is.short;
        long = subst (λ z. at_least ≤ length z) (sym own) is.long;
      }

-- The descent to a node, between pairs outside it, with the longest text so far; that to the shortest one has found none.
pub record IsNestedWay {A : Type 0} (bytes : A → List ℕ) (P end : ℕ) (query : List ℕ) (at_least : ℕ) (kept : End)
    (tree : Tree OpaqueNodePtr A) (name : OpaqueNodePtr) (depth : ℕ) (best : Option LeafPtr) : Type 0 where
  pub found : Option (List ℕ)
  pub descent : IsDescent bytes P (IsAside bytes end query at_least kept found) (IsAside bytes end query at_least kept found) tree name depth
  pub is_found : IsFound bytes end query at_least kept tree descent.place best found
  pub fresh : kept ≡ First → best ≡ None

-- What was found at a node with this whole prefix, and children under these bytes.
pub record IsBetter {A : Type 0} (bytes : A → List ℕ) (end : ℕ) (query : List ℕ) (at_least : ℕ) (kept : End)
    (tree : Tree OpaqueNodePtr A) (w cs : List ℕ) (before : Option (List ℕ)) (after : Option LeafPtr) : Type 0 where
  pub found : Option (List ℕ)
  pub is_found : IsFound bytes end query at_least kept tree w after found
  pub outer : (t : List ℕ) → Covered kept before t → Covered kept found t
  pub here : (c : ℕ) → IsIn c cs → c ≡ end → at_least ≤ length w → Covered kept found w
  pub first : (n : LeafPtr) → kept ≡ First → after ≡ Some n → (t : List ℕ) → IsFront w t → Covered kept found t

pub each_top : {A : Type 0} (xs : List A) → Each (λ x. ⊤) xs
each_top [] = tt
each_top (x ∷ xs) = (tt, each_top xs)

module _ {A : Type 0} (bytes : A → List ℕ) (P : ℕ) (w : List ℕ) (end : ℕ) where
  -- what continues after a text and its mark is a leaf
  no_inner : (n : OpaqueNodePtr) (h : NodeHeader) (cs : Subtrees OpaqueNodePtr A) → IsRadix bytes P (w ++ end ∷ []) (inner n h cs) →
      AreEnded bytes end (pairs_below cs) → ⊥
  no_inner n h no_child radix ended = let two = radix.2 in omega arith
  no_inner n h (child b t cs) radix ended =
      let place = ((w ++ end ∷ []) ++ radix.0) ++ b ∷ [] in
      let (y, ys, is) = radix_some bytes P t (((w ++ end ∷ []) ++ radix.0) ++ b ∷ []) radix.4.0 in
      let leads = (subst (Each (λ x. IsFront (((w ++ end ∷ []) ++ radix.0) ++ b ∷ []) (bytes x))) is
      (radix_way bytes P t (((w ++ end ∷ []) ++ radix.0) ++ b ∷ []) radix.4.0)).0 in
      let e = (subst (AreEnded bytes end) is (Each-left (λ x. IsEndedBy end (bytes x)) (pairs_of t) (pairs_below cs) ended)).0 in
      let (r, f) = front_cut (w ++ end ∷ []) radix.0 (bytes y) (front_cut ((w ++ end ∷ []) ++ radix.0) (b ∷ []) (bytes y) leads) in
      let same = ap length (mark_ends w r e.text end e.above (sym e.is ∙ f)) in
      let long = ap length (sym e.is ∙ leads.1) in
      omega (arith, simp length-append at long)

-- the leaf of a child that is under the mark
pub record IsMarked {A : Type 0} (bytes : A → List ℕ) (end : ℕ) (tree : Tree OpaqueNodePtr A) (w : List ℕ) (best : LeafPtr) : Type 0 where
  pub x : A
  pub has : HasLeaf tree (leaf_name best) x
  pub ended : bytes x ≡ w ++ end ∷ []
  pub above : Each (λ byte. end < byte) w

module _ {K V : Type 0} {s : Nodes K V} {bytes : K × V → List ℕ} {P : ℕ} {root : OpaqueNodePtr} {pairs : List (K × V)} {layout : Tree OpaqueNodePtr (K × V)}
    (by : IsCanonicalTree bytes P s root pairs layout) (end : ℕ) (query : List ℕ) (at_least : ℕ) (kept : End) where
  pub way_begins : IsNestedWay bytes P end query at_least kept layout root 0 None
  way_begins = record { found = None; descent = start by; is_found = tt; fresh = λ first. refl }

  -- the pairs are those of the tree
  pub ended_all : AreEnded bytes end pairs → AreEnded bytes end (pairs_of layout)
  ended_all = subst (AreEnded bytes end) (sym (tree_radix by).1)

  pub over_ends : (result : TextEnd) → EndsAt bytes query at_least kept (pairs_of layout) layout result → EndsAt bytes query at_least kept pairs layout result
  over_ends result = subst (λ xs. EndsAt bytes query at_least kept xs layout result) (tree_radix by).1

  module _ (ended : AreEnded bytes end (pairs_of layout)) where
    -- a part of the tree
    pub ended_at : {Lower Upper : K × V → Type 0} {name : OpaqueNodePtr} (at : StandsBetween Lower Upper layout name) → AreEnded bytes end (pairs_of at.node)
    ended_at at =
        let Q : K × V → Type 0 = λ x. IsEndedBy end (bytes x) in
        let split = subst (AreEnded bytes end) (ap pairs_of (sym at.whole) ∙ pairs_of-plug at.path at.node) ended in
        Each-right (λ x. IsEndedBy end (bytes x)) (pairs_before at.path) (pairs_of at.node)
        (Each-left (λ x. IsEndedBy end (bytes x)) (pairs_before at.path ++ pairs_of at.node) (pairs_after at.path) split)

    -- a child after a text and its mark is a leaf
    module _ (w : List ℕ) {to : OpaqueNodePtr} (at : StandsBetween (λ x. ⊤) (λ x. ⊤) layout to) (radix : IsRadix bytes P (w ++ end ∷ []) at.node) where
      pub marked : {p : LeafPtr} → leaf_name p ≡ to → IsMarked bytes end layout w p
      marked {p} named =
          let there = stands_there by at in
          let (x, is) = leaf_named s p at.node (there.named ∙ sym named) there.holds in
          let leads = subst (IsRadix bytes P (w ++ end ∷ [])) is radix in
          let e = (subst (λ t. AreEnded bytes end (pairs_of t)) is (ended_at at)).0 in
          let same = mark_ends w leads.0 e.text end e.above (sym e.is ∙ leads.1) in
          record {
            x = x;
            has = record { path = at.path; whole = ap (plug at.path) (sym is) ∙ at.whole };
            ended = e.is ∙ ap (λ z. z ++ end ∷ []) same;
            above = subst (Each (λ byte. end < byte)) same e.above;
          }

      pub not_inner : (to.kind ≢ Leaf) → ⊥
      not_inner proper = go at.node (stands_there by at).named (stands_there by at).holds radix (ended_at at)
        where
          go : (t : Tree OpaqueNodePtr (K × V)) → name_of t ≡ to → Holds (node_at s) t → IsRadix bytes P (w ++ end ∷ []) t → AreEnded bytes end (pairs_of t) → ⊥
          go (leaf n x) named held r e = inner_name_is s (record { kind = to.kind; slot = to.slot }) x proper (ap (node_at s) (sym named) ∙ held)
          go (inner n h cs) named held r e = no_inner bytes P w end n h cs r e

    module _ {name : OpaqueNodePtr} {depth : ℕ} {best : Option LeafPtr} (way : IsNestedWay bytes P end query at_least kept layout name depth best) where
      -- what holds of the pairs outside the path and of those at the node holds of all
      every : (Q : K × V → Type 0) → ((y : K × V) → IsAside bytes end query at_least kept way.found y → Q y) →
          Each Q (pairs_of way.descent.at.node) → Each Q (pairs_of layout)
      every Q aside own =
          let at = way.descent.at in
          subst (Each Q) (sym (ap pairs_of (sym at.whole) ∙ pairs_of-plug at.path at.node))
          (Each-append Q (pairs_before at.path ++ pairs_of at.node) (pairs_after at.path)
          (Each-append Q (pairs_before at.path) (pairs_of at.node)
          (Each-weaker (IsAside bytes end query at_least kept way.found) Q aside (pairs_before at.path) at.before) own)
          (Each-weaker (IsAside bytes end query at_least kept way.found) Q aside (pairs_after at.path) at.after))

      -- what was found so far gives way to a text that starts with it
      widen : (u : List ℕ) → ((f : List ℕ) → Each (λ byte. end < byte) f → IsFront f way.descent.place → IsFront f u) →
          (t : List ℕ) → Covered kept way.found t → IsKept kept u t
      widen u on = go kept best way.found way.fresh way.is_found
        where
          go : (k : End) (best : Option LeafPtr) (found : Option (List ℕ)) → (k ≡ First → best ≡ None) →
              IsFound bytes end query at_least kept layout way.descent.place best found → (t : List ℕ) → Covered k found t → IsKept k u t
          go k b None fresh i t c = absurd c
          go k None (Some f) fresh i t c = absurd i
          go First (Some b) (Some f) fresh i t c = let none = fresh refl in absurd cc
          go Last (Some b) (Some f) fresh i t c = front_trans t f u c (on f i.above i.leads)

      -- ---- at a leaf
      module _ (n : LeafPtr) (x : K × V) (is : way.descent.at.node ≡ leaf (leaf_name n) x) where
        leads_leaf : IsFront way.descent.place (bytes x)
        leads_leaf = subst (IsRadix bytes P way.descent.place) is way.descent.radix

        all : (Q : K × V → Type 0) → ((y : K × V) → IsAside bytes end query at_least kept way.found y → Q y) → Q x → Each Q (pairs_of layout)
        all Q aside own = every Q aside (subst (λ t. Each Q (pairs_of t)) (sym is) (own, tt))

        -- whose text is not searched for
        pub other_leaf : (IsSought bytes query at_least x → ⊥) → EndsWalk bytes query at_least kept (pairs_of layout) layout best
        other_leaf off =
            finish bytes end query at_least kept layout way.descent.place best way.found way.is_found (pairs_of layout) ended
            (all (IsCovered bytes end query at_least kept way.found) (λ y a. a.covered)
            (λ t e f m.
            let own : text_of bytes x ≡ t = ap without_last e ∙ ended_text t end in
            absurd (off (subst (λ z. IsFront z query × (at_least ≤ length z)) (sym own) (f, m)))))
            (all (IsAlong bytes end query at_least kept way.found) (λ y a b. absurd (a.off b))
            (along_place bytes end query at_least kept layout way.descent.place best way.found way.is_found x leads_leaf))

        -- whose text is searched for
        pub own_leaf : IsSought bytes query at_least x → EndsAt bytes query at_least kept (pairs_of layout) layout (Whole n)
        unfolding finish
        own_leaf (on, long) =
            let e = (subst (λ t. AreEnded bytes end (pairs_of t)) is (ended_at way.descent.at)).0 in
            let text : text_of bytes x ≡ e.text = ap without_last e.is ∙ ended_text e.text end in
            let own : IsFront e.text query = subst (λ z. IsFront z query) text on in
            let in_text = widen e.text (λ f above leads.
            front_in_text f e.text end above (front_trans f way.descent.place (e.text ++ end ∷ []) leads (subst (IsFront way.descent.place) e.is leads_leaf))) in (
              finish bytes end query at_least kept layout e.text (Some n) (Some e.text)
                  (record {
                    x = x;
                    has = record { path = way.descent.at.path; whole = ap (plug way.descent.at.path) (sym is) ∙ way.descent.at.whole };
                    ended = e.is;
                    above = e.above;
                    leads = ([], sym (append-nil e.text));
                    short = front_short e.text query own;
                    long = subst (λ z. at_least ≤ length z) text long;
                  }) (pairs_of layout) ended
                  (all (IsCovered bytes end query at_least kept (Some e.text)) (λ y a t i f m. in_text t (a.covered t i f m))
                  (λ t i f m. kept_same kept e.text t (sym text ∙ ap without_last i ∙ ended_text t end)))
                  (all (IsAlong bytes end query at_least kept (Some e.text)) (λ y a b. absurd (a.off b)) (λ b. own)),
              on,
            )

      -- ---- at an inner node
      module _ {p : InnerPtr} {shown : Inner} (at : IsShown way.descent.at.node p shown) where
        -- the place and the whole prefix, read off the node
        abbrev pub whole : List ℕ
        whole = way.descent.place ++ prefix_of bytes depth way.descent.at.node

        front_whole : {Lower Upper : K × V → Type 0} (d : IsDescent bytes P Lower Upper layout name depth)
            (there : IsShown d.at.node p shown) → front d there ≡ d.place ++ prefix_of bytes depth d.at.node
        front_whole d there =
            ap (λ z. d.place ++ z) (sym (ap (prefix_of bytes depth) there.is
            ∙ subst (λ n. prefix_of bytes n (inner (inner_name p) (header_at p.kind shown) there.children) ≡ (shown_radix d there).0) d.depth_is
            (prefix_is bytes P (inner_name p) (header_at p.kind shown) there.children d.place (shown_radix d there))))

        whole_len : length whole ≡ depth + shown.prefix.len
        whole_len = ap length (sym (front_whole way.descent at)) ∙ front_len way.descent at

        place_whole : IsFront way.descent.place whole
        place_whole = (prefix_of bytes depth way.descent.at.node, refl)

        -- the child under a byte
        child_of : (b : ℕ) {to : OpaqueNodePtr} → child_at shown.children b ≡ Some to →
            (at : StandsBetween (λ x. ⊤) (λ x. ⊤) layout to) × IsRadix bytes P (whole ++ b ∷ []) at.node
        child_of b {to} there =
            let d = way.descent in
            let u = child_under at.children b to (shown_radix way.descent at).3 (ap (λ cs. child_at cs b) (sym at.slots) ∙ there) in
            let below = subst (AreRadix bytes P (front way.descent at)) u.whole (shown_radix way.descent at).4 in
            let own = (AreRadix-right bytes P (front way.descent at) u.left (child b u.tree u.right) below).0 in (
              record {
                path = record { mark = inner_name p; header = header_at p.kind shown; left = u.left; byte = b; right = u.right } ∷ way.descent.at.path;
                node = u.tree;
                whole = ap (λ cs. plug way.descent.at.path (inner (inner_name p) (header_at p.kind shown) cs)) (sym u.whole)
                    ∙ ap (plug way.descent.at.path) (sym at.is) ∙ way.descent.at.whole;
                named = u.named;
                before = each_top _;
                after = each_top _;
              },
              subst (λ z. IsRadix bytes P (z ++ b ∷ []) u.tree) (front_whole way.descent at) own,
            )

        -- nothing more is found
        same_best : {after : Option LeafPtr} → after ≡ best → ((c : ℕ) → IsIn c (bytes_of at.children) → c ≡ end → at_least ≤ length whole → ⊥) →
            IsBetter bytes end query at_least kept layout whole (bytes_of at.children) way.found after
        same_best is none = record {
          found = way.found;
          is_found = subst (λ b. IsFound bytes end query at_least kept layout whole b way.found) (sym is)
              (leads_on bytes end query at_least kept layout way.descent.place whole place_whole best way.found way.is_found);
          outer = λ t c. c;
          here = λ c i e m. absurd (none c i e m);
          first = λ n f some t g. let empty = way.fresh f in absurd cc;
        }

        -- what is under the mark is found
        better : at_least ≤ length whole → length whole ≤ length query → (to : Option OpaqueNodePtr) → child_at shown.children end ≡ to →
            {after : Option LeafPtr} → IsLeafOr to best after →
            IsBetter bytes end query at_least kept layout whole (bytes_of at.children) way.found after
        better long short None none is = same_best is (λ c i e m. child_there way.descent at c i (ap (child_at shown.children) e ∙ none))
        better long short (Some to) there (inl (q, named, is)) =
            let m = marked whole (child_of end there).0 (child_of end there).1 named in
            record {
              found = Some whole;
              is_found = subst (λ b. IsFound bytes end query at_least kept layout whole b (Some whole)) (sym is)
                  (record { x = m.x; has = m.has; ended = m.ended; above = m.above; leads = ([], sym (append-nil whole)); short = short; long = long });
              outer = widen whole (λ f above leads. front_trans f way.descent.place whole leads place_whole);
              here = λ c i e m. kept_same kept whole whole refl;
              first = λ n f some t g. subst (λ k. IsKept k whole t) (sym f) g;
            }
        better long short (Some to) there (inr (proper, is)) = absurd (not_inner whole (child_of end there).0 (child_of end there).1 proper)

        -- the path ends here: what was found, and that no text of a pair below continues with the query
        module _ (after : Option LeafPtr) (found : Option (List ℕ)) (is_found : IsFound bytes end query at_least kept layout whole after found)
            (outer : (t : List ℕ) → Covered kept way.found t → Covered kept found t) where
          pub ends : ((c : ℕ) → IsIn c (bytes_of at.children) → (x : K × V) → IsFront (whole ++ c ∷ []) (bytes x) →
              IsCovered bytes end query at_least kept found x) → EndsWalk bytes query at_least kept (pairs_of layout) layout after
          ends covered =
              finish bytes end query at_least kept layout whole after found is_found (pairs_of layout) ended
              (every (IsCovered bytes end query at_least kept found) (λ x a t e f m. outer t (a.covered t e f m))
              (below (IsCovered bytes end query at_least kept found) covered))
              (every (IsAlong bytes end query at_least kept found) (λ x a begins. absurd (a.off begins))
              (below (IsAlong bytes end query at_least kept found)
              (λ c i x leads. along_place bytes end query at_least kept layout whole after found is_found x (front_cut whole (c ∷ []) (bytes x) leads))))
            where
              below : (Q : K × V → Type 0) → ((c : ℕ) → IsIn c (bytes_of at.children) → (x : K × V) → IsFront (whole ++ c ∷ []) (bytes x) → Q x) →
                  Each Q (pairs_of way.descent.at.node)
              below Q h = each_under way.descent at Q (λ c i x leads. h c i x (subst (λ z. IsFront (z ++ c ∷ []) (bytes x)) (front_whole way.descent at) leads))

        -- the query ends before the prefix does
        ends_short : length query < length whole → EndsWalk bytes query at_least kept (pairs_of layout) layout best
        ends_short less =
            ends best way.found (leads_on bytes end query at_least kept layout way.descent.place whole place_whole best way.found way.is_found) (λ t c. c)
            (λ c i x leads t e f m. absurd (go t f (goes_within whole c leads.0 t end (sym e ∙ leads.1))))
          where
            go : (t : List ℕ) → IsFront t query → {c : ℕ} → ((t ≡ whole) × (c ≡ end)) ⊎ IsFront (whole ++ c ∷ []) t → ⊥
            go t f (inl (same, mark)) = let l = ap length same in let k = front_short t query f in omega arith
            go t f {c} (inr g) = let l = front_short whole t (front_cut whole (c ∷ []) t g) in let k = front_short t query f in omega arith

        module _ {after : Option LeafPtr} (b : IsBetter bytes end query at_least kept layout whole (bytes_of at.children) way.found after) where
          -- below a byte that is not the query's next one
          covered_off : (c : ℕ) → IsIn c (bytes_of at.children) → (IsFront (whole ++ c ∷ []) query → ⊥) → (x : K × V) →
              IsFront (whole ++ c ∷ []) (bytes x) → IsCovered bytes end query at_least kept b.found x
          covered_off c i off x leads t e f m = go (goes_within whole c leads.0 t end (sym e ∙ leads.1))
            where
              go : ((t ≡ whole) × (c ≡ end)) ⊎ IsFront (whole ++ c ∷ []) t → Covered kept b.found t
              go (inl (same, mark)) = subst (Covered kept b.found) (sym same) (b.here c i mark (subst (λ z. at_least ≤ length z) same m))
              go (inr g) = absurd (off (front_trans (whole ++ c ∷ []) t query g f))

          -- no text continues with the query
          ends_here : ((c : ℕ) → IsIn c (bytes_of at.children) → IsFront (whole ++ c ∷ []) query → ⊥) → EndsWalk bytes query at_least kept (pairs_of layout) layout after
          ends_here off = ends after b.found b.is_found b.outer (λ c i x leads. covered_off c i (off c i) x leads)

          -- the query ends with the prefix
          pub ends_with : length query ≡ length whole → EndsWalk bytes query at_least kept (pairs_of layout) layout after
          ends_with same = ends_here (λ c i f. let l = front_short (whole ++ c ∷ []) query f in let k = length-append whole (c ∷ []) in absurd (omega arith))

          module _ (long : length whole < length query) where
            next_byte : (c : ℕ) → IsFront (whole ++ c ∷ []) query → c ≡ get_or query (length whole) 0
            next_byte c f = sym (byte_after whole query c f)

            -- there is no child for the query's next byte
            ends_gap : child_at shown.children (get_or query (length whole) 0) ≡ None → EndsWalk bytes query at_least kept (pairs_of layout) layout after
            ends_gap none = ends_here (λ c i f. child_there way.descent at c i (ap (child_at shown.children) (next_byte c f) ∙ none))

            -- the path continues below that child
            pub goes_on : (kept ≡ First → after ≡ None) → {to : OpaqueNodePtr} → child_at shown.children (get_or query (length whole) 0) ≡ Some to →
                IsNestedWay bytes P end query at_least kept layout to (depth + shown.prefix.len + 1) after
            goes_on fresh {to} there =
                let now = down turned at (get_or query (length whole) 0) there
                (λ c i less x leads. aside c i (λ e. absurd (omega arith)) x (subst (λ z. IsFront (z ++ c ∷ []) (bytes x)) (front_whole turned at) leads))
                (λ c i more x leads. aside c i (λ e. absurd (omega arith)) x (subst (λ z. IsFront (z ++ c ∷ []) (bytes x)) (front_whole turned at) leads)) in
                record {
                  found = b.found;
                  descent = now;
                  is_found = leads_on bytes end query at_least kept layout whole (front turned at ++ get_or query (length whole) 0 ∷ [])
                      (subst (λ z. IsFront whole (z ++ get_or query (length whole) 0 ∷ [])) (sym (front_whole turned at))
                      (get_or query (length whole) 0 ∷ [], refl))
                      after b.found b.is_found;
                  fresh = fresh;
                }
              where
                turned : IsDescent bytes P (IsAside bytes end query at_least kept b.found) (IsAside bytes end query at_least kept b.found) layout name depth
                turned = record {
                  at = record {
                    path = way.descent.at.path;
                    node = way.descent.at.node;
                    whole = way.descent.at.whole;
                    named = way.descent.at.named;
                    before = Each-weaker (IsAside bytes end query at_least kept way.found) (IsAside bytes end query at_least kept b.found) turn
                        (pairs_before way.descent.at.path) way.descent.at.before;
                    after = Each-weaker (IsAside bytes end query at_least kept way.found) (IsAside bytes end query at_least kept b.found) turn
                        (pairs_after way.descent.at.path) way.descent.at.after;
                  };
                  place = way.descent.place;
                  radix = way.descent.radix;
                  depth_is = way.descent.depth_is;
                }
                  where
                    turn : (x : K × V) → IsAside bytes end query at_least kept way.found x → IsAside bytes end query at_least kept b.found x
                    turn x a = record { covered = λ t e f m. b.outer t (a.covered t e f m); off = a.off }

                aside : (c : ℕ) → IsIn c (bytes_of at.children) → (c ≡ get_or query (length whole) 0 → ⊥) → (x : K × V) →
                    IsFront (whole ++ c ∷ []) (bytes x) → IsAside bytes end query at_least kept b.found x
                aside c i other x leads = record {
                  covered = covered_off c i (λ f. other (next_byte c f)) x leads;
                  off = λ begins. other (next_byte c (front_of_fronts (whole ++ c ∷ []) query (bytes x) leads begins
                      (let k = length-append whole (c ∷ []) in omega arith)));
                }

        -- a step at the node
        module _ {after : Option LeafPtr} {result : Option (OpaqueNodePtr × ℕ)} (step : IsTextStep shown query end at_least depth best after result) where
          passing : depth + shown.prefix.len ≤ length query → IsBetter bytes end query at_least kept layout whole (bytes_of at.children) way.found after
          passing enough = go (cases_lt (depth + shown.prefix.len) at_least)
            where
              go : (depth + shown.prefix.len < at_least) ⊎ (at_least ≤ depth + shown.prefix.len) →
                  IsBetter bytes end query at_least kept layout whole (bytes_of at.children) way.found after
              go (inl less) = same_best (step.early less) (λ c i e m. let same = whole_len in omega arith)
              go (inr long) = let same = whole_len in better (omega arith) (omega arith) (child_at shown.children end) refl (step.passes long enough)

          -- the first text is found
          pub step_first : kept ≡ First → IsSome after → EndsWalk bytes query at_least kept (pairs_of layout) layout after
          step_first is some = from after refl some (cases_lt (length query) (depth + shown.prefix.len))
            where
              from : (a : Option LeafPtr) → after ≡ a → IsSome a →
                  (length query < depth + shown.prefix.len) ⊎ (depth + shown.prefix.len ≤ length query) →
                  EndsWalk bytes query at_least kept (pairs_of layout) layout after
              from None there s o = absurd cc
              from (Some n) there s (inl less) = let same = (step.short less).1 in let none = way.fresh is in absurd cc
              from (Some n) there s (inr enough) =
                  ends after (passing enough).found (passing enough).is_found (passing enough).outer
                  (λ c i x leads t e f m. below t (goes_within whole c leads.0 t end (sym e ∙ leads.1)))
                where
                  below : (t : List ℕ) {c : ℕ} → ((t ≡ whole) × (c ≡ end)) ⊎ IsFront (whole ++ c ∷ []) t → Covered kept (passing enough).found t
                  below t (inl (same, mark)) = (passing enough).first n is there t ([], same ∙ sym (append-nil whole))
                  below t {c} (inr g) = (passing enough).first n is there t (front_cut whole (c ∷ []) t g)

          -- to no child
          pub step_ends : result ≡ None → EndsWalk bytes query at_least kept (pairs_of layout) layout after
          step_ends none = go (cases_lt (length query) (depth + shown.prefix.len)) (cases_lt (depth + shown.prefix.len) (length query))
            where
              go : (length query < depth + shown.prefix.len) ⊎ (depth + shown.prefix.len ≤ length query) →
                  (depth + shown.prefix.len < length query) ⊎ (length query ≤ depth + shown.prefix.len) → EndsWalk bytes query at_least kept (pairs_of layout) layout after
              go (inl less) o =
                  let same = whole_len in subst (EndsWalk bytes query at_least kept (pairs_of layout) layout) (sym (step.short less).1)
                  (ends_short (omega arith))
              go (inr enough) (inl more) =
                  let same = whole_len in
                  ends_gap (passing enough) (omega arith)
                  (ap (λ n. child_at shown.children (get_or query n 0)) whole_len
                  ∙ unmapped _ (child_at shown.children (get_or query (depth + shown.prefix.len) 0)) (sym (step.below more) ∙ none))
              go (inr enough) (inr most) = let same = whole_len in ends_with (passing enough) (omega arith)

          -- to this child
          pub step_goes : (kept ≡ First → after ≡ None) → {to : OpaqueNodePtr} {below : ℕ} → ◌≡◌ {A = Option (OpaqueNodePtr × ℕ)} result (Some (to, below)) →
              IsNestedWay bytes P end query at_least kept layout to below after × (depth < below) × (below ≤ length query)
          step_goes fresh {to} {below} is = go (cases_lt (length query) (depth + shown.prefix.len)) (cases_lt (depth + shown.prefix.len) (length query))
            where
              go : (length query < depth + shown.prefix.len) ⊎ (depth + shown.prefix.len ≤ length query) →
                  (depth + shown.prefix.len < length query) ⊎ (length query ≤ depth + shown.prefix.len) →
                  IsNestedWay bytes P end query at_least kept layout to below after × (depth < below) × (below ≤ length query)
              go (inl less) o = let none = (step.short less).0 in absurd cc
              go (inr enough) (inr most) = let none = step.last (omega arith) in absurd cc
              go (inr enough) (inl more) = from (child_at shown.children (get_or query (depth + shown.prefix.len) 0)) refl (sym is ∙ step.below more)
                where
                  from : (found : Option OpaqueNodePtr) → child_at shown.children (get_or query (depth + shown.prefix.len) 0) ≡ found →
                      ◌≡◌ {A = Option (OpaqueNodePtr × ℕ)} (Some (to, below))
                      (option_map (λ next. (next, depth + shown.prefix.len + 1)) found) →
                      IsNestedWay bytes P end query at_least kept layout to below after × (depth < below) × (below ≤ length query)
                  from None there e = absurd cc
                  from (Some next) there e =
                      let same = whole_len in
                      let (at_child, at_depth) = same_parts e in
                      let way = goes_on (passing enough) (omega arith) fresh (ap (λ n. child_at shown.children (get_or query n 0)) whole_len ∙ there) in (
                        subst (λ n. IsNestedWay bytes P end query at_least kept layout to n after) (sym at_depth)
                            (subst (λ t. IsNestedWay bytes P end query at_least kept layout t (depth + shown.prefix.len + 1) after) (sym at_child) way),
                        omega arith,
                        omega arith,
                      )
