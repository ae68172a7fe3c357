-- the descent to a leaf by a key's bytes, and how such a leaf relates to a node on the key's path
use Rattle.std.proofs.Common.{◌≡◌, ◌≢◌, ℕ, ◌+◌, ◌<◌, ◌≤◌, List, [], ◌∷◌, ◌++◌, length, get_or, filter, refl, ap, sym, ◌∙◌, arith, subst, length-append, append-nil, IsSome, Some, None, true, false, Bool, cond, inl, inr}
use Rattle.std.specs.Bool.{⊤}
use Rattle.std.specs.List.{AllByRecursion as Each}
use Rattle.std.specs.FinMap as map
use Rattle.art_model.specs.Prelude.{Inner, child_at, Nodes, leaf_name, inner_name, LeafNode, InnerPtr, LeafPtr, OpaqueNodePtr, IsCanonicalTree, IsIn, IsFront, are_related, name_of, HasFirstLeaf, related_to, Frame, IsPath, fill, plug, pairs_before, pairs_after, depth_of, place_of, places, places_below, IsRadix, AreRadix, bytes_of, join, pairs_of, IsFullTree, header_at, pair_of, Tree, leaf, inner, Subtrees, child, no_child}
use Rattle.art_model.proofs.keys.Keys.{front_related}
use Rattle.art_model.proofs.leaves.LeavesFound.{leaf_found}
use Rattle.art_model.proofs.lists.Filters.{Each-filter}
use Rattle.art_model.proofs.lists.Lists.{Each-append, Each-left, Each-right, Each-weaker, front_cut, in_left, in_right}
use Rattle.art_model.proofs.lists.Pairwises.{Pairwise-before, Pairwise-after}
use Rattle.art_model.proofs.pairs.Puts.{first_has}
use Rattle.art_model.proofs.places.OnWay.{AreAside, IsOff, aside_end, aside_others, aside_places, byte_after, child_under, no_child_under}
use Rattle.art_model.proofs.places.Paths.{fill_radix, pairs_of-plug, related_at}
use Rattle.art_model.proofs.places.PlaceLaws.{depth_is, own_place, places_at}
use Rattle.art_model.proofs.places.Places.{place_is}
use Rattle.art_model.proofs.radix.Radix.{AreRadix-left, AreRadix-right}
use Rattle.art_model.proofs.radix.Rebuild.{radix_way}
use Rattle.art_model.proofs.stores.Shown.{IsShown, IsThere}
use Rattle.art_reading.specs.EndNodes.{IsAt}
use Rattle.art_reading.specs.Guides.{AllGuide, GoesAlong, IsGuide}
use Rattle.art_reading.specs.PartEnds.{StandsBetween}
use Rattle.art_reading.specs.declared.path.TreePath.{TreePath}
use Rattle.art_reading.proofs.PartNodes.{node_full, node_holds}

-- where a node's place is a prefix of the key, it is one of the other key too
abbrev pub GoesToo : {N : Type 0} → List ℕ → List ℕ → (List ℕ × N) → Type 0
GoesToo key y p = IsFront p.0 key → IsFront p.0 y

module _ {N A : Type 0} (bytes : A → List ℕ) (P : ℕ) (key y : List ℕ) where
  joined : (cs ds : Subtrees N A) (d : ℕ) → Each (GoesToo key y) (places_below bytes d cs) → Each (GoesToo key y) (places_below bytes d ds) →
      Each (GoesToo key y) (places_below bytes d (join cs ds))
  joined no_child ds d h k = k
  joined (child b t cs) ds d h k =
      Each-append (GoesToo key y) (places bytes d t) (places_below bytes d (join cs ds))
      (Each-left (GoesToo key y) (places bytes d t) (places_below bytes d cs) h)
      (joined cs ds d (Each-right (GoesToo key y) (places bytes d t) (places_below bytes d cs) h) k)

  -- no node below the other children is on the key's path
  aside : (front : List ℕ) (d : ℕ) (cs : Subtrees N A) → d ≡ length front + 1 → AreRadix bytes P front cs → AreAside front key cs →
      Each (GoesToo key y) (places_below bytes d cs)
  aside front d cs deep h off =
      Each-weaker (IsOff (λ (p : List ℕ × N). p.0) key) (GoesToo key y) (λ p o g. absurd (o g)) (places_below bytes d cs)
      (aside_places bytes P front key d cs deep h off)

  -- from the only child below which the key's path may continue to its parent
  pub over : (depth : ℕ) (f : Frame N A) (outer part : List ℕ) (t : Tree N A) → place_of bytes depth (fill f t) ≡ outer →
      depth + f.header.length_of + 1 ≡ length (outer ++ part) + 1 →
      AreRadix bytes P (outer ++ part) f.left → AreRadix bytes P (outer ++ part) f.right → AreAside (outer ++ part) key f.left →
      AreAside (outer ++ part) key f.right →
      IsFront outer y → Each (GoesToo key y) (places bytes (depth + f.header.length_of + 1) t) → Each (GoesToo key y) (places bytes depth (fill f t))
  over depth f outer part t place deep l r low high goes own =
      let d = depth + f.header.length_of + 1 in (
        (λ g. subst (λ z. IsFront z y) (sym place) goes),
        joined f.left (child f.byte t f.right) d (aside (outer ++ part) d f.left deep l low)
            (Each-append (GoesToo key y) (places bytes d t) (places_below bytes d f.right) own (aside (outer ++ part) d f.right deep r high)),
      )

  -- from a node on the key's path to the whole tree
  pub around : (fs : List (Frame N A)) (place : List ℕ) (t : Tree N A) → IsPath bytes P place fs → IsRadix bytes P place t →
      IsFront place key → IsFront place y →
      Each (GoesToo key y) (places bytes (length place) t) → Each (GoesToo key y) (places bytes 0 (plug fs t))
  around [] place t e h k goes q = subst (λ w. Each (GoesToo key y) (places bytes (length w) t)) e q
  around (f ∷ fs) place t (outer, part, e, head, two, up, hl, hr, path) h k goes q =
      let front = outer ++ part in
      let k' : IsFront (front ++ f.byte ∷ []) key = subst (λ w. IsFront w key) e k in
      let goes' : IsFront (front ++ f.byte ∷ []) y = subst (λ w. IsFront w y) e goes in
      let node : IsRadix bytes P outer (fill f t) = fill_radix bytes P f fs place t (outer, part, e, head, two, up, hl, hr, path) h in
      let len : f.header.length_of ≡ length part = ap (λ z. z.length_of) head in
      let count = length-append outer part in
      let deep : length outer + f.header.length_of + 1 ≡ length front + 1 = omega arith in
      let byte = byte_after front key f.byte k' in
      let low = Each-weaker (λ c. c < f.byte) (λ c. c ≢ get_or key (length front) 0) (λ c less same. omega arith) (bytes_of f.left)
      (Pairwise-before ◌<◌ (bytes_of f.left) (bytes_of f.right) f.byte up) in
      let high = Each-weaker (λ c. f.byte < c) (λ c. c ≢ get_or key (length front) 0) (λ c more same. omega arith) (bytes_of f.right)
      (Pairwise-after ◌<◌ (bytes_of f.left) (bytes_of f.right) f.byte up) in
      let long : length place ≡ length outer + f.header.length_of + 1 = ap length e ∙ length-append front (f.byte ∷ []) ∙ sym deep in
      around fs outer (fill f t) path node (front_cut outer part key (front_cut front (f.byte ∷ []) key k'))
      (front_cut outer part y (front_cut front (f.byte ∷ []) y goes'))
      (over (length outer) f outer part t (place_is bytes P (fill f t) outer node) deep hl hr (aside_others front key f.left low)
      (aside_others front key f.right high)
      (front_cut outer part y (front_cut front (f.byte ∷ []) y goes')) (subst (λ z. Each (GoesToo key y) (places bytes z t)) long q))

-- A node to which the key's bytes lead by their places: a key that starts with the node's place follows the key's path, if it does so below the node.
pub record IsByPlaces {A : Type 0} (bytes : A → List ℕ) (P : ℕ) (key : List ℕ) (tree : Tree OpaqueNodePtr A) (name : OpaqueNodePtr) (depth : ℕ) : Type 0 where
  pub path : List (Frame OpaqueNodePtr A)
  pub node : Tree OpaqueNodePtr A
  pub place : List ℕ
  pub whole : plug path node ≡ tree
  pub named : name_of node ≡ name
  pub radix : IsRadix bytes P place node
  pub depth_is : length place ≡ depth
  pub along : (y : List ℕ) → IsFront place y → Each (GoesToo key y) (places bytes depth node) → Each (GoesToo key y) (places bytes 0 tree)

module _ {A : Type 0} {bytes : A → List ℕ} {P : ℕ} {key : List ℕ} {tree : Tree OpaqueNodePtr A} {name : OpaqueNodePtr} {depth : ℕ} where
  -- it begins at a node on the key's path
  pub by_places : {path : TreePath} → IsAt bytes P key tree path name depth → IsByPlaces bytes P key tree name depth
  by_places d = record {
    path = d.frames;
    node = d.node;
    place = d.place;
    whole = d.whole;
    named = d.named;
    radix = d.radix;
    depth_is = d.depth_is;
    along = λ y goes q. subst (λ t. Each (GoesToo key y) (places bytes 0 t)) d.whole (around bytes P key y d.frames d.place d.node d.leads d.radix d.on_way goes
        (subst (λ n. Each (GoesToo key y) (places bytes n d.node)) (sym d.depth_is) q));
  }

  module _ (d : IsByPlaces bytes P key tree name depth) where
    -- the key's path does not continue below
    ends : ((y : List ℕ) → IsFront d.place y → Each (GoesToo key y) (places bytes depth d.node)) → AllGuide bytes key tree name
    ends own = record {
      path = d.path;
      node = d.node;
      whole = d.whole;
      named = d.named;
      all = Each-weaker (λ x. IsFront d.place (bytes x)) (λ x. GoesAlong bytes key tree (bytes x))
          (λ x f. d.along (bytes x) f (own (bytes x) f)) (pairs_of d.node)
          (radix_way bytes P d.node d.place d.radix);
    }

    node_place : place_of bytes depth d.node ≡ d.place
    node_place = subst (λ n. place_of bytes n d.node ≡ d.place) d.depth_is (place_is bytes P d.node d.place d.radix)

    place_too : (t : Tree OpaqueNodePtr A) → d.node ≡ t → (y : List ℕ) → IsFront d.place y → IsFront (place_of bytes depth t) key →
        IsFront (place_of bytes depth t) y
    place_too t is y goes g = subst (λ z. IsFront z y) (sym (subst (λ u. place_of bytes depth u ≡ d.place) is node_place)) goes

    -- at a leaf
    pub leaf_ends : (n : OpaqueNodePtr) (x : A) → d.node ≡ leaf n x → AllGuide bytes key tree name
    leaf_ends n x is = ends (λ y goes. subst (λ t. Each (GoesToo key y) (places bytes depth t)) (sym is) (place_too (leaf n x) is y goes, tt))

    module _ {p : InnerPtr} {shown : Inner} (at : IsShown d.node p shown) {len : ℕ} (len_is : len ≡ shown.prefix.len) where
      abbrev here : Tree OpaqueNodePtr A
      here = inner (inner_name p) (header_at p.kind shown) at.children

      pub radix : IsRadix bytes P d.place here
      radix = subst (IsRadix bytes P d.place) at.is d.radix

      abbrev front : List ℕ
      front = d.place ++ radix.0

      front_long : length front ≡ depth + shown.prefix.len
      front_long =
          let l : shown.prefix.len ≡ length radix.0 = ap (λ h. h.length_of) radix.1 in
          let k = d.depth_is in
          let n = length-append d.place radix.0 in
          omega arith

      deep : depth + shown.prefix.len + 1 ≡ length front + 1
      deep = ap (λ n. n + 1) (sym front_long)

      ends_aside : AreAside front key at.children → AllGuide bytes key tree name
      ends_aside off = ends (λ y goes. subst (λ t. Each (GoesToo key y) (places bytes depth t)) (sym at.is)
          (place_too here at.is y goes, aside bytes P key y front (depth + shown.prefix.len + 1) at.children deep radix.4 off))

      -- the key ends with the prefix, or before
      pub short_ends : length key ≤ depth + len → AllGuide bytes key tree name
      short_ends short = ends_aside (aside_end front key at.children (let l = front_long in omega arith))

      same_byte : get_or key (length front) 0 ≡ get_or key (depth + len) 0
      same_byte = ap (λ n. get_or key n 0) (front_long ∙ ap (λ n. depth + n) (sym len_is))

      -- there is no child for its byte
      pub gap_ends : child_at shown.children (get_or key (depth + len) 0) ≡ None → AllGuide bytes key tree name
      gap_ends none =
          let b = get_or key (length front) 0 in
          ends_aside (aside_others front key at.children
          (no_child_under at.children b (ap (λ cs. child_at cs b) (sym at.slots) ∙ ap (child_at shown.children) same_byte ∙ none)))

      -- the path continues below the child
      pub goes_below : {to : OpaqueNodePtr} → child_at shown.children (get_or key (depth + len) 0) ≡ Some to → IsByPlaces bytes P key tree to (depth + len + 1)
      goes_below {to} there =
          let b = get_or key (length front) 0 in
          let u = child_under at.children b to radix.3 (ap (λ cs. child_at cs b) (sym at.slots) ∙ ap (child_at shown.children) same_byte ∙ there) in
          let f : Frame OpaqueNodePtr A = record { mark = inner_name p; header = header_at p.kind shown; left = u.left; byte = b; right = u.right } in
          let filled : here ≡ fill f u.tree = ap (inner (inner_name p) (header_at p.kind shown)) u.whole in
          let is : d.node ≡ fill f u.tree = at.is ∙ filled in
          let below = subst (AreRadix bytes P front) u.whole radix.4 in
          let left = AreRadix-left bytes P front u.left (child b u.tree u.right) below in
          let right = AreRadix-right bytes P front u.left (child b u.tree u.right) below in
          let low = aside_others front key u.left u.others_left in
          let high = aside_others front key u.right u.others_right in
          subst (λ n. IsByPlaces bytes P key tree to (depth + n + 1)) (sym len_is) (record {
            path = f ∷ d.path;
            node = u.tree;
            place = front ++ b ∷ [];
            whole = ap (plug d.path) (sym is) ∙ d.whole;
            named = u.named;
            radix = right.0;
            depth_is = length-append front (b ∷ []) ∙ sym deep;
            along = λ y goes q.
                let outer = front_cut d.place radix.0 y (front_cut front (b ∷ []) y goes) in
                d.along y outer (subst (λ t. Each (GoesToo key y) (places bytes depth t)) (sym is)
                (over bytes P key y depth f d.place radix.0 u.tree
                (subst (λ t. place_of bytes depth t ≡ d.place) is node_place) deep left right.1 low high outer q));
          })

-- one path after another
plug_twice : {N A : Type 0} (gs fs : List (Frame N A)) (t : Tree N A) → plug (gs ++ fs) t ≡ plug fs (plug gs t)
plug_twice [] fs t = refl
plug_twice (g ∷ gs) fs t = plug_twice gs fs (fill g t)

-- an element that passes is among those that are left
passing : {A : Type 0} (Q : A → Type 0) (test : A → Bool) (x : A) (xs : List A) → Each Q (filter test xs) → IsIn x xs → test x ≡ true → Q x
passing Q test x [] h i e = absurd i
passing Q test x (y ∷ xs) h (inl same) e = subst Q same (rw (ap test same ∙ e) at h).0
passing Q test x (y ∷ xs) h (inr i) e = passing Q test x xs (go (test y) h) i e
  where
    go : (t : Bool) → Each Q (cond t (y ∷ filter test xs) (filter test xs)) → Each Q (filter test xs)
    go true k = k.1
    go false k = k

each_any : {A : Type 0} (xs : List A) → Each (λ x. ⊤) xs
each_any [] = tt
each_any (x ∷ xs) = (tt, each_any xs)

-- a part of a tree
abbrev stands : {A : Type 0} {layout : Tree OpaqueNodePtr A} {name : OpaqueNodePtr} (path : List (Frame OpaqueNodePtr A))
    (node : Tree OpaqueNodePtr A) → plug path node ≡ layout → name_of node ≡ name →
    StandsBetween (λ x. ⊤) (λ x. ⊤) layout name
stands path node whole named =
    record {
      path = path;
      node = node;
      whole = whole;
      named = named;
      before = each_any (pairs_before path);
      after = each_any (pairs_after path);
    }

module _ {K V : Type 0} {s : Nodes K V} {bytes : K × V → List ℕ} {P : ℕ} {root : OpaqueNodePtr} {pairs : List (K × V)} {layout : Tree OpaqueNodePtr (K × V)}
    (by : IsCanonicalTree bytes P s root pairs layout) {key : List ℕ} where
  -- a node to which the key's bytes lead by their places is under its name
  pub by_there : {name : OpaqueNodePtr} {depth : ℕ} (d : IsByPlaces bytes P key layout name depth) → IsThere s d.node name
  by_there d = record { named = d.named; holds = node_holds by (stands d.path d.node d.whole d.named) }

  -- the node's name stands for a tree
  pub guides_full : {name : OpaqueNodePtr} (a : AllGuide bytes key layout name) → IsFullTree s name a.node
  guides_full a = node_full by (stands a.path a.node a.whole a.named)

  -- and its first leaf can guide
  pub first_guides : {name : OpaqueNodePtr} (a : AllGuide bytes key layout name) {q : LeafPtr} → HasFirstLeaf a.node (leaf_name q) → IsGuide bytes key layout q
  first_guides a {q} first = record {
    pair = first.pair;
    has = record {
      path = first.has.path ++ a.path;
      whole = plug_twice first.has.path a.path (leaf (leaf_name q) first.pair) ∙ ap (plug a.path) first.has.whole ∙ a.whole;
    };
    along = first_has (λ x. GoesAlong bytes key layout (bytes x)) (pairs_of a.node) first.pair a.all first.pair_is;
  }

  module _ {q : LeafPtr} (g : IsGuide bytes key layout q) where
    -- the leaf is in the store
    pub guide_there : IsSome (map.get s.leaves q)
    guide_there = let (node, there, its) = leaf_found bytes P by g.has in rw there refl

    -- its pair is in the tree
    pub in_tree : IsIn g.pair (pairs_of layout)
    in_tree =
        let before = pairs_before g.has.path in
        let after = pairs_after g.has.path in
        subst (IsIn g.pair) (sym (ap pairs_of (sym g.has.whole) ∙ pairs_of-plug g.has.path (leaf (leaf_name q) g.pair)))
        (in_left g.pair (before ++ g.pair ∷ []) after (in_right g.pair before (g.pair ∷ []) (inl refl)))

    module _ {path : TreePath} {name : OpaqueNodePtr} {depth : ℕ} (d : IsAt bytes P key layout path name depth) where
      place_begins : IsFront d.place (bytes g.pair)
      place_begins =
          let Q = GoesToo {N = OpaqueNodePtr} key (bytes g.pair) in
          let all = subst (λ t. Each Q (places bytes 0 t)) (sym d.whole) g.along in
          let own = own_place bytes P Q (depth_of d.frames) d.node (places_at bytes P Q d.frames d.node all) in
          let is : place_of bytes (depth_of d.frames) d.node ≡ d.place =
          ap (λ n. place_of bytes n d.node) (depth_is bytes P d.frames d.place d.leads) ∙ place_is bytes P d.node d.place d.radix in
          subst (λ z. IsFront z key → IsFront z (bytes g.pair)) is own d.on_way

      -- so it has what all pairs below a node on the key's path have
      pub guide_is : {l : LeafNode K V} → Some l ≡ map.get s.leaves q → (Q : K × V → Type 0) → Each Q (pairs_of d.node) → Q (pair_of l)
      guide_is {l} read Q all =
          let (node, there, its) = leaf_found bytes P by g.has in
          let same : node ≡ l = cc in
          let k = bytes g.pair in
          let left : related_to bytes k (pairs_of layout) ≡ related_to bytes k (pairs_of d.node) =
          ap (λ t. related_to bytes k (pairs_of t)) (sym d.whole) ∙ related_at bytes P d.frames d.place k d.node d.leads place_begins in
          let each = subst (Each Q) (sym left) (Each-filter Q (λ x. are_related k (bytes x)) (pairs_of d.node) all) in
          subst Q (sym its ∙ ap pair_of same) (passing Q (λ x. are_related k (bytes x)) g.pair (pairs_of layout) each in_tree
          (front_related k k ([], sym (append-nil k))))
