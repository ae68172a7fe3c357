-- the descent with a key: what a lookup keeps at each node
use Rattle.std.proofs.Common.{◌≡◌, ℕ, ◌+◌, ◌<◌, ◌≤◌, suc, zero, List, [], ◌∷◌, ◌++◌, length, take, drop, get_or, refl, ap, ap₂, sym, ◌∙◌, arith, subst, append_assoc, length-append, Some, None, Bool, true, false, cond}
use Rattle.std.proofs.lemmas.List.{length-take, take-append-drop}
use Rattle.art_model.specs.Prelude.{Inner, child_at, inner_name, InnerPtr, OpaqueNodePtr, IsFront, is_front, match_of, Tree, leaf, inner, Subtrees, no_child, child, IsRadix, AreRadix, join, pairs_of, pairs_below, name_of, header_at, Frame, plug, places, places_below, place_of}
use Rattle.art_model.proofs.lists.Lists.{front_cut, after_front}
use Rattle.art_model.proofs.keys.Keys.{front_is}
use Rattle.art_model.proofs.radix.Radix.{AreRadix-right}
use Rattle.art_model.proofs.places.Places.{place_is}
use Rattle.art_model.proofs.keys.Fronts.{shared_whole, whole_shared}
use Rattle.art_model.proofs.places.OnWay.{none_match, AreAside, aside_others, aside_off, aside_end, aside_pairs, aside_places, pairs_between, places_between, child_under, no_child_under, front_byte}
use Rattle.art_model.proofs.stores.Shown.{IsShown}
use Rattle.art_reading.specs.declared.lookup.matching.PrefixMatchBehavior.{PrefixMatchBehavior}
use Rattle.art_reading.specs.declared.lookup.matching.PrefixMatchBehavior.TheVariants.{Pessimistic}
use Rattle.art_reading.specs.declared.path.TreePath.{TreePath}
use Rattle.art_reading.specs.Matching.{shared_len}
use Rattle.art_reading.specs.PathSteps.{step_down, path_of}
use Rattle.art_reading.specs.Stored.{ComparesAll, IsWholeStored, AreWholeStored}

-- how many of these nodes are on the key's path
abbrev pub count_on_way : {N : Type 0} → List ℕ → List (List ℕ × N) → ℕ
count_on_way key nodes = length (match_of (λ node. node.0) key nodes)

-- each prefix of a child is stored whole if each of its parent is
pub whole_child : {N A : Type 0} (P : ℕ) (cs : Subtrees N A) (b : ℕ) (t : Tree N A) (ds : Subtrees N A) →
    AreWholeStored P (join cs (child b t ds)) → IsWholeStored P t
whole_child P no_child b t ds whole = whole.0
whole_child P (child c u cs) b t ds whole = whole_child P cs b t ds whole.1

-- A node of the tree below which all pairs are that match the key. The nodes above it were counted, and all of them are on the key's path if it is, as where each prefix is compared whole.
pub record IsOnWay {A : Type 0} (bytes : A → List ℕ) (P : ℕ) (start : PrefixMatchBehavior) (key : List ℕ) (tree : Tree OpaqueNodePtr A)
    (way : TreePath) (name : OpaqueNodePtr)
    (depth : ℕ) (behavior : PrefixMatchBehavior) (before now : ℕ) : Type 0 where
  pub path : List (Frame OpaqueNodePtr A)
  pub node : Tree OpaqueNodePtr A
  pub place : List ℕ
  pub whole : plug path node ≡ tree
  pub way_is : way ≡ path_of path
  pub named : name_of node ≡ name
  pub radix : IsRadix bytes P place node
  pub depth_is : length place ≡ depth
  pub compared : behavior ≡ Pessimistic → IsFront place key
  pub matches : match_of bytes key (pairs_of tree) ≡ match_of bytes key (pairs_of node)
  pub at_least : before + count_on_way key (places bytes 0 tree) ≤ now + count_on_way key (places bytes depth node)
  pub exactly : IsFront place key → before + count_on_way key (places bytes 0 tree) ≡ now + count_on_way key (places bytes depth node)
  pub compares : ComparesAll P start tree → ComparesAll P behavior node

-- the first of some nodes counts at most once, and exactly once where its place is a prefix of the key
module _ {N : Type 0} (key : List ℕ) (node : List ℕ × N) (nodes : List (List ℕ × N)) where
  pub count_most : count_on_way key (node ∷ nodes) ≤ 1 + count_on_way key nodes
  count_most = go (is_front node.0 key)
    where
      go : (t : Bool) → length (cond t (node ∷ match_of (λ n. n.0) key nodes) (match_of (λ n. n.0) key nodes)) ≤ 1 + count_on_way key nodes
      go true = omega arith
      go false = omega arith

  pub count_front : IsFront node.0 key → count_on_way key (node ∷ nodes) ≡ 1 + count_on_way key nodes
  count_front (r, e) = let is : is_front node.0 key ≡ true = ap (is_front node.0) e ∙ front_is node.0 r in rw is (omega arith)

module _ {A : Type 0} {bytes : A → List ℕ} {P : ℕ} {start : PrefixMatchBehavior} {key : List ℕ} {tree : Tree OpaqueNodePtr A}
    {way : TreePath} {name : OpaqueNodePtr} {depth : ℕ}
    {behavior : PrefixMatchBehavior} {before now : ℕ} (d : IsOnWay bytes P start key tree way name depth behavior before now) where
  -- the node's own place
  own_place : place_of bytes depth d.node ≡ d.place
  own_place = subst (λ n. place_of bytes n d.node ≡ d.place) d.depth_is (place_is bytes P d.node d.place d.radix)

  -- at a leaf
  module _ (n : OpaqueNodePtr) (x : A) (is : d.node ≡ leaf n x) where
    leaf_place : take depth (bytes x) ≡ d.place
    leaf_place = subst (λ t. place_of bytes depth t ≡ d.place) is own_place

    pub leaf_leads : IsFront d.place (bytes x)
    leaf_leads = subst (IsRadix bytes P d.place) is d.radix

    pub leaf_whole : plug d.path (leaf n x) ≡ tree
    leaf_whole = ap (plug d.path) (sym is) ∙ d.whole

    pub leaf_only : match_of bytes key (pairs_of tree) ≡ match_of bytes key (x ∷ [])
    leaf_only = d.matches ∙ ap (λ t. match_of bytes key (pairs_of t)) is

    pub leaf_least : before + count_on_way key (places bytes 0 tree) ≤ now + 1
    leaf_least =
        let l = subst (λ t. before + count_on_way key (places bytes 0 tree) ≤ now + count_on_way key (places bytes depth t)) is d.at_least in
        let m = count_most key (take depth (bytes x), n) [] in
        omega arith

    pub leaf_exactly : IsFront d.place key → before + count_on_way key (places bytes 0 tree) ≡ now + 1
    leaf_exactly front =
        let l = subst (λ t. before + count_on_way key (places bytes 0 tree) ≡ now + count_on_way key (places bytes depth t)) is (d.exactly front) in
        let m = count_front key (take depth (bytes x), n) [] (subst (λ z. IsFront z key) (sym leaf_place) front) in
        omega arith

  -- at an inner node that the store has
  module _ {p : InnerPtr} {shown : Inner} (at : IsShown d.node p shown) where
    pub radix : IsRadix bytes P d.place (inner (inner_name p) (header_at p.kind shown) at.children)
    radix = subst (IsRadix bytes P d.place) at.is d.radix

    -- the place and the whole prefix
    abbrev pub front : List ℕ
    front = d.place ++ radix.0

    len_is : shown.prefix.len ≡ length radix.0
    len_is = ap (λ h. h.length_of) radix.1

    stored_is : shown.prefix.stored ≡ take P radix.0
    stored_is = ap (λ h. h.stored) radix.1

    -- no more is stored of a prefix than it has bytes
    pub stored_short : length shown.prefix.stored ≤ shown.prefix.len
    stored_short = let l = len_is in let t = ap length stored_is in let k = ap length (take-append-drop P radix.0) in omega (arith, simp length-append at k)

    front_len : length front ≡ depth + shown.prefix.len
    front_len = let l = len_is in let k = d.depth_is in simp length-append (omega arith)

    deep : depth + shown.prefix.len + 1 ≡ length front + 1
    deep = let l = front_len in omega arith

    inner_matches : match_of bytes key (pairs_of tree) ≡ match_of bytes key (pairs_below at.children)
    inner_matches = d.matches ∙ ap (λ t. match_of bytes key (pairs_of t)) at.is

    inner_least : before + count_on_way key (places bytes 0 tree) ≤ now + 1 + count_on_way key (places_below bytes (depth + shown.prefix.len + 1) at.children)
    inner_least =
        let l = subst (λ t. before + count_on_way key (places bytes 0 tree) ≤ now + count_on_way key (places bytes depth t)) at.is d.at_least in
        let m = count_most key (place_of bytes depth (inner (inner_name p) (header_at p.kind shown) at.children), inner_name p)
        (places_below bytes (depth + shown.prefix.len + 1) at.children) in
        omega arith

    inner_exactly : IsFront d.place key → before + count_on_way key (places bytes 0 tree)
        ≡ now + 1 + count_on_way key (places_below bytes (depth + shown.prefix.len + 1) at.children)
    inner_exactly front =
        let l = subst (λ t. before + count_on_way key (places bytes 0 tree) ≡ now + count_on_way key (places bytes depth t)) at.is (d.exactly front) in
        let own = subst (λ t. place_of bytes depth t ≡ d.place) at.is own_place in
        let m = count_front key (place_of bytes depth (inner (inner_name p) (header_at p.kind shown) at.children), inner_name p)
        (places_below bytes (depth + shown.prefix.len + 1) at.children) (subst (λ z. IsFront z key) (sym own) front) in
        omega arith

    -- no pair matches, and no node further down is on the key's path
    abbrev pub IsEnd : Type 0
    IsEnd =
        (match_of bytes key (pairs_of tree) ≡ []) × (before + count_on_way key (places bytes 0 tree) ≤ now + 1)
        × (ComparesAll P start tree → before + count_on_way key (places bytes 0 tree) ≡ now + 1)

    ends_aside : AreAside front key at.children → IsEnd
    ends_aside aside =
        let none =
        ap length (none_match (λ node. node.0) key (places_below bytes (depth + shown.prefix.len + 1) at.children)
        (aside_places bytes P front key (depth + shown.prefix.len + 1) at.children deep radix.4 aside)) in
        let l = inner_least in (
          inner_matches ∙ none_match bytes key (pairs_below at.children) (aside_pairs bytes P front key at.children radix.4 aside),
          omega arith,
          λ whole. let e = inner_exactly (d.compared (d.compares whole).0) in omega arith,
        )

    -- the key ends with the prefix, or before
    pub ends_short : length key ≤ depth + shown.prefix.len → IsEnd
    ends_short short = ends_aside (aside_end front key at.children (let l = front_len in omega arith))

    -- what was compared of the prefix differs
    pub ends_off : behavior ≡ Pessimistic → shared_len shown.prefix.stored (drop depth key) < length shown.prefix.stored → IsEnd
    ends_off sure less = ends_aside (aside_off front key at.children off)
      where
        off : IsFront front key → ⊥
        off (r, e) =
            let rest : drop depth key ≡ radix.0 ++ r =
            ap (λ n. drop n key) (sym d.depth_is) ∙ after_front d.place key (radix.0 ++ r) (e ∙ append_assoc d.place radix.0 r) in
            let whole : IsFront shown.prefix.stored (drop depth key) = (
              drop P radix.0 ++ r,
              rest ∙ ap (λ xs. xs ++ r) (sym (take-append-drop P radix.0)) ∙
                  append_assoc (take P radix.0) (drop P radix.0) r ∙ ap (λ xs. xs ++ (drop P radix.0 ++ r)) (sym stored_is),
            ) in
            let all = whole_shared shown.prefix.stored (drop depth key) whole in
            omega arith

    -- no child continues with the key
    pub ends_childless : child_at shown.children (get_or key (depth + shown.prefix.len) 0) ≡ None → IsEnd
    ends_childless none =
        let b = get_or key (length front) 0 in
        let e = ap (λ n. child_at shown.children (get_or key n 0)) front_len ∙ none in
        ends_aside (aside_others front key at.children (no_child_under at.children b (ap (λ cs. child_at cs b) (sym at.slots) ∙ e)))

    -- all bytes of the prefix were compared
    pub still_compared : behavior ≡ Pessimistic → length shown.prefix.stored ≤ shared_len shown.prefix.stored (drop depth key) →
        shown.prefix.len ≤ length shown.prefix.stored → IsFront front key
    still_compared sure all long =
        let (r, e) = d.compared sure in
        let (q, g) = shared_whole shown.prefix.stored (drop depth key) all in
        let rest : drop depth key ≡ r = ap (λ n. drop n key) (sym d.depth_is) ∙ after_front d.place key r e in
        let is : take P radix.0 ≡ radix.0 = whole_take P radix.0 (let l = len_is in let t = ap length stored_is in omega arith) in
        (q, e ∙ ap (λ z. d.place ++ z) (sym rest ∙ g ∙ ap (λ z. z ++ q) (stored_is ∙ is)) ∙ sym (append_assoc d.place radix.0 q))
      where
        whole_take : (n : ℕ) (xs : List ℕ) → length xs ≤ length (take n xs) → take n xs ≡ xs
        whole_take zero [] h = refl
        whole_take (suc n) [] h = refl
        whole_take zero (x ∷ xs) h = absurd (omega arith)
        whole_take (suc n) (x ∷ xs) h = ap (λ l. x ∷ l) (whole_take n xs (omega arith))

    -- a prefix of no more bytes than can be stored is stored whole
    whole_len : shown.prefix.len ≤ P → shown.prefix.len ≤ length shown.prefix.stored
    whole_len few = let l = len_is in let t = ap length stored_is in let k = length-take P radix.0 in omega arith

    -- a child continues with the key
    pub goes_on : {to : OpaqueNodePtr} {after : PrefixMatchBehavior} → depth + shown.prefix.len < length key →
        child_at shown.children (get_or key (depth + shown.prefix.len) 0) ≡ Some to → (after ≡ Pessimistic → IsFront front key) →
        (behavior ≡ Pessimistic → shown.prefix.len ≤ length shown.prefix.stored → after ≡ Pessimistic) →
        IsOnWay bytes P start key tree (step_down way p (get_or key (depth + shown.prefix.len) 0)) to (depth + shown.prefix.len + 1) after before (now + 1)
    goes_on {to} {after} long there sure keeps =
        let b = get_or key (length front) 0 in
        let e = ap (λ cs. child_at cs b) (sym at.slots) ∙ ap (λ n. child_at shown.children (get_or key n 0)) front_len ∙ there in
        let u = child_under at.children b to radix.3 e in
        let below = subst (AreRadix bytes P front) u.whole radix.4 in
        let low = aside_others front key u.left u.others_left in
        let high = aside_others front key u.right u.others_right in
        let frame : Frame OpaqueNodePtr A = record { mark = inner_name p; header = header_at p.kind shown; left = u.left; byte = b; right = u.right } in
        let count =
        ap (λ cs. count_on_way key (places_below bytes (depth + shown.prefix.len + 1) cs)) u.whole ∙
        ap length (places_between bytes P front key u.left b u.tree u.right below low high (depth + shown.prefix.len + 1) deep) in
        record {
          path = frame ∷ d.path;
          node = u.tree;
          place = front ++ b ∷ [];
          whole = ap (λ cs. plug d.path (inner (inner_name p) (header_at p.kind shown) cs)) (sym u.whole) ∙ ap (plug d.path) (sym at.is) ∙ d.whole;
          way_is = ap₂ (λ z n. step_down z p (get_or key n 0)) d.way_is (sym front_len);
          named = u.named;
          radix = (AreRadix-right bytes P front u.left (child b u.tree u.right) below).0;
          depth_is = length-append front (b ∷ []) ∙ ap (λ n. n + 1) front_len;
          compared = λ s. front_byte front key (sure s) (let l = front_len in omega arith);
          matches =
              inner_matches ∙ ap (λ cs. match_of bytes key (pairs_below cs)) u.whole
              ∙ pairs_between bytes P front key u.left b u.tree u.right below low high;
          at_least = let l = inner_least in omega arith;
          exactly = λ f. let l = inner_exactly (front_cut d.place radix.0 key (front_cut front (b ∷ []) key f)) in omega arith;
          compares = λ whole.
              let (was, own) = d.compares whole in
              let (few, children) = subst (IsWholeStored P) at.is own in
              (keeps was (whole_len few), whole_child P u.left b u.tree u.right (subst (AreWholeStored P) u.whole children));
        }
