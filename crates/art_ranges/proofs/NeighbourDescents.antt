-- the descent to a node next to a key
use Rattle.std.proofs.Common.{◌≡◌, ℕ, suc, ◌+◌, ◌*◌, ◌<◌, ◌≤◌, ◌⊎◌, List, [], ◌∷◌, ◌++◌, length, drop, get_or, refl, ap, sym, ◌∙◌, arith, subst, append_assoc, Option, Some, None, ◌↔◌, inl, inr, is_lt}
use Rattle.std.specs.List.{AllByRecursion as Each}
use Rattle.std.proofs.lemmas.Bool.{cases_order}
use Rattle.art_model.specs.Prelude.{IsNextTo, Inner, child_at, Nodes, inner_name, InnerPtr, LeafPtr, OpaqueNodePtr, IsCanonicalTree, IsIn, IsFront, Precedes, is_before, nodes_on_way, IsPath, prefix_of, bytes_of, pairs_of, header_at, slots_of, Tree, leaf, inner, Subtrees, child, no_child}
use Rattle.art_model.proofs.lists.Lists.{Each-weaker, after_front, front_cut}
use Rattle.art_model.proofs.places.OnWay.{byte_after, front_byte}
use Rattle.art_model.proofs.places.Places.{prefix_is}
use Rattle.art_model.proofs.radix.Radix.{parts}
use Rattle.art_model.proofs.radix.Rebuild.{radix_way}
use Rattle.art_model.proofs.stores.Shown.{IsShown}
use Rattle.art_reading.specs.EndNodes.{IsAt}
use Rattle.art_ranges.specs.Cuts.{StandsBeside}
use Rattle.art_reading.specs.PathSteps.{path_of}
use Rattle.art_reading.specs.Readings.{guide_cost, left_on_way, levels}
use Rattle.art_reading.proofs.LeftOnWay.{child_left}
use Rattle.art_reading.proofs.Descents.{IsDescent, start, shown_radix, front, front_len, child_there, each_under, down, down_leads}
use Rattle.art_ranges.proofs.Sides.{apart_left, apart_right, ended_left, ended_right}

slots_long : {N A : Type 0} (cs : Subtrees N A) → length (slots_of cs) ≡ length (bytes_of cs)
slots_long no_child = refl
slots_long (child b t cs) = ap suc (slots_long cs)

-- A node of the tree at a place that is a prefix of the key.
pub record IsOnKey {A : Type 0} (bytes : A → List ℕ) (P : ℕ) (key : List ℕ) (tree : Tree OpaqueNodePtr A) (name : OpaqueNodePtr) (depth : ℕ) : Type 0 where
  pub descent : IsDescent bytes P (λ x. Precedes (bytes x) key) (λ x. Precedes key (bytes x)) tree name depth
  pub leads : IsPath bytes P descent.place descent.at.path
  pub on_way : IsFront descent.place key

module _ {A : Type 0} {bytes : A → List ℕ} {P : ℕ} {key : List ℕ} {tree : Tree OpaqueNodePtr A} {name : OpaqueNodePtr} {depth : ℕ} where
  -- where the key does not start with the place, all keys below are on the side of the place
  off_place : (d : IsDescent bytes P (λ x. Precedes (bytes x) key) (λ x. Precedes key (bytes x)) tree name depth) →
      (IsFront d.place key → ⊥) → StandsBeside bytes key tree name
  off_place d off = record {
    at = d.at;
    is_lower = is_before d.place key;
    is_upper = is_before key d.place;
    lower = Each-weaker (λ x. IsFront d.place (bytes x)) (λ x. is_before (bytes x) key ≡ is_before d.place key)
        (λ x f. ap (λ z. is_before z key) f.1 ∙ ap is_lt (apart_left d.place f.0 key off)) (pairs_of d.at.node) (radix_way bytes P d.at.node d.place d.radix);
    upper = Each-weaker (λ x. IsFront d.place (bytes x)) (λ x. is_before key (bytes x) ≡ is_before key d.place)
        (λ x f. ap (is_before key) f.1 ∙ ap is_lt (apart_right d.place f.0 key off)) (pairs_of d.at.node) (radix_way bytes P d.at.node d.place d.radix);
  }

module _ {A : Type 0} {bytes : A → List ℕ} {P : ℕ} {key : List ℕ} {tree : Tree OpaqueNodePtr A} {name : OpaqueNodePtr} {depth : ℕ} where
  module _ (o : IsOnKey bytes P key tree name depth) where
    -- a leaf
    pub beside_leaf : (n : OpaqueNodePtr) (x : A) → o.descent.at.node ≡ leaf n x → StandsBeside bytes key tree name
    beside_leaf n x is = record {
      at = o.descent.at;
      is_lower = is_before (bytes x) key;
      is_upper = is_before key (bytes x);
      lower = subst (λ t. Each (λ y. is_before (bytes y) key ≡ is_before (bytes x) key) (pairs_of t)) (sym is) (refl, tt);
      upper = subst (λ t. Each (λ y. is_before key (bytes y) ≡ is_before key (bytes x)) (pairs_of t)) (sym is) (refl, tt);
    }

    module _ {p : InnerPtr} {shown : Inner} (at : IsShown o.descent.at.node p shown) where
      -- the node has a child
      pub has_child : 0 < length shown.children
      has_child =
          let own = shown_radix o.descent at in
          let two = own.2 in
          let all = slots_long at.children in
          rw at.slots (omega arith)

      -- the key differs from the node's prefix
      pub beside_off : (IsFront (front o.descent at) key → ⊥) → StandsBeside bytes key tree name
      beside_off off =
          let w = front o.descent at in
          record {
            at = o.descent.at;
            is_lower = is_before w key;
            is_upper = is_before key w;
            lower = each_under o.descent at (λ x. is_before (bytes x) key ≡ is_before (front o.descent at) key)
                (λ c i x f. let (r, e) = front_cut (front o.descent at) (c ∷ []) (bytes x) f in
                ap (λ z. is_before z key) e ∙ ap is_lt (apart_left (front o.descent at) r key off));
            upper = each_under o.descent at (λ x. is_before key (bytes x) ≡ is_before key (front o.descent at))
                (λ c i x f. let (r, e) = front_cut (front o.descent at) (c ∷ []) (bytes x) f in
                ap (is_before key) e ∙ ap is_lt (apart_right (front o.descent at) r key off));
          }

      own_prefix : prefix_of bytes depth o.descent.at.node ≡ (shown_radix o.descent at).0
      own_prefix =
          ap (prefix_of bytes depth) at.is
          ∙ subst (λ n. prefix_of bytes n (inner (inner_name p) (header_at p.kind shown) at.children) ≡ (shown_radix o.descent at).0) o.descent.depth_is
          (prefix_is bytes P (inner_name p) (header_at p.kind shown) at.children o.descent.place (shown_radix o.descent at))

      -- the key continues where it goes on with the whole prefix
      pub goes_on : IsFront (prefix_of bytes depth o.descent.at.node) (drop depth key) ↔ IsFront (front o.descent at) key
      goes_on =
          let place = o.descent.place in
          let own = shown_radix o.descent at in
          let rest : (r : List ℕ) → key ≡ place ++ r → drop depth key ≡ r =
          λ r e. ap (λ m. drop m key) (sym o.descent.depth_is) ∙ after_front place key r e in (
            λ (r, e). let (q, f) = o.on_way in (
              r,
              f ∙ ap (λ z. place ++ z) (sym (rest q f) ∙ e ∙ ap (λ z. z ++ r) own_prefix) ∙ sym (append_assoc place own.0 r),
            ),
            λ (r, e). (r, rest (own.0 ++ r) (e ∙ append_assoc place own.0 r) ∙ ap (λ z. z ++ r) (sym own_prefix)),
          )

    module _ {p : InnerPtr} {shown : Inner} (at : IsShown o.descent.at.node p shown) {len : ℕ} (len_is : len ≡ shown.prefix.len) where
      place_len : length (front o.descent at) ≡ depth + len
      place_len = let l = front_len o.descent at in omega arith

      -- the key ends with the node's prefix, or before
      pub beside_end : length key ≤ depth + len → StandsBeside bytes key tree name
      beside_end short =
          let w = front o.descent at in
          let long : length key ≤ length (front o.descent at) = let l = place_len in omega arith in
          record {
            at = o.descent.at;
            is_lower = is_before (w ++ 0 ∷ []) key;
            is_upper = is_before key (w ++ 0 ∷ []);
            lower = each_under o.descent at (λ x. is_before (bytes x) key ≡ is_before (front o.descent at ++ 0 ∷ []) key)
                (λ c i x (r, e). ap (λ z. is_before z key) (e ∙ append_assoc (front o.descent at) (c ∷ []) r)
                ∙ ap is_lt (ended_left (front o.descent at) key r c long));
            upper = each_under o.descent at (λ x. is_before key (bytes x) ≡ is_before key (front o.descent at ++ 0 ∷ []))
                (λ c i x (r, e). ap (is_before key) (e ∙ append_assoc (front o.descent at) (c ∷ []) r)
                ∙ ap is_lt (ended_right (front o.descent at) key r c long));
          }

      module _ (long : depth + len < length key) (goes : IsFront (front o.descent at) key) where
        key_byte : IsFront (front o.descent at ++ get_or key (depth + len) 0 ∷ []) key
        key_byte =
            let l = place_len in
            subst (λ n. IsFront (front o.descent at ++ get_or key n 0 ∷ []) key) l (front_byte (front o.descent at) key goes (omega arith))

        below_key : (c : ℕ) → c < get_or key (depth + len) 0 → (x : A) → IsFront (front o.descent at ++ c ∷ []) (bytes x) → Precedes (bytes x) key
        below_key c less x f = parts bytes (front o.descent at) c (get_or key (depth + len) 0) (bytes x) key f key_byte less

        above_key : (c : ℕ) → get_or key (depth + len) 0 < c → (x : A) → IsFront (front o.descent at ++ c ∷ []) (bytes x) → Precedes key (bytes x)
        above_key c more x f = parts bytes (front o.descent at) (get_or key (depth + len) 0) c key (bytes x) key_byte f more

        -- the key continues below a child
        pub onto_child : {to : OpaqueNodePtr} → child_at shown.children (get_or key (depth + len) 0) ≡ Some to →
            (next : IsOnKey bytes P key tree to (depth + len + 1)) ×
            (left_on_way bytes key depth o.descent.at.node ≤ left_on_way bytes key (depth + len + 1) next.descent.at.node + 1)
        onto_child {to} there =
            let b = get_or key (depth + len) 0 in
            let low : (c : ℕ) → IsIn c (bytes_of at.children) → c < b → (x : A) → IsFront (front o.descent at ++ c ∷ []) (bytes x) →
            Precedes (bytes x) key = λ c i less. below_key c less in
            let high : (c : ℕ) → IsIn c (bytes_of at.children) → b < c → (x : A) → IsFront (front o.descent at ++ c ∷ []) (bytes x) →
            Precedes key (bytes x) = λ c i more. above_key c more in
            subst (λ n. (next : IsOnKey bytes P key tree to (depth + n + 1))
            × (left_on_way bytes key depth o.descent.at.node ≤ left_on_way bytes key (depth + n + 1) next.descent.at.node + 1)) (sym len_is) (
              record { descent = down o.descent at b there low high; leads = down_leads o.descent at o.leads b there low high; on_way = key_byte },
              child_left o.descent key at b (ap (λ n. get_or key (depth + n) 0) len_is) there low high,
            )

        -- there is no child for the key's byte, and this is the next one
        pub beside_gap : child_at shown.children (get_or key (depth + len) 0) ≡ None → {r : ℕ × OpaqueNodePtr} →
            IsNextTo shown.children (get_or key (depth + len) 0) r → StandsBeside bytes key tree r.1
        beside_gap none {r} next =
            let b = get_or key (depth + len) 0 in
            off_place (down o.descent at r.0 next.there lower upper) (λ f.
            same (sym (byte_after (front o.descent at) key r.0 f) ∙ ap (λ n. get_or key n 0) place_len))
          where
            same : r.0 ≡ get_or key (depth + len) 0 → ⊥
            same e = let there = next.there in let gone = ap (child_at shown.children) e ∙ none in absurd cc

            -- a child's byte is another one, and not between
            lower : (c : ℕ) → IsIn c (bytes_of at.children) → c < r.0 → (x : A) → IsFront (front o.descent at ++ c ∷ []) (bytes x) → Precedes (bytes x) key
            lower c i less = go (cases_order c (get_or key (depth + len) 0))
              where
                go : (c ≡ get_or key (depth + len) 0) ⊎ ((c < get_or key (depth + len) 0) ⊎ (get_or key (depth + len) 0 < c)) →
                    (x : A) → IsFront (front o.descent at ++ c ∷ []) (bytes x) → Precedes (bytes x) key
                go (inl e) = absurd (child_there o.descent at c i (ap (child_at shown.children) e ∙ none))
                go (inr (inl l)) = below_key c l
                go (inr (inr l)) = absurd (child_there o.descent at c i (next.above c l less))

            upper : (c : ℕ) → IsIn c (bytes_of at.children) → r.0 < c → (x : A) → IsFront (front o.descent at ++ c ∷ []) (bytes x) → Precedes key (bytes x)
            upper c i more = go (cases_order c (get_or key (depth + len) 0))
              where
                go : (c ≡ get_or key (depth + len) 0) ⊎ ((c < get_or key (depth + len) 0) ⊎ (get_or key (depth + len) 0 < c)) →
                    (x : A) → IsFront (front o.descent at ++ c ∷ []) (bytes x) → Precedes key (bytes x)
                go (inl e) = absurd (child_there o.descent at c i (ap (child_at shown.children) e ∙ none))
                go (inr (inl l)) = absurd (child_there o.descent at c i (next.below c more l))
                go (inr (inr l)) = above_key c l

module _ {K V : Type 0} {s : Nodes K V} {bytes : K × V → List ℕ} {P : ℕ} {root : OpaqueNodePtr} {pairs : List (K × V)} {layout : Tree OpaqueNodePtr (K × V)}
    (by : IsCanonicalTree bytes P s root pairs layout) {key : List ℕ} where
  abbrev pub on_key_start : IsOnKey bytes P key layout root 0
  on_key_start = record { descent = start by; leads = refl; on_way = (key, refl) }

  -- a node on the path is on the key's path
  abbrev pub at_on : {name other : OpaqueNodePtr} {depth : ℕ} (o : IsOnKey bytes P key layout name depth) → other ≡ name →
      IsAt bytes P key layout (path_of o.descent.at.path) other depth
  at_on o is = record {
    frames = o.descent.at.path;
    place = o.descent.place;
    node = o.descent.at.node;
    whole = o.descent.at.whole;
    leads = o.leads;
    radix = o.descent.radix;
    on_way = o.on_way;
    named = o.descent.at.named ∙ sym is;
    depth_is = o.descent.depth_is;
    path_is = refl;
  }

-- A node on the key's path, and what was read before: the nodes above, at most twice as many as levels without those for the guide leaf.
pub record IsReadOnKey {K V : Type 0} (bytes : K × V → List ℕ) (P : ℕ) (s : Nodes K V) (root : OpaqueNodePtr) (key : List ℕ)
    (tree : Tree OpaqueNodePtr (K × V)) (name : OpaqueNodePtr)
    (depth : ℕ) (guide : Option LeafPtr) (number : ℕ) : Type 0 where
  pub on_key : IsOnKey bytes P key tree name depth
  pub at_least : length (nodes_on_way bytes key tree) ≤ number + left_on_way bytes key depth on_key.descent.at.node
  pub at_most : number + 2 * levels s name ≤ 2 * levels s root + guide_cost s root guide
