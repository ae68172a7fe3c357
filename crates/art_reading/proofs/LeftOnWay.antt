-- how many nodes on the key's path there are from a node on
use Rattle.std.proofs.Common.{◌≡◌, ◌≢◌, ℕ, ◌+◌, ◌<◌, ◌≤◌, List, [], ◌∷◌, ◌++◌, length, get_or, ap, sym, ◌∙◌, arith, subst, length-append, Some, None}
use Rattle.art_model.specs.Prelude.{Inner, child_at, inner_name, InnerPtr, OpaqueNodePtr, IsIn, IsFront, Tree, leaf, inner, Subtrees, child, NodeHeader, IsRadix, AreRadix, bytes_of, join, place_of, places_below, header_at}
use Rattle.art_model.proofs.lists.Lists.{Each-weaker}
use Rattle.art_model.proofs.places.OnWay.{AreAside, aside_end, aside_off, aside_others, aside_places, child_under, no_child_under, none_match, places_between}
use Rattle.art_model.proofs.places.Places.{place_is}
use Rattle.art_model.proofs.stores.Shown.{IsShown}
use Rattle.art_reading.specs.Readings.{left_on_way}
use Rattle.art_reading.proofs.Descents.{IsDescent, down, front as front_of, front_len, shown_radix}
use Rattle.art_reading.proofs.LookupWays.{count_front, count_most, count_on_way}

module _ {A : Type 0} (bytes : A → List ℕ) (P : ℕ) (key place : List ℕ) (on_way : IsFront place key) where
  -- the node itself, and those below
  own_counts : (t : Tree OpaqueNodePtr A) (name : OpaqueNodePtr) (others : List (List ℕ × OpaqueNodePtr)) → IsRadix bytes P place t →
      count_on_way key ((place_of bytes (length place) t, name) ∷ others) ≡ 1 + count_on_way key others
  own_counts t name others radix =
      count_front key (place_of bytes (length place) t, name) others
      (subst (λ z. IsFront z key) (sym (place_is bytes P t place radix)) on_way)

  pub left_leaf : (name : OpaqueNodePtr) (x : A) → IsRadix bytes P place (leaf name x) → left_on_way bytes key (length place) (leaf name x) ≡ 1
  left_leaf name x radix = own_counts (leaf name x) name [] radix

  module _ (name : OpaqueNodePtr) (h : NodeHeader) (cs : Subtrees OpaqueNodePtr A) (radix : IsRadix bytes P place (inner name h cs)) where
    abbrev front : List ℕ
    front = place ++ radix.0

    deep : length place + h.length_of + 1 ≡ length front + 1
    deep = let len = ap (λ z. z.length_of) radix.1 in let whole = length-append place radix.0 in omega arith

    left_below : left_on_way bytes key (length place) (inner name h cs) ≡ 1 + count_on_way key (places_below bytes (length place + h.length_of + 1) cs)
    left_below = own_counts (inner name h cs) name (places_below bytes (length place + h.length_of + 1) cs) radix

    -- it is the last one where the path continues below no child
    pub left_aside : AreAside front key cs → left_on_way bytes key (length place) (inner name h cs) ≡ 1
    left_aside aside =
        let none = ap length (none_match (λ node. node.0) key (places_below bytes (length place + h.length_of + 1) cs)
        (aside_places bytes P front key (length place + h.length_of + 1) cs deep radix.4 aside)) in
        let all = left_below in
        omega arith

    -- else there is one more than from the child on
    pub left_child : (l : Subtrees OpaqueNodePtr A) (b : ℕ) (t : Tree OpaqueNodePtr A) (r : Subtrees OpaqueNodePtr A) →
        cs ≡ join l (child b t r) → AreAside front key l → AreAside front key r →
        left_on_way bytes key (length place) (inner name h cs) ≡ left_on_way bytes key (length place + h.length_of + 1) t + 1
    left_child l b t r whole low high =
        let d = length place + h.length_of + 1 in
        let below = subst (AreRadix bytes P front) whole radix.4 in
        let count = ap (λ z. count_on_way key (places_below bytes d z)) whole ∙ ap length (places_between bytes P front key l b t r below low high d deep) in
        let all = left_below in
        omega arith

-- what a descent by the key's bytes leaves to be read, whether its node is on the key's path or not
module _ {A : Type 0} {bytes : A → List ℕ} {P : ℕ} {Lower Upper : A → Type 0} {tree : Tree OpaqueNodePtr A} {name : OpaqueNodePtr} {depth : ℕ}
    (d : IsDescent bytes P Lower Upper tree name depth) (key : List ℕ) where
  -- at a leaf
  pub leaf_left : (n : OpaqueNodePtr) (x : A) → d.at.node ≡ leaf n x → left_on_way bytes key depth d.at.node ≤ 1
  leaf_left n x is = subst (λ t. left_on_way bytes key depth t ≤ 1) (sym is) (count_most key (place_of bytes depth (leaf n x), n) [])

  module _ {p : InnerPtr} {shown : Inner} (at : IsShown d.at.node p shown) where
    part_deep : depth + shown.prefix.len + 1 ≡ length (front_of d at) + 1
    part_deep = ap (λ n. n + 1) (sym (front_len d at))

    below_left : left_on_way bytes key depth d.at.node ≤ 1 + count_on_way key (places_below bytes (depth + shown.prefix.len + 1) at.children)
    below_left = subst (λ t. left_on_way bytes key depth t ≤ 1 + count_on_way key (places_below bytes (depth + shown.prefix.len + 1) at.children)) (sym at.is)
        (count_most key (place_of bytes depth (inner (inner_name p) (header_at p.kind shown) at.children), inner_name p)
        (places_below bytes (depth + shown.prefix.len + 1) at.children))

    -- where the path continues below no child
    aside_left : AreAside (front_of d at) key at.children → left_on_way bytes key depth d.at.node ≤ 1
    aside_left aside =
        let none = ap length (none_match (λ node. node.0) key (places_below bytes (depth + shown.prefix.len + 1) at.children)
        (aside_places bytes P (front_of d at) key (depth + shown.prefix.len + 1) at.children part_deep (shown_radix d at).4 aside)) in
        let all = below_left in
        omega arith

    -- where the key does not continue with the prefix
    pub off_left : (IsFront (front_of d at) key → ⊥) → left_on_way bytes key depth d.at.node ≤ 1
    off_left off = aside_left (aside_off (front_of d at) key at.children off)

    -- where the key ends with the prefix, or before
    pub end_left : length key ≤ depth + shown.prefix.len → left_on_way bytes key depth d.at.node ≤ 1
    end_left short = aside_left (aside_end (front_of d at) key at.children (let l = front_len d at in omega arith))

    byte_is : get_or key (length (front_of d at)) 0 ≡ get_or key (depth + shown.prefix.len) 0
    byte_is = ap (λ n. get_or key n 0) (front_len d at)

    -- where there is no child for its byte
    pub gap_left : child_at shown.children (get_or key (depth + shown.prefix.len) 0) ≡ None → left_on_way bytes key depth d.at.node ≤ 1
    gap_left none =
        let b = get_or key (length (front_of d at)) 0 in
        aside_left (aside_others (front_of d at) key at.children
        (no_child_under at.children b (ap (λ cs. child_at cs b) (sym at.slots) ∙ ap (child_at shown.children) byte_is ∙ none)))

    -- below the child for its byte there is one less
    pub child_left : {to : OpaqueNodePtr} (b : ℕ) → b ≡ get_or key (depth + shown.prefix.len) 0 → (there : child_at shown.children b ≡ Some to)
        (lower : (c : ℕ) → IsIn c (bytes_of at.children) → c < b → (x : A) → IsFront (front_of d at ++ c ∷ []) (bytes x) → Lower x)
        (upper : (c : ℕ) → IsIn c (bytes_of at.children) → b < c → (x : A) → IsFront (front_of d at ++ c ∷ []) (bytes x) → Upper x) →
        left_on_way bytes key depth d.at.node ≤
        left_on_way bytes key (depth + shown.prefix.len + 1) (down d at b there lower upper).at.node + 1
    child_left {to} b b_is there lower upper =
        let n = depth + shown.prefix.len + 1 in
        let u = child_under at.children b to (shown_radix d at).3 (ap (λ cs. child_at cs b) (sym at.slots) ∙ there) in
        let below = subst (AreRadix bytes P (front_of d at)) u.whole (shown_radix d at).4 in
        let others = λ (c : ℕ) (o : c ≢ b). λ (e : c ≡ get_or key (length (front_of d at)) 0). o (e ∙ byte_is ∙ sym b_is) in
        let low = aside_others (front_of d at) key u.left
        (Each-weaker (λ c. c ≢ b) (λ c. c ≢ get_or key (length (front_of d at)) 0) others (bytes_of u.left) u.others_left) in
        let high = aside_others (front_of d at) key u.right
        (Each-weaker (λ c. c ≢ b) (λ c. c ≢ get_or key (length (front_of d at)) 0) others (bytes_of u.right) u.others_right) in
        let count = ap (λ z. count_on_way key (places_below bytes n z)) u.whole
        ∙ ap length (places_between bytes P (front_of d at) key u.left b u.tree u.right below low high n part_deep) in
        let all = below_left in
        omega arith
