-- A tree is freed while what is left stays one tree: a root with one child is freed, or is attached below its last child, where an end is freed.
use Rattle.std.proofs.Common.{◌≡◌, ◌≢◌, ℕ, ◌+◌, ◌<◌, Bool, true, false, cond, List, [], ◌∷◌, ◌++◌, length, length-append, append-nil}
use Rattle.std.proofs.Common.{append_assoc, Option, Some, None, IsSome, IsSomeAnd, ◌⊎◌, inl, inr, refl, ap, sym, ◌∙◌, subst, arith}
use Rattle.std.specs.List.{AllByRecursion as Each}
use Rattle.std.specs.FinMap as map
use Rattle.std.proofs.lemmas.Bool.{eq-eqb, ne_eqb}
use Rattle.art_model.specs.Prelude.{Inner, Children, IsRising, child_at, put_child, remove_child, with_child, without_child, Nodes, change, Leaf, OpaqueNodePtr, IsIn, KeepsOthers, Frees, AreDistinct, Holds, HoldsBelow, IsLayout, Node, inner_node, leaf_node, leaf_names, leaf_names_below, name_of, names_of, names_below, slots_of, first_of, join, IsUsed, content_at, header_at, shape_at, Tree, leaf, inner, Subtrees, child, no_child, NodeHeader, as_inner}
use Rattle.art_inner.specs.Inner.{IsBelow, HasPlace}
use Rattle.art_nodes.proofs.StoreChanges.{inner_changed_here}
use Rattle.art_parts.proofs.NameLemmas.{same_or_not, inner_cmp_total, inner_cmp-IsAntisymmetric}
use Rattle.art_model.proofs.lists.Lists.{Each-append, Each-left, Each-right, each_from, each_in, in_left, in_right, in_either}
use Rattle.art_model.proofs.stores.Names.{apart_in, takes_leaves, taken_in}
use Rattle.art_model.proofs.lists.Pairwises.{Pairwise-append, Pairwise-left, Pairwise-right}
use Rattle.art_model.proofs.places.Paths.{leaf_names_below-join, names_below-join, slots_of-join}
use Rattle.art_model.proofs.stores.Slots.{put_child-there}
use Rattle.art_model.proofs.stores.Stores.{HoldsBelow-left, HoldsBelow-right, frame, frame_below}
use Rattle.art_model.proofs.stores.Writes.{inner_name_one, shown}
use Rattle.art_copying.specs.Freed.{AreJoined, CanBothGo, CanGo, IsEnd, children_seen, names_to_free, names_to_free_below, leaves_to_free}
use Rattle.art_copying.proofs.FreedTrees.{Shape, Shapes, both_counts, count_at, count_at_is, shape_there, shape_at-inner, shape_same, going_in, written_elsewhere, inner_freed, leaf_below_in}

-- ---- lists of the same names

module _ {N : Type 0} where
  -- the one list has the names of the other, and has none twice if the other has none
  record SameNames (xs ys : List N) : Type 0 where
    pub forth : (k : N) → IsIn k xs → IsIn k ys
    pub back : (k : N) → IsIn k ys → IsIn k xs
    pub distinct : AreDistinct xs → AreDistinct ys

  same_names : {xs ys : List N} → xs ≡ ys → SameNames xs ys
  same_names {xs} e = subst (SameNames xs) e (record { forth = λ k i. i; back = λ k i. i; distinct = λ d. d })

  same_then : {xs ys zs : List N} → SameNames xs ys → SameNames ys zs → SameNames xs zs
  same_then a b = record { forth = λ k i. b.forth k (a.forth k i); back = λ k i. a.back k (b.back k i); distinct = λ d. b.distinct (a.distinct d) }

  -- names of which none is in both lists
  apart_each : (xs ys : List N) → ((k : N) → IsIn k xs → IsIn k ys → ⊥) → Each (λ x. Each (λ y. x ≢ y) ys) xs
  apart_each xs ys off = each_from (λ x. Each (λ y. x ≢ y) ys) xs (λ x i. each_from (λ y. x ≢ y) ys (λ y j e. off x i (subst (λ z. IsIn z ys) (sym e) j)))

  same_after : (xs ys zs : List N) → SameNames ys zs → SameNames (xs ++ ys) (xs ++ zs)
  same_after xs ys zs same = record {
    forth = λ k i. elim (in_either k xs ys i) [ inl j ↦ in_left k xs zs j | inr j ↦ in_right k xs zs (same.forth k j) ];
    back = λ k i. elim (in_either k xs zs i) [ inl j ↦ in_left k xs ys j | inr j ↦ in_right k xs ys (same.back k j) ];
    distinct = λ d. Pairwise-append ◌≢◌ xs zs (Pairwise-left ◌≢◌ xs ys d) (same.distinct (Pairwise-right ◌≢◌ xs ys d))
        (apart_each xs zs (λ k i j. apart_in xs ys k d i (same.back k j)));
  }

  -- two neighbours are swapped
  exchanged : (xs ys zs : List N) → SameNames (xs ++ (ys ++ zs)) (ys ++ (xs ++ zs))
  exchanged xs ys zs = record {
    forth = λ k i. elim (in_either k xs (ys ++ zs) i) [
      | inl j ↦ in_right k ys (xs ++ zs) (in_left k xs zs j)
      | inr j ↦ elim (in_either k ys zs j) [ inl h ↦ in_left k ys (xs ++ zs) h | inr h ↦ in_right k ys (xs ++ zs) (in_right k xs zs h) ]
    ];
    back = λ k i. elim (in_either k ys (xs ++ zs) i) [
      | inl j ↦ in_right k xs (ys ++ zs) (in_left k ys zs j)
      | inr j ↦ elim (in_either k xs zs j) [ inl h ↦ in_left k xs (ys ++ zs) h | inr h ↦ in_right k xs (ys ++ zs) (in_right k ys zs h) ]
    ];
    distinct = λ d.
        let rest = Pairwise-right ◌≢◌ xs (ys ++ zs) d in
        Pairwise-append ◌≢◌ ys (xs ++ zs) (Pairwise-left ◌≢◌ ys zs rest)
        (Pairwise-append ◌≢◌ xs zs (Pairwise-left ◌≢◌ xs (ys ++ zs) d) (Pairwise-right ◌≢◌ ys zs rest)
        (apart_each xs zs (λ k i j. apart_in xs (ys ++ zs) k d i (in_right k ys zs j))))
        (apart_each ys (xs ++ zs) (λ k i j. elim (in_either k xs zs j) [
          | inl h ↦ apart_in xs (ys ++ zs) k d h (in_left k ys zs i)
          | inr h ↦ apart_in ys zs k rest i h
        ]));
  }

  exchanged_last : (xs ys : List N) → SameNames (xs ++ ys) (ys ++ xs)
  exchanged_last xs ys =
      same_then (same_names (ap (λ z. xs ++ z) (sym (append-nil ys)))) (same_then (exchanged xs ys []) (same_names (ap (λ z. ys ++ z) (append-nil xs))))

  -- a tree's names before those of a node, of its first child and of its other ones: the tree replaces the child
  changed_places : (z : N) (a f m : List N) → SameNames (a ++ (z ∷ (f ++ m))) ((z ∷ (a ++ m)) ++ f)
  changed_places z a f m =
      same_then (exchanged a (z ∷ []) (f ++ m))
      (same_then (same_after (z ∷ a) (f ++ m) (m ++ f) (exchanged_last f m)) (same_names (ap (λ l. z ∷ l) (sym (append_assoc a m f)))))

-- a name is in a list, or not
is_in_or : (ns : List OpaqueNodePtr) (k : OpaqueNodePtr) → IsIn k ns ⊎ (IsIn k ns → ⊥)
is_in_or [] k = inr (λ i. i)
is_in_or (n ∷ ns) k = elim (same_or_not inner_cmp-IsAntisymmetric inner_cmp_total (as_inner n) (as_inner k)) [
  | inl e ↦ inl (inl (inner_name_one n k e))
  | inr off ↦ elim (is_in_or ns k) [ inl i ↦ inl (inr i) | inr non ↦ inr (λ (i : IsIn k (n ∷ ns)). elim i [ inl e ↦ off (ap as_inner e) | inr j ↦ non j ]) ]
]

-- what is kept from one store to the next, and from that to a third one
keeps_on : {K V : Type 0} {s t u : Nodes K V} (xs ys zs : List OpaqueNodePtr) → KeepsOthers s t xs ys → KeepsOthers t u ys zs → KeepsOthers s u xs zs
keeps_on xs ys zs first second = record {
  beside = λ k off out. elim (is_in_or ys k) [
    | inl i ↦ second.gone k i out ∙ sym (first.taken k i off)
    | inr non ↦ second.beside k non out ∙ first.beside k off non
  ];
  gone = λ k i out. elim (is_in_or ys k) [ inl j ↦ second.gone k j out | inr non ↦ second.beside k non out ∙ first.gone k i non ];
  taken = λ k i off. elim (is_in_or ys k) [ inl j ↦ first.taken k j off | inr non ↦ sym (first.beside k off non) ∙ second.taken k i non ];
}

-- ---- trees that are seen, with their leaves where these are to be freed too

module _ {K V : Type 0} (s : Nodes K V) (too : Bool) where
  record IsSeen (t : Shape) : Type 0 where
    pub holds : Holds (shape_at s) t
    pub leaves : too ≡ true → Each (IsUsed s) (leaf_names t)

  pub record AreSeen (cs : Shapes) : Type 0 where
    pub holds : HoldsBelow (shape_at s) cs
    pub leaves : too ≡ true → Each (IsUsed s) (leaf_names_below cs)

module _ {K V : Type 0} {s : Nodes K V} {too : Bool} where
  can_go : {t : Shape} {root : OpaqueNodePtr} → name_of t ≡ root → IsSeen s too t → AreDistinct (names_of t) → CanGo s too root t
  can_go named seen distinct = record { layout = record { named = named; holds = seen.holds; distinct = distinct }; leaves = seen.leaves }

  seen_of : {t : Shape} {root : OpaqueNodePtr} → CanGo s too root t → IsSeen s too t
  seen_of can = record { holds = can.layout.holds; leaves = can.leaves }

  below_seen : {n : OpaqueNodePtr} {h : NodeHeader} {cs : Shapes} → IsSeen s too (inner n h cs) → AreSeen s too cs
  below_seen seen = record { holds = seen.holds.1; leaves = seen.leaves }

  first_seen : {b : ℕ} {t : Shape} {cs : Shapes} → AreSeen s too (child b t cs) → IsSeen s too t
  first_seen {t = t} {cs = cs} seen =
      record { holds = seen.holds.0; leaves = λ every. Each-left (IsUsed s) (leaf_names t) (leaf_names_below cs) (seen.leaves every) }

  rest_seen : {b : ℕ} {t : Shape} {cs : Shapes} → AreSeen s too (child b t cs) → AreSeen s too cs
  rest_seen {t = t} {cs = cs} seen =
      record { holds = seen.holds.1; leaves = λ every. Each-right (IsUsed s) (leaf_names t) (leaf_names_below cs) (seen.leaves every) }

  both_seen : {t : Shape} {cs : Shapes} (b : ℕ) → IsSeen s too t → AreSeen s too cs → AreSeen s too (child b t cs)
  both_seen {t = t} {cs = cs} b first rest = record {
    holds = (first.holds, rest.holds);
    leaves = λ every. Each-append (IsUsed s) (leaf_names t) (leaf_names_below cs) (first.leaves every) (rest.leaves every);
  }

  seen_above : {n : OpaqueNodePtr} {h : NodeHeader} {cs : Shapes} → shape_at s n ≡ Some (inner_node h (slots_of cs)) → AreSeen s too cs →
      IsSeen s too (inner n h cs)
  seen_above there seen = record { holds = (there, seen.holds); leaves = seen.leaves }

still_used : {K V : Type 0} (s t : Nodes K V) (ns : List OpaqueNodePtr) →
    ((k : OpaqueNodePtr) → IsIn k ns → content_at t k ≡ content_at s k) → Each (IsUsed s) ns → Each (IsUsed t) ns
still_used s t ns same used = each_from (IsUsed t) ns (λ k i none. each_in (IsUsed s) k ns used i (sym (same k i) ∙ none))

module _ {K V : Type 0} {s t : Nodes K V} {too : Bool} where
  -- what is seen is seen in another store that has the same under its names
  seen_still : (a : Shape) → ((k : OpaqueNodePtr) → IsIn k (names_of a) → content_at t k ≡ content_at s k) → IsSeen s too a → IsSeen t too a
  seen_still a same seen = record {
    holds = frame (shape_at s) (shape_at t) a (each_from (λ k. shape_at t k ≡ shape_at s k) (names_of a) (λ k i. shape_same s t k (same k i))) seen.holds;
    leaves = λ every. still_used s t (leaf_names a) (λ k i. same k (taken_in takes_leaves a k i)) (seen.leaves every);
  }

  below_still : (cs : Shapes) → ((k : OpaqueNodePtr) → IsIn k (names_below cs) → content_at t k ≡ content_at s k) → AreSeen s too cs → AreSeen t too cs
  below_still cs same seen = record {
    holds = frame_below (shape_at s) (shape_at t) cs
        (each_from (λ k. shape_at t k ≡ shape_at s k) (names_below cs) (λ k i. shape_same s t k (same k i))) seen.holds;
    leaves = λ every. still_used s t (leaf_names_below cs) (λ k i. same k (leaf_below_in cs k i)) (seen.leaves every);
  }

-- ---- joined children

module _ {N A : Type 0} (too : Bool) where
  names_to_free_below-join : (cs ds : Subtrees N A) → names_to_free_below too (join cs ds) ≡ names_to_free_below too cs ++ names_to_free_below too ds
  names_to_free_below-join no_child ds = refl
  names_to_free_below-join (child b t cs) ds = ap (λ l. names_to_free too t ++ l) (names_to_free_below-join cs ds)
      ∙ sym (append_assoc (names_to_free too t) (names_to_free_below too cs) (names_to_free_below too ds))

module _ {K V : Type 0} {s : Nodes K V} {too : Bool} (cs ds : Shapes) (seen : AreSeen s too (join cs ds)) where
  left_seen : AreSeen s too cs
  left_seen = record {
    holds = HoldsBelow-left (shape_at s) cs ds seen.holds;
    leaves =
        λ every. Each-left (IsUsed s) (leaf_names_below cs) (leaf_names_below ds)
        (subst (Each (IsUsed s)) (leaf_names_below-join cs ds) (seen.leaves every));
  }

  right_seen : AreSeen s too ds
  right_seen = record {
    holds = HoldsBelow-right (shape_at s) cs ds seen.holds;
    leaves =
        λ every. Each-right (IsUsed s) (leaf_names_below cs) (leaf_names_below ds)
        (subst (Each (IsUsed s)) (leaf_names_below-join cs ds) (seen.leaves every));
  }

-- ---- what the first and the last child show

abbrev slots_under : Shape → Children
slots_under (leaf n x) = []
slots_under (inner n h cs) = slots_of cs

module _ {K V : Type 0} (s : Nodes K V) where
  slots_are : {root : OpaqueNodePtr} (t : Shape) → IsLayout (shape_at s) root t → children_seen (shape_at s root) ≡ slots_under t
  slots_are (leaf n x) is = ap (λ z. children_seen (shape_at s z)) (sym is.named) ∙ ap children_seen is.holds
  slots_are (inner n h cs) is = ap (λ z. children_seen (shape_at s z)) (sym is.named) ∙ ap children_seen is.holds.0

  -- no child: an end
  pub is_end : {root : OpaqueNodePtr} (t : Shape) → IsLayout (shape_at s) root t → None ≡ first_of (children_seen (shape_at s root)) → IsEnd t
  is_end t is none = go t (none ∙ ap first_of (slots_are t is))
    where
      go : (t : Shape) → None ≡ first_of (slots_under t) → IsEnd t
      go (leaf n x) e = tt
      go (inner n h no_child) e = tt
      go (inner n h (child b a cs)) e = absurd cc

-- a tree with a last child
record HasLast (t : Shape) (byte : ℕ) (name : OpaqueNodePtr) : Type 0 where
  pub mark : OpaqueNodePtr
  pub head : NodeHeader
  pub others : Shapes
  pub last : Shape
  pub is : t ≡ inner mark head (join others (child byte last no_child))
  pub named : name_of last ≡ name

-- a tree with a child
record HasFirst (t : Shape) (byte : ℕ) (name : OpaqueNodePtr) : Type 0 where
  pub mark : OpaqueNodePtr
  pub head : NodeHeader
  pub first : Shape
  pub more : Shapes
  pub is : t ≡ inner mark head (child byte first more)
  pub named : name_of first ≡ name

some_parts : (x y : ℕ × OpaqueNodePtr) → ◌≡◌ {A = Option (ℕ × OpaqueNodePtr)} (Some x) (Some y) → (x.0 ≡ y.0) × (x.1 ≡ y.1)
some_parts x y e = let same : x ≡ y = cc in (ap (λ p. p.0) same, ap (λ p. p.1) same)

-- the last one of some children
record AreBefore (cs : Shapes) (byte : ℕ) (name : OpaqueNodePtr) : Type 0 where
  pub others : Shapes
  pub last : Shape
  pub is : cs ≡ join others (child byte last no_child)
  pub named : name_of last ≡ name

before_last : (cs : Shapes) (others : Children) (byte : ℕ) (name : OpaqueNodePtr) → slots_of cs ≡ others ++ (byte, name) ∷ [] → AreBefore cs byte name
before_last no_child [] byte name e = absurd cc
before_last no_child (o ∷ os) byte name e = absurd cc
before_last (child b t no_child) [] byte name e =
    let first : ◌≡◌ {A = Option (ℕ × OpaqueNodePtr)} (Some (b, name_of t)) (Some (byte, name)) = ap first_of {y = (byte, name) ∷ []} e in
    let same = some_parts (b, name_of t) (byte, name) first in
    record { others = no_child; last = t; is = ap (λ z. child z t no_child) same.0; named = same.1 }
before_last (child b t (child c u cs)) [] byte name e = absurd cc
before_last (child b t cs) (o ∷ os) byte name e =
    let rest = before_last cs os byte name cc in
    record { others = child b t rest.others; last = rest.last; is = ap (λ z. child b t z) rest.is; named = rest.named }

has_last : (t : Shape) (others : Children) (byte : ℕ) (name : OpaqueNodePtr) → slots_under t ≡ others ++ (byte, name) ∷ [] → HasLast t byte name
has_last (leaf n x) [] byte name e = absurd cc
has_last (leaf n x) (o ∷ os) byte name e = absurd cc
has_last (inner n h cs) others byte name e =
    let its = before_last cs others byte name e in
    record { mark = n; head = h; others = its.others; last = its.last; is = ap (λ z. inner n h z) its.is; named = its.named }

has_first : (t : Shape) (byte : ℕ) (name : OpaqueNodePtr) → Some (byte, name) ≡ first_of (slots_under t) → HasFirst t byte name
has_first (leaf n x) byte name e = absurd cc
has_first (inner n h no_child) byte name e = absurd cc
has_first (inner n h (child b a cs)) byte name e =
    let same = some_parts (byte, name) (b, name_of a) e in
    record { mark = n; head = h; first = a; more = cs; is = ap (λ z. inner n h (child z a cs)) (sym same.0); named = sym same.1 }

-- ---- what is left

-- Of the tree of a name this much is left, under the name `now`: the other names to be freed are out of use, and so many leaves are freed.
pub record IsLeft {K V : Type 0} (s t : Nodes K V) (too : Bool) (now : OpaqueNodePtr) (shape : Shape) (count : ℕ) : Type 0 where
  pub left : Shape
  pub can : CanGo t too now left
  pub kept : KeepsOthers s t (names_to_free too shape) (names_to_free too left)
  pub counted : leaves_to_free too shape ≡ count + leaves_to_free too left

-- From one store to the next a part of what is left was freed, and the rest is one tree again; so many leaves are freed.
pub record IsTurn {K V : Type 0} (t u : Nodes K V) (too : Bool) (left : Shape) (next : OpaqueNodePtr) (freed : ℕ) : Type 0 where
  pub after : Shape
  pub can : CanGo u too next after
  pub kept : KeepsOthers t u (names_to_free too left) (names_to_free too after)
  pub counted : leaves_to_free too left ≡ freed + leaves_to_free too after
  pub fewer : length (names_of after) < length (names_of left)

module _ {K V : Type 0} {s : Nodes K V} {too : Bool} where
  -- nothing is freed yet
  pub all_is_left : {root : OpaqueNodePtr} (shape : Shape) → CanGo s too root shape → IsLeft s s too root shape 0
  all_is_left shape can = record {
    left = shape;
    can = can;
    kept = record { beside = λ k off out. refl; gone = λ k i out. absurd (out i); taken = λ k i off. absurd (off i) };
    counted = omega arith;
  }

  -- a step further
  pub less_is_left : {t u : Nodes K V} {now next : OpaqueNodePtr} {shape : Shape} {count freed : ℕ} (is : IsLeft s t too now shape count) →
      IsTurn t u too is.left next freed →
      IsLeft s u too next shape (count + freed)
  less_is_left {shape = shape} is turn = record {
    left = turn.after;
    can = turn.can;
    kept = keeps_on (names_to_free too shape) (names_to_free too is.left) (names_to_free too turn.after) is.kept turn.kept;
    counted = let a = is.counted in let b = turn.counted in omega (arith, a, b);
  }

  -- and one that freed no leaf
  pub still_left : {t u : Nodes K V} {now next : OpaqueNodePtr} {shape : Shape} {count : ℕ} (is : IsLeft s t too now shape count) →
      IsTurn t u too is.left next 0 → IsLeft s u too next shape count
  still_left {u = u} {next = next} {shape = shape} {count = count} is turn =
      subst (IsLeft s u too next shape) (let e : count + 0 ≡ count = omega arith in e) (less_is_left is turn)

  -- all is freed
  pub none_is_left : {t u : Nodes K V} {now : OpaqueNodePtr} {shape : Shape} {count : ℕ} (is : IsLeft s t too now shape count) →
      Frees (names_to_free too is.left) t u →
      Frees (names_to_free too shape) s u
  none_is_left {shape = shape} is freed = keeps_on (names_to_free too shape) (names_to_free too is.left) [] is.kept freed

-- fewer names are left in the store
pub fewer_left : {K V : Type 0} {t u : Nodes K V} {too : Bool} {now next : OpaqueNodePtr} {left : Shape} {freed : ℕ} →
    CanGo t too now left → IsTurn t u too left next freed →
    count_at u next < count_at t now
fewer_left {K} {V} {t} {u} {too} {now} {next} {left} can turn =
    let a = count_at_is t left now can.layout in
    let b = count_at_is u turn.after next turn.can.layout in
    let c = turn.fewer in
    omega (arith, a, b, c)

-- ---- an inner node is written

module _ {K V : Type 0} (t u : Nodes K V) (n : OpaqueNodePtr) (f : Inner → Inner) (inners : u.inners ≡ change t.inners (as_inner n) f)
    (leaves : u.leaves ≡ t.leaves) where
  written_off : (k : OpaqueNodePtr) → n ≢ k → content_at u k ≡ content_at t k
  written_off k other = written_elsewhere t u (as_inner n) f inners leaves k (λ e. other (sym e))

  -- it is seen with other children
  written_seen : {h : NodeHeader} {slots new : List (ℕ × OpaqueNodePtr)} → ((node : Inner) → (f node).prefix ≡ node.prefix) →
      ((node : Inner) → node.children ≡ slots → (f node).children ≡ new) →
      shape_at t n ≡ Some (inner_node h slots) → shape_at u n ≡ Some (inner_node h new)
  written_seen {h} {slots} {new} same made seen =
      let there = shape_there t n h slots seen in
      let got : map.get u.inners (as_inner n) ≡ Some (f there.node) =
      ap (λ m. map.get m (as_inner n)) inners ∙ inner_changed_here t.inners (as_inner n) f there.node there.got in
      let head : header_at n.kind (f there.node) ≡ h =
      ap (λ p. let r : NodeHeader = record { kind = n.kind; length_of = p.len; stored = p.stored } in r) (same there.node) ∙ there.head in
      shape_at-inner u n there.off (Some (f there.node)) got ∙ shown head (made there.node there.children)

-- ---- a root with one child is freed

module _ {K V : Type 0} {t u : Nodes K V} {too : Bool} where
  only_turn : {now next mark : OpaqueNodePtr} {head : NodeHeader} {byte : ℕ} (only : Shape) →
      CanGo t too now (inner mark head (child byte only no_child)) → name_of only ≡ next →
      u.inners ≡ map.remove t.inners (as_inner now) → u.leaves ≡ t.leaves → IsTurn t u too (inner mark head (child byte only no_child)) next 0
  only_turn {now} {next} {mark} {head} {byte} only can named inners leaves =
      let names = names_of only in
      let there = shape_there t mark head ((byte, name_of only) ∷ []) can.layout.holds.0 in
      let freed : Frees (mark ∷ []) t u =
      inner_freed t u (as_inner mark) there.off (inners ∙ ap (λ z. map.remove t.inners (as_inner z)) (sym can.layout.named)) leaves in
      let other : (k : OpaqueNodePtr) → mark ≢ k → content_at u k ≡ content_at t k =
      λ k off. freed.beside k (λ j. elim j [ inl e ↦ off e | inr z ↦ z ]) (λ z. z) in
      let nothing = append-nil (leaf_names only) in
      record {
        after = only;
        can = can_go named (seen_still only (λ k i. other k
            (each_in (λ z. mark ≢ z) k (names ++ []) can.layout.distinct.0 (in_left k names [] i))) (first_seen (below_seen (seen_of can))))
            (Pairwise-left ◌≢◌ names [] can.layout.distinct.1);
        kept = record {
          beside = λ k off out. other k (λ e. off (inl e));
          gone = λ k i out. elim i [
            | inl e ↦ freed.gone k (inl e) (λ z. z)
            | inr j ↦ elim (in_either k (names_to_free too only) [] j) [ inl g ↦ absurd (out g) | inr z ↦ absurd z ]
          ];
          taken = λ k i off. absurd (off (inr (in_left k (names_to_free too only) [] i)));
        };
        counted = let e : leaves_to_free too (inner mark head (child byte only no_child)) ≡ leaves_to_free too only =
            ap (λ l. cond too (length l) 0) nothing in omega (arith, e);
        fewer = let l = length-append names [] in omega (arith, l);
      }

  pub only_goes : {now next : OpaqueNodePtr} (byte : ℕ) (others : Children) (left : Shape) → CanGo t too now left →
      children_seen (shape_at t now) ≡ others ++ (byte, next) ∷ [] → others ≡ [] →
      u.inners ≡ map.remove t.inners (as_inner now) → u.leaves ≡ t.leaves → IsTurn t u too left next 0
  only_goes {now} {next} byte others left can last none inners leaves =
      go left can (sym (slots_are t left can.layout) ∙ last ∙ ap (λ l. l ++ (byte, next) ∷ []) none)
    where
      go : (left : Shape) → CanGo t too now left → slots_under left ≡ (byte, next) ∷ [] → IsTurn t u too left next 0
      go (leaf n x) can e = absurd cc
      go (inner n h no_child) can e = absurd cc
      go (inner n h (child b a no_child)) can e = only_turn a can (some_parts (b, name_of a) (byte, next) (ap first_of e)).1 inners leaves
      go (inner n h (child b a (child c d cs))) can e = absurd cc

-- ---- the last child is removed from the root

module _ (byte : ℕ) (name : OpaqueNodePtr) where
  below_last : (b : ℕ) (cs : Children) → IsBelow b (cs ++ (byte, name) ∷ []) → b < byte
  below_last b [] h = h.0
  below_last b (c ∷ cs) h = below_last b cs h.1

  without_last : (cs : Children) → IsRising (cs ++ (byte, name) ∷ []) → remove_child (cs ++ (byte, name) ∷ []) byte ≡ cs
  without_last [] up = rw (eq-eqb byte byte refl) refl
  without_last (c ∷ cs) up =
      let l = below_last c.0 cs up.0 in
      rw (ne_eqb c.0 byte (λ e. omega arith)) (ap (λ l. c ∷ l) (without_last cs up.1))

-- The root without its last child, and that child, in the next store; all other names hold what they held.
pub record IsCut {K V : Type 0} (t v : Nodes K V) (too : Bool) (left : Shape) (now lower : OpaqueNodePtr) : Type 0 where
  pub upper : Shape
  pub cut : Shape
  pub can : CanBothGo v too now lower upper cut
  pub kept : KeepsOthers t v (names_to_free too left) (names_to_free too upper ++ names_to_free too cut)
  pub counted : leaves_to_free too left ≡ leaves_to_free too upper + leaves_to_free too cut
  pub names : length (names_of left) ≡ length (names_of upper) + length (names_of cut)

module _ {K V : Type 0} {t v : Nodes K V} {too : Bool} where
  cut_off : {now lower mark : OpaqueNodePtr} {head : NodeHeader} (byte : ℕ) (others : Shapes) (last : Shape) →
      CanGo t too now (inner mark head (join others (child byte last no_child))) →
      name_of last ≡ lower → IsRising (slots_of (join others (child byte last no_child))) →
      v.inners ≡ change t.inners (as_inner now) (without_child byte) → v.leaves ≡ t.leaves →
      IsCut t v too (inner mark head (join others (child byte last no_child))) now lower
  cut_off {now} {lower} {mark} {head} byte others last can named up inners leaves =
      let o = names_below others in
      let c = names_of last in
      let cs = join others (child byte last no_child) in
      let all : names_below cs ≡ o ++ c = names_below-join others (child byte last no_child) ∙ ap (λ l. o ++ l) (append-nil c) in
      let goes : names_to_free_below too cs ≡ names_to_free_below too others ++ names_to_free too last =
      names_to_free_below-join too others (child byte last no_child) ∙ ap (λ l. names_to_free_below too others ++ l) (append-nil (names_to_free too last)) in
      let ends : leaf_names_below cs ≡ leaf_names_below others ++ leaf_names last =
      leaf_names_below-join others (child byte last no_child) ∙ ap (λ l. leaf_names_below others ++ l) (append-nil (leaf_names last)) in
      let slots : slots_of cs ≡ slots_of others ++ (byte, name_of last) ∷ [] = slots_of-join others (child byte last no_child) in
      let distinct : AreDistinct (mark ∷ (o ++ c)) = subst (λ l. AreDistinct (mark ∷ l)) all can.layout.distinct in
      let written : v.inners ≡ change t.inners (as_inner mark) (without_child byte) =
      inners ∙ ap (λ z. change t.inners (as_inner z) (without_child byte)) (sym can.layout.named) in
      let off = written_off t v mark (without_child byte) written leaves in
      let same : (k : OpaqueNodePtr) → IsIn k (o ++ c) → content_at v k ≡ content_at t k = λ k i. off k (each_in (λ z. mark ≢ z) k (o ++ c) distinct.0 i) in
      let below = below_seen (seen_of can) in
      let seen = seen_above {n = mark} {h = head} {cs = others}
      (written_seen t v mark (without_child byte) written leaves {h = head} {slots = slots_of cs} {new = slots_of others} (λ node. refl)
      (λ node is. ap (λ l. remove_child l byte) (is ∙ slots) ∙ without_last byte (name_of last) (slots_of others) (subst IsRising slots up)) can.layout.holds.0)
      (below_still others (λ k i. same k (in_left k o c i)) (left_seen others (child byte last no_child) below)) in
      record {
        upper = inner mark head others;
        cut = last;
        can = record {
          above = can_go can.layout.named seen (Pairwise-left ◌≢◌ (mark ∷ o) c distinct);
          below = can_go named (seen_still last (λ k i. same k (in_right k o c i))
              (first_seen (right_seen others (child byte last no_child) below))) (Pairwise-right ◌≢◌ o c distinct.1);
          apart = distinct;
        };
        kept = subst (λ l. KeepsOthers t v (mark ∷ l) (mark ∷ (names_to_free_below too others ++ names_to_free too last))) (sym goes) (record {
          beside = λ k out in_new. off k (λ e. out (inl e));
          gone = λ k i out. absurd (out i);
          taken = λ k i out. absurd (out i);
        });
        counted = ap (λ l. cond too (length l) 0) ends ∙ both_counts too (leaf_names_below others) (leaf_names last);
        names = let e = ap length all in let l = length-append o c in omega (arith, e, l);
      }

  pub last_cut : {now lower : OpaqueNodePtr} (byte : ℕ) (others : Children) (left : Shape) → CanGo t too now left → IsRising (children_seen (shape_at t now)) →
      children_seen (shape_at t now) ≡ others ++ (byte, lower) ∷ [] → v.inners ≡ change t.inners (as_inner now) (without_child byte) →
      v.leaves ≡ t.leaves → IsCut t v too left now lower
  last_cut {now} {lower} byte others left can up last inners leaves =
      let slots = slots_are t left can.layout in
      let has = has_last left others byte lower (sym slots ∙ last) in
      subst (λ z. IsCut t v too z now lower) (sym has.is) (cut_off byte has.others has.last (subst (CanGo t too now) has.is can) has.named
      (subst IsRising (slots ∙ ap slots_under has.is) up) inners leaves)

-- the root is attached below that child
pub root_hangs : {K V : Type 0} {t v u : Nodes K V} {too : Bool} {left : Shape} {now lower root : OpaqueNodePtr} {freed : ℕ}
    (cut : IsCut t v too left now lower) →
    AreJoined v u too cut.upper cut.cut root freed → IsTurn t u too left root freed
root_hangs {too = too} {left = left} cut joined = record {
  after = joined.both;
  can = joined.can;
  kept = keeps_on (names_to_free too left) (names_to_free too cut.upper ++ names_to_free too cut.cut) (names_to_free too joined.both) cut.kept joined.kept;
  counted = let a = cut.counted in let b = joined.counted in omega (arith, a, b);
  fewer = let a = cut.names in let b = joined.fewer in omega (arith, a, b);
}

some_names : {N A : Type 0} (t : Tree N A) → 0 < length (names_of t)
some_names (leaf n x) = omega arith
some_names (inner n h cs) = omega arith

-- ---- a tree replaces the first child of another one

-- Of two trees there are now two others, with the same names.
pub record AreMoved {K V : Type 0} (s t : Nodes K V) (too : Bool) (upper lower : Shape) (left child : OpaqueNodePtr) : Type 0 where
  pub above : Shape
  pub below : Shape
  pub can : CanBothGo t too left child above below
  pub kept : KeepsOthers s t (names_to_free too upper ++ names_to_free too lower) (names_to_free too above ++ names_to_free too below)
  pub counted : leaves_to_free too upper + leaves_to_free too lower ≡ leaves_to_free too above + leaves_to_free too below
  pub names : length (names_of upper) + length (names_of lower) ≡ length (names_of above) + length (names_of below)

-- and the lower one has fewer
pub record IsMove {K V : Type 0} (s t : Nodes K V) (too : Bool) (upper lower : Shape) (left child : OpaqueNodePtr) : Type 0 where
  pub moved : AreMoved s t too upper lower left child
  pub fewer : length (names_of moved.below) < length (names_of lower)

shapes_moved : {N : Type 0} (b : Bool) (a f m : List N) → cond b (length a) 0 + cond b (length (f ++ m)) 0 ≡ cond b (length (a ++ m)) 0 + cond b (length f) 0
shapes_moved true a f m = let d = length-append f m in let e = length-append a m in omega (arith, d, e)
shapes_moved false a f m = refl

module _ {K V : Type 0} {s : Nodes K V} {too : Bool} where
  pub none_moved : {left child : OpaqueNodePtr} (upper lower : Shape) → CanBothGo s too left child upper lower → AreMoved s s too upper lower left child
  none_moved upper lower can = record {
    above = upper;
    below = lower;
    can = can;
    kept = record { beside = λ k off out. refl; gone = λ k i out. absurd (out i); taken = λ k i off. absurd (off i) };
    counted = refl;
    names = refl;
  }

  -- a step further
  pub moved_on : {t u : Nodes K V} {upper lower : Shape} {left child next first : OpaqueNodePtr} (is : AreMoved s t too upper lower left child) →
      IsMove t u too is.above is.below next first → AreMoved s u too upper lower next first
  moved_on {upper = upper} {lower = lower} is step = record {
    above = step.moved.above;
    below = step.moved.below;
    can = step.moved.can;
    kept = keeps_on (names_to_free too upper ++ names_to_free too lower)
        (names_to_free too is.above ++ names_to_free too is.below)
        (names_to_free too step.moved.above ++ names_to_free too step.moved.below) is.kept step.moved.kept;
    counted = is.counted ∙ step.moved.counted;
    names = is.names ∙ step.moved.names;
  }

  -- the lower one is an end, which is freed
  pub end_gone : {t u : Nodes K V} {upper lower : Shape} {left child : OpaqueNodePtr} {freed : ℕ} (is : AreMoved s t too upper lower left child) →
      Frees (names_to_free too is.below) t u → freed ≡ leaves_to_free too is.below → AreJoined s u too upper lower left freed
  end_gone {t} {u} {upper} {lower} {left} {child} {freed} is goes counted =
      let a = names_to_free too is.above in
      let b = names_to_free too is.below in
      record {
        both = is.above;
        can = can_go is.can.above.layout.named (seen_still is.above
            (λ k i. goes.beside k (λ j. apart_in (names_of is.above) (names_of is.below) k is.can.apart i (going_in too is.below k j))
            (λ z. z)) (seen_of is.can.above)) is.can.above.layout.distinct;
        kept = keeps_on (names_to_free too upper ++ names_to_free too lower) (a ++ b) a is.kept (record {
          beside = λ k off out. goes.beside k (λ i. off (in_right k a b i)) (λ z. z);
          gone = λ k i out. elim (in_either k a b i) [ inl j ↦ absurd (out j) | inr j ↦ goes.gone k j (λ z. z) ];
          taken = λ k i off. absurd (off (in_left k a b i));
        });
        counted = let x = is.counted in omega (arith, x, counted);
        fewer = let x = is.names in let y = some_names is.below in omega (arith, x, y);
      }

module _ {K V : Type 0} {t u : Nodes K V} {too : Bool} where
  put_first : {left node next mark : OpaqueNodePtr} {head : NodeHeader} {byte : ℕ} (upper first : Shape) (more : Shapes) →
      CanBothGo t too left node upper (inner mark head (child byte first more)) →
      name_of first ≡ next → u.inners ≡ change t.inners (as_inner node) (with_child byte left) → u.leaves ≡ t.leaves →
      IsMove t u too upper (inner mark head (child byte first more)) node next
  put_first {left} {node} {next} {mark} {head} {byte} upper first more can named inners leaves =
      let a = names_of upper in
      let f = names_of first in
      let m = names_below more in
      let names = changed_places mark a f m in
      let goes = changed_places mark (names_to_free too upper) (names_to_free too first) (names_to_free_below too more) in
      let after = inner mark head (child byte upper more) in
      let distinct : AreDistinct (names_of after ++ f) = names.distinct can.apart in
      let written : u.inners ≡ change t.inners (as_inner mark) (with_child byte (name_of upper)) =
      inners ∙ ap (λ z. change t.inners (as_inner z) (with_child byte left)) (sym can.below.layout.named)
      ∙ ap (λ z. change t.inners (as_inner mark) (with_child byte z)) (sym can.above.layout.named) in
      let off = written_off t u mark (with_child byte (name_of upper)) written leaves in
      let same : (k : OpaqueNodePtr) → IsIn k ((a ++ m) ++ f) → content_at u k ≡ content_at t k =
      λ k i. off k (each_in (λ z. mark ≢ z) k ((a ++ m) ++ f) distinct.0 i) in
      let below = below_seen (seen_of can.below) in
      let seen = seen_above {n = mark} {h = head} {cs = child byte upper more}
      (written_seen t u mark (with_child byte (name_of upper))
      written leaves {h = head} {slots = slots_of (child byte first more)} {new = slots_of (child byte upper more)} (λ node. refl)
      (λ node is. ap (λ l. put_child l byte (name_of upper)) is
      ∙ put_child-there {A = Unit {0}} no_child byte (name_of first) (name_of upper) (slots_of more) tt) can.below.layout.holds.0)
      (both_seen byte (seen_still upper (λ k i. same k (in_left k (a ++ m) f (in_left k a m i))) (seen_of can.above))
      (below_still more (λ k i. same k (in_left k (a ++ m) f (in_right k a m i))) (rest_seen below))) in
      record {
        moved = record {
          above = after;
          below = first;
          can = record {
            above = can_go can.below.layout.named seen (Pairwise-left ◌≢◌ (names_of after) f distinct);
            below =
                can_go named (seen_still first (λ k i. same k (in_right k (a ++ m) f i)) (first_seen below))
                (Pairwise-right ◌≢◌ (names_of after) f distinct);
            apart = distinct;
          };
          kept = record {
            beside = λ k out in_new. off k (λ e. in_new (inl e));
            gone = λ k i out. absurd (out (goes.forth k i));
            taken = λ k i out. absurd (out (goes.back k i));
          };
          counted = shapes_moved too (leaf_names upper) (leaf_names first) (leaf_names_below more);
          names = let d = length-append f m in let e = length-append a m in omega (arith, d, e);
        };
        fewer = let d = length-append f m in omega (arith, d);
      }

  pub child_moves : {left node next : OpaqueNodePtr} {byte : ℕ} (upper lower : Shape) → CanBothGo t too left node upper lower →
      Some (byte, next) ≡ first_of (children_seen (shape_at t node)) →
      u.inners ≡ change t.inners (as_inner node) (with_child byte left) → u.leaves ≡ t.leaves → IsMove t u too upper lower node next
  child_moves {left} {node} {next} {byte} upper lower can first inners leaves =
      let has = has_first lower byte next (first ∙ ap first_of (slots_are t lower can.below.layout)) in
      subst (λ z. IsMove t u too upper z node next) (sym has.is)
      (put_first upper has.first has.more (subst (CanBothGo t too left node upper) has.is can) has.named inners leaves)

-- so fewer names are below in the store
pub fewer_below : {K V : Type 0} {t u : Nodes K V} {too : Bool} {left node next first : OpaqueNodePtr} {upper lower : Shape} →
    CanBothGo t too left node upper lower →
    IsMove t u too upper lower next first → count_at u first < count_at t node
fewer_below {K} {V} {t} {u} {too} {left} {node} {next} {first} {upper} {lower} can step =
    let a = count_at_is t lower node can.below.layout in
    let b = count_at_is u step.moved.below first step.moved.can.below.layout in
    let c = step.fewer in
    omega (arith, a, b, c)

-- ---- preconditions of the writes

-- a name with a child is that of an inner node in the store
pub record HasChildren {K V : Type 0} (t : Nodes K V) (k : OpaqueNodePtr) : Type 0 where
  pub off : k.kind ≢ Leaf
  pub node : Inner
  pub got : map.get t.inners (as_inner k) ≡ Some node
  pub children : node.children ≡ children_seen (shape_at t k)

pub has_children : {K V : Type 0} (t : Nodes K V) (k : OpaqueNodePtr) (x : ℕ × OpaqueNodePtr) →
    Some x ≡ first_of (children_seen (shape_at t k)) → HasChildren t k
has_children t k x e = go (shape_at t k) refl e
  where
    go : (o : Option (Node OpaqueNodePtr (Unit {0}))) → shape_at t k ≡ o → Some x ≡ first_of (children_seen o) → HasChildren t k
    go None is e = absurd cc
    go (Some (leaf_node y)) is e = absurd cc
    go (Some (inner_node h slots)) is e =
        let there = shape_there t k h slots is in
        record { off = there.off; node = there.node; got = there.got; children = there.children ∙ ap children_seen (sym is) }

pub node_there : {K V : Type 0} (t : Nodes K V) (k : OpaqueNodePtr) → HasChildren t k → IsSome (map.get t.inners (as_inner k))
node_there t k has = subst IsSome (sym has.got) refl

-- a node whose last child is known has a first one
pub some_children : {K V : Type 0} (t : Nodes K V) (k : OpaqueNodePtr) (others : Children) (x : ℕ × OpaqueNodePtr) →
    children_seen (shape_at t k) ≡ others ++ x ∷ [] → HasChildren t k
some_children t k [] x e = has_children t k x (sym (ap first_of e))
some_children t k (o ∷ os) x e = has_children t k o (sym (ap first_of e))

-- the first child may be replaced
first_place : (capacity : ℕ) (l : Children) (byte : ℕ) (name : OpaqueNodePtr) → Some (byte, name) ≡ first_of l → HasPlace capacity l byte
first_place capacity [] byte name e = absurd cc
first_place capacity (c ∷ cs) byte name e =
    let same = (some_parts (byte, name) c e).0 in
    inr (subst (λ b. IsSome (child_at (c ∷ cs) b)) (sym same) (rw (eq-eqb c.0 c.0 refl) refl))

pub first_has_place : {K V : Type 0} (t : Nodes K V) (k : OpaqueNodePtr) (byte : ℕ) (name : OpaqueNodePtr) (capacity : ℕ) →
    Some (byte, name) ≡ first_of (children_seen (shape_at t k)) →
    IsSomeAnd (map.get t.inners (as_inner k)) (λ node. HasPlace capacity node.children byte)
first_has_place t k byte name capacity e =
    let has = has_children t k (byte, name) e in
    rw (has.got, has.children) (first_place capacity (children_seen (shape_at t k)) byte name e)
