-- A tree that is freed: what a store shows of it, and which of its names are freed.
use Rattle.std.proofs.Common.{◌≡◌, ◌≢◌, ℕ, zero, suc, ◌≤◌, ◌+◌, Bool, true, false, cond, List, [], ◌∷◌, ◌++◌, length, length-append, Option, option_map}
use Rattle.std.proofs.Common.{Some, None, IsSome, is_some, refl, ap, ap₂, sym, ◌∙◌, subst, arith, inl, inr}
use Rattle.std.specs.List.{AllByRecursion as Each}
use Rattle.std.specs.FinMap as map
use Rattle.art_model.specs.Prelude.{Inner, leaf_name, inner_name, Nodes, change, NodeType, Node4, Node16, Node48, Node256, Leaf, LeafPtr, InnerPtr, LeafNode, OpaqueNodePtr, IsIn, tree_height, height_below, Frees, Node, name_of, leaf_node, inner_node, slots_of, names_of, names_below, leaf_names, leaf_names_below, inner_names, inner_names_below, shape_of, Holds, HoldsBelow, IsLayout, content_at, held_leaf, held_inner, IsUsed, header_at, node_at, tree_node, shape_at, Tree, leaf, inner, Subtrees, child, no_child, NodeHeader, as_inner}
use Rattle.art_nodes.proofs.StoreChanges.{inner_gone, inner_gone_elsewhere, inner_changed_elsewhere}
use Rattle.art_model.specs.Stores.{inner_seen, shape_in}
use Rattle.art_model.proofs.stores.Heights.{height_long, enough_inners}
use Rattle.art_model.proofs.lists.Lists.{Each-append, Each-weaker, in_left, in_right, in_either, each_in, each_from}
use Rattle.art_model.proofs.stores.Names.{IsTaken as IsInUse, all_taken, among, among_below, taken_distinct, takes_inners, takes_leaves}
use Rattle.art_model.proofs.radix.Shapes.{has_shape, leaf_names-shape, names_of-shape}
use Rattle.art_model.proofs.stores.Views.{held_in_inner, leaf_or, same_inner_held}
use Rattle.art_copying.specs.Freed.{CanGo, IsEnd, names_to_free, names_to_free_below, leaves_to_free}
use Rattle.art_copying.proofs.Freed.{leaf_freed}

abbrev pub Shape : Type 0
Shape = Tree OpaqueNodePtr (Unit {0})

abbrev pub Shapes : Type 0
Shapes = Subtrees OpaqueNodePtr (Unit {0})

-- ---- a tree that is read off a store, where the inner nodes on a descent are bounded

module _ {N : Type 0} where
  abbrev read_children : (N → Tree N (Unit {0})) → List (ℕ × N) → Subtrees N (Unit {0})
  read_children f [] = no_child
  read_children f (slot ∷ slots) = child slot.0 (f slot.1) (read_children f slots)

  abbrev read_node : (N → Tree N (Unit {0})) → N → Option (Node N (Unit {0})) → Tree N (Unit {0})
  read_node f name None = leaf name tt
  read_node f name (Some (leaf_node x)) = leaf name x
  read_node f name (Some (inner_node h slots)) = inner name h (read_children f slots)

  unfoldable pub read : (N → Option (Node N (Unit {0}))) → ℕ → N → Tree N (Unit {0})
  read at zero name = leaf name tt
  read at (suc steps) name = read_node (read at steps) name (at name)

  module _ (at : N → Option (Node N (Unit {0}))) where
    mutual
      unfolding read

      read_is : (t : Tree N (Unit {0})) (steps : ℕ) → Holds at t → tree_height t ≤ steps → read at steps (name_of t) ≡ t
      read_is (leaf n x) zero h enough = refl
      read_is (leaf n x) (suc steps) h enough = rw h refl
      read_is (inner n h cs) zero holds enough = absurd (omega arith)
      read_is (inner n h cs) (suc steps) holds enough = rw holds.0 (ap (λ z. inner n h z) (read_below cs steps holds.1 (omega arith)))

      read_below : (cs : Subtrees N (Unit {0})) (steps : ℕ) → HoldsBelow at cs → height_below cs ≤ steps → read_children (read at steps) (slots_of cs) ≡ cs
      read_below no_child steps h enough = refl
      read_below (child b t cs) steps h enough = ap₂ (λ y z. child b y z) (read_is t steps h.0 (omega arith)) (read_below cs steps h.1 (omega arith))

-- ---- a tree seen without its leaves

module _ {K V : Type 0} (s : Nodes K V) where
  shape_in_inner : (kind : NodeType) (slot : ℕ) → kind ≢ Leaf →
      shape_in s kind slot ≡ option_map (inner_seen kind) (map.get s.inners (record { kind = kind; slot = slot }))
  shape_in_inner Leaf slot n = absurd (n refl)
  shape_in_inner Node4 slot n = refl
  shape_in_inner Node16 slot n = refl
  shape_in_inner Node48 slot n = refl
  shape_in_inner Node256 slot n = refl

  pub shape_at-inner : (k : OpaqueNodePtr) → k.kind ≢ Leaf → (o : Option Inner) → map.get s.inners (as_inner k) ≡ o →
      shape_at s k ≡ option_map (inner_seen k.kind) o
  shape_at-inner k off o e = shape_in_inner k.kind k.slot off ∙ ap (option_map (inner_seen k.kind)) e

  not_leaf : (kind : NodeType) (slot : ℕ) (h : NodeHeader) (slots : List (ℕ × OpaqueNodePtr)) → shape_in s kind slot ≡ Some (inner_node h slots) → kind ≢ Leaf
  not_leaf Leaf slot h slots e is = absurd cc
  not_leaf Node4 slot h slots e is = absurd cc
  not_leaf Node16 slot h slots e is = absurd cc
  not_leaf Node48 slot h slots e is = absurd cc
  not_leaf Node256 slot h slots e is = absurd cc

  -- an inner node that is seen is in the store
  pub record IsThere (k : OpaqueNodePtr) (h : NodeHeader) (slots : List (ℕ × OpaqueNodePtr)) : Type 0 where
    pub off : k.kind ≢ Leaf
    pub node : Inner
    pub got : map.get s.inners (as_inner k) ≡ Some node
    pub head : header_at k.kind node ≡ h
    pub children : node.children ≡ slots

  pub shape_there : (k : OpaqueNodePtr) (h : NodeHeader) (slots : List (ℕ × OpaqueNodePtr)) → shape_at s k ≡ Some (inner_node h slots) → IsThere k h slots
  shape_there k h slots e =
      let off = not_leaf k.kind k.slot h slots e in
      go off (map.get s.inners (as_inner k)) refl (sym (shape_at-inner k off (map.get s.inners (as_inner k)) refl) ∙ e)
    where
      go : k.kind ≢ Leaf → (o : Option Inner) → map.get s.inners (as_inner k) ≡ o →
          option_map (inner_seen {A = Unit {0}} k.kind) o ≡ Some (inner_node h slots) → IsThere k h slots
      go off None got f = absurd cc
      go off (Some node) got f = record { off = off; node = node; got = got; head = cc; children = cc }

  mutual
    inners_held : (t : Shape) → Holds (shape_at s) t → Each (λ n. is_some (map.get s.inners (as_inner n)) ≡ true) (inner_names t)
    inners_held (leaf n x) h = tt
    inners_held (inner n h cs) holds = (ap is_some (shape_there n h (slots_of cs) holds.0).got, inners_held_below cs holds.1)

    inners_held_below : (cs : Shapes) → HoldsBelow (shape_at s) cs → Each (λ n. is_some (map.get s.inners (as_inner n)) ≡ true) (inner_names_below cs)
    inners_held_below no_child h = tt
    inners_held_below (child b t cs) h =
        Each-append (λ n. is_some (map.get s.inners (as_inner n)) ≡ true) (inner_names t) (inner_names_below cs) (inners_held t h.0)
        (inners_held_below cs h.1)

  -- the steps that a store's count of inner nodes gives are enough for the tree of a name
  shape_enough : (t : Shape) (root : OpaqueNodePtr) → IsLayout (shape_at s) root t → tree_height t ≤ map.len s.inners
  shape_enough t root is =
      let l = height_long t in
      let k = enough_inners (inner_names t) s.inners (taken_distinct takes_inners t is.distinct) (inners_held t is.holds) in
      omega arith

  pub read_at_is : (t : Shape) (root : OpaqueNodePtr) → IsLayout (shape_at s) root t → read (shape_at s) (map.len s.inners) root ≡ t
  read_at_is t root is =
      ap (read (shape_at s) (map.len s.inners)) (sym is.named) ∙ read_is (shape_at s) t (map.len s.inners) is.holds (shape_enough t root is)

  -- how many names the tree of a name has
  abbrev pub count_at : OpaqueNodePtr → ℕ
  count_at name = length (names_of (read (shape_at s) (map.len s.inners) name))

  pub count_at_is : (t : Shape) (root : OpaqueNodePtr) → IsLayout (shape_at s) root t → count_at root ≡ length (names_of t)
  count_at_is t root is = ap (λ z. length (names_of z)) (read_at_is t root is)

-- a name that holds what it held is seen unchanged
pub shape_same : {K V : Type 0} (s t : Nodes K V) (k : OpaqueNodePtr) → content_at t k ≡ content_at s k → shape_at t k ≡ shape_at s k
shape_same {K} {V} s t k e = elim (leaf_or k) [
  | inl (p, is) ↦ subst (λ z. shape_at t z ≡ shape_at s z) (sym is) refl
  | inr off ↦
      let same = same_inner_held K V (map.get t.inners (as_inner k)) (map.get s.inners (as_inner k))
      (sym (held_in_inner t k.kind k.slot off) ∙ e ∙ held_in_inner s k.kind k.slot off) in
      shape_at-inner t k off (map.get s.inners (as_inner k)) same ∙ sym (shape_at-inner s k off (map.get s.inners (as_inner k)) refl)
]

-- ---- freed names are names of the tree

if_too : {N : Type 0} (b : Bool) (xs : List N) (k : N) → IsIn k (cond b xs []) → IsIn k xs
if_too true xs k i = i
if_too false xs k i = absurd i

module _ {N A : Type 0} (too : Bool) where
  mutual
    pub going_in : (t : Tree N A) (k : N) → IsIn k (names_to_free too t) → IsIn k (names_of t)
    going_in (leaf n x) k i = if_too too (n ∷ []) k i
    going_in (inner n h cs) k (inl e) = inl e
    going_in (inner n h cs) k (inr i) = inr (going_in_below cs k i)

    going_in_below : (cs : Subtrees N A) (k : N) → IsIn k (names_to_free_below too cs) → IsIn k (names_below cs)
    going_in_below no_child k i = i
    going_in_below (child b t cs) k i = elim (in_either k (names_to_free too t) (names_to_free_below too cs) i) [
      | inl j ↦ in_left k (names_of t) (names_below cs) (going_in t k j)
      | inr j ↦ in_right k (names_of t) (names_below cs) (going_in_below cs k j)
    ]

module _ {N A : Type 0} where
  mutual
    all_going : (t : Tree N A) → names_to_free true t ≡ names_of t
    all_going (leaf n x) = refl
    all_going (inner n h cs) = ap (λ z. n ∷ z) (all_going_below cs)

    all_going_below : (cs : Subtrees N A) → names_to_free_below true cs ≡ names_below cs
    all_going_below no_child = refl
    all_going_below (child b t cs) = ap₂ (λ (x y : List N). x ++ y) (all_going t) (all_going_below cs)

-- a write to an inner node leaves what other names hold
pub written_elsewhere : {K V : Type 0} (t u : Nodes K V) (p : InnerPtr) (f : Inner → Inner) → u.inners ≡ change t.inners p f → u.leaves ≡ t.leaves →
    (k : OpaqueNodePtr) → k ≢ inner_name p → content_at u k ≡ content_at t k
written_elsewhere t u p f inners leaves k other = elim (leaf_or k) [
  | inl (q, e) ↦ subst (λ z. content_at u z ≡ content_at t z) (sym e) (ap (λ m. option_map held_leaf (map.get m q)) leaves)
  | inr off ↦ held_in_inner u k.kind k.slot off ∙ ap (option_map held_inner)
      (ap (λ m. map.get m (as_inner k)) inners ∙ inner_changed_elsewhere t.inners p (as_inner k) f (λ e. other (ap inner_name e)))
      ∙ sym (held_in_inner t k.kind k.slot off)
]

-- an inner node is freed
pub inner_freed : {K V : Type 0} (t u : Nodes K V) (p : InnerPtr) → p.kind ≢ Leaf → u.inners ≡ map.remove t.inners p → u.leaves ≡ t.leaves →
    Frees (inner_name p ∷ []) t u
inner_freed t u p off inners leaves = record {
  beside = λ k out none. elim (leaf_or k) [
    | inl (q, e) ↦ subst (λ z. content_at u z ≡ content_at t z) (sym e) (ap (λ m. option_map held_leaf (map.get m q)) leaves)
    | inr kind ↦ held_in_inner u k.kind k.slot kind ∙ ap (option_map held_inner)
        (ap (λ m. map.get m (as_inner k)) inners ∙ inner_gone_elsewhere t.inners p (as_inner k) (λ e. out (inl (sym (ap inner_name e)))))
        ∙ sym (held_in_inner t k.kind k.slot kind)
  ];
  gone = λ k i none. elim i [
    | inl e ↦ subst (λ z. content_at u z ≡ None) e
        (held_in_inner u p.kind p.slot off ∙ ap (option_map held_inner) (ap (λ m. map.get m p) inners ∙ inner_gone t.inners p))
    | inr z ↦ absurd z
  ];
  taken = λ k i none. absurd i;
}

-- leaves below children are among their names
pub leaf_below_in : (cs : Shapes) (k : OpaqueNodePtr) → IsIn k (leaf_names_below cs) → IsIn k (names_below cs)
leaf_below_in cs k i =
    each_in (λ n. IsIn n (names_below cs)) k (leaf_names_below cs)
    (among_below takes_leaves (λ n. IsIn n (names_below cs)) cs (each_from (λ n. IsIn n (names_below cs)) (names_below cs) (λ n j. j))) i

pub both_counts : {N : Type 0} (b : Bool) (xs ys : List N) → cond b (length (xs ++ ys)) 0 ≡ cond b (length xs) 0 + cond b (length ys) 0
both_counts true xs ys = length-append xs ys
both_counts false xs ys = refl

-- ---- a leaf

module _ {K V : Type 0} {s : Nodes K V} {too : Bool} {root : OpaqueNodePtr} {p : LeafPtr} (named : leaf_name p ≡ root) where
  -- a leaf's name stands for a leaf
  at_leaf : (shape : Shape) → CanGo s too root shape → (x : Unit {0}) × (shape ≡ leaf (leaf_name p) x)
  at_leaf (leaf n x) can = (x, ap (λ z. leaf z x) (can.layout.named ∙ sym named))
  at_leaf (inner n h cs) can =
      let shape : shape_at s (leaf_name p) ≡ Some (inner_node h (slots_of cs)) =
      subst (λ z. shape_at s z ≡ Some (inner_node h (slots_of cs))) (can.layout.named ∙ sym named) can.layout.holds.0 in
      absurd cc

  pub leaf_is_there : too ≡ true → (shape : Shape) → CanGo s too root shape → IsSome (map.get s.leaves p)
  leaf_is_there on shape can =
      let (x, is) = at_leaf shape can in
      go (map.get s.leaves p) (λ none. (subst (λ z. Each (IsUsed s) (leaf_names z)) is (can.leaves on)).0 (ap (option_map held_leaf) none))
    where
      go : (o : Option (LeafNode K V)) → o ≢ None → IsSome o
      go None h = absurd (h refl)
      go (Some x) h = refl

  pub leaf_goes : too ≡ true → {t : Nodes K V} → t.leaves ≡ map.remove s.leaves p → t.inners ≡ s.inners → (shape : Shape) → CanGo s too root shape →
      Frees (names_to_free too shape) s t × (1 ≡ leaves_to_free too shape)
  leaf_goes on leaves inners shape can =
      let (x, is) = at_leaf shape can in
      rw (is, on) (leaf_freed p leaves inners, refl)

-- ---- an inner node

module _ {K V : Type 0} {s : Nodes K V} {too : Bool} {root : OpaqueNodePtr} {p : InnerPtr} (off : p.kind ≢ Leaf) (named : inner_name p ≡ root) where
  -- an inner node's name stands for no leaf
  off_leaf : (n : OpaqueNodePtr) (x : Unit {0}) → CanGo s too root (leaf n x) → ⊥
  off_leaf n x can =
      let shape = shape_at-inner s (inner_name p) off (map.get s.inners p) refl in
      let held_there : shape_at s (inner_name p) ≡ Some (leaf_node x) =
      subst (λ z. shape_at s z ≡ Some (leaf_node x)) (can.layout.named ∙ sym named) can.layout.holds in
      go (map.get s.inners p) (sym shape ∙ held_there)
    where
      go : (o : Option Inner) → option_map (inner_seen {A = Unit {0}} p.kind) o ≡ Some (leaf_node x) → ⊥
      go None e = absurd cc
      go (Some node) e = absurd cc

  pub inner_is_there : (shape : Shape) → CanGo s too root shape → IsSome (map.get s.inners p)
  inner_is_there (leaf n x) can = absurd (off_leaf n x can)
  inner_is_there (inner n h cs) can =
      let there = shape_there s n h (slots_of cs) can.layout.holds.0 in
      let own : as_inner n ≡ p = ap as_inner (can.layout.named ∙ sym named) in
      subst IsSome (sym there.got ∙ ap (map.get s.inners) own) refl

  pub inner_goes : {t : Nodes K V} → t.inners ≡ map.remove s.inners p → t.leaves ≡ s.leaves → (shape : Shape) → IsEnd shape → CanGo s too root shape →
      Frees (names_to_free too shape) s t × (0 ≡ leaves_to_free too shape)
  inner_goes {t} inners leaves (leaf n x) ends can = absurd (off_leaf n x can)
  inner_goes {t} inners leaves (inner n h no_child) ends can =
      (subst (λ z. Frees (z ∷ []) s t) (named ∙ sym can.layout.named) (inner_freed s t p off inners leaves), sym (none too))
    where
      none : (b : Bool) → ◌≡◌ {A = ℕ} (cond b 0 0) 0
      none true = refl
      none false = refl
  inner_goes {t} inners leaves (inner n h (child b a cs)) ends can = absurd ends

-- ---- all of a tree

module _ {K V : Type 0} {s : Nodes K V} {root : OpaqueNodePtr} {layout : Tree OpaqueNodePtr (K × V)} where
  -- a name that stands for a tree stands for its shape, and its leaves are in the store
  pub all_can : IsLayout (node_at s) root layout → CanGo s true root (shape_of layout)
  all_can is = record {
    layout = (has_shape s root layout is).0;
    leaves = λ every. subst (Each (IsUsed s)) (sym (leaf_names-shape layout))
        (among takes_leaves (IsUsed s) layout (Each-weaker (IsInUse (node_at s)) (IsUsed s) (λ k used e. used (ap (option_map (tree_node k.kind)) e))
        (names_of layout) (all_taken (node_at s) layout is.holds)));
  }

-- so all of its names are freed
pub all_go : {K V : Type 0} {s t : Nodes K V} (layout : Tree OpaqueNodePtr (K × V)) → Frees (names_to_free true (shape_of layout)) s t →
    Frees (names_of layout) s t
all_go {K} {V} {s} {t} layout freed = subst (λ z. Frees z s t) (all_going (shape_of layout) ∙ names_of-shape layout) freed

-- and as many leaves as it has
pub all_counted : {A : Type 0} (layout : Tree OpaqueNodePtr A) (count : ℕ) → count ≡ leaves_to_free true (shape_of layout) → count ≡ length (leaf_names layout)
all_counted layout count is = is ∙ ap length (leaf_names-shape layout)
