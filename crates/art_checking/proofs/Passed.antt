-- What a check has passed is a part of a radix tree, name by name.
use Rattle.std.proofs.Math.Seq.{take-append_seam}
use Rattle.std.proofs.lemmas.Bool.{false≢true}
use Rattle.std.proofs.Common.{is_some, IsSome, ◌-◌, length-append, ◌≡◌, ◌≢◌, ℕ, suc, ◌+◌, ◌<◌, ◌≤◌, true, List, [], ◌∷◌, ◌++◌, length, map, option_map}
use Rattle.std.proofs.Common.{take, refl, ap, ap₂, sym, ◌∙◌, arith, subst, append_assoc, append-nil, Option, Some, None}
use Rattle.std.specs.FinMap as finite
use Rattle.std.specs.List.{AllByRecursion as Each}
use Rattle.art_model.specs.Prelude.{Inner, kind_capacity, kind_least, leaf_name, inner_name, inner_cmp, Nodes, NodeType, Node4, Node16, Node48, Node256, Leaf, LeafPtr, InnerPtr, OpaqueNodePtr, IsFront, leaf_node, inner_node, name_of, slots_of, names_of, names_below, leaf_names, leaf_names_below, inner_names, inner_names_below, Holds, HoldsBelow, AreLinked, IsLayout, join, pairs_of, bytes_of, BytesRise, AreRadix, node_at, header_at, held_inner, Held, IsUsed, links_at, Tree, leaf, inner, Subtrees, child, no_child, NodeHeader, canonical_header, kind_of}
use Rattle.art_inner.specs.Inner as entries
use Rattle.art_model.proofs.stores.Canonical.{canonical_from}
use Rattle.art_model.proofs.lists.Lists.{Each-append}
use Rattle.art_model.proofs.changes.OutOf.{two_of_spare}
use Rattle.art_model.proofs.places.Paths.{slots_of-join, names_below-join, leaf_names_below-join, length-leaf_names}
use Rattle.art_model.proofs.radix.Radix.{AreRadix-join}
use Rattle.art_model.proofs.stores.Slots.{IsInRange, kind_of-range, length-slots_of}
use Rattle.art_model.proofs.stores.Stores.{HoldsBelow-join}
use Rattle.art_model.proofs.radix.TreeLaws.{has_few_inner_nodes, have_two_children}
use Rattle.art_model.proofs.stores.Views.{held_in_inner, leaf_there}
use Rattle.art_checking.specs.Checked.{names_of_leaves, IsFirstMet, IsLeafAt, IsChecked, IsMetTree, IsPassed}
use Rattle.art_checking.specs.Checks.{IsWellFormed}
use Rattle.art_checking.specs.Meetings.{Meets, IsMet, Places, count_met, leaves_with, place_in}
use Rattle.art_checking.specs.Untried.{untried}
use Rattle.art_checking.specs.declared.well_formed.seen.Seen.{Seen}
use Rattle.art_checking.proofs.LeastDescents.{inner_at}
use Rattle.art_checking.proofs.Meetings.{meets_none, meets_one, meets_then, stays_met}
use Rattle.art_checking.proofs.Untried.{untried_less, untried_no_more, key_of_inner}

-- a number between the least and the most of a kind is in its range
in_range : (kind : NodeType) (n : ℕ) → kind ≢ Leaf → kind_least kind ≤ n → n ≤ kind_capacity kind → IsInRange kind n
in_range Node4 n proper least most = most
in_range Node16 n proper least most = (omega arith, most)
in_range Node48 n proper least most = (omega arith, most)
in_range Node256 n proper least most = omega arith
in_range Leaf n proper least most = absurd (proper refl)

-- a store's order of children is that of their bytes
module _ {A : Type 0} where
  below_rise : (b : ℕ) (cs : Subtrees OpaqueNodePtr A) → entries.IsBelow b (slots_of cs) → Each (λ c. b < c) (bytes_of cs)
  below_rise b no_child h = tt
  below_rise b (child c t cs) h = (h.0, below_rise b cs h.1)

  bytes_rise : (cs : Subtrees OpaqueNodePtr A) → entries.IsRising (slots_of cs) → BytesRise (bytes_of cs)
  bytes_rise no_child h = tt
  bytes_rise (child b t cs) h = (below_rise b cs h.0, bytes_rise cs h.1)

-- the first name of a tree is its root's
names_head : {N A : Type 0} (t : Tree N A) → (ns : List N) × (names_of t ≡ name_of t ∷ ns)
names_head (leaf n x) = ([], refl)
names_head (inner n h cs) = (names_below cs, refl)

head_is : {N : Type 0} {n k : N} {ks : List N} (ms : List N) → (ns : List N) × (ms ≡ n ∷ ns) → ms ≡ k ∷ ks → n ≡ k
head_is ms (ns, e) f = let g : ◌≡◌ {A = List _} (_ ∷ ns) (_ ∷ _) = sym e ∙ f in cc

-- the leaves with a further one, by their names
leaf_more : (name : LeafPtr) (leaves : List LeafPtr) → names_of_leaves (leaves_with (leaf_name name) leaves) ≡ names_of_leaves leaves ++ leaf_name name ∷ []
leaf_more name [] = refl
leaf_more name (l ∷ ls) = ap (λ ns. leaf_name l ∷ ns) (leaf_more name ls)

inner_same : (name : OpaqueNodePtr) (leaves : List LeafPtr) → name.kind ≢ Leaf → leaves_with name leaves ≡ leaves
inner_same name leaves proper = go name.kind proper
  where
    go : (kind : NodeType) → kind ≢ Leaf → leaves_with (record { kind = kind; slot = name.slot }) leaves ≡ leaves
    go Node4 off = refl
    go Node16 off = refl
    go Node48 off = refl
    go Node256 off = refl
    go Leaf off = absurd (off refl)

-- Of the children of a node, in the bytes that lead to them, some were passed, and these are left.
pub record HasPassed {K V : Type 0} (bytes : K × V → List ℕ) (P : ℕ) (s : Nodes K V) (old new : Seen) (front : List ℕ)
    (all left : List (ℕ × OpaqueNodePtr)) : Type 0 where
  pub children : Subtrees OpaqueNodePtr (K × V)
  pub slots : slots_of children ++ left ≡ all
  pub holds : HoldsBelow (node_at s) children
  pub radix : AreRadix bytes P front children
  pub meets : Meets (place_in old) (place_in new) (names_below children)
  pub leaves : names_of_leaves new.leaves.items ≡ names_of_leaves old.leaves.items ++ leaf_names_below children
  pub count : count_met new ≡ count_met old + length (names_below children)

-- one name was met
pub one_met : {old mid : Seen} {name : OpaqueNodePtr} {place : List ℕ} → IsFirstMet old mid name place → Meets (place_in old) (place_in mid) (name ∷ [])
one_met {old} {mid} {name} {place} first = meets_one (place_in old) (place_in mid) name place first.fresh first.met

module _ {K V : Type 0} {bytes : K × V → List ℕ} {P : ℕ} {s : Nodes K V} {old mid : Seen} where
  module _ {place : List ℕ} {name : OpaqueNodePtr} (first : IsFirstMet old mid name place) where
    -- a leaf was passed
    pub passed_leaf : {front : List ℕ} (leaf_ptr : LeafPtr) → leaf_name leaf_ptr ≡ name → front ≡ place →
        IsLeafAt bytes P s leaf_ptr front → IsPassed bytes P s old mid place name
    passed_leaf leaf_ptr is at (x, there, begins) = record {
      layout = leaf name x;
      named = refl;
      holds = subst (λ n. node_at s n ≡ Some (leaf_node x)) is there;
      radix = subst (λ p. IsFront p (bytes x)) at begins;
      meets = one_met first;
      leaves = ap names_of_leaves first.leaves
          ∙ subst (λ n. names_of_leaves (leaves_with n old.leaves.items) ≡ names_of_leaves old.leaves.items ++ n ∷ []) is
          (leaf_more leaf_ptr old.leaves.items);
      count = first.count;
    }

    -- an inner node was passed
    pub passed_inner : {new : Seen} (inner_ptr : InnerPtr) → inner_name inner_ptr ≡ name → inner_ptr.kind ≢ Leaf →
        IsChecked bytes P s mid new place (inner_name inner_ptr) →
        IsPassed bytes P s old new place name
    passed_inner {new} inner_ptr is proper done =
        let checked = subst (IsChecked bytes P s mid new place) is done in
        let kept = inner_same name old.leaves.items (subst (λ n. n.kind ≢ Leaf) is proper) in record {
          layout = checked.layout;
          named = head_is (names_of checked.layout) (names_head checked.layout) checked.names;
          holds = checked.holds;
          radix = checked.radix;
          meets = subst (Meets (place_in old) (place_in new)) (sym checked.names)
              (meets_then (place_in old) (place_in mid) (place_in new) (name ∷ []) checked.below (one_met first) checked.meets);
          leaves = checked.leaves ∙ ap (λ ls. names_of_leaves ls ++ leaf_names checked.layout) (first.leaves ∙ kept);
          count = let one = first.count in let more = checked.count in rw checked.names (omega arith);
        }

  -- one further child was passed
  pub passed_more : {new : Seen} {front : List ℕ} {all left : List (ℕ × OpaqueNodePtr)} (b : ℕ) (name : OpaqueNodePtr) →
      HasPassed bytes P s old mid front all ((b, name) ∷ left) → IsPassed bytes P s mid new (front ++ b ∷ []) name → HasPassed bytes P s old new front all left
  passed_more {new} {front} {all} {left} b name has passed =
      let cs = has.children in
      let t = passed.layout in record {
        children = join cs (child b t no_child);
        slots = ap (λ l. l ++ left) (slots_of-join cs (child b t no_child) ∙ ap (λ n. slots_of cs ++ (b, n) ∷ []) passed.named)
            ∙ append_assoc (slots_of cs) ((b, name) ∷ []) left ∙ has.slots;
        holds = HoldsBelow-join (node_at s) cs (child b t no_child) has.holds (passed.holds, tt);
        radix = AreRadix-join bytes P front cs (child b t no_child) has.radix (passed.radix, tt);
        meets = subst (Meets (place_in old) (place_in new)) (sym
            (names_below-join cs (child b t no_child) ∙ ap (λ ns. names_below cs ++ ns) (append-nil (names_of t))))
            (meets_then (place_in old) (place_in mid) (place_in new) (names_below cs) (names_of t) has.meets passed.meets);
        leaves = passed.leaves ∙ ap (λ ns. ns ++ leaf_names t) has.leaves ∙
            append_assoc (names_of_leaves old.leaves.items) (leaf_names_below cs) (leaf_names t) ∙
            ap (λ ns. names_of_leaves old.leaves.items ++ ns)
            (sym (leaf_names_below-join cs (child b t no_child) ∙ ap (λ ns. leaf_names_below cs ++ ns) (append-nil (leaf_names t))));
        count =
            let one = has.count in
            let more = passed.count in
            let long = ap length (names_below-join cs (child b t no_child) ∙ ap (λ ns. names_below cs ++ ns) (append-nil (names_of t)))
            ∙ length-append (names_below cs) (names_of t) in
            omega arith;
      }

module _ {K V : Type 0} {bytes : K × V → List ℕ} {P : ℕ} {s : Nodes K V} where
  -- no child was passed yet
  pub passed_none : (old : Seen) (front : List ℕ) (all : List (ℕ × OpaqueNodePtr)) → HasPassed bytes P s old old front all all
  passed_none old front all =
      record {
        children = no_child;
        slots = refl;
        holds = tt;
        radix = tt;
        meets = meets_none (place_in old);
        leaves = sym (append-nil (names_of_leaves old.leaves.items));
        count = omega arith;
      }

  -- a node all of whose children were passed, with as many of them as its kind has
  pub passed_all : {old new : Seen} {place : List ℕ} (part : List ℕ) (name : InnerPtr) (node : Inner) → name.kind ≢ Leaf →
      finite.get s.inners name ≡ Some node → HasPassed bytes P s old new (place ++ part) node.children [] →
      length part ≡ node.prefix.len → take P part ≡ node.prefix.stored → entries.IsRising node.children →
      kind_least name.kind ≤ length node.children → length node.children ≤ kind_capacity name.kind → IsChecked bytes P s old new place (inner_name name)
  passed_all {old} {new} {place} part name node proper there has long stored rises least most =
      let cs = has.children in
      let slots : slots_of cs ≡ node.children = sym (append-nil (slots_of cs)) ∙ has.slots in
      let count : length (bytes_of cs) ≡ length node.children = sym (length-slots_of cs) ∙ ap length slots in
      let kind : kind_of (length (bytes_of cs)) ≡ name.kind =
      kind_of-range name.kind (length (bytes_of cs)) (in_range name.kind (length (bytes_of cs)) proper
      (subst (λ n. kind_least name.kind ≤ n) (sym count) least) (subst (λ n. n ≤ kind_capacity name.kind) (sym count) most)) in record {
        layout = inner (inner_name name) (header_at name.kind node) cs;
        below = names_below cs;
        names = refl;
        holds = (inner_at s name node proper there ∙ ap (λ l. Some (inner_node (header_at name.kind node) l)) (sym slots), has.holds);
        radix = (
          part,
          same_header name.kind node part (length (bytes_of cs)) (sym kind) (sym long) (sym stored),
          two_of_spare name.kind (length (bytes_of cs))
              proper (subst (λ n. kind_least name.kind ≤ n) (sym count) least),
          bytes_rise cs (subst entries.IsRising (sym slots) rises),
          has.radix,
        );
        meets = has.meets;
        leaves = has.leaves;
        count = has.count;
      }
    where
      same_header : (kind : NodeType) (node : Inner) (part : List ℕ) (n : ℕ) → kind ≡ kind_of n → node.prefix.len ≡ length part →
          node.prefix.stored ≡ take P part → header_at kind node ≡ canonical_header P part n
      same_header kind node part n k l b =
          ap₂ (λ k l. let h : NodeHeader = record { kind = k; length_of = l; stored = node.prefix.stored } in h) k l ∙
          ap (λ b. let h : NodeHeader = record { kind = kind_of n; length_of = length part; stored = b } in h) b

-- ---- what a step of the check leaves untried
some_from : {X : Type 0} (o : Option X) → o ≢ None → is_some o ≡ true
some_from None f = absurd (f refl)
some_from (Some x) f = refl

not_none : {X : Type 0} (o : Option X) → is_some o ≡ true → o ≢ None
not_none None e f = false≢true e
not_none (Some x) e f = absurd cc

still_met : (f g : Places) (names : List OpaqueNodePtr) → Meets f g names → (q : InnerPtr) → is_some (f (inner_name q)) ≡ true →
    is_some (g (inner_name q)) ≡ true
still_met f g names meets q e = some_from (g (inner_name q)) (stays_met f g names meets (inner_name q) (not_none (f (inner_name q)) e))

-- an inner node that was met only now is one less to try
pub less_to_try : (inners : finite.FinMap inner_cmp Inner) (f g : Places) (p : InnerPtr) (node : Inner) (place : List ℕ) → finite.get inners p ≡ Some node →
    f (inner_name p) ≡ None → IsMet f g (inner_name p) place →
    untried (λ q. is_some (g (inner_name q))) (finite.keys inners) < untried (λ q. is_some (f (inner_name q))) (finite.keys inners)
less_to_try inners f g p node place there free met =
    untried_less (λ q. is_some (f (inner_name q))) (λ q. is_some (g (inner_name q)))
    (still_met f g (inner_name p ∷ []) (meets_one f g (inner_name p) place free met))
    (finite.keys inners) p (key_of_inner inners p node there) (ap is_some free) (ap is_some met.here)

-- and no more are to be tried once others were met
pub no_more_to_try : (inners : finite.FinMap inner_cmp Inner) (f g : Places) (names : List OpaqueNodePtr) → Meets f g names →
    untried (λ q. is_some (g (inner_name q))) (finite.keys inners) ≤ untried (λ q. is_some (f (inner_name q))) (finite.keys inners)
no_more_to_try inners f g names meets =
    untried_no_more (λ q. is_some (f (inner_name q))) (λ q. is_some (g (inner_name q))) (still_met f g names meets) (finite.keys inners)

-- a name in use is in the store
pub inner_is_there : {K V : Type 0} (s : Nodes K V) (p : InnerPtr) → p.kind ≢ Leaf → IsUsed s (inner_name p) →
    (node : Inner) × (finite.get s.inners p ≡ Some node)
inner_is_there {K} {V} s p proper used = go (finite.get s.inners p) refl (λ e. used (held_in_inner s p.kind p.slot proper ∙ e))
  where
    go : (o : Option Inner) → finite.get s.inners p ≡ o →
        (option_map {T = Inner} {U = Held K V} held_inner (finite.get s.inners p) ≡ None → ⊥) →
        (node : Inner) × (finite.get s.inners p ≡ Some node)
    go None e f = absurd (f (ap (option_map held_inner) e))
    go (Some node) e f = (node, e)

-- the bytes before the last one
pub before_last : (items rest front : List ℕ) (b len : ℕ) → items ≡ front ++ b ∷ [] → length items ≡ len → rest ≡ take (len - 1) items → rest ≡ front
before_last items rest front b len is count e =
    let long : length items ≡ length front + 1 = ap length is ∙ length-append front (b ∷ []) in
    let n : len - 1 ≡ length front = omega arith in
    e ∙ ap₂ (λ n l. take n l) n is ∙ take-append_seam front (b ∷ [])

-- ---- the whole tree
length_map : {X Y : Type 0} (f : X → Y) (xs : List X) → length (map f xs) ≡ length xs
length_map f [] = refl
length_map f (x ∷ xs) = ap suc (length_map f xs)

module _ {N A : Type 0} where
  mutual
    count_names : (t : Tree N A) → length (names_of t) ≡ length (leaf_names t) + length (inner_names t)
    count_names (leaf n x) = refl
    count_names (inner n h cs) = let below = count_below cs in omega arith

    count_below : (cs : Subtrees N A) → length (names_below cs) ≡ length (leaf_names_below cs) + length (inner_names_below cs)
    count_below no_child = refl
    count_below (child b t cs) =
        let own = count_names t in
        let others = count_below cs in
        let names = length-append (names_of t) (names_below cs) in
        let leaves = length-append (leaf_names t) (leaf_names_below cs) in
        let inners = length-append (inner_names t) (inner_names_below cs) in
        omega arith

module _ {K V : Type 0} (s : Nodes K V) where
  -- a leaf of a tree is in the store
  abbrev IsLeafName : OpaqueNodePtr → Type 0
  IsLeafName n = (x : K × V) × (node_at s n ≡ Some (leaf_node x))

  mutual
    leaf_names_there : (t : Tree OpaqueNodePtr (K × V)) → Holds (node_at s) t → Each IsLeafName (leaf_names t)
    leaf_names_there (leaf n x) h = ((x, h), tt)
    leaf_names_there (inner n h cs) holds = leaf_names_below_there cs holds.1

    leaf_names_below_there : (cs : Subtrees OpaqueNodePtr (K × V)) → HoldsBelow (node_at s) cs → Each IsLeafName (leaf_names_below cs)
    leaf_names_below_there no_child h = tt
    leaf_names_below_there (child b t cs) h =
        Each-append IsLeafName (leaf_names t) (leaf_names_below cs) (leaf_names_there t h.0) (leaf_names_below_there cs h.1)

  leaves_there : (leaves : List LeafPtr) (t : Tree OpaqueNodePtr (K × V)) → names_of_leaves leaves ≡ leaf_names t →
      Holds (node_at s) t → Each (λ l. IsSome (finite.get s.leaves l)) leaves
  leaves_there leaves t same holds = go leaves (subst (Each IsLeafName) (sym same) (leaf_names_there t holds))
    where
      go : (ls : List LeafPtr) → Each IsLeafName (names_of_leaves ls) → Each (λ l. IsSome (finite.get s.leaves l)) ls
      go [] h = tt
      go (l ∷ ls) h = (let (node, there, same) = leaf_there s l h.0.0 h.0.1 in rw there refl, go ls h.1)

-- what was passed from an empty state is a whole tree
pub met_tree : {K V : Type 0} {bytes : K × V → List ℕ} {P : ℕ} {s : Nodes K V} {start end : Seen} {root : OpaqueNodePtr} → start.leaves.items ≡ [] →
    count_met start ≡ 0 → IsPassed bytes P s start end [] root → IsMetTree bytes P s end root
met_tree none zero passed = record {
  layout = passed.layout;
  named = passed.named;
  holds = passed.holds;
  radix = passed.radix;
  distinct = passed.meets.distinct;
  leaves = passed.leaves ∙ ap (λ ls. names_of_leaves ls ++ leaf_names passed.layout) none;
  count = let more = passed.count in omega arith;
}

module _ {K V : Type 0} {bytes : K × V → List ℕ} {P : ℕ} {s : Nodes K V} {seen : Seen} {root : OpaqueNodePtr} (met : IsMetTree bytes P s seen root) where
  -- the root stands for it
  pub met_layout : IsLayout (node_at s) root met.layout
  met_layout = record { named = met.named; holds = met.holds; distinct = met.distinct }

  -- its leaves are in the store
  pub met_leaves_there : Each (λ l. IsSome (finite.get s.leaves l)) seen.leaves.items
  met_leaves_there = leaves_there s seen.leaves.items met.layout met.leaves met.holds

  -- and at most as many as were met
  count_leaves : length seen.leaves.items ≡ length (leaf_names met.layout)
  count_leaves = sym (length_map leaf_name seen.leaves.items) ∙ ap length met.leaves

  pub fewer_leaves : length seen.leaves.items ≤ count_met seen
  fewer_leaves = let long = count_leaves in let all = met.count in let names = count_names met.layout in omega arith

  -- once they are linked the root is canonical
  pub well_formed : (num_leaf num_met : ℕ) → AreLinked (links_at s) None (names_of_leaves seen.leaves.items) None →
      num_leaf ≡ length seen.leaves.items → num_met ≡ count_met seen →
      IsWellFormed bytes P s root (record { num_leaf = num_leaf; num_inner = num_met - num_leaf })
  well_formed num_leaf num_met linked leaf_count met_count =
      let t = met.layout in
      let long = count_leaves in
      let all = met.count in
      let names = count_names t in
      let few = has_few_inner_nodes t (have_two_children bytes P [] t met.radix) in (
        pairs_of t,
        t,
        canonical_from (record {
          named = met.named;
          radix = met.radix;
          pairs_are = refl;
          holds = met.holds;
          distinct = met.distinct;
          linked = subst
              (λ ns. AreLinked (links_at s) None ns None) met.leaves linked;
        }),
        leaf_count ∙ long ∙ length-leaf_names t,
        omega arith,
        omega arith,
      )
