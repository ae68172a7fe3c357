-- The copying of a tree's children, one after the other, below a node that was placed for them.
use Rattle.std.proofs.Common.{◌≡◌, ◌≢◌, ℕ, ◌<◌, ◌≤◌, ◌++◌, List, [], ◌∷◌, length, map, Option, Some, None, IsSome, IsSomeAnd, refl, ap, sym, ◌∙◌, subst, arith, append-nil, ◌⊎◌, inl, inr}
use Rattle.std.specs.List.{AllByRecursion as Each}
use Rattle.std.specs.Option.{option_map, option_or}
use Rattle.std.specs.FinMap.{get, insert}
use Rattle.std.proofs.lemmas.List.{length-append}
use Rattle.art_model.specs.Prelude.{with_child, IsPairClone, kind_capacity, leaf_name, inner_name, Nodes, change, take_leaf, take_inner, Leaf, LeafPtr, LeafNode, InnerPtr, OpaqueNodePtr, Tree, leaf, inner, Subtrees, child, no_child, NodeHeader, BytesRise, bytes_of, join, HaveChildren, HaveChildrenBelow, tree_height, height_below, leaf_node, name_of, slots_of, names_of, names_below, leaf_names, leaf_names_below, inner_names, HoldsBelow, AreDistinct, IsLayout, first_or, last_or, IsFullTree, node_at, pair_of, header_at, as_inner, with_links_around, IsThere, IsCopy, AreCopies, without, Gains}
use Rattle.art_parts.specs.LeafClones.{IsLeafClone}
use Rattle.art_inner.specs.Inner.{Inner, HasPlace, IsBelow, childless, IsRising as AreRising}
use Rattle.art_model.specs.Promises.{tree_taken, children_taken}
use Rattle.art_model.specs.Gains.{as_leaf, Loses}
use Rattle.art_model.proofs.leaves.Chains.{are_there}
use Rattle.art_model.proofs.radix.Copies.{copied_bytes, copies_joined}
use Rattle.art_model.proofs.stores.Gains.{GainsChild, gained_child, gained_leaf, gained_inner, child_seen}
use Rattle.art_model.proofs.leaves.Links.{first_or-append, last_or-append, last_in, first_in}
use Rattle.art_model.proofs.lists.Lists.{each_in, each_from}
use Rattle.art_model.proofs.stores.Names.{IsTaken, all_taken, taken_in, takes_leaves}
use Rattle.art_model.proofs.lists.Pairwises.{Pairwise-before, Pairwise-left, Pairwise-right}
use Rattle.art_model.proofs.places.Paths.{leaf_names_below-join}
use Rattle.art_model.proofs.places.PlaceLaws.{join_assoc, join_none}
use Rattle.art_model.proofs.radix.Radix.{bytes_of-join}
use Rattle.art_model.proofs.stores.Shown.{leaf_shown, inner_shown}
use Rattle.art_model.proofs.stores.Slots.{length-slots_of}
use Rattle.art_model.proofs.stores.Stores.{frame}
use Rattle.art_model.proofs.stores.Views.{leaf_or}
use Rattle.art_model.proofs.stores.Writes.{inner_at, node_at-leaf, same_inner}
use Rattle.art_copying.specs.declared.clone.CloneResult.{CloneResult}
use Rattle.art_copying.specs.declared.clone.LeafEnds.{LeafEnds}
use Rattle.art_copying.specs.Cloned.{IsCopied}

module _ {A : Type 0} where
  -- the bytes of a node's children are in order
  below_all : (b : ℕ) (cs : Subtrees OpaqueNodePtr A) → IsBelow b (slots_of cs) → Each (λ c. b < c) (bytes_of cs)
  below_all b no_child h = tt
  below_all b (child c t cs) h = (h.0, below_all b cs h.1)

  rising_bytes : (cs : Subtrees OpaqueNodePtr A) → AreRising (slots_of cs) → BytesRise (bytes_of cs)
  rising_bytes no_child h = tt
  rising_bytes (child b t cs) h = (below_all b cs h.0, rising_bytes cs h.1)

-- the first and the last of some leaves followed by others
first_more : (min : Option LeafPtr) (xs : List OpaqueNodePtr) (p : LeafPtr) → option_map leaf_name min ≡ first_or xs None →
    option_map leaf_name (option_or min (Some p)) ≡ first_or xs (Some (leaf_name p))
first_more None [] p e = refl
first_more None (x ∷ xs) p e = absurd cc
first_more (Some q) [] p e = absurd cc
first_more (Some q) (x ∷ xs) p e = e

last_more : {N : Type 0} (xs : List N) (k : N) (o : Option N) → last_or xs None ≡ Some k → last_or xs o ≡ Some k
last_more [] k o e = absurd cc
last_more (x ∷ xs) k o e = e

some_or : (o : Option LeafPtr) (q : LeafPtr) → (p : LeafPtr) × (option_or o (Some q) ≡ Some p)
some_or None q = (q, refl)
some_or (Some p) q = (p, refl)

-- the first and the last leaf of what is copied, where there are some
abbrev pub first_leaf : Option LeafEnds → Option LeafPtr
first_leaf ends = option_map (λ ends. ends.first) ends

abbrev pub last_leaf : Option LeafEnds → Option LeafPtr
last_leaf ends = option_map (λ ends. ends.last) ends

-- So many children are copied below the new node, and the others are still to be copied.
pub record IsCloning {K V : Type 0} (IsClone : K × V → K × V → Type 0) (s : Nodes K V) (tree : Tree OpaqueNodePtr (K × V)) (old now : Nodes K V)
    (parent : InnerPtr) (rest : List (ℕ × OpaqueNodePtr)) (min max : Option LeafPtr) : Type 0 where
  pub name : OpaqueNodePtr
  pub header : NodeHeader
  pub done : Subtrees OpaqueNodePtr (K × V)
  pub left : Subtrees OpaqueNodePtr (K × V)
  pub copies : Subtrees OpaqueNodePtr (K × V)
  pub is : tree ≡ inner name header (join done left)
  pub slots : rest ≡ slots_of left
  pub same : AreCopies IsClone done copies
  pub gains : Gains old now (inner (inner_name parent) header copies)
  pub promise : children_taken left now.promise ≡ tree_taken tree old.promise
  pub first : option_map leaf_name min ≡ first_or (leaf_names_below copies) None
  pub last : option_map leaf_name max ≡ last_or (leaf_names_below copies) None
  pub ends : (bytes_of done ≡ []) ⊎ ((p : LeafPtr) × (q : LeafPtr) × (min ≡ Some p) × (max ≡ Some q))
  pub holds : HoldsBelow (node_at s) left
  pub distinct : AreDistinct (names_below left)
  pub full : HaveChildrenBelow 1 left
  pub rising : BytesRise (bytes_of (join done left))
  pub room : length (bytes_of (join done left)) ≤ kind_capacity parent.kind
  pub some : 1 ≤ length (bytes_of (join done left))
  pub low : height_below left < tree_height tree

module _ {K V : Type 0} (is_key_clone : K → K → Type 0) (is_value_clone : V → V → Type 0) where
  -- a leaf is copied
  pub copied_leaf : (s old new : Nodes K V) (p q : LeafPtr) (tree : Tree OpaqueNodePtr (K × V)) {name : OpaqueNodePtr}
      (x y : LeafNode K V) → IsFullTree s (leaf_name p) tree →
      get s.leaves p ≡ Some x → IsLeafClone is_key_clone is_value_clone x y → get old.leaves q ≡ None → new.leaves ≡ insert old.leaves q y →
      new.inners ≡ old.inners → new.promise ≡ take_leaf old.promise → name ≡ leaf_name q →
      IsCopied (IsPairClone is_key_clone is_value_clone) tree old new (record { root = name; min_leaf = q; max_leaf = q })
  copied_leaf s old new p q tree x y (is, full) there clone free leaves inners taken named =
      let at = leaf_shown s p tree is.named is.holds x (sym there) in
      record {
        copy = leaf (leaf_name q) (pair_of y);
        named = sym named;
        same = subst (λ t. IsCopy (IsPairClone is_key_clone is_value_clone) t (leaf (leaf_name q) (pair_of y))) (sym at) (clone.key, clone.value);
        gains = gained_leaf q y clone.previous clone.next free leaves inners;
        promise = taken ∙ sym (ap (λ t. tree_taken t old.promise) at);
        first = refl;
        last = refl;
      }

-- a store in which a copy is added below a node
abbrev put_below : {K V : Type 0} → InnerPtr → ℕ → Option LeafPtr → Nodes K V → CloneResult → Nodes K V
put_below parent b max next done =
    record {
      leaves = with_links_around next.leaves max (Some done.min_leaf) (Some done.min_leaf) max;
      inners = change next.inners parent (with_child b done.root);
      promise = next.promise;
    }

all_names : {N A : Type 0} (cs : Subtrees N A) (b : ℕ) (u : Tree N A) → leaf_names_below (join cs (child b u no_child)) ≡ leaf_names_below cs ++ leaf_names u
all_names cs b u = leaf_names_below-join cs (child b u no_child) ∙ ap (λ z. leaf_names_below cs ++ z) (append-nil (leaf_names u))

-- where a child is not copied, the tree so far is freed, and the store has its old nodes
pub record IsRefused {K V : Type 0} (old next : Nodes K V) (name : OpaqueNodePtr) : Type 0 where
  pub tree : Tree OpaqueNodePtr (K × V)
  pub is_layout : IsLayout (node_at next) name tree
  pub leaves : (freed : Nodes K V) → Loses next freed tree → freed.leaves ≡ old.leaves
  pub inners : (freed : Nodes K V) → Loses next freed tree → freed.inners ≡ old.inners

-- the next child's tree, and the store when it is copied and added below the node
pub record NextCloned {K V : Type 0} (IsClone : K × V → K × V → Type 0) (s : Nodes K V) (tree : Tree OpaqueNodePtr (K × V)) (old now : Nodes K V)
    (parent : InnerPtr) (b : ℕ) (name : OpaqueNodePtr) (rest : List (ℕ × OpaqueNodePtr)) (min max : Option LeafPtr) : Type 0 where
  pub below : Tree OpaqueNodePtr (K × V)
  pub is_full : IsFullTree s name below
  pub low : tree_height below < tree_height tree
  pub last_there : (next : Nodes K V) (done : CloneResult) → IsCopied IsClone below now next done → IsThere next.leaves max
  pub first_there : (next : Nodes K V) (done : CloneResult) → IsCopied IsClone below now next done → IsThere next.leaves (Some done.min_leaf)
  pub place : (next : Nodes K V) (done : CloneResult) → IsCopied IsClone below now next done →
      IsSomeAnd (get next.inners parent) (λ node. HasPlace (kind_capacity parent.kind) node.children b)
  pub then : (next new : Nodes K V) (done : CloneResult) → IsCopied IsClone below now next done →
      new.leaves ≡ with_links_around next.leaves max (Some done.min_leaf) (Some done.min_leaf) max →
      new.inners ≡ change next.inners parent (with_child b done.root) → new.promise ≡ next.promise →
      IsCloning IsClone s tree old new parent rest (option_or min (Some done.min_leaf)) (Some done.max_leaf)

module _ {K V : Type 0} {IsClone : K × V → K × V → Type 0} where
  -- an inner node is placed for the children
  pub cloning_start : (s old now : Nodes K V) (p parent : InnerPtr) (x : Inner) (root : OpaqueNodePtr) (tree : Tree OpaqueNodePtr (K × V)) →
      p.kind ≢ Leaf → inner_name p ≡ root → IsFullTree s root tree → Some x ≡ get s.inners p →
      parent.kind ≡ p.kind → get old.inners parent ≡ None → now.inners ≡ insert old.inners parent (childless x.prefix) → now.leaves ≡ old.leaves →
      now.promise ≡ take_inner p.kind old.promise → AreRising x.children → length x.children ≤ kind_capacity p.kind →
      IsCloning IsClone s tree old now parent x.children None None
  cloning_start s old now p parent x root tree off named (is, full) there kind free inners leaves taken rising room =
      let at = inner_shown s p off tree (is.named ∙ sym named) is.holds x there in
      let h : NodeHeader = header_at p.kind x in
      let whole : IsLayout (node_at s) root (inner (inner_name p) h at.children) = subst (IsLayout (node_at s) root) at.is is in
      let all : HaveChildren 1 (inner (inner_name p) h at.children) = subst (HaveChildren 1) at.is full in
      let long = length-slots_of at.children in
      let slots = ap length at.slots in
      let gained = gained_inner {old = old} {new = now} parent (childless x.prefix) (λ e. off (sym kind ∙ e)) refl free inners leaves in
      record {
        name = inner_name p;
        header = h;
        done = no_child;
        left = at.children;
        copies = no_child;
        is = at.is;
        slots = at.slots;
        same = tt;
        gains = subst (λ k. Gains old now (inner (inner_name parent) (header_at k (childless x.prefix)) no_child)) kind gained;
        promise = ap (children_taken at.children) taken ∙ sym (ap (λ t. tree_taken t old.promise) at.is);
        first = refl;
        last = refl;
        ends = inl refl;
        holds = whole.holds.1;
        distinct = whole.distinct.1;
        full = all.1;
        rising = rising_bytes at.children (subst AreRising at.slots rising);
        room = subst (λ k. length (bytes_of at.children) ≤ kind_capacity k) (sym kind) (omega arith);
        some = all.0;
        low = let tall = ap tree_height at.is in omega arith;
      }

  module _ {s : Nodes K V} {tree : Tree OpaqueNodePtr (K × V)} {old now : Nodes K V} {parent : InnerPtr} {b : ℕ} {name : OpaqueNodePtr}
      {rest : List (ℕ × OpaqueNodePtr)} {min max : Option LeafPtr} where
    -- the copies' bytes are less than the next one
    copies_low : (f : IsCloning IsClone s tree old now parent ((b, name) ∷ rest) min max) (u : Tree OpaqueNodePtr (K × V)) (c : ℕ)
        (others : Subtrees OpaqueNodePtr (K × V)) → f.left ≡ child c u others → c ≡ b → Each (λ z. z < b) (bytes_of f.copies)
    copies_low f u c others is same =
        let up : BytesRise (bytes_of f.done ++ c ∷ bytes_of others) =
        subst BytesRise (ap (λ z. bytes_of (join f.done z)) is ∙ bytes_of-join f.done (child c u others)) f.rising in
        subst (λ z. Each (λ y. y < z) (bytes_of f.copies)) same (subst (Each (λ y. y < c)) (sym (copied_bytes IsClone f.done f.copies f.same))
        (Pairwise-before (λ y z. y < z) (bytes_of f.done) (bytes_of others) c up))

    -- the step between the stores, whatever the last one is
    child_gained : (f : IsCloning IsClone s tree old now parent ((b, name) ∷ rest) min max) (u : Tree OpaqueNodePtr (K × V)) (c : ℕ)
        (others : Subtrees OpaqueNodePtr (K × V)) → f.left ≡ child c u others → c ≡ b →
        (next new : Nodes K V) (done : CloneResult) (copied : IsCopied IsClone u now next done) →
        new.leaves ≡ with_links_around next.leaves max (Some done.min_leaf) (Some done.min_leaf) max →
        new.inners ≡ change next.inners parent (with_child b done.root) →
        GainsChild old now next new (inner_name parent) f.header f.copies b copied.copy max done.min_leaf
    child_gained f u c others is same next new done copied leaves inners = record {
      so_far = f.gains;
      more = copied.gains;
      low = copies_low f u c others is same;
      last_is = f.last;
      first_is = sym copied.first;
      leaves = leaves;
      inners = inners ∙ ap (λ z. change next.inners parent (with_child b z)) (sym copied.named);
    }

    next_below : IsCloning IsClone s tree old now parent ((b, name) ∷ rest) min max → NextCloned IsClone s tree old now parent b name rest min max
    next_below f = go f.left refl f.slots
      where
        go : (left : Subtrees OpaqueNodePtr (K × V)) → f.left ≡ left → (b, name) ∷ rest ≡ slots_of left →
            NextCloned IsClone s tree old now parent b name rest min max
        go no_child at slots = absurd cc
        go (child c u others) at slots =
            let slot : ◌≡◌ {A = ℕ × OpaqueNodePtr} (b, name) (c, name_of u) = cc in
            let named : name_of u ≡ name = ap (λ z. z.1) (sym slot) in
            let byte : c ≡ b = ap (λ z. z.0) (sym slot) in
            let more : rest ≡ slots_of others = cc in
            let holds = subst (HoldsBelow (node_at s)) at f.holds in
            let distinct = subst (λ z. AreDistinct (names_below z)) at f.distinct in
            let full = subst (HaveChildrenBelow 1) at f.full in
            let low = subst (λ z. height_below z < tree_height tree) at f.low in
            let later : join f.done f.left ≡ join (join f.done (child c u no_child)) others =
            ap (join f.done) at ∙ sym (join_assoc f.done (child c u no_child) others) in
            record {
              below = u;
              is_full = (record { named = named; holds = holds.0; distinct = Pairwise-left ◌≢◌ (names_of u) (names_below others) distinct }, full.0);
              low = omega arith;
              last_there = λ next done copied p e none.
                  let g = child_gained f u c others at byte next (put_below parent b max next done) done copied refl refl in
                  let among =
                  taken_in takes_leaves (inner (inner_name parent) f.header f.copies) (leaf_name p)
                  (last_in (leaf_names_below f.copies) (leaf_name p) (sym f.last ∙ ap (option_map leaf_name) e)) in
                  each_in (IsTaken (node_at now)) (leaf_name p) (inner_name parent ∷ names_below f.copies)
                  (all_taken (node_at now) (inner (inner_name parent) f.header f.copies) f.gains.holds) among
                  (sym (child_seen g (leaf_name p) among) ∙ node_at-leaf next p ∙ ap (λ o. option_map leaf_node (option_map pair_of o)) none);
              first_there = λ next done copied p e. are_there next copied.copy copied.gains.holds p
                  (first_in (leaf_names copied.copy) (leaf_name p) (copied.first ∙ ap (option_map leaf_name) e));
              place = λ next done copied.
                  let g = child_gained f u c others at byte next (put_below parent b max next done) done copied refl refl in
                  let (off, x, there, head, below) =
                  inner_at next (inner_name parent) f.header (slots_of f.copies)
                  (child_seen g (inner_name parent) (inl refl) ∙ f.gains.holds.0) in
                  let children = ap length below in
                  let long = length-slots_of f.copies in
                  let so_far = ap length (copied_bytes IsClone f.done f.copies f.same) in
                  let all = ap length (ap (λ z. bytes_of (join f.done z)) at ∙ bytes_of-join f.done (child c u others)) in
                  let sum = length-append (bytes_of f.done) (c ∷ bytes_of others) in
                  let room = f.room in
                  rw there (inl (omega arith));
              then = λ next new done copied leaves inners kept. record {
                name = f.name;
                header = f.header;
                done = join f.done (child c u no_child);
                left = others;
                copies = join f.copies (child b copied.copy no_child);
                is = f.is ∙ ap (inner f.name f.header) later;
                slots = more;
                same = copies_joined IsClone f.done f.copies (child c u no_child) (child b copied.copy no_child) f.same (sym byte, copied.same, tt);
                gains = gained_child (child_gained f u c others at byte next new done copied leaves inners);
                promise = ap (children_taken others) (kept ∙ copied.promise) ∙ sym (ap (λ z. children_taken z now.promise) at) ∙ f.promise;
                first = first_more min (leaf_names_below f.copies) done.min_leaf f.first ∙
                    ap (first_or (leaf_names_below f.copies)) (sym copied.first) ∙
                    sym (first_or-append (leaf_names_below f.copies) (leaf_names copied.copy) None)
                    ∙ ap (λ z. first_or z None) (sym (all_names f.copies b copied.copy));
                last = sym (ap (λ z. last_or z None) (all_names f.copies b copied.copy) ∙
                    last_or-append (leaf_names_below f.copies) (leaf_names copied.copy) None ∙
                    last_more (leaf_names copied.copy) (leaf_name done.max_leaf) (last_or (leaf_names_below f.copies) None) copied.last);
                ends = let (p, e) = some_or min done.min_leaf in inr (p, done.max_leaf, e, refl);
                holds = holds.1;
                distinct = Pairwise-right ◌≢◌ (names_of u) (names_below others) distinct;
                full = full.1;
                rising = subst (λ z. BytesRise (bytes_of z)) later f.rising;
                room = subst (λ z. length (bytes_of z) ≤ kind_capacity parent.kind) later f.room;
                some = subst (λ z. 1 ≤ length (bytes_of z)) later f.some;
                low = omega arith;
              };
            }

    pub cloning_next : {items : List (ℕ × OpaqueNodePtr)} → items ≡ (b, name) ∷ rest → IsCloning IsClone s tree old now parent items min max →
        NextCloned IsClone s tree old now parent b name rest min max
    cloning_next steps so_far = next_below (subst (λ l. IsCloning IsClone s tree old now parent l min max) steps so_far)

  pub cloning_refused : {s : Nodes K V} {tree : Tree OpaqueNodePtr (K × V)} {old now next : Nodes K V} {parent : InnerPtr} {name : OpaqueNodePtr}
      {rest : List (ℕ × OpaqueNodePtr)} {min max : Option LeafPtr} → IsCloning IsClone s tree old now parent rest min max → next.leaves ≡ now.leaves →
      next.inners ≡ now.inners → name ≡ inner_name parent → IsRefused old next name
  cloning_refused {old = old} {now} {next} {parent} f leaves inners named =
      let t = inner (inner_name parent) f.header f.copies in
      record {
        tree = t;
        is_layout = record {
          named = sym named;
          holds = frame (node_at now) (node_at next) t (each_from (λ k. node_at next k ≡ node_at now k) (names_of t) (λ k i. stays k)) f.gains.holds;
          distinct = f.gains.distinct;
        };
        leaves = λ freed lost. lost.leaves ∙ ap (λ m. without m (map as_leaf (leaf_names t))) leaves ∙ sym f.gains.added.leaves;
        inners = λ freed lost. lost.inners ∙ ap (λ m. without m (map as_inner (inner_names t))) inners ∙ sym f.gains.added.inners;
      }
    where
      stays : (k : OpaqueNodePtr) → node_at next k ≡ node_at now k
      stays k = elim (leaf_or k) [
        | inl (q, e) ↦ subst (λ z. node_at next z ≡ node_at now z) (sym e)
            (node_at-leaf next q ∙ ap (λ m. option_map leaf_node (option_map pair_of (get m q))) leaves ∙ sym (node_at-leaf now q))
        | inr kind ↦ same_inner now next k kind (ap (λ m. get m (as_inner k)) inners)
      ]

  module _ {s old now next : Nodes K V} {root name : OpaqueNodePtr} {parent : InnerPtr} {rest : List (ℕ × OpaqueNodePtr)} {min max : Option LeafPtr}
      (source : (tree : Tree OpaqueNodePtr (K × V)) × IsFullTree s root tree)
      (so_far : (tree : Tree OpaqueNodePtr (K × V)) → IsFullTree s root tree → IsCloning IsClone s tree old now parent rest min max)
      (leaves : next.leaves ≡ now.leaves) (inners : next.inners ≡ now.inners) (named : name ≡ inner_name parent) where
    refused : IsRefused old next name
    refused = cloning_refused (so_far source.0 source.1) leaves inners named

  -- all children are copied
  cloning_end : (s : Nodes K V) (tree : Tree OpaqueNodePtr (K × V)) (old now : Nodes K V) (parent : InnerPtr) (min max : Option LeafPtr) →
      IsCloning IsClone s tree old now parent [] min max → (p : LeafPtr) × (q : LeafPtr) × (min ≡ Some p) × (max ≡ Some q) ×
      IsCopied IsClone tree old now (record { root = inner_name parent; min_leaf = p; max_leaf = q })
  cloning_end s tree old now parent min max f = go f.left refl f.slots f.ends
    where
      go : (left : Subtrees OpaqueNodePtr (K × V)) → f.left ≡ left → [] ≡ slots_of left → (bytes_of f.done ≡ []) ⊎
          ((p : LeafPtr) × (q : LeafPtr) × (min ≡ Some p) × (max ≡ Some q)) → (p : LeafPtr) × (q : LeafPtr) × (min ≡ Some p) × (max ≡ Some q) ×
          IsCopied IsClone tree old now (record { root = inner_name parent; min_leaf = p; max_leaf = q })
      go (child c u others) at slots ends = absurd cc
      go no_child at slots (inl none) =
          let all = ap (λ z. length (bytes_of z)) (ap (join f.done) at ∙ join_none f.done) in
          let done = ap length none in
          let some = f.some in
          absurd (omega arith)
      go no_child at slots (inr (p, q, e, g)) = (
        p,
        q,
        e,
        g,
        record {
          copy = inner (inner_name parent) f.header f.copies;
          named = refl;
          same = subst (λ t. IsCopy IsClone t (inner (inner_name parent) f.header f.copies))
              (sym (f.is ∙ ap (inner f.name f.header) (ap (join f.done) at ∙ join_none f.done))) (refl, f.same);
          gains = f.gains;
          promise = sym (ap (λ z. children_taken z now.promise) at) ∙ f.promise;
          first = sym f.first ∙ ap (option_map leaf_name) e;
          last = sym f.last ∙ ap (option_map leaf_name) g;
        },
      )

  module _ {s : Nodes K V} {tree : Tree OpaqueNodePtr (K × V)} {old now : Nodes K V} {parent : InnerPtr} {items : List (ℕ × OpaqueNodePtr)}
      {min max : Option LeafPtr}
      (steps : items ≡ []) (so_far : IsCloning IsClone s tree old now parent items min max) where
    all : (p : LeafPtr) × (q : LeafPtr) × (min ≡ Some p) × (max ≡ Some q) ×
        IsCopied IsClone tree old now (record { root = inner_name parent; min_leaf = p; max_leaf = q })
    all = cloning_end s tree old now parent min max (subst (λ l. IsCloning IsClone s tree old now parent l min max) steps so_far)

    -- the whole is copied
    pub cloned_whole : {done : CloneResult} → min ≡ Some done.min_leaf → max ≡ Some done.max_leaf → done.root ≡ inner_name parent →
        IsCopied IsClone tree old now done
    cloned_whole {done} e g named =
        let (k, l, h, i, copied) = all in
        let first : k ≡ done.min_leaf = cc in
        let last : l ≡ done.max_leaf = cc in
        record {
          copy = copied.copy;
          named = copied.named ∙ sym named;
          same = copied.same;
          gains = copied.gains;
          promise = copied.promise;
          first = copied.first ∙ ap (λ z. Some (leaf_name z)) first;
          last = copied.last ∙ ap (λ z. Some (leaf_name z)) last;
        }

    -- there is a first leaf then
    has_first : IsSome min
    has_first =
        let (p, q, e, g, copied) = all in
        subst IsSome (sym e) refl

  -- there are ends then
  pub has_ends : {s : Nodes K V} {tree : Tree OpaqueNodePtr (K × V)} {old now : Nodes K V} {parent : InnerPtr}
      {items : List (ℕ × OpaqueNodePtr)} (ends : Option LeafEnds) →
      items ≡ [] → IsCloning IsClone s tree old now parent items (first_leaf ends) (last_leaf ends) → IsSome ends
  has_ends None steps so_far = has_first steps so_far
  has_ends (Some ends) steps so_far = refl
