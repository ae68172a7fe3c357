-- The copying of a tree into another store: the copies above the one whose children are being copied, and what is copied so far.
use Rattle.std.proofs.Common.{◌≡◌, ◌≢◌, ℕ, suc, ◌+◌, ◌*◌, ◌<◌, List, [], ◌∷◌, ◌++◌, length, length-append, reverse, Option, Some, None, IsSome, true, refl, ap, sym, ◌∙◌, subst, arith}
use Rattle.std.specs.Option.{option_or}
use Rattle.std.specs.FinMap as map
use Rattle.art_model.specs.Prelude.{with_child, Inner, Children, inner_name, leaf_name, Nodes, change, InnerPtr, LeafPtr, Leaf, OpaqueNodePtr, Frees, SameNodes, AreDistinct, HoldsBelow, IsLayout, name_of, names_of, names_below, shape_of, slots_of, IsFullTree, node_at, shape_at, Tree, leaf, inner, Subtrees, child, no_child, with_links_around}
use Rattle.art_model.proofs.stores.Gains.{frees_lost}
use Rattle.art_model.proofs.lists.Pairwises.{Pairwise-left, Pairwise-right}
use Rattle.art_model.proofs.places.Paths.{names_below-join}
use Rattle.art_model.proofs.radix.Shapes.{has_shape, names_of-shape}
use Rattle.art_copying.specs.declared.clone.Above.{Above}
use Rattle.art_copying.specs.declared.clone.CloneResult.{CloneResult}
use Rattle.art_copying.specs.declared.clone.LeafEnds.{LeafEnds}
use Rattle.art_copying.specs.Cloned.{IsBegun, IsCopied}
use Rattle.art_copying.specs.Freed.{CanGo, names_to_free}
use Rattle.art_copying.proofs.Cloning.{IsCloning, NextCloned, cloned_whole, cloning_next, cloning_refused, cloning_start, first_leaf, last_leaf}
use Rattle.art_copying.proofs.FreedTrees.{all_can, all_go, inner_is_there, leaf_is_there, read, read_at_is}

module _ {K V : Type 0} (IsClone : K × V → K × V → Type 0) (s : Nodes K V) where
  -- A child of this node is being copied, the tree of the name, from this store on.
  pub record IsAboveCopy (Outer : Nodes K V → Tree OpaqueNodePtr (K × V) → Type 0) (f : Above) (now : Nodes K V)
      (tree : Tree OpaqueNodePtr (K × V)) : Type 0 where
    pub old : Nodes K V
    pub outer_tree : Tree OpaqueNodePtr (K × V)
    pub name : OpaqueNodePtr
    pub outer : Outer old outer_tree
    pub cloning : IsCloning IsClone s outer_tree old now f.copy ((f.byte, name) ∷ f.children) (first_leaf f.ends) (last_leaf f.ends)
    pub turn : (cloning_next refl cloning).below ≡ tree

  -- The nodes above a tree, the innermost first, up to the root of the whole: of each the child below it is being copied.
  abbrev AreAbove : Nodes K V → Tree OpaqueNodePtr (K × V) → List Above → Nodes K V → Tree OpaqueNodePtr (K × V) → Type 0
  AreAbove start whole [] now tree = (now ≡ start) × (tree ≡ whole)
  AreAbove start whole (f ∷ fs) now tree = IsAboveCopy (AreAbove start whole fs) f now tree

  -- The children of a node are copied, and these are still to be copied.
  pub record IsCopying (start : Nodes K V) (whole : Tree OpaqueNodePtr (K × V)) (above : List Above) (now : Nodes K V) (copy : InnerPtr)
      (left : Children) (min max : Option LeafPtr) : Type 0 where
    pub old : Nodes K V
    pub tree : Tree OpaqueNodePtr (K × V)
    pub outer : AreAbove start whole above old tree
    pub cloning : IsCloning IsClone s tree old now copy left min max

  -- A clone failed: the store has the nodes of one in which some children of a node are copied.
  pub record IsRefusedAt (start : Nodes K V) (whole : Tree OpaqueNodePtr (K × V)) (above : List Above) (into : Nodes K V) (copy : InnerPtr) : Type 0 where
    pub now : Nodes K V
    pub left : Children
    pub min : Option LeafPtr
    pub max : Option LeafPtr
    pub copying : IsCopying start whole above now copy left min max
    pub leaves : into.leaves ≡ now.leaves
    pub inners : into.inners ≡ now.inners

-- ---- the measure

module _ {K V : Type 0} (s : Nodes K V) where
  -- how many nodes the tree of a name has
  abbrev pub size_at : OpaqueNodePtr → ℕ
  size_at name = length (names_of (read (shape_at s) (map.len s.inners) name))

  -- how many are below children still to be copied
  abbrev pub sizes_at : Children → ℕ
  sizes_at [] = 0
  sizes_at (slot ∷ slots) = size_at slot.1 + sizes_at slots

  -- what is still to be copied of the nodes above
  abbrev pub left_above : List Above → ℕ
  left_above [] = 0
  left_above (f ∷ fs) = suc (2 * sizes_at f.children + left_above fs)

  pub left_above-more : (fs : List Above) (f : Above) → left_above (fs ++ f ∷ []) ≡ left_above fs + suc (2 * sizes_at f.children)
  left_above-more [] f = omega arith
  left_above-more (g ∷ gs) f = let h = left_above-more gs f in omega arith

  size_at_is : (name : OpaqueNodePtr) (t : Tree OpaqueNodePtr (K × V)) → IsLayout (node_at s) name t → size_at name ≡ length (names_of t)
  size_at_is name t is = ap (λ z. length (names_of z)) (read_at_is s (shape_of t) name (has_shape s name t is).0) ∙ ap length (names_of-shape t)

  sizes_are : (cs : Subtrees OpaqueNodePtr (K × V)) → HoldsBelow (node_at s) cs → AreDistinct (names_below cs) →
      sizes_at (slots_of cs) ≡ length (names_below cs)
  sizes_are no_child holds distinct = refl
  sizes_are (child b t cs) holds distinct =
      let one = size_at_is (name_of t) t (record { named = refl; holds = holds.0; distinct = Pairwise-left ◌≢◌ (names_of t) (names_below cs) distinct }) in
      let more = sizes_are cs holds.1 (Pairwise-right ◌≢◌ (names_of t) (names_below cs) distinct) in
      let both = length-append (names_of t) (names_below cs) in
      omega (arith, one, more, both)

  -- the children of a node have fewer nodes than its tree
  left_less : {IsClone : K × V → K × V → Type 0} {tree : Tree OpaqueNodePtr (K × V)} {old now : Nodes K V} {copy : InnerPtr}
      {rest : Children} {min max : Option LeafPtr} →
      IsCloning IsClone s tree old now copy rest min max → sizes_at rest < length (names_of tree)
  left_less is =
      let slots = ap sizes_at is.slots in
      let sizes = sizes_are is.left is.holds is.distinct in
      let all = ap (λ t. length (names_of t)) is.is in
      let names = ap length (names_below-join is.done is.left) in
      let both = length-append (names_below is.done) (names_below is.left) in
      omega (arith, slots, sizes, all, names, both)

-- an inner node whose name stands for a tree is in the store
pub root_there : {K V : Type 0} (s : Nodes K V) {p : InnerPtr} → p.kind ≢ Leaf → (tree : Tree OpaqueNodePtr (K × V)) →
    IsFullTree s (inner_name p) tree → IsSome (map.get s.inners p)
root_there s off tree full = inner_is_there {s = s} off refl (shape_of tree) (all_can {s = s} full.0)

pub leaf_there_of : {K V : Type 0} (s : Nodes K V) {p : LeafPtr} {root : OpaqueNodePtr} → leaf_name p ≡ root →
    (tree : Tree OpaqueNodePtr (K × V)) → IsFullTree s root tree →
    IsSome (map.get s.leaves p)
leaf_there_of s named tree full = leaf_is_there {s = s} named refl (shape_of tree) (all_can {s = s} full.0)

-- ---- the steps

module _ {K V : Type 0} {IsClone : K × V → K × V → Type 0} {s : Nodes K V} where
  -- the root's copy is placed
  pub started : {start now : Nodes K V} {whole : Tree OpaqueNodePtr (K × V)} {above : List Above} {p copy : InnerPtr} {x : Inner} {children : Children} →
      p.kind ≢ Leaf → IsFullTree s (inner_name p) whole → map.get s.inners p ≡ Some x → above ≡ [] → IsBegun start now p x copy children →
      IsCopying IsClone s start whole (reverse above) now copy children None None
  started {start} {now} {whole} {above} {p} {copy} {x} {children} off full there none begun =
      subst (λ l. IsCopying IsClone s start whole (reverse l) now copy children None None) (sym none) (record {
        old = start;
        tree = whole;
        outer = (refl, refl);
        cloning = subst (λ l. IsCloning IsClone s whole start now copy l None None) (sym begun.all)
            (cloning_start s start now p copy x (inner_name p) whole off refl full
            (sym there) begun.kind begun.fresh begun.placed begun.leaves begun.promise begun.rising begun.bound);
      })

  module _ {start now : Nodes K V} {whole : Tree OpaqueNodePtr (K × V)} {above : List Above} {copy : InnerPtr} {rest left : Children}
      {byte : ℕ} {name : OpaqueNodePtr} (ends : Option LeafEnds)
      (is : IsCopying IsClone s start whole above now copy rest (first_leaf ends) (last_leaf ends)) (steps : rest ≡ (byte, name) ∷ left) where
    -- the next child
    abbrev with_next : IsCloning IsClone s is.tree is.old now copy ((byte, name) ∷ left) (first_leaf ends) (last_leaf ends)
    with_next = subst (λ l. IsCloning IsClone s is.tree is.old now copy l (first_leaf ends) (last_leaf ends)) steps is.cloning

    abbrev pub next_of : NextCloned IsClone s is.tree is.old now copy byte name left (first_leaf ends) (last_leaf ends)
    next_of = cloning_next refl with_next

    -- it is copied
    pub child_copied : {mid new : Nodes K V} {done : CloneResult} → IsCopied IsClone next_of.below now mid done → {after : LeafEnds} →
        Some after.first ≡ option_or (first_leaf ends) (Some done.min_leaf) → after.last ≡ done.max_leaf →
        new.leaves ≡ with_links_around mid.leaves (last_leaf ends) (Some done.min_leaf) (Some done.min_leaf) (last_leaf ends) →
        new.inners ≡ change mid.inners copy (with_child byte done.root) →
        new.promise ≡ mid.promise → IsCopying IsClone s start whole above new copy left (first_leaf (Some after)) (last_leaf (Some after))
    child_copied {mid} {new} {done} copied first last leaves inners promise = record {
      old = is.old;
      tree = is.tree;
      outer = is.outer;
      cloning = rw (first, last) (next_of.then mid new done copied leaves inners promise);
    }

    -- it is in the store
    pub child_inner : {p : InnerPtr} → p.kind ≢ Leaf → inner_name p ≡ name → IsSome (map.get s.inners p)
    child_inner off named = inner_is_there {s = s} off named (shape_of next_of.below) (all_can {s = s} next_of.is_full.0)

    pub child_leaf : {p : LeafPtr} → leaf_name p ≡ name → IsSome (map.get s.leaves p)
    child_leaf named = leaf_is_there {s = s} named refl (shape_of next_of.below) (all_can {s = s} next_of.is_full.0)

    some_names : (t : Tree OpaqueNodePtr (K × V)) → 0 < length (names_of t)
    some_names (leaf n x) = omega arith
    some_names (inner n h cs) = omega arith

    pub child_counts : 0 < size_at s name
    child_counts = let e = size_at_is s name next_of.below next_of.is_full.0 in let some = some_names next_of.below in omega (arith, e, some)

    begun_cloning : {new : Nodes K V} {p below : InnerPtr} {x : Inner} {children : Children} → p.kind ≢ Leaf → inner_name p ≡ name →
        map.get s.inners p ≡ Some x →
        IsBegun now new p x below children → IsCloning IsClone s next_of.below now new below children None None
    begun_cloning {new} {p} {below} {x} {children} off named there begun =
        subst (λ l. IsCloning IsClone s next_of.below now new below l None None) (sym begun.all)
        (cloning_start s now new p below x name next_of.below off named next_of.is_full
        (sym there) begun.kind begun.fresh begun.placed begun.leaves begun.promise begun.rising begun.bound)

    pub begun_less : {new : Nodes K V} {p below : InnerPtr} {x : Inner} {children : Children} → p.kind ≢ Leaf → inner_name p ≡ name →
        map.get s.inners p ≡ Some x →
        IsBegun now new p x below children → sizes_at s children < size_at s name
    begun_less {new} {p} {below} {x} {children} off named there begun =
        let cloning : IsCloning IsClone s next_of.below now new below children None None = begun_cloning off named there begun in
        let a = left_less s cloning in
        let b = size_at_is s name next_of.below next_of.is_full.0 in
        omega (arith, a, b)

    -- it is an inner node, and its copy is placed
    pub child_begun : {new : Nodes K V} {p below : InnerPtr} {x : Inner} {children : Children} → p.kind ≢ Leaf → inner_name p ≡ name →
        map.get s.inners p ≡ Some x →
        IsBegun now new p x below children → IsCopying IsClone s start whole
        (record { copy = copy; byte = byte; children = left; ends = ends } ∷ above) new below children None None
    child_begun {new} {p} {below} {x} {children} off named there begun = record {
      old = now;
      tree = next_of.below;
      outer = record { old = is.old; outer_tree = is.tree; name = name; outer = is.outer; cloning = with_next; turn = refl };
      cloning = begun_cloning off named there begun;
    }

  -- ---- all children of a node are copied

  module _ {start now : Nodes K V} {whole : Tree OpaqueNodePtr (K × V)} {above : List Above} {copy : InnerPtr} {rest : Children}
      {min max : Option LeafPtr} {done : CloneResult}
      (is : IsCopying IsClone s start whole above now copy rest min max) (none : rest ≡ []) (first : min ≡ Some done.min_leaf)
      (last : max ≡ Some done.max_leaf) (named : done.root ≡ inner_name copy) where
    node_copied : IsCopied IsClone is.tree is.old now done
    node_copied = cloned_whole none is.cloning first last named

    -- there is none above it
    pub whole_copied : above ≡ [] → IsCopied IsClone whole start now done
    whole_copied e =
        let (same, all) = subst (λ l. AreAbove IsClone s start whole l is.old is.tree) e is.outer in
        subst (λ o. IsCopied IsClone whole o now done) same (subst (λ t. IsCopied IsClone t is.old now done) all node_copied)

    module _ (f : Above) (fs : List Above) (e : above ≡ f ∷ fs) where
      abbrev outer_of : IsAboveCopy IsClone s (AreAbove IsClone s start whole fs) f is.old is.tree
      outer_of = subst (λ l. AreAbove IsClone s start whole l is.old is.tree) e is.outer

      -- the copying of the node above continues
      pub goes_on : IsCopying IsClone s start whole fs is.old f.copy ((f.byte, outer_of.name) ∷ f.children) (first_leaf f.ends) (last_leaf f.ends)
      goes_on = record { old = outer_of.old; tree = outer_of.outer_tree; outer = outer_of.outer; cloning = outer_of.cloning }

      abbrev pub its_next : NextCloned IsClone s outer_of.outer_tree outer_of.old is.old f.copy f.byte outer_of.name f.children
          (first_leaf f.ends) (last_leaf f.ends)
      its_next = cloning_next refl outer_of.cloning

      pub its_copied : IsCopied IsClone its_next.below is.old now done
      its_copied = subst (λ t. IsCopied IsClone t is.old now done) (sym outer_of.turn) node_copied

      pub outer_goes_on : {new : Nodes K V} {after : LeafEnds} → Some after.first ≡ option_or (first_leaf f.ends) (Some done.min_leaf) →
          after.last ≡ done.max_leaf →
          new.leaves ≡ with_links_around now.leaves (last_leaf f.ends) (Some done.min_leaf) (Some done.min_leaf) (last_leaf f.ends) →
          new.inners ≡ change now.inners f.copy (with_child f.byte done.root) →
          new.promise ≡ now.promise → IsCopying IsClone s start whole fs new f.copy f.children (first_leaf (Some after)) (last_leaf (Some after))
      outer_goes_on {new} a b leaves inners promise = record {
        old = outer_of.old;
        tree = outer_of.outer_tree;
        outer = outer_of.outer;
        cloning = rw (a, b) (its_next.then now new done its_copied leaves inners promise);
      }

  -- ---- a clone fails

  module _ {start into : Nodes K V} {whole : Tree OpaqueNodePtr (K × V)} {above : List Above} {copy : InnerPtr} {name : OpaqueNodePtr}
      (is : IsRefusedAt IsClone s start whole above into copy) (named : name ≡ inner_name copy) where
    -- what is copied of a node can be freed
    pub copy_can_go : (shape : Tree OpaqueNodePtr (Unit {0})) × CanGo into true name shape
    copy_can_go = let refused = cloning_refused {next = into} is.copying.cloning is.leaves is.inners named in (shape_of refused.tree, all_can refused.is_layout)

    -- and then the store has its old nodes
    pub copy_undone : {freed : Nodes K V} → ((shape : Tree OpaqueNodePtr (Unit {0})) → CanGo into true name shape →
        Frees (names_to_free true shape) into freed) →
        ((q : InnerPtr) → q.kind ≡ Leaf → map.get freed.inners q ≡ map.get into.inners q) → SameNodes is.copying.old freed
    unfolding copy_can_go
    copy_undone {freed} went improper =
        let refused = cloning_refused {next = into} is.copying.cloning is.leaves is.inners named in
        let lost = frees_lost refused.is_layout.holds (all_go refused.tree (went copy_can_go.0 copy_can_go.1)) improper in
        (refused.leaves freed lost, refused.inners freed lost)

    -- none is above it
    pub all_undone : above ≡ [] → (freed : Nodes K V) → SameNodes is.copying.old freed → SameNodes start freed
    all_undone e freed same =
        let (old, tree) = subst (λ l. AreAbove IsClone s start whole l is.copying.old is.copying.tree) e is.copying.outer in
        subst (λ o. SameNodes o freed) old same

    -- the one above it is next
    pub outer_refused : (f : Above) (fs : List Above) → above ≡ f ∷ fs → (freed : Nodes K V) → SameNodes is.copying.old freed →
        IsRefusedAt IsClone s start whole fs freed f.copy
    outer_refused f fs e freed same =
        let outer = subst (λ l. AreAbove IsClone s start whole l is.copying.old is.copying.tree) e is.copying.outer in
        record {
          now = is.copying.old;
          left = (f.byte, outer.name) ∷ f.children;
          min = first_leaf f.ends;
          max = last_leaf f.ends;
          copying = record { old = outer.old; tree = outer.outer_tree; outer = outer.outer; cloning = outer.cloning };
          leaves = same.0;
          inners = same.1;
        }

  pub refused_here : {start into now : Nodes K V} {whole : Tree OpaqueNodePtr (K × V)} {items same : List Above} {copy : InnerPtr}
      {left : Children} {min max : Option LeafPtr} →
      IsCopying IsClone s start whole (reverse items) now copy left min max → same ≡ items → into.leaves ≡ now.leaves → into.inners ≡ now.inners →
      IsRefusedAt IsClone s start whole (reverse same) into copy
  refused_here {start} {into} {now} {whole} {items} {same} {copy} {left} {min} {max} is e leaves inners =
      subst (λ l. IsRefusedAt IsClone s start whole (reverse l) into copy) (sym e)
      (record { now = now; left = left; min = min; max = max; copying = is; leaves = leaves; inners = inners })

-- ---- the measure falls

module _ (size left children before after outer : ℕ) where
  -- an inner node is begun
  pub falls_in : children < size → after ≡ before + suc (2 * left) → 2 * children + after < 2 * (size + left) + before
  falls_in less more = omega arith

  -- a leaf is copied
  pub falls_by : 0 < size → 2 * left + before < 2 * (size + left) + before
  falls_by some = omega arith

  -- a node is complete
  pub falls_out : before ≡ after + suc (2 * outer) → 2 * outer + after < 2 * left + before
  falls_out more = omega arith
