-- a leaf placed below the node of a point, which has room or is replaced by a larger one
use Rattle.std.proofs.Common.{◌≡◌, ◌≢◌, ℕ, ◌<◌, ◌≤◌, List, ◌++◌, length, Bool, true, false, cond, leb, MatchBool, Option, Some, None, option_map}
use Rattle.std.proofs.Common.{IsSomeAnd, IfSome, is_some, refl, ap, ap₂, sym, ◌∙◌, subst, arith, append_assoc, inl}
use Rattle.std.proofs.lemmas.Bool.{leb-true, leb-false}
use Rattle.std.specs.FinMap as map
use Rattle.art_model.specs.Prelude.{with_child, Inner, kind_capacity, larger_kind, leaf_name, inner_name, Nodes, change, NodeType, Node4, Node16, Node48, Node256, Leaf, InnerPtr, LeafPtr, LeafNode, OpaqueNodePtr, IsCanonicalTree, TouchesAtMost, AreLinked, leaf_names, leaf_names_below, first_or, last_or, plug, leaves_before, leaves_after, bytes_of, join, links_at, Tree, inner, kind_of, Inners, IsThere, with_child_at, with_leaf}
use Rattle.art_inner.specs.Inner.{HasPlace}
use Rattle.art_parts.specs.Kinds.{next_larger}
use Rattle.art_model.proofs.leaves.Chains.{AreThere, are_there, previous_there, next_there}
use Rattle.art_model.proofs.places.InHole.{root_stays}
use Rattle.art_model.proofs.changes.IntoFull.{IntoFull, full_added, full_touches}
use Rattle.art_model.proofs.changes.IntoRoom.{IntoRoom, room_added, room_touches}
use Rattle.art_model.proofs.places.Paths.{leaf_names-plug, leaf_names_below-join}
use Rattle.art_model.proofs.changes.OutOf.{larger_inner}
use Rattle.art_model.proofs.leaves.Placed.{LeafPlaced}
use Rattle.art_model.proofs.stores.Slots.{IsInRange, range_of_kind}
use Rattle.art_reading.specs.declared.end_node.InsertKind.TheVariants.{IntoExisting}
use Rattle.art_writing.specs.declared.insert.InsertParentNodeChange.TheVariants.{NewParent}
use Rattle.art_writing.specs.declared.insert.InsertPoint.{InsertPoint}
use Rattle.art_writing.specs.declared.insert.InsertResult.{InsertResult}
use Rattle.art_writing.specs.Inserted.{Touches, is_full}
use Rattle.art_writing.specs.ParentWrites.{ComesBetween}
use Rattle.art_reading.specs.PathSteps.{last_step, root_with}
use Rattle.art_writing.proofs.LeftByPoints.{IsInserted}
use Rattle.art_writing.proofs.LeafNeighbours.{between_links}
use Rattle.art_writing.proofs.Entered.{IsEntry, entry_laid, entry_kind, entry_full, entry_inner, entry_count, entered_inserted}
use Rattle.art_writing.proofs.Ways.{last_step-path_of, root_with-path_of}

-- the next kind has more room
larger_room : (kind : NodeType) (n : ℕ) → kind ≡ kind_of n → kind ≢ Node256 → n < kind_capacity (larger_kind kind)
larger_room kind n e off = go kind (subst (λ k. IsInRange k n) (sym e) (range_of_kind n)) off
  where
    go : (k : NodeType) → IsInRange k n → k ≢ Node256 → n < kind_capacity (larger_kind k)
    go Node4 h off = omega arith
    go Node16 h off = let l = h.1 in omega arith
    go Node48 h off = let l = h.1 in omega arith
    go Node256 h off = absurd (off refl)
    go Leaf h off = absurd h

-- but after the last kind
next_larger_is : (kind : NodeType) → kind ≢ Node256 → kind ≢ Leaf → next_larger kind ≡ Some (larger_kind kind)
next_larger_is Node4 not_last proper = refl
next_larger_is Node16 not_last proper = refl
next_larger_is Node48 not_last proper = refl
next_larger_is Node256 not_last proper = absurd (not_last refl)
next_larger_is Leaf not_last proper = absurd (proper refl)

-- the requested kind follows from the node that is read
pub asked_of : {K V : Type 0} (s : Nodes K V) (p : InnerPtr) {kind : NodeType} {node : Inner} → kind ≡ p.kind → Some node ≡ map.get s.inners p →
    cond (leb (kind_capacity kind) (length node.children)) (next_larger kind) None ≡ cond (is_full s p) (next_larger p.kind) None
asked_of s p {node = node} same there =
    ap (λ k. cond (leb (kind_capacity k) (length node.children)) (next_larger k) None) same
    ∙ ap (λ (o : Option Inner). cond (elim o [ None ↦ false | Some n ↦ leb (kind_capacity p.kind) (length n.children) ]) (next_larger p.kind) None) there

module _ {K V : Type 0} {bytes : K × V → List ℕ} {P : ℕ} {s : Nodes K V} (point : InsertPoint) {p : InnerPtr} {pairs : List (K × V)}
    {layout : Tree OpaqueNodePtr (K × V)} (new : K × V) {b : ℕ}
    (by : IsCanonicalTree bytes P s point.root pairs layout) (e : IsEntry bytes P p layout (bytes new) point.path b) where
  abbrev count : ℕ
  count = length (bytes_of (join e.left e.right))

  abbrev before : List OpaqueNodePtr
  before = leaves_before e.frames ++ leaf_names_below e.left

  abbrev after : List OpaqueNodePtr
  after = leaf_names_below e.right ++ leaves_after e.frames

  leaves_are : leaf_names (plug e.frames (inner (inner_name p) e.header (join e.left e.right))) ≡ (leaves_before e.frames ++ leaf_names_below e.left)
      ++ (leaf_names_below e.right ++ leaves_after e.frames)
  leaves_are =
      leaf_names-plug e.frames (inner (inner_name p) e.header (join e.left e.right)) ∙
      ap (λ z. leaves_before e.frames ++ z ++ leaves_after e.frames) (leaf_names_below-join e.left e.right) ∙ simp append_assoc

  -- ---- the neighbours of the new leaf

  module _ (previous next : Option LeafPtr) (beside : ComesBetween s e.left e.right previous next) where
    links : (option_map leaf_name previous ≡ last_or before None) × (option_map leaf_name next ≡ first_or after None)
    links = between_links s (leaves_before e.frames) (leaves_after e.frames) previous next e.left e.right
        (subst (λ z. AreLinked (links_at s) None z None) leaves_are (entry_laid by e).linked) beside

    all_there : AreThere s (before ++ after)
    all_there = subst (AreThere s) leaves_are (are_there s (plug e.frames (inner (inner_name p) e.header (join e.left e.right))) (entry_laid by e).holds)

    pub previous_is_there : IsThere s.leaves previous
    previous_is_there = previous_there s before after previous all_there links.0

    pub next_is_there : IsThere s.leaves next
    next_is_there = next_there s before after next all_there links.1

    -- ---- the writes

    abbrev new_leaf : LeafNode K V
    new_leaf = record { key = new.0; value = new.1; previous = previous; next = next }

    -- the leaf is placed after a reservation, and its name is the child's
    module _ (r q : Nodes K V) {n : LeafPtr} {child : OpaqueNodePtr} (r_leaves : r.leaves ≡ s.leaves) (r_inners : r.inners ≡ s.inners)
        (free : map.get r.leaves n ≡ None)
        (q_leaves : q.leaves ≡ with_leaf r.leaves n (record { key = new.0; value = new.1; previous = previous; next = next }))
        (q_inners : q.inners ≡ r.inners) (child_is : child ≡ leaf_name n) (t : Nodes K V) (t_leaves : t.leaves ≡ q.leaves) where
      placed : LeafPlaced s t (plug e.frames (inner (inner_name p) e.header (join e.left e.right)))
          (leaves_before e.frames ++ leaf_names_below e.left) (leaf_names_below e.right ++ leaves_after e.frames) n new_leaf
      placed = record {
        list = leaves_are;
        last = links.0;
        first = links.1;
        fresh = ap (λ m. map.get m n) (sym r_leaves) ∙ free;
        leaves = t_leaves ∙
            q_leaves ∙ ap (λ m. with_leaf m n new_leaf) r_leaves;
      }

      -- the node has room
      module _ (room : is_full s p ≡ false) (inners : t.inners ≡ change q.inners p (with_child b child)) where
        into_room : IntoRoom bytes P s t e.frames e.place (inner_name p) e.header e.left e.right b n new_leaf
        into_room = record {
          gap = e.gap;
          room = leb-false (kind_capacity p.kind) count (sym (entry_full by e) ∙ room);
          placed = placed;
          inners = inners ∙ ap₂ (λ m name. change m p (with_child b name)) (q_inners ∙ r_inners) child_is;
        }

        room_touched : point.insert_kind ≡ IntoExisting p → Touches point.insert_kind s t
        room_touched into =
            subst (λ kind. Touches kind s t) (sym into)
            (subst (λ full. MatchBool full (TouchesAtMost 2 1 3 s t) (TouchesAtMost 1 0 3 s t)) (sym room)
            (room_touches (entry_laid by e) into_room))

        pub room_inserted : point.insert_kind ≡ IntoExisting p → (done : InsertResult K V) →
            done ≡ record { leaf_node_ptr = n; existing_leaf = None; new_root = point.root; parent_node_change = NewParent p b } →
            IsInserted bytes P s t point new pairs layout e.frames done
        room_inserted into done is =
            entered_inserted by into e (room_added (entry_laid by e) into_room)
            (sym (root_stays e.frames (inner (inner_name p) e.header (join e.left e.right)) (entry_laid by e).named)) is (room_touched into)

      -- the node is full, and is replaced by a larger one
      module _ (full : is_full s p ≡ true) (not_last : p.kind ≢ Node256) (k : InnerPtr) (kind : k.kind ≡ larger_kind p.kind)
          (was_free : map.get q.inners k ≡ None)
          (inners : IsSomeAnd (map.get q.inners p)
          (λ node. t.inners ≡ with_child_at (last_step point.path) (inner_name k)
          (map.insert (map.remove q.inners p) k (with_child b child node)))) where
        abbrev HasGrown : Inner → Type 0
        HasGrown node = t.inners ≡ with_child_at (last_step point.path) (inner_name k) (map.insert (map.remove s.inners p) k (with_child b (leaf_name n) node))

        own : (node : Inner) × (map.get s.inners p ≡ Some node) × HasGrown node
        own = go (map.get s.inners p) refl (subst
            (λ m. IsSomeAnd (map.get m p) (λ node. t.inners ≡ with_child_at (last_step point.path) (inner_name k)
            (map.insert (map.remove m p) k (with_child b (leaf_name n) node)))) (q_inners ∙ r_inners)
            (subst (λ name. IsSomeAnd (map.get q.inners p) (λ node. t.inners ≡ with_child_at (last_step point.path) (inner_name k)
            (map.insert (map.remove q.inners p) k (with_child b name node)))) child_is inners))
          where
            go : (o : Option Inner) → map.get s.inners p ≡ o → IsSomeAnd o HasGrown → (node : Inner) × (map.get s.inners p ≡ Some node) × HasGrown node
            go None is h = absurd h
            go (Some node) is h = (node, is, h)

        into_full : IntoFull bytes P s t e.frames e.place (inner_name p) (inner_name k) e.header e.left e.right b n new_leaf own.0
        into_full = record {
          gap = e.gap;
          no_room = leb-true (kind_capacity p.kind) count (sym (entry_full by e) ∙ full);
          not_last = not_last;
          kind = kind;
          is_inner = λ f. larger_inner p.kind (entry_inner by e) (sym kind ∙ f);
          placed = placed;
          was_free = ap (λ m. map.get m k) (sym (q_inners ∙ r_inners)) ∙ was_free;
          here = own.1;
          inners = own.2 ∙ ap (λ step. with_child_at step (inner_name k) (map.insert (map.remove s.inners p) k (with_child b (leaf_name n) own.0)))
              (ap last_step e.path_is ∙ last_step-path_of e.frames);
        }

        full_touched : point.insert_kind ≡ IntoExisting p → Touches point.insert_kind s t
        full_touched into =
            subst (λ kind. Touches kind s t) (sym into)
            (subst (λ full. MatchBool full (TouchesAtMost 2 1 3 s t) (TouchesAtMost 1 0 3 s t)) (sym full)
            (full_touches (entry_laid by e) into_full))

        pub full_inserted : point.insert_kind ≡ IntoExisting p → {root : OpaqueNodePtr} →
            root ≡ root_with point.path point.root (inner_name k) → (done : InsertResult K V) →
            done ≡ record { leaf_node_ptr = n; existing_leaf = None; new_root = root; parent_node_change = NewParent k b } →
            IsInserted bytes P s t point new pairs layout e.frames done
        full_inserted into root_is done is =
            entered_inserted by into e (full_added (entry_laid by e) into_full)
            (root_is ∙ ap (λ path. root_with path point.root (inner_name k)) e.path_is
            ∙ root_with-path_of e.frames point.root (inner_name k)) is (full_touched into)

  -- ---- room for one more child

  -- a node that isn't full has it
  pub has_room : is_full s p ≡ false → (q : Inners) → q ≡ s.inners → IsSomeAnd (map.get q p) (λ node. HasPlace (kind_capacity p.kind) node.children b)
  has_room room q same =
      subst (λ m. IsSomeAnd (map.get m p) (λ node. HasPlace (kind_capacity p.kind) node.children b)) (sym same)
      (some (map.get s.inners p) (entry_count by e (λ n. n < kind_capacity p.kind) (leb-false (kind_capacity p.kind) count (sym (entry_full by e) ∙ room))))
    where
      some : (o : Option Inner) → IsSomeAnd o (λ node. length node.children < kind_capacity p.kind) →
          IsSomeAnd o (λ node. HasPlace (kind_capacity p.kind) node.children b)
      some None h = h
      some (Some node) h = inl h

  -- a full one is not of the last kind, where it has fewer children than there are bytes
  not_of_last : IfSome (map.get s.inners p) (λ node. length node.children < 256) → is_full s p ≡ true → p.kind ≢ Node256
  not_of_last few full last =
      some (map.get s.inners p) (entry_count by e (λ n. kind_capacity p.kind ≤ n)
      (leb-true (kind_capacity p.kind) count (sym (entry_full by e) ∙ full))) few
    where
      some : (o : Option Inner) → IsSomeAnd o (λ node. kind_capacity p.kind ≤ length node.children) → IfSome o (λ node. length node.children < 256) → ⊥
      some None h few = h
      some (Some node) h few = let l = ap kind_capacity last in omega arith

  -- a kind is requested exactly if the node is full
  module _ {asked : Option NodeType} (few : IfSome (map.get s.inners p) (λ node. length node.children < 256))
      (is : asked ≡ cond (is_full s p) (next_larger p.kind) None) where
    asked_larger : is_full s p ≡ true → asked ≡ Some (larger_kind p.kind)
    asked_larger full = is ∙ ap (λ b. cond b (next_larger p.kind) None) full ∙ next_larger_is p.kind (not_of_last few full) (entry_inner by e)

    pub asked_full : is_some asked ≡ true → (is_full s p ≡ true) × (p.kind ≢ Node256) × (asked ≡ Some (larger_kind p.kind))
    asked_full h = go (is_full s p) refl
      where
        go : (b : Bool) → is_full s p ≡ b → (is_full s p ≡ true) × (p.kind ≢ Node256) × (asked ≡ Some (larger_kind p.kind))
        go true full = (full, not_of_last few full, asked_larger full)
        go false room = let none = ap is_some (is ∙ ap (λ b. cond b (next_larger p.kind) None) room) in absurd cc

    pub asked_room : is_some asked ≡ false → is_full s p ≡ false
    asked_room h = go (is_full s p) refl
      where
        go : (b : Bool) → is_full s p ≡ b → is_full s p ≡ false
        go true full = let some = ap is_some (asked_larger full) in absurd cc
        go false room = room

  -- and a larger one has room
  pub larger_has_room : p.kind ≢ Node256 → (q : Inners) → q ≡ s.inners →
      IsSomeAnd (map.get q p) (λ node. HasPlace (kind_capacity (larger_kind p.kind)) node.children b)
  larger_has_room not_last q same =
      subst (λ m. IsSomeAnd (map.get m p) (λ node. HasPlace (kind_capacity (larger_kind p.kind)) node.children b)) (sym same)
      (some (map.get s.inners p) (entry_count by e (λ n. n < kind_capacity (larger_kind p.kind)) (larger_room p.kind count (entry_kind by e) not_last)))
    where
      some : (o : Option Inner) → IsSomeAnd o (λ node. length node.children < kind_capacity (larger_kind p.kind)) →
          IsSomeAnd o (λ node. HasPlace (kind_capacity (larger_kind p.kind)) node.children b)
      some None h = h
      some (Some node) h = inl h
