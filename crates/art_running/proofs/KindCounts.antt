-- How many inner nodes of each kind there are: in trees, with another tree in the hole of a path, and in the tree of pairs.
use Rattle.std.proofs.Common.{◌≡◌, ◌≢◌, ℕ, ◌+◌, ◌≤◌, List, [], ◌∷◌, cond, eqb, refl, ap, ap₂, sym, ◌∙◌, arith, Option, Some, None}
use Rattle.std.proofs.lemmas.Bool.{lt-ltb, le-ltb}
use Rattle.art_model.specs.Prelude.{kind_index, NodeType, Node4, Node16, Node48, Node256, Leaf, of_key, Frame, plug, fill, IsRadix, join, pairs_of, unmarked, all_unmarked, Tree, leaf, inner, Subtrees, child, no_child}
use Rattle.art_model.proofs.radix.Rebuild.{rebuild_root}
use Rattle.art_running.specs.Needs.{count_of, inner_count_below, more_of, inner_count}

-- one where the kinds are the same
abbrev pub one : NodeType → NodeType → ℕ
one kind other = cond (eqb (kind_index kind) (kind_index other)) 1 0

module _ {N A : Type 0} (kind : NodeType) where
  pub count-join : (cs ds : Subtrees N A) → inner_count_below kind (join cs ds) ≡ inner_count_below kind cs + inner_count_below kind ds
  count-join no_child ds = omega arith
  count-join (child b t cs) ds = ap (λ z. count_of kind t + z) (count-join cs ds) ∙ omega arith

  abbrev around : List (Frame N A) → ℕ
  around [] = 0
  around (f ∷ fs) = one kind f.header.kind + (inner_count_below kind f.left + inner_count_below kind f.right) + around fs

  count-plug : (fs : List (Frame N A)) (t : Tree N A) → count_of kind (plug fs t) ≡ count_of kind t + around fs
  count-plug [] t = let same : count_of kind t ≡ count_of kind t + 0 = omega arith in same
  count-plug (f ∷ fs) t = count-plug fs (fill f t) ∙ ap (λ z. one kind f.header.kind + z + around fs) (count-join f.left (child f.byte t f.right)) ∙ omega arith

  mutual
    count-unmarked : (t : Tree N A) → count_of kind (unmarked t) ≡ count_of kind t
    count-unmarked (leaf n x) = refl
    count-unmarked (inner n h cs) = ap (λ z. one kind h.kind + z) (inner_count_below-unmarked cs)

    inner_count_below-unmarked : (cs : Subtrees N A) → inner_count_below kind (all_unmarked cs) ≡ inner_count_below kind cs
    inner_count_below-unmarked no_child = refl
    inner_count_below-unmarked (child b t cs) = ap₂ (λ x y. x + y) (count-unmarked t) (inner_count_below-unmarked cs)

-- a change in the hole is one of the whole
module _ {N A : Type 0} (fs : List (Frame N A)) (t u : Tree N A) where
  pub more_in_hole : (kind : NodeType) (gone come : ℕ) → count_of kind u + gone ≡ count_of kind t + come →
      count_of kind (plug fs u) + gone ≡ count_of kind (plug fs t) + come
  more_in_hole kind gone come e = let p = count-plug kind fs u in let q = count-plug kind fs t in omega arith

  pub fewer_in_hole : (kind : NodeType) → count_of kind u ≤ count_of kind t → count_of kind (plug fs u) ≤ count_of kind (plug fs t)
  fewer_in_hole kind e = let p = count-plug kind fs u in let q = count-plug kind fs t in omega arith

-- ---- the kind of which there are more

more_some : (a : NodeType) (goes old new : NodeType → ℕ) → a ≢ Leaf → goes a ≡ 0 → ((k : NodeType) → new k + goes k ≡ old k + one k a) →
    more_of old new ≡ Some a
more_some Node4 goes old new proper off h =
    let e : new Node4 + goes Node4 ≡ old Node4 + 1 = h Node4 in
    rw (lt-ltb (old Node4) (new Node4) (omega arith)) refl
more_some Node16 goes old new proper off h =
    let d : new Node4 + goes Node4 ≡ old Node4 + 0 = h Node4 in
    let e : new Node16 + goes Node16 ≡ old Node16 + 1 = h Node16 in
    rw (le-ltb (old Node4) (new Node4) (omega arith), lt-ltb (old Node16) (new Node16) (omega arith)) refl
more_some Node48 goes old new proper off h =
    let d : new Node4 + goes Node4 ≡ old Node4 + 0 = h Node4 in
    let f : new Node16 + goes Node16 ≡ old Node16 + 0 = h Node16 in
    let e : new Node48 + goes Node48 ≡ old Node48 + 1 = h Node48 in
    rw (le-ltb (old Node4) (new Node4) (omega arith), le-ltb (old Node16) (new Node16) (omega arith), lt-ltb (old Node48) (new Node48) (omega arith)) refl
more_some Node256 goes old new proper off h =
    let d : new Node4 + goes Node4 ≡ old Node4 + 0 = h Node4 in
    let f : new Node16 + goes Node16 ≡ old Node16 + 0 = h Node16 in
    let g : new Node48 + goes Node48 ≡ old Node48 + 0 = h Node48 in
    let e : new Node256 + goes Node256 ≡ old Node256 + 1 = h Node256 in
    rw (
      le-ltb (old Node4) (new Node4) (omega arith),
      le-ltb (old Node16) (new Node16) (omega arith),
      le-ltb (old Node48) (new Node48) (omega arith),
      lt-ltb (old Node256) (new Node256) (omega arith),
    ) refl
more_some Leaf goes old new proper off h = absurd (proper refl)

more_none : (old new : NodeType → ℕ) → ((k : NodeType) → new k ≤ old k) → more_of old new ≡ None
more_none old new h =
    rw (
      le-ltb (old Node4) (new Node4) (h Node4),
      le-ltb (old Node16) (new Node16) (h Node16),
      le-ltb (old Node48) (new Node48) (h Node48),
      le-ltb (old Node256) (new Node256) (h Node256),
    ) refl

-- ---- the tree of pairs

module _ {K V N : Type 0} (bytes : K → List ℕ) (P : ℕ) where
  counted : (t : Tree N (K × V)) → IsRadix (of_key bytes) P [] t → (kind : NodeType) → inner_count bytes P (pairs_of t) kind ≡ count_of kind t
  counted t radix kind = ap (λ (o : Option (Tree (Unit {0}) (K × V))). elim o as (λ _. ℕ) [ None ↦ 0 | Some tree ↦ count_of kind tree ])
      (rebuild_root (of_key bytes) P t radix) ∙ count-unmarked kind t

  module _ (old new : Tree N (K × V)) (was : IsRadix (of_key bytes) P [] old) (is : IsRadix (of_key bytes) P [] new) where
    -- one node of a kind is added, and perhaps one of another is removed
    pub gains : (a : NodeType) (goes : NodeType → ℕ) → a ≢ Leaf → goes a ≡ 0 → ((k : NodeType) → count_of k new + goes k ≡ count_of k old + one k a) →
        more_of (inner_count bytes P (pairs_of old)) (inner_count bytes P (pairs_of new)) ≡ Some a
    gains a goes proper off h =
        more_some a goes (inner_count bytes P (pairs_of old)) (inner_count bytes P (pairs_of new)) proper off
        (λ k. ap (λ z. z + goes k) (counted new is k) ∙ h k ∙ sym (ap (λ z. z + one k a) (counted old was k)))

    -- none is added
    pub loses : ((k : NodeType) → count_of k new ≤ count_of k old) → more_of (inner_count bytes P (pairs_of old)) (inner_count bytes P (pairs_of new)) ≡ None
    loses h = more_none (inner_count bytes P (pairs_of old)) (inner_count bytes P (pairs_of new))
        (λ k. let x = counted new is k in let y = counted old was k in let z = h k in omega arith)
