-- A canonical tree stays where its own nodes do, so a change of one tree in place leaves those that are disjoint from it.
use Rattle.std.proofs.Common.{◌≡◌, ℕ, List, Option, Some, None, ap, ap₂, sym, subst, option_map, option_and_then}
use Rattle.std.specs.List.{AllByRecursion as Each}
use Rattle.art_model.specs.Prelude.{Nodes, OpaqueNodePtr, KeepsApart, IsCanonical, IsCanonicalTree, IsIn, ChangesInPlace, KeepsOthers, names_in, leaf_names, names_of, ForRoot, ForTree, IsCanonicalRoot, IsRootOf, content_at, links_at, links_of, node_at, tree_node, Tree}
use Rattle.art_model.specs.Apart.{HasBoth, IsNodeOf, StandsApart}
use Rattle.art_model.proofs.leaves.Links.{linked-frame}
use Rattle.art_model.proofs.lists.Lists.{Each-weaker, each_from, each_in}
use Rattle.art_model.proofs.stores.Names.{IsTaken, all_taken, among, takes_leaves}
use Rattle.art_model.proofs.stores.StoreLaws.{has_one_map}
use Rattle.art_model.proofs.stores.Stores.{frame}

module _ {K V : Type 0} {bytes : K × V → List ℕ} {P : ℕ} {s : Nodes K V} {root : OpaqueNodePtr} {pairs : List (K × V)} {layout : Tree OpaqueNodePtr (K × V)}
    (by : IsCanonicalTree bytes P s root pairs layout) where
  -- a canonical root stays one where the nodes of its own tree hold what they held
  pub tree_kept : {t : Nodes K V} → ((k : OpaqueNodePtr) → IsIn k (names_of layout) → content_at t k ≡ content_at s k) →
      IsCanonicalTree bytes P t root pairs layout
  tree_kept {t} same = record {
    is_map = by.is_map;
    tree = by.tree;
    is_tree = by.is_tree;
    stands = (
      record {
        named = by.stands.0.named;
        holds = frame (node_at s) (node_at t) layout (Each-weaker (λ k. content_at t k ≡ content_at s k) (λ k. node_at t k ≡ node_at s k)
            (λ k e. ap (option_map (tree_node k.kind)) e) (names_of layout) all_same) by.stands.0.holds;
        distinct = by.stands.0.distinct;
      },
      by.stands.1,
    );
    linked = linked-frame (links_at s) (links_at t) (leaf_names layout) None None
        (Each-weaker (λ k. content_at t k ≡ content_at s k) (λ k. links_at t k ≡ links_at s k) (λ k e. ap (option_and_then links_of) e) (leaf_names layout)
        (among takes_leaves (λ k. content_at t k ≡ content_at s k) layout all_same)) by.linked;
  }
    where
      all_same : Each (λ k. content_at t k ≡ content_at s k) (names_of layout)
      all_same = each_from (λ k. content_at t k ≡ content_at s k) (names_of layout) same

  -- a name of a canonical tree is in use
  pub name_used : (k : OpaqueNodePtr) → IsIn k (names_of layout) → content_at s k ≡ None → ⊥
  name_used k there free =
      each_in (IsTaken (node_at s)) k (names_of layout) (all_taken (node_at s) layout by.stands.0.holds) there (ap (option_map (tree_node k.kind)) free)

  -- a node of the root is one of its layout
  node_in : (k : OpaqueNodePtr) → IsNodeOf bytes P s (Some root) k → IsIn k (names_of layout)
  node_in k (others, other, is, there) = subst (λ l. IsIn k (names_of l)) (has_one_map bytes P s root pairs others layout other by is).1 there

  -- what is disjoint from a root has the root disjoint from it
  pub apart_turned : {other : OpaqueNodePtr} {others : List (K × V)} {other_layout : Tree OpaqueNodePtr (K × V)} →
      StandsApart bytes P s (Some root) other others other_layout → StandsApart bytes P s (Some other) root pairs layout
  apart_turned h = record { is = by; apart = λ k n m. h.apart k m n }

  -- a canonical root is disjoint from no root
  pub apart_of_none : StandsApart bytes P s None root pairs layout
  apart_of_none = record { is = by; apart = λ k n m. n }

module _ {K V : Type 0} {bytes : K × V → List ℕ} {P : ℕ} {s t : Nodes K V} where
  -- a change of some nodes, which are the root's, into others leaves what is disjoint from it
  pub others_apart : {root new : Option OpaqueNodePtr} (old fresh : List OpaqueNodePtr) → ((k : OpaqueNodePtr) → IsIn k old → IsNodeOf bytes P s root k) →
      ((k : OpaqueNodePtr) → IsNodeOf bytes P t new k → IsIn k fresh) → KeepsOthers s t old fresh → KeepsApart bytes P s t root new
  others_apart old fresh of_root in_fresh kept other others layout h =
      let off : (k : OpaqueNodePtr) → IsIn k (names_of layout) → IsIn k old → ⊥ = λ k m o. h.apart k (of_root k o) (others, layout, h.is, m) in
      let comes : (k : OpaqueNodePtr) → IsIn k (names_of layout) → IsIn k fresh → ⊥ = λ k m n. name_used h.is k m (kept.taken k n (off k m)) in
      let is : IsCanonicalTree bytes P t other others layout = tree_kept h.is (λ k m. kept.beside k (off k m) (comes k m)) in
      record { is = is; apart = λ k n m. comes k (node_in is k m) (in_fresh k n) }

  -- of two trees, the first of which changed, the second is unchanged
  pub both_changed : {first new second : Option OpaqueNodePtr} {pairs after others : List (K × V)} → HasBoth bytes P s first second pairs others →
      IsCanonical bytes P t new after → KeepsApart bytes P s t first new → HasBoth bytes P t new second after others
  both_changed {first} {new} {second} {pairs} {after} {others} h becomes kept = go second h.two h.apart
    where
      go : (second : Option OpaqueNodePtr) → IsCanonical bytes P s second others →
          ((k : OpaqueNodePtr) → IsNodeOf bytes P s first k → IsNodeOf bytes P s second k → ⊥) →
          HasBoth bytes P t new second after others
      go None two apart = record { one = becomes; two = two; apart = λ k n m. m }
      go (Some other) (layout, is) apart =
          let stays = kept other others layout (record { is = is; apart = apart }) in
          record { one = becomes; two = (layout, stays.is); apart = stays.apart }

  -- two trees that are disjoint from a third, which changed, are unchanged
  pub both_beside : {root new : Option OpaqueNodePtr} {first second : OpaqueNodePtr} {pairs others : List (K × V)} {one two : Tree OpaqueNodePtr (K × V)} →
      HasBoth bytes P s (Some first) (Some second) pairs others → StandsApart bytes P s root first pairs one → StandsApart bytes P s root second others two →
      KeepsApart bytes P s t root new → HasBoth bytes P t (Some first) (Some second) pairs others
  both_beside {first = first} {second} {pairs} {others} {one} {two} h at beside kept =
      let first_stays = kept first pairs one at in
      let second_stays = kept second others two beside in
      record {
        one = (one, first_stays.is);
        two = (two, second_stays.is);
        apart = λ k n m. h.apart k (pairs, one, at.is, node_in first_stays.is k n) (others, two, beside.is, node_in second_stays.is k m);
      }

module _ {K V : Type 0} (bytes : K × V → List ℕ) (P : ℕ) (s t : Nodes K V) where
  of_tree : (root : Option OpaqueNodePtr) (pairs : List (K × V)) (tree : Option (Tree OpaqueNodePtr (K × V))) → IsRootOf bytes P s root pairs tree →
      (k : OpaqueNodePtr) → IsIn k (names_in tree) → IsNodeOf bytes P s root k
  of_tree None pairs None is k i = i
  of_tree None pairs (Some layout) is k i = absurd is
  of_tree (Some root) pairs None is k i = absurd is
  of_tree (Some root) pairs (Some layout) is k i = (pairs, layout, is, i)

  in_tree : (root : Option OpaqueNodePtr) (pairs : List (K × V)) (tree : Option (Tree OpaqueNodePtr (K × V))) → IsRootOf bytes P t root pairs tree →
      (k : OpaqueNodePtr) → IsNodeOf bytes P t root k → IsIn k (names_in tree)
  in_tree None pairs None is k n = n
  in_tree None pairs (Some layout) is k n = absurd n
  in_tree (Some root) pairs None is k n = absurd is
  in_tree (Some root) pairs (Some layout) is k n = node_in is k n

  -- a change of a root's tree in place leaves what is disjoint from it
  pub tree_apart : (root new : Option OpaqueNodePtr) (pairs after : List (K × V)) (old fresh : Option (Tree OpaqueNodePtr (K × V))) →
      IsRootOf bytes P s root pairs old → IsRootOf bytes P t new after fresh → KeepsOthers s t (names_in old) (names_in fresh) → KeepsApart bytes P s t root new
  tree_apart root new pairs after old fresh is becomes kept =
      others_apart (names_in old) (names_in fresh) (of_tree root pairs old is) (in_tree new after fresh becomes) kept

module _ {K V : Type 0} (bytes : K × V → List ℕ) (P : ℕ) (s t : Nodes K V) (root : OpaqueNodePtr) {pairs : List (K × V)}
    {layout : Tree OpaqueNodePtr (K × V)} where
  -- and so does one that leaves a root that is canonical for other pairs, or none
  pub root_apart : (new : Option OpaqueNodePtr) (after : List (K × V)) → IsCanonicalTree bytes P s root pairs layout → IsCanonical bytes P t new after →
      ForTree bytes P s root (λ ps old. ForRoot bytes P t new (λ left tree. ChangesInPlace bytes s t (Some old) tree)) → KeepsApart bytes P s t (Some root) new
  root_apart None after by none kept =
      tree_apart bytes P s t (Some root) None pairs after (Some layout) None by none (kept pairs layout by after None none).others
  root_apart (Some name) after by (tree, is) kept =
      tree_apart bytes P s t (Some root) (Some name) pairs after (Some layout) (Some tree) by is
      (kept pairs layout by after (Some tree) is).others

-- either of two trees may be the first
pub both_turned : {K V : Type 0} {bytes : K × V → List ℕ} {P : ℕ} {s : Nodes K V} {first second : Option OpaqueNodePtr} {pairs others : List (K × V)} →
    HasBoth bytes P s first second pairs others → HasBoth bytes P s second first others pairs
both_turned h = record { one = h.two; two = h.one; apart = λ k n m. h.apart k m n }

-- the first of two roots, where there is one, is canonical
pub root_of_first : {K V : Type 0} {bytes : K × V → List ℕ} {P : ℕ} {s : Nodes K V} {first second : Option OpaqueNodePtr}
    {root : OpaqueNodePtr} {pairs others : List (K × V)} →
    HasBoth bytes P s first second pairs others → first ≡ Some root → IsCanonicalRoot bytes P s root
root_of_first {bytes = bytes} {P} {s} {pairs = pairs} h e =
    let (layout, is) = subst (λ r. IsCanonical bytes P s r pairs) e h.one in
    (pairs, layout, is)

module _ {K V : Type 0} (bytes : K × V → List ℕ) (P : ℕ) (s t : Nodes K V) (leaves : t.leaves ≡ s.leaves) (inners : t.inners ≡ s.inners) where
  same_held : (k : OpaqueNodePtr) → content_at t k ≡ content_at s k
  same_held k = ap₂ (λ l i. content_at (record t { leaves = l; inners = i }) k) leaves inners

  -- the same nodes, with another promise, are the same tree
  pub same_tree : {root : OpaqueNodePtr} {pairs : List (K × V)} {layout : Tree OpaqueNodePtr (K × V)} →
      IsCanonicalTree bytes P s root pairs layout → IsCanonicalTree bytes P t root pairs layout
  same_tree by = tree_kept by (λ k i. same_held k)

  same_node : (root : Option OpaqueNodePtr) (k : OpaqueNodePtr) → IsNodeOf bytes P t root k → IsNodeOf bytes P s root k
  same_node None k n = n
  same_node (Some root) k (pairs, layout, is, i) = (pairs, layout, tree_kept is (λ j m. sym (same_held j)), i)

  -- so what was disjoint is disjoint
  pub same_apart : (root : Option OpaqueNodePtr) → KeepsApart bytes P s t root root
  same_apart root other others layout h = record { is = same_tree h.is; apart = λ k n m. h.apart k (same_node root k n) (same_node (Some other) k m) }

  same_root : (root : Option OpaqueNodePtr) (pairs : List (K × V)) → IsCanonical bytes P s root pairs → IsCanonical bytes P t root pairs
  same_root None pairs is = is
  same_root (Some root) pairs (layout, is) = (layout, same_tree is)

  -- and so do two trees
  pub both_same : (first second : Option OpaqueNodePtr) {pairs others : List (K × V)} → HasBoth bytes P s first second pairs others →
      HasBoth bytes P t first second pairs others
  both_same first second {pairs} {others} h = record {
    one = same_root first pairs h.one;
    two = same_root second others h.two;
    apart = λ k n m. h.apart k (same_node first k n) (same_node second k m);
  }
