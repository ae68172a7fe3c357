-- A store has at least as many leaves as a tree in it has pairs.
use Rattle.std.proofs.Common.{◌≡◌, ◌≢◌, ℕ, ◌≤◌, List, [], ◌∷◌, length, ap, ap₂, sym, ◌∙◌, arith, true, is_some}
use Rattle.std.specs.List.{AllByRecursion as Each}
use Rattle.std.specs.FinMap as map
use Rattle.art_model.specs.Prelude.{Nodes, leaf_cmp, LeafNode, Leaf, OpaqueNodePtr, IsCanonicalTree, leaf_names, leaf_names_below, Holds, HoldsBelow, AreDistinct, node_at, Tree, leaf, inner, Subtrees, child, no_child}
use Rattle.art_model.specs.Gains.{as_leaf}
use Rattle.art_parts.proofs.NameLemmas.{leaf_cmp_total, leaf_cmp-IsAntisymmetric}
use Rattle.art_nodes.proofs.StoreChanges.{gone_elsewhere}
use Rattle.art_model.proofs.stores.Canonical.{tree_radix}
use Rattle.art_model.proofs.stores.Heights.{one_less}
use Rattle.art_model.proofs.lists.Lists.{Each-append}
use Rattle.art_model.proofs.stores.Names.{taken_distinct, takes_leaves}
use Rattle.art_model.proofs.places.Paths.{length-leaf_names}
use Rattle.art_reading.proofs.PairsLeft.{leaf_used}

same_name : (n k : OpaqueNodePtr) → n.kind ≡ Leaf → k.kind ≡ Leaf → as_leaf n ≡ as_leaf k → n ≡ k
same_name n k e f same = ap₂ (λ kind slot. let r : OpaqueNodePtr = record { kind = kind; slot = slot } in r) (e ∙ sym f) (ap (λ p. p.slot) same)

module _ {K V : Type 0} where
  -- the name is that of a leaf in the store
  abbrev IsLeafIn : map.FinMap leaf_cmp (LeafNode K V) → OpaqueNodePtr → Type 0
  IsLeafIn m n = (n.kind ≡ Leaf) × (is_some (map.get m (as_leaf n)) ≡ true)

  enough_leaves : (ns : List OpaqueNodePtr) (m : map.FinMap leaf_cmp (LeafNode K V)) → AreDistinct ns → Each (IsLeafIn m) ns → length ns ≤ map.len m
  enough_leaves [] m d h = omega arith
  enough_leaves (n ∷ ns) m d h =
      let less = one_less leaf_cmp_total m (as_leaf n) h.0.1 in
      let kept = go ns d.0 h.1 in
      let ih = enough_leaves ns (map.remove m (as_leaf n)) d.1 kept in
      omega arith
    where
      go : (ks : List OpaqueNodePtr) → Each (λ k. n ≢ k) ks → Each (IsLeafIn m) ks → Each (IsLeafIn (map.remove m (as_leaf n))) ks
      go [] o h = tt
      go (k ∷ ks) o is = (
        (
          is.0.0,
          ap is_some (gone_elsewhere leaf_cmp_total leaf_cmp-IsAntisymmetric m (as_leaf n) (as_leaf k)
              (λ e. o.0 (same_name n k h.0.0 is.0.0 (sym e)))) ∙ is.0.1,
        ),
        go ks o.1 is.1,
      )

module _ {K V : Type 0} (s : Nodes K V) where
  mutual
    leaves_held : (t : Tree OpaqueNodePtr (K × V)) → Holds (node_at s) t → Each (IsLeafIn s.leaves) (leaf_names t)
    leaves_held (leaf n x) h = (leaf_used s n.kind n.slot x h, tt)
    leaves_held (inner n h cs) holds = leaves_held_below cs holds.1

    leaves_held_below : (cs : Subtrees OpaqueNodePtr (K × V)) → HoldsBelow (node_at s) cs → Each (IsLeafIn s.leaves) (leaf_names_below cs)
    leaves_held_below no_child h = tt
    leaves_held_below (child b t cs) h = Each-append (IsLeafIn s.leaves) (leaf_names t) (leaf_names_below cs) (leaves_held t h.0) (leaves_held_below cs h.1)

-- the store has at least as many leaves as there are pairs
pub enough : {K V : Type 0} {bytes : K × V → List ℕ} {P : ℕ} {s : Nodes K V} {root : OpaqueNodePtr} {pairs : List (K × V)}
    {layout : Tree OpaqueNodePtr (K × V)} →
    IsCanonicalTree bytes P s root pairs layout → length pairs ≤ map.len s.leaves
enough {s = s} {layout = layout} by =
    let many = enough_leaves (leaf_names layout) s.leaves (taken_distinct takes_leaves layout by.stands.0.distinct) (leaves_held s layout by.stands.0.holds) in
    let same = length-leaf_names layout in
    let all = ap length (tree_radix by).1 in
    omega arith
