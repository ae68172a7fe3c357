-- The nodes below a name that stands for a tree.
use Rattle.std.proofs.Common.{◌≡◌, ◌≢◌, ℕ, [], ◌∷◌, List, refl, ap, sym, ◌∙◌, subst, Option, Some, None}
use Rattle.std.specs.List.{AllByRecursion as Each}
use Rattle.std.specs.Option.{IfSome}
use Rattle.art_nodes.specs.Nodes.{Nodes}
use Rattle.art_parts.specs.declared.names.OpaqueNodePtr.{OpaqueNodePtr}
use Rattle.art_model.specs.Trees.{leaf, inner, Subtrees, child, no_child}
use Rattle.art_model.specs.Layouts.{name_of, slots_of, names_of, names_below, HoldsBelow, AreDistinct, IsLayout}
use Rattle.art_model.specs.Pairs.{last_of, of_key}
use Rattle.art_model.specs.Stores.{node_at}
use Rattle.art_model.proofs.lists.Filters.{last_each}
use Rattle.art_model.proofs.lists.Lists.{Each-append}
use Rattle.art_model.proofs.lists.Pairwises.{Pairwise-left, Pairwise-right}
use Rattle.art_model.proofs.stores.StoreLaws.{has_children}
use Rattle.art_engine.specs.KeptKeys.{IsTreeIn, IsLinkedTreeIn, Key, HasCanonicalTree, key_bytes}
use Rattle.art_engine.specs.NodeWalks.{children_of, reversed_children, one_deeper, after_turn}
use Rattle.art_engine.specs.declared.keeping.walk.Pending.{Pending}

module _ {K V : Type 0} (s : Nodes K V) where
  -- a pending node stands for a tree
  abbrev pub IsPendingTree : Pending → Type 0
  IsPendingTree next = IsTreeIn s next.name

  -- children that are held stand for trees
  trees_held : (depth : ℕ) (cs : Subtrees OpaqueNodePtr (K × V)) → HoldsBelow (node_at s) cs → AreDistinct (names_below cs) →
      Each IsPendingTree (reversed_children depth (slots_of cs))
  trees_held depth no_child holds distinct = tt
  trees_held depth (child b t cs) holds distinct =
      let is : IsLayout (node_at s) (name_of t) t =
      record { named = refl; holds = holds.0; distinct = Pairwise-left ◌≢◌ (names_of t) (names_below cs) distinct } in
      let others = trees_held depth cs holds.1 (Pairwise-right ◌≢◌ (names_of t) (names_below cs) distinct) in
      Each-append IsPendingTree (reversed_children depth (slots_of cs)) (record { depth = depth; byte = Some b; name = name_of t } ∷ []) others ((t, is), tt)

  -- the children of a tree's root stand for trees
  trees_under : (depth : ℕ) (name : OpaqueNodePtr) → IsTreeIn s name → Each IsPendingTree (children_of depth (node_at s name))
  trees_under depth name (leaf n x, h) = subst (λ o. Each IsPendingTree (children_of depth o)) (sym (ap (node_at s) (sym h.named) ∙ h.holds)) tt
  trees_under depth name (inner n head cs, h) =
      subst (λ o. Each IsPendingTree (children_of depth o)) (sym (ap (node_at s) (sym h.named) ∙ h.holds.0))
      (trees_held depth cs h.holds.1 (Pairwise-right ◌≢◌ (n ∷ []) (names_below cs) h.distinct))

  -- a step leaves trees
  pub trees_turned : (pending : List Pending) → Each IsPendingTree pending → Each IsPendingTree (after_turn s pending)
  trees_turned [] trees = tt
  trees_turned (next ∷ []) trees = trees_under (one_deeper next.depth) next.name trees.0
  trees_turned (first ∷ next ∷ rest) trees = (trees.0, trees_turned (next ∷ rest) trees.1)

  -- and removes one
  pub tree_taken : (pending : List Pending) (next : Pending) → Some next ≡ last_of pending → Each IsPendingTree pending → IsTreeIn s next.name
  tree_taken pending next is trees = last_each IsPendingTree pending next trees (sym is)

-- a canonical root stands for a tree
pub canonical_is_tree : (s : Nodes Key ℕ) (root : Option OpaqueNodePtr) → HasCanonicalTree s root → IfSome root (IsTreeIn s)
canonical_is_tree s None h = tt
canonical_is_tree s (Some root) h = (h.1.0, h.1.1.stands.0)

-- and its leaves are linked
pub canonical_is_linked : (s : Nodes Key ℕ) (root : Option OpaqueNodePtr) → HasCanonicalTree s root → IfSome root (IsLinkedTreeIn s)
canonical_is_linked s None h = tt
canonical_is_linked s (Some root) (pairs, (layout, is)) = (layout, has_children (of_key key_bytes) 4 s root pairs layout is, is.linked)
