-- What a store gains or loses as a whole: a tree under names of its own. No public clause cites this module.
use Rattle.std.specs.Prelude.{◌≡◌, List, [], ◌∷◌, None}
use Rattle.std.specs.Prelude.{map as list_map}
use Rattle.std.specs.FinMap as map
use Rattle.std.specs.declared.cmp.Ordering.{Ordering}
use Rattle.art_nodes.specs.Nodes.{Nodes}
use Rattle.art_parts.specs.declared.names.LeafPtr.{LeafPtr}
use Rattle.art_parts.specs.declared.names.OpaqueNodePtr.{OpaqueNodePtr}
use Rattle.art_model.specs.Trees.{Tree}
use Rattle.art_model.specs.Layouts.{names_of, leaf_names, inner_names, Holds, AreDistinct, AreLinked}
use Rattle.art_model.specs.Stores.{node_at, links_at}
use Rattle.art_model.specs.Writes.{as_inner}

-- the name as one of a leaf
abbrev pub as_leaf : OpaqueNodePtr → LeafPtr
as_leaf name = record { slot = name.slot }

-- the map without these names
abbrev pub without : {N X : Type 0} {R : N → N → Ordering} → map.FinMap R X → List N → map.FinMap R X
without m [] = m
without m (n ∷ ns) = without (map.remove m n) ns

module _ {K V : Type 0} where
  -- the second store has the first one's nodes without those of the tree
  pub record Loses (old new : Nodes K V) (tree : Tree OpaqueNodePtr (K × V)) : Type 0 where
    pub leaves : new.leaves ≡ without old.leaves (list_map as_leaf (leaf_names tree))
    pub inners : new.inners ≡ without old.inners (list_map as_inner (inner_names tree))

  -- the second store has the tree, with its leaves linked, and without it is the first one
  pub record Gains (old new : Nodes K V) (tree : Tree OpaqueNodePtr (K × V)) : Type 0 where
    pub holds : Holds (node_at new) tree
    pub distinct : AreDistinct (names_of tree)
    pub linked : AreLinked (links_at new) None (leaf_names tree) None
    pub added : Loses new old tree
