-- Trees of the program's keys and values.
use Rattle.std.specs.Prelude.{ℕ, List, Option, None, Vec}
use Rattle.std.specs.declared.alloc.Global.{Global}
use Rattle.art_nodes.specs.Nodes.{Nodes}
use Rattle.art_parts.specs.declared.names.OpaqueNodePtr.{OpaqueNodePtr}
use Rattle.art_model.specs.Pairs.{of_key}
use Rattle.art_model.specs.Trees.{Tree}
use Rattle.art_model.specs.Layouts.{IsLayout, AreLinked, leaf_names}
use Rattle.art_model.specs.Stores.{node_at, links_at}
use Rattle.art_model.specs.Roots.{IsFullTree}
use Rattle.art_model.specs.Canonical.{IsCanonical}

-- the name stands for a tree in the store
abbrev pub IsTreeIn : {K V : Type 0} → Nodes K V → OpaqueNodePtr → Type 0
IsTreeIn {K} {V} s root = (layout : Tree OpaqueNodePtr (K × V)) × IsLayout (node_at s) root layout

-- the name stands for a tree in the store, whose inner nodes all have children and whose leaves are linked
abbrev pub IsLinkedTreeIn : {K V : Type 0} → Nodes K V → OpaqueNodePtr → Type 0
IsLinkedTreeIn {K} {V} s root =
    (layout : Tree OpaqueNodePtr (K × V)) × IsFullTree s root layout ×
    AreLinked (links_at s) None (leaf_names layout) None

-- a key as a vector of bytes
abbrev pub Key : Type 0
Key = Vec ℕ Global

-- the bytes of a key
abbrev pub key_bytes : Key → List ℕ
key_bytes key = key.items

-- the root is the canonical tree of some pairs
abbrev pub HasCanonicalTree : Nodes Key ℕ → Option OpaqueNodePtr → Type 0
HasCanonicalTree s root = (pairs : List (Key × ℕ)) × IsCanonical (of_key key_bytes) 4 s root pairs
