-- The place of a node is the bytes that lead to it, prefixes and children's bytes from the root on. It is a prefix of every key below the node, so it is read off the least of them.
use Rattle.std.specs.Prelude.{◌≡◌, ℕ, ◌+◌, ◌≤◌, List, [], ◌∷◌, ◌++◌, length, take, drop}
use Rattle.std.specs.List.{AllByRecursion as Each}
use Rattle.art_parts.specs.declared.names.NodeType.{NodeType}
use Rattle.art_parts.specs.Keys.{IsFront}
use Rattle.art_model.specs.Trees.{Tree, leaf, inner, Subtrees, child, no_child}
use Rattle.art_model.specs.Paths.{Frame, plug}

module _ {N A : Type 0} where
  -- how many bytes lead down a path: each node's prefix, and the byte of its hole
  abbrev pub depth_of : List (Frame N A) → ℕ
  depth_of [] = 0
  depth_of (f ∷ fs) = depth_of fs + f.header.length_of + 1

module _ {N A : Type 0} (bytes : A → List ℕ) where
  -- the least key below a node
  abbrev mutual
    pub least_key : Tree N A → List ℕ
    least_key (leaf n x) = bytes x
    least_key (inner n h cs) = least_below cs

    pub least_below : Subtrees N A → List ℕ
    least_below no_child = []
    least_below (child b t cs) = least_key t

  -- the place of a node to which so many bytes lead
  abbrev pub place_of : ℕ → Tree N A → List ℕ
  place_of d t = take d (least_key t)

  -- the whole prefix of such a node, the bytes that are not stored among it; a leaf has none
  abbrev pub prefix_of : ℕ → Tree N A → List ℕ
  prefix_of d (leaf n x) = []
  prefix_of d (inner n h cs) = take h.length_of (drop d (least_below cs))

  -- the places and names of all nodes
  abbrev mutual
    pub places : ℕ → Tree N A → List (List ℕ × N)
    places d (leaf n x) = (place_of d (leaf n x), n) ∷ []
    places d (inner n h cs) = (place_of d (inner n h cs), n) ∷ places_below (d + h.length_of + 1) cs

    pub places_below : ℕ → Subtrees N A → List (List ℕ × N)
    places_below d no_child = []
    places_below d (child b t cs) = places d t ++ places_below d cs

  -- the kinds, whole bytes (the place, and then the whole prefix) and names of the inner nodes
  abbrev mutual
    pub inner_nodes : ℕ → Tree N A → List (NodeType × List ℕ × N)
    inner_nodes d (leaf n x) = []
    inner_nodes d (inner n h cs) =
        (h.kind, place_of (d + h.length_of) (inner n h cs), n) ∷ inner_nodes_below (d + h.length_of + 1) cs

    pub inner_nodes_below : ℕ → Subtrees N A → List (NodeType × List ℕ × N)
    inner_nodes_below d no_child = []
    inner_nodes_below d (child b t cs) = inner_nodes d t ++ inner_nodes_below d cs

  -- The end node of a key, and the path to it: its place is a prefix of the key, and no node of the tree has a longer such place.
  pub record IsEndNode (tree : Tree N A) (key : List ℕ) (path : List (Frame N A)) (node : Tree N A) : Type 0 where
    pub whole : plug path node ≡ tree
    pub is_front : IsFront (place_of (depth_of path) node) key
    pub is_longest : Each (λ other. IsFront other.0 key → length other.0 ≤ depth_of path) (places 0 tree)
