-- What a name stands for. A layout is a tree whose marks are names: it says which node is under which name.
use Rattle.std.specs.Prelude.{◌≡◌, ◌≢◌, ℕ, List, [], ◌∷◌, ◌++◌, Option, Some, ⊤}
use Rattle.art_model.specs.Pairs.{Pairwise}
use Rattle.art_model.specs.Trees.{Tree, leaf, inner, Subtrees, child, no_child, NodeHeader}
use Rattle.art_model.specs.Radix.{unmarked}

-- a node as a tree sees it: a leaf is its pair, and an inner node its header and the names of its children
pub data Node (N A : Type 0) : Type 0 where
  leaf_node : A → Node N A
  inner_node : NodeHeader → List (ℕ × N) → Node N A

-- the names of the leaves before and after a leaf
pub record Links (N : Type 0) : Type 0 where
  pub previous : Option N
  pub next : Option N

-- no name occurs twice in the list
abbrev pub AreDistinct : {N : Type 0} → List N → Type 0
AreDistinct = Pairwise (λ n k. n ≢ k)

module _ {N A : Type 0} where
  -- the name of the root
  abbrev pub name_of : Tree N A → N
  name_of (leaf n x) = n
  name_of (inner n h cs) = n

  -- the bytes and names of children
  abbrev pub slots_of : Subtrees N A → List (ℕ × N)
  slots_of no_child = []
  slots_of (child b t cs) = (b, name_of t) ∷ slots_of cs

  -- the names of all nodes
  abbrev mutual
    pub names_of : Tree N A → List N
    names_of (leaf n x) = n ∷ []
    names_of (inner n h cs) = n ∷ names_below cs

    pub names_below : Subtrees N A → List N
    names_below no_child = []
    names_below (child b t cs) = names_of t ++ names_below cs

  -- the names of the leaves, in order
  abbrev mutual
    pub leaf_names : Tree N A → List N
    leaf_names (leaf n x) = n ∷ []
    leaf_names (inner n h cs) = leaf_names_below cs

    pub leaf_names_below : Subtrees N A → List N
    leaf_names_below no_child = []
    leaf_names_below (child b t cs) = leaf_names t ++ leaf_names_below cs

  -- the pairs and names of the leaves, in order
  abbrev mutual
    pub entries_of : Tree N A → List (A × N)
    entries_of (leaf n x) = (x, n) ∷ []
    entries_of (inner n h cs) = entries_below cs

    pub entries_below : Subtrees N A → List (A × N)
    entries_below no_child = []
    entries_below (child b t cs) = entries_of t ++ entries_below cs

  -- the names of the inner nodes
  abbrev mutual
    pub inner_names : Tree N A → List N
    inner_names (leaf n x) = []
    inner_names (inner n h cs) = n ∷ inner_names_below cs

    pub inner_names_below : Subtrees N A → List N
    inner_names_below no_child = []
    inner_names_below (child b t cs) = inner_names t ++ inner_names_below cs

  -- the layout without its pairs
  abbrev mutual
    pub shape_of : Tree N A → Tree N (Unit {0})
    shape_of (leaf n x) = leaf n tt
    shape_of (inner n h cs) = inner n h (shape_below cs)

    pub shape_below : Subtrees N A → Subtrees N (Unit {0})
    shape_below no_child = no_child
    shape_below (child b t cs) = child b (shape_of t) (shape_below cs)

  -- under each name of the layout is the node that the layout says
  abbrev mutual
    pub Holds : (N → Option (Node N A)) → Tree N A → Type 0
    Holds at (leaf n x) = at n ≡ Some (leaf_node x)
    Holds at (inner n h cs) = (at n ≡ Some (inner_node h (slots_of cs))) × HoldsBelow at cs

    pub HoldsBelow : (N → Option (Node N A)) → Subtrees N A → Type 0
    HoldsBelow at no_child = ⊤
    HoldsBelow at (child b t cs) = Holds at t × HoldsBelow at cs

  -- the nodes from the root on are where the layout says, each under a name of its own
  pub record IsLayout (at : N → Option (Node N A)) (root : N) (layout : Tree N A) : Type 0 where
    pub named : name_of layout ≡ root
    pub holds : Holds at layout
    pub distinct : AreDistinct (names_of layout)

  -- the name stands for the plain tree, and the layout says where its nodes are
  abbrev pub StandsFor : (N → Option (Node N A)) → N → Tree (Unit {0}) A → Tree N A → Type 0
  StandsFor at root tree layout = IsLayout at root layout × (unmarked layout ≡ tree)

module _ {N : Type 0} where
  -- the first name, or this one if there is none
  abbrev pub first_or : List N → Option N → Option N
  first_or [] o = o
  first_or (n ∷ ns) o = Some n

  -- the last name, or this one if there is none
  abbrev pub last_or : List N → Option N → Option N
  last_or [] o = o
  last_or (n ∷ ns) o = last_or ns (Some n)

  -- each leaf of the list names the one before it and the one after it, between a leaf before the list and one after it
  abbrev pub AreLinked : (N → Option (Links N)) → Option N → List N → Option N → Type 0
  AreLinked links before [] after = ⊤
  AreLinked links before (n ∷ ns) after =
      (links n ≡ Some (record { previous = before; next = first_or ns after })) × AreLinked links (Some n) ns after
