-- How many nodes a search for a part of a tree or for a text reads: each reading counts, also where a node is read again.
use Rattle.std.specs.Prelude.{ℕ, ◌+◌, ◌*◌, ◌≤◌, List, [], ◌∷◌, length}
use Rattle.std.specs.declared.ops.Bound.{Bound}
use Rattle.std.specs.declared.ops.Bound.TheVariants.{Included, Excluded, Unbounded}
use Rattle.art_nodes.specs.Nodes.{Nodes}
use Rattle.art_parts.specs.declared.names.OpaqueNodePtr.{OpaqueNodePtr}
use Rattle.art_model.specs.Heights.{tree_height}
use Rattle.art_model.specs.Lookups.{nodes_on_way}
use Rattle.art_model.specs.Parts.{is_between, is_from, leaves_where}
use Rattle.art_model.specs.Roots.{ForTree}
use Rattle.art_model.specs.Trees.{Tree}
use Rattle.art_reading.specs.Readings.{CountsReadings}

-- so many, if there is a leaf, and else none
abbrev pub if_any : {N : Type 0} → List N → ℕ → ℕ
if_any [] number = 0
if_any (name ∷ names) number = number

-- how many nodes are on the path of a bound's key
abbrev pub nodes_to : {A : Type 0} → (A → List ℕ) → Bound (List ℕ) → Tree OpaqueNodePtr A → ℕ
nodes_to bytes (Included key) layout = length (nodes_on_way bytes key layout)
nodes_to bytes (Excluded key) layout = length (nodes_on_way bytes key layout)
nodes_to bytes Unbounded layout = 0

module _ {K V : Type 0} (bytes : K × V → List ℕ) (P : ℕ) (s : Nodes K V) (root : OpaqueNodePtr) where
  -- a search counts at least so many readings of nodes of the tree, and at most so many
  abbrev pub CountsBetween : (Tree OpaqueNodePtr (K × V) → ℕ) → (Tree OpaqueNodePtr (K × V) → ℕ) → ℕ → ℕ → Type 0
  CountsBetween least most before after =
      CountsReadings before after (λ number. ForTree bytes P s root (λ pairs layout. (least layout ≤ number) × (number ≤ most layout)))

  -- the search for the keys with a prefix
  abbrev pub CountsBelow : List ℕ → ℕ → ℕ → Type 0
  CountsBelow prefix before after =
      CountsBetween (λ layout. length (nodes_on_way bytes prefix layout)) (λ layout. 2 * (tree_height layout + 1)) before after

  -- the search for the leaf at a bound
  abbrev pub CountsToBound : Bound (List ℕ) → ℕ → ℕ → Type 0
  CountsToBound bound before after =
      CountsBetween (nodes_to bytes bound) (λ layout. 3 * (tree_height layout + 1) + 2) before after

  -- the search for a text: at least the nodes on the path of these bytes, and at most so many readings
  abbrev pub CountsToText : List ℕ → ℕ → ℕ → ℕ → Type 0
  CountsToText front most before after =
      CountsBetween (λ layout. length (nodes_on_way bytes front layout)) (λ layout. most) before after

  -- The search for the leaves between two bounds: that to the lower one, the first leaf from there on, and, if a leaf is
  -- between both, that to the upper one.
  abbrev pub CountsToBounds : Bound (List ℕ) → Bound (List ℕ) → ℕ → ℕ → Type 0
  CountsToBounds from to before after =
      CountsBetween (λ layout. nodes_to bytes from layout + if_any (leaves_where (λ x. is_from from (bytes x)) layout) 1
      + if_any (leaves_where (λ x. is_between from to (bytes x)) layout) (nodes_to bytes to layout))
      (λ layout. 2 * (3 * (tree_height layout + 1) + 2) + 1) before after
