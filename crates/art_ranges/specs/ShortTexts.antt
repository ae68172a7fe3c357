-- The texts of at least so many bytes that are prefixes of a query, and the first of some pairs.
use Rattle.std.specs.Prelude.{◌≡◌, ◌≤◌, ℕ, List, [], filter, leb, length, Option, Some, None}
use Rattle.art_parts.specs.Names.{leaf_name}
use Rattle.art_parts.specs.declared.names.LeafPtr.{LeafPtr}
use Rattle.art_parts.specs.declared.names.OpaqueNodePtr.{OpaqueNodePtr}
use Rattle.art_parts.specs.Keys.{IsFront}
use Rattle.art_model.specs.Lookups.{HasLeaf}
use Rattle.art_model.specs.Pairs.{first_of}
use Rattle.art_model.specs.Texts.{texts_in_front, text_of}
use Rattle.art_model.specs.Trees.{Tree}

-- the leaf of the first pair of the list is found, or none if there is no pair
abbrev pub FindsFirst : {A : Type 0} → Tree OpaqueNodePtr A → List A → Option LeafPtr → Type 0
FindsFirst tree pairs None = pairs ≡ []
FindsFirst {A} tree pairs (Some name) = (x : A) × (first_of pairs ≡ Some x) × HasLeaf tree (leaf_name name) x

module _ {A : Type 0} (bytes : A → List ℕ) where
  -- the pairs whose texts are prefixes of the query and have at least so many bytes
  abbrev pub texts_from : List ℕ → ℕ → List A → List A
  texts_from query at_least pairs = filter (λ x. leb at_least (length (text_of bytes x))) (texts_in_front bytes query pairs)

  -- the text of the pair is a prefix of the query and has at least so many bytes
  abbrev pub IsSought : List ℕ → ℕ → A → Type 0
  IsSought query at_least x = IsFront (text_of bytes x) query × (at_least ≤ length (text_of bytes x))
