-- An inner node as contracts see it.
use Rattle.std.specs.Prelude.{ℕ, List, [], ◌∷◌, suc, Option, Some, None, IsSome, filter, length, map, ◌⊎◌, ◌+◌, ◌<◌, ◌^◌, ◌==◌, ◌&&◌, nat_le, nat_lt, if◌then◌else◌}
use Rattle.std.specs.List.{AllByRecursion as Each}
use Rattle.art_parts.specs.Headers.{Prefix}
use Rattle.art_parts.specs.Lists.{Pairwise}
use Rattle.art_parts.specs.declared.names.OpaqueNodePtr.{OpaqueNodePtr}

-- a byte and a name, by rising bytes
abbrev pub Children : Type 0
Children = List (ℕ × OpaqueNodePtr)

-- an inner node as a contract sees it: its prefix, and its children
pub record Inner : Type 0 where
  pub prefix : Prefix
  pub children : Children

-- the byte is below each of these
abbrev pub IsBelow : ℕ → Children → Type 0
IsBelow b cs = Each (λ c. b < c.0) cs

-- each byte is below all later ones
abbrev pub IsRising : Children → Type 0
IsRising cs = Pairwise (λ c d. c.0 < d.0) cs

-- the byte is above each of these
abbrev pub IsAbove : ℕ → Children → Type 0
IsAbove b cs = Each (λ c. c.0 < b) cs

-- a node with no child
abbrev pub childless : Prefix → Inner
childless prefix = record { prefix = prefix; children = [] }

-- the name under a byte
abbrev pub child_at : Children → ℕ → Option OpaqueNodePtr
child_at [] b = None
child_at (c ∷ cs) b = if c.0 == b then Some c.1 else child_at cs b

-- the children with a name set under a byte
abbrev pub put_child : Children → ℕ → OpaqueNodePtr → Children
put_child [] b name = (b, name) ∷ []
put_child (c ∷ cs) b name =
    if nat_lt c.0 b then c ∷ put_child cs b name
    else if c.0 == b then (b, name) ∷ cs
    else (b, name) ∷ c ∷ cs

-- the children under other bytes
abbrev pub remove_child : Children → ℕ → Children
remove_child [] b = []
remove_child (c ∷ cs) b = if c.0 == b then remove_child cs b else c ∷ remove_child cs b

-- a child may be set under the byte: there is one already, or there is room
abbrev pub HasPlace : ℕ → Children → ℕ → Type 0
HasPlace capacity cs byte = (length cs < capacity) ⊎ IsSome (child_at cs byte)

-- how many of the first bytes are below this one
abbrev pub bytes_below : List ℕ → ℕ → ℕ
bytes_below [] b = 0
bytes_below (x ∷ bytes) b = if nat_lt x b then suc (bytes_below bytes b) else 0

-- how many of the first children are under a byte below this one
abbrev pub count_below : Children → ℕ → ℕ
count_below cs b = bytes_below (map (λ c. c.0) cs) b

-- the children under the bytes from one on, up to another that is excluded
abbrev pub part_of : ℕ → ℕ → Children → Children
part_of from to cs = filter (λ c. nat_le from c.0 && nat_lt c.0 to) cs

-- the children under the bytes from first to last
abbrev pub children_between : ℕ → ℕ → Children → Children
children_between first last cs = part_of first (last + 1) cs

-- an array of so many bytes fits in memory: an inner node keeps this of its stored bytes, so that they can be borrowed by a caller that doesn't know it
abbrev pub IsSize : ℕ → Type 0
IsSize n = n < 2 ^ 63
