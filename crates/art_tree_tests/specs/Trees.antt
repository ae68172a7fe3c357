-- Trees of the tests' keys and values.
use Rattle.std.specs.Prelude.{ℕ, List, Option, Vec}
use Rattle.std.specs.declared.alloc.Global.{Global}
use Rattle.art_nodes.specs.Nodes.{Nodes}
use Rattle.art_parts.specs.declared.names.OpaqueNodePtr.{OpaqueNodePtr}
use Rattle.art_model.specs.Canonical.{IsCanonical}
use Rattle.art_model.specs.Pairs.{of_key}

-- a key as a vector of bytes
abbrev pub Key : Type 0
Key = Vec ℕ Global

-- the root is the canonical tree of some pairs
abbrev pub HasTree : ℕ → Nodes Key ℕ → Option OpaqueNodePtr → Type 0
HasTree P s root = (pairs : List (Key × ℕ)) × IsCanonical (of_key (λ key. key.items)) P s root pairs
