-- The children that a table of places stands for.
use Rattle.std.specs.Prelude.{ℕ, zero, suc, [], Option}
use Rattle.std.specs.Option.{option_map}
use Rattle.std.specs.List.{cons_option}
use Rattle.art_inner.specs.Inner.{Children}
use Rattle.art_parts.specs.declared.names.OpaqueNodePtr.{OpaqueNodePtr}

-- the names under so many bytes from one on
unfoldable pub names_from : (ℕ → Option OpaqueNodePtr) → ℕ → ℕ → Children
names_from at b zero = []
names_from at b (suc n) = cons_option (option_map (λ name. (b, name)) (at b)) (names_from at (suc b) n)

-- the names under all bytes
unfoldable pub names_by_byte : (ℕ → Option OpaqueNodePtr) → Children
names_by_byte at = names_from at 0 256
