-- The children next to a byte.
use Rattle.std.specs.Prelude.{◌≡◌, ℕ, ◌<◌, Some, None}
use Rattle.art_inner.specs.Inner.{Children, child_at}
use Rattle.art_parts.specs.declared.names.OpaqueNodePtr.{OpaqueNodePtr}

-- No other child is between the byte and this one.
pub record IsNextTo (cs : Children) (byte : ℕ) (child : ℕ × OpaqueNodePtr) : Type 0 where
  pub there : child_at cs child.0 ≡ Some child.1
  pub above : (k : ℕ) → byte < k → k < child.0 → child_at cs k ≡ None
  pub below : (k : ℕ) → child.0 < k → k < byte → child_at cs k ≡ None
