-- Children whose bytes, kinds and slots are in three lists. No public clause cites this module.
use Rattle.std.specs.Prelude.{◌≡◌, ◌-◌, length, take, drop, ℕ, List, [], ◌∷◌, ◌++◌}
use Rattle.art_inner.specs.Inner.{Children}
use Rattle.art_parts.specs.declared.names.NodeType.{NodeType}
use Rattle.art_inner.specs.declared.rows.Rows.{Rows}

-- one child for each place that all three have
abbrev pub rows : List ℕ → List NodeType → List ℕ → Children
rows [] kinds slots = []
rows (b ∷ bytes) [] slots = []
rows (b ∷ bytes) (k ∷ kinds) [] = []
rows (b ∷ bytes) (k ∷ kinds) (s ∷ slots) = (b, record { kind = k; slot = s }) ∷ rows bytes kinds slots

-- there are as many kinds and slots as bytes
abbrev pub AreAligned : Rows → Type 0
AreAligned r = (length r.kinds.now ≡ length r.bytes.now) × (length r.slots.now ≡ length r.bytes.now)

-- the children that borrowed lists stand for
abbrev pub rows_of : Rows → Children
rows_of r = rows r.bytes.now r.kinds.now r.slots.now

-- a value inserted at a place of a list, whose last value goes
abbrev pub inserted : {X : Type 0} → List X → ℕ → X → List X
inserted xs at x = take at xs ++ x ∷ take (length xs - 1 - at) (drop at xs)
