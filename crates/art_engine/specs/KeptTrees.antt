-- The tree that the program keeps, as contracts see it.
use Rattle.std.specs.Prelude.{ℕ}
use Rattle.art_running.specs.Runs.{Shown, on, from_side}
use Rattle.art_running.specs.declared.run.Side.{Side}
use Rattle.art_running.specs.declared.run.Side.TheVariants.{First}
use Rattle.art_engine.specs.KeptKeys.{Key, HasCanonicalTree}
use Rattle.art_engine.specs.declared.keeping.tree.KeptTree.{KeptTree}

-- the stores and the root
abbrev pub state_of : KeptTree → Shown Key ℕ
state_of kept = on First kept.first kept.second kept.root

-- the root is canonical in the first store
abbrev pub IsKept : KeptTree → Type 0
IsKept kept = HasCanonicalTree kept.first kept.root

-- the stores as they were before, where the one that then has the tree is now the first
abbrev pub state_before : Side → KeptTree → Shown Key ℕ
state_before side kept = from_side side kept.first kept.second kept.root
