-- Snapshots of an index of paths.
use Rattle.std.specs.Prelude.{◌≡◌, ℕ, List}
use Rattle.std.specs.List.{AllByRecursion as Each}
use Rattle.art_operations.specs.Ended.{HasNoZero, ended}
use Rattle.art_snapshots.specs.MapEntries.{key_entries}
use Rattle.snapshot_format.specs.Snapshots.{IsStorable, snapshot_of}
use Rattle.text_programs.specs.Paths.{IsIndexOf}

-- The bytes are the snapshot of these paths, with a zero at the end of each, and such as are read back.
pub record IsSnapshotOf (paths : List (List ℕ)) (bytes : List ℕ) : Type 0 where
  pub plain : Each HasNoZero paths
  pub storable : IsStorable (key_entries ended paths)
  pub bytes_are : bytes ≡ snapshot_of (key_entries ended paths)

-- the bytes are the snapshot of an index of these lines
abbrev pub IsSavedIndex : List (List ℕ) → List ℕ → Type 0
IsSavedIndex ls bytes = (paths : List (List ℕ)) × IsIndexOf ls paths × IsSnapshotOf paths bytes
