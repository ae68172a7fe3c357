-- Snapshots of an index of paths.
use Rattle.std.proofs.Common.{◌≡◌, ℕ, List, [], ◌∷◌, Option, refl, sym, ◌∙◌, subst}
use Rattle.std.specs.List.{AllByRecursion as Each}
use Rattle.std.specs.Bool.{⊤}
use Rattle.std.specs.Io.KnownBytes.{Appends}
use Rattle.art_operations.specs.Ended.{HasNoZero, ended}
use Rattle.art_operations.specs.KeyedPairs.{HaveKeys}
use Rattle.art_operations.specs.MapItems.{keys_of}
use Rattle.art_snapshots.specs.MapEntries.{entries_of, key_entries}
use Rattle.art_snapshots.proofs.KeyEntries.{are_keys, entries_keys, entries_units, same_keys, units}
use Rattle.line_programs.specs.SavedTables.{IsWritten}
use Rattle.snapshot_format.specs.Snapshots.{IsStorable, snapshot_of}
use Rattle.text_programs.specs.PathSnapshots.{IsSnapshotOf}
use Rattle.text_programs.proofs.EndedLemmas.{ended_equal}

abbrev no_bytes : ⊤ → List ℕ
no_bytes value = []

each_any : (paths : List (List ℕ)) → Each (λ path. ⊤) paths
each_any [] = tt
each_any (path ∷ paths) = (tt, each_any paths)

-- the snapshot of pairs is that of their keys
pub snapshot_written : (pairs : List (List ℕ × ⊤)) (old new : Option (List ℕ)) → HaveKeys HasNoZero pairs →
    IsStorable (entries_of ended no_bytes pairs) → Appends old new (snapshot_of (entries_of ended no_bytes pairs)) →
    IsWritten (IsSnapshotOf (keys_of pairs)) old new
snapshot_written pairs old new keys stored written = (
  snapshot_of (key_entries ended (keys_of pairs)),
  record {
    plain = are_keys ended HasNoZero pairs keys;
    storable = subst IsStorable (entries_keys ended pairs) stored;
    bytes_are = refl;
  },
  subst (λ entries. Appends old new (snapshot_of entries)) (entries_keys ended pairs) written,
)

-- pairs with the entries of paths have these paths as keys
pub same_paths : (pairs : List (List ℕ × ⊤)) (paths : List (List ℕ)) →
    entries_of ended no_bytes pairs ≡ entries_of ended no_bytes (units paths) → keys_of pairs ≡ paths
same_paths pairs paths same =
    same_keys ended (λ path. ⊤) (λ a b of_a of_b e. ended_equal a b e) (keys_of pairs) paths (each_any (keys_of pairs)) (each_any paths)
    (sym (entries_keys ended pairs) ∙ same ∙ entries_units ended paths)
