-- Entries in memory.
use Rattle.snapshot_format.specs.Snapshots.{Entry, entry}
use Rattle.snapshot_format.specs.declared.list.OwnedEntry.{OwnedEntry}

-- an entry without where it lies in memory
abbrev pub entry_of : OwnedEntry → Entry
entry_of owned = entry owned.key.items owned.value.items
