-- What a writer has written.
use Rattle.std.specs.Prelude.{◌≡◌, ℕ, List, [], ◌++◌, length, Option}
use Rattle.std.specs.List.{AllByRecursion as Each}
use Rattle.std.specs.Io.KnownBytes.{Appends}
use Rattle.sha2.specs.declared.Sha256.{Sha256}
use Rattle.sha2.specs.Hashers.{Holds256}
use Rattle.snapshot_format.specs.Snapshots.{Entry, FitsEntry, entries_bytes, last_key}

-- these bytes were written, and are part of what the checksum is of
pub record Writes {W : Type 0} (contents : W → Option (List ℕ)) (old new : W) (before after : Sha256) (bytes : List ℕ) : Type 0 where
  pub appended : Appends (contents old) (contents new) bytes
  pub held : (message : List ℕ) → Holds256 before message → Holds256 after (message ++ bytes)

-- so many entries were written, of lengths that a snapshot can have, the last key is known, and these are left
pub record HasWritten {W : Type 0} (contents : W → Option (List ℕ)) (old new : W) (before after : Sha256) (entries left : List Entry) (key : List ℕ) (count : ℕ) : Type 0 where
  pub done : List Entry
  pub are : entries ≡ done ++ left
  pub counted : length done ≡ count
  pub written : Writes contents old new before after (entries_bytes [] done)
  pub fits : Each FitsEntry done
  pub last : key ≡ last_key [] done
