-- What a reader has read.
use Rattle.std.specs.Prelude.{◌≡◌, ℕ, ◌+◌, Bool, true, false, List, [], ◌∷◌, ◌++◌, length, nat_lt, Option, Some, None, ⊤}
use Rattle.std.specs.List.{AllByRecursion as Each}
use Rattle.std.specs.Io.KnownBytes.{Consumes}
use Rattle.std.specs.Io.Iter.{u64_saturate}
use Rattle.sha2.specs.Hashers.{Holds256}
use Rattle.snapshot_format.specs.declared.error.ReadError.{ReadError}
use Rattle.snapshot_format.specs.declared.error.ReadError.TheVariants as errors
use Rattle.snapshot_format.specs.Snapshots.{Entry, IsRising, entries_bytes, last_key, sized}
use Rattle.snapshot_format.specs.declared.source.Source.{Source}

-- these bytes were read, and are part of what the checksum is of
pub record Reads {R : Type 0} (left : R → Option (List ℕ)) (old new : Source R) (bytes : List ℕ) : Type 0 where
  pub taken : Consumes (left old.input) (left new.input) bytes
  pub held : (message : List ℕ) → Holds256 old.digest message → Holds256 new.digest (message ++ bytes)
  pub counted : new.at ≡ u64_saturate (old.at + length bytes)

-- so many bytes were read and appended
pub record Appended {R : Type 0} (left : R → Option (List ℕ)) (old new : Source R) (before after : List ℕ) (len : ℕ) : Type 0 where
  pub bytes : List ℕ
  pub count : length bytes ≡ len
  pub items : after ≡ before ++ bytes
  pub reads : Reads left old new bytes

-- a number and so many bytes were read, and the bytes were appended
pub record AppendedSized {R : Type 0} (left : R → Option (List ℕ)) (old new : Source R) (before after : List ℕ) : Type 0 where
  pub bytes : List ℕ
  pub items : after ≡ before ++ bytes
  pub reads : Reads left old new (sized bytes)

-- the error is not about the bytes: an allocation failed, or the reader did
abbrev pub IsOutside : ReadError → Type 0
IsOutside (errors.Malformed malformed) = ⊥
IsOutside errors.Memory = ⊤
IsOutside (errors.Reader error) = ⊤

-- this holds if the error is about the bytes
abbrev pub IfFault : ReadError → Type 0 → Type 0
IfFault (errors.Malformed malformed) P = P
IfFault errors.Memory P = ⊤
IfFault (errors.Reader error) P = ⊤

-- whether the rest of a key puts it after the key whose byte in this place is known, if it has one
abbrev pub is_above : Option ℕ → List ℕ → Bool
is_above byte [] = false
is_above None (b ∷ rest) = true
is_above (Some a) (b ∷ rest) = nat_lt a b

-- whether it puts it there, or the key is the first one
abbrev pub is_next : Bool → Option ℕ → List ℕ → Bool
is_next true byte rest = true
is_next false byte rest = is_above byte rest

-- these entries were read and taken, and the last key is known
pub record HasTaken {R : Type 0} (left : R → Option (List ℕ)) (old new : Source R) (takes : Entry → Type 0) (taken : List Entry) (key : List ℕ) (count : ℕ) : Type 0 where
  pub counted : length taken ≡ count
  pub reads : Reads left old new (entries_bytes [] taken)
  pub last : key ≡ last_key [] taken
  pub rising : IsRising taken
  pub each : Each takes taken
