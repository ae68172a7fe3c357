-- What each fault says of the bytes that were read.
use Rattle.std.specs.Prelude.{◌≡◌, ◌≢◌, ◌⊎◌, ℕ, zero, suc, ◌+◌, ◌<◌, ◌/◌, ◌^◌, Bool, List, [], ◌∷◌, ◌++◌, length, take, Option, ⊤}
use Rattle.std.specs.List.{AllByRecursion as Each}
use Rattle.std.specs.Io.Iter.{u64_saturate}
use Rattle.std.specs.Io.KnownBytes.{Consumes, IsAtEnd}
use Rattle.sha2.specs.Sha256.{sha256}
use Rattle.snapshot_format.specs.declared.error.Fault.{Fault}
use Rattle.snapshot_format.specs.declared.error.Fault.TheVariants as faults
use Rattle.snapshot_format.specs.declared.error.Malformed.{Malformed}
use Rattle.snapshot_format.specs.declared.error.ReadError.{ReadError}
use Rattle.snapshot_format.specs.declared.error.ReadError.TheVariants as errors
use Rattle.snapshot_format.specs.declared.source.Source.{Source}
use Rattle.snapshot_format.specs.Numbers.{FitsWithin, number_bytes, number_within}
use Rattle.snapshot_format.specs.Snapshots.{Entry, IsAfter, IsNext, IsRising, body_of, entries_bytes, entry_bytes, head_bytes, is_none, last_key, magic, shared_len, sized}

-- some bytes are missing at the end of what should be there
pub record IsCutOf (whole read : List ℕ) : Type 0 where
  pub missing : List ℕ
  pub some : missing ≢ []
  pub is : whole ≡ read ++ missing

-- the last byte is another one than these bytes have in its place
pub record IsOtherThan (wanted read : List ℕ) : Type 0 where
  pub same : List ℕ
  pub byte : ℕ
  pub right : ℕ
  pub rest : List ℕ
  pub other : byte ≢ right
  pub wanted_is : wanted ≡ same ++ right ∷ rest
  pub read_is : read ≡ same ++ byte ∷ []

-- they are cut short, or have another byte, which is this fault
abbrev pub IsNot : List ℕ → Fault → Fault → List ℕ → Type 0
IsNot wanted fault found read = ((found ≡ faults.CutShort) × IsCutOf wanted read) ⊎ ((found ≡ fault) × IsOtherThan wanted read)

-- ---- numbers

-- whatever bytes follow, no number comes first
abbrev pub IsNoNumber : List ℕ → Type 0
IsNoNumber read = (more : List ℕ) (n : ℕ) (rest : List ℕ) → n < 2 ^ 64 → read ++ more ≢ number_bytes n ++ rest

-- they end inside a number
pub record IsCutNumber (read : List ℕ) : Type 0 where
  pub number : ℕ
  pub fits : number < 2 ^ 64
  pub cut : IsCutOf (number_bytes number) read

-- why no number was read
abbrev pub NumberFault : Fault → List ℕ → Type 0
NumberFault faults.CutShort read = IsCutNumber read
NumberFault faults.BadNumber read = IsNoNumber read
NumberFault fault read = ⊥

-- the number fits, and is less than two above all bytes but one
unfoldable pub FitsBelow : ℕ → ℕ → Type 0
FitsBelow zero n = n < 2
FitsBelow (suc more) n = FitsBelow more (n / 128)

-- with one more byte they are a number
pub record IsCutWithin (more : ℕ) (read : List ℕ) : Type 0 where
  pub number : ℕ
  pub some : 0 < number
  pub fits : FitsBelow more number
  pub is : number_within more number ≡ read ++ 1 ∷ []

-- why no number with at most so many bytes after the first was read
abbrev pub WithinFault : ℕ → Fault → List ℕ → Type 0
WithinFault more faults.CutShort read = IsCutWithin more read
WithinFault more faults.BadNumber read =
    (others : List ℕ) (n : ℕ) (rest : List ℕ) → FitsWithin more n → n < 2 ^ 64 → read ++ others ≢ number_within more n ++ rest
WithinFault more fault read = ⊥

-- ---- bytes after their number

-- they end inside the number, or inside the bytes
pub record IsCutSized (read : List ℕ) : Type 0 where
  pub bytes : List ℕ
  pub fits : length bytes < 2 ^ 64
  pub cut : IsCutOf (sized bytes) read

-- why no bytes were read after their number
abbrev pub SizedFault : Fault → List ℕ → Type 0
SizedFault faults.CutShort read = IsCutSized read
SizedFault faults.BadNumber read = IsNoNumber read
SizedFault fault read = ⊥

-- ---- an entry

-- how many bytes a key shares, its other bytes, and a value
abbrev pub parts : ℕ → List ℕ → List ℕ → List ℕ
parts shared others value = number_bytes shared ++ (sized others ++ sized value)

-- they end inside an entry, whatever its key
pub record IsCutEntry (read : List ℕ) : Type 0 where
  pub shared : ℕ
  pub others : List ℕ
  pub value : List ℕ
  pub fits : (shared < 2 ^ 64) × (length others < 2 ^ 64) × (length value < 2 ^ 64)
  pub cut : IsCutOf (parts shared others value) read

-- what comes before a number of an entry: nothing, the number of shared bytes, or that and the others
pub data IsBeforeNumber : List ℕ → Type 0 where
  first : IsBeforeNumber []
  second : (shared : ℕ) → IsBeforeNumber (number_bytes shared)
  third : (shared : ℕ) (others : List ℕ) → IsBeforeNumber (number_bytes shared ++ sized others)

-- one of an entry's numbers is none
pub record HasNoNumber (read : List ℕ) : Type 0 where
  pub before : List ℕ
  pub bad : List ℕ
  pub read_is : read ≡ before ++ bad
  pub at_number : IsBeforeNumber before
  pub none : IsNoNumber bad

-- a key shares more bytes than the one before it has
pub record SharesTooMany (before read : List ℕ) : Type 0 where
  pub shared : ℕ
  pub read_is : read ≡ number_bytes shared
  pub more : length before < shared

-- the key that the bytes say does not come after the one before it, or shares more bytes with it
pub record IsMisplaced (is_first : Bool) (before read : List ℕ) : Type 0 where
  pub shared : ℕ
  pub others : List ℕ
  pub read_is : read ≡ number_bytes shared ++ sized others
  pub wrong : IsAfter is_first before (take shared before ++ others) → shared_len before (take shared before ++ others) ≢ shared

-- why no entry was read
abbrev pub EntryFault : Bool → List ℕ → Fault → List ℕ → Type 0
EntryFault is_first before faults.CutShort read = IsCutEntry read
EntryFault is_first before faults.BadNumber read = HasNoNumber read
EntryFault is_first before faults.OutOfOrder read = SharesTooMany before read ⊎ IsMisplaced is_first before read
EntryFault is_first before fault read = ⊥

-- ---- a snapshot

module _ (takes : Entry → Type 0) where
  -- well-formed entries were read and taken, and then some bytes of the next one, which there is
  pub record HasEntries (next : List Entry → List ℕ → Type 0) (count : ℕ) (read : List ℕ) : Type 0 where
    pub taken : List Entry
    pub bytes : List ℕ
    pub fewer : length taken < count
    pub rising : IsRising taken
    pub each : Each takes taken
    pub read_is : read ≡ entries_bytes [] taken ++ bytes
    pub next_is : next taken bytes

  -- the bytes of an entry that is in order and can't be taken
  pub record IsBadEntry (taken : List Entry) (read : List ℕ) : Type 0 where
    pub bad : Entry
    pub read_is : read ≡ entry_bytes (last_key [] taken) bad
    pub next : IsNext taken bad.key
    pub not_taken : takes bad → ⊥

  -- why the next entry was not read, or not taken
  abbrev pub NextFault : Fault → List Entry → List ℕ → Type 0
  NextFault faults.BadEntry taken read = IsBadEntry taken read
  NextFault fault taken read = EntryFault (is_none taken) (last_key [] taken) fault read

  -- well-formed bytes up to the checksum were read, and then these
  pub record HasBody (next : List Entry → List ℕ → Type 0) (read : List ℕ) : Type 0 where
    pub taken : List Entry
    pub bytes : List ℕ
    pub rising : IsRising taken
    pub each : Each takes taken
    pub read_is : read ≡ body_of taken ++ bytes
    pub next_is : next taken bytes

-- the start was read, and then these
pub record HasHead (next : ℕ → List ℕ → Type 0) (read : List ℕ) : Type 0 where
  pub count : ℕ
  pub bytes : List ℕ
  pub read_is : read ≡ head_bytes count ++ bytes
  pub next_is : next count bytes

-- they end inside the start
pub record IsCutHead (read : List ℕ) : Type 0 where
  pub count : ℕ
  pub fits : count < 2 ^ 64
  pub cut : IsCutOf (head_bytes count) read

-- why the start was not read
abbrev pub HeadFault : Fault → List ℕ → Type 0
HeadFault faults.NotASnapshot read = IsOtherThan magic read
HeadFault (faults.UnknownVersion version) read = (read ≡ magic ++ version ∷ []) × (version ≢ 1)
HeadFault faults.CutShort read = IsCutHead read
HeadFault faults.BadNumber read = (bad : List ℕ) × (read ≡ magic ++ 1 ∷ bad) × IsNoNumber bad
HeadFault fault read = ⊥

-- why the checksum was not read, or is not the end
abbrev pub TailFault : List ℕ → Fault → List ℕ → Type 0
TailFault sum faults.WrongChecksum read = IsOtherThan sum read
TailFault sum faults.CutShort read = IsCutOf sum read
TailFault sum faults.TrailingBytes read = (byte : ℕ) × (read ≡ sum ++ byte ∷ [])
TailFault sum fault read = ⊥

-- the start, an entry or the checksum has the fault, and all before it is right
pub data HasFault (takes : Entry → Type 0) (fault : Fault) (read : List ℕ) : Type 0 where
  in_head : HeadFault fault read → HasFault takes fault read
  in_entries : HasHead (HasEntries takes (NextFault takes fault)) read → HasFault takes fault read
  in_tail : HasBody takes (λ taken. TailFault (sha256 (body_of taken)) fault) read → HasFault takes fault read

-- bytes of which so many were read are no snapshot: those that were read have the fault; none is left if they are cut
pub record IsExplained (takes : Entry → Type 0) (bytes : List ℕ) (malformed : Malformed) : Type 0 where
  pub read : List ℕ
  pub left : List ℕ
  pub all : bytes ≡ read ++ left
  pub counted : malformed.at ≡ u64_saturate (length read)
  pub ended : malformed.fault ≡ faults.CutShort → left ≡ []
  pub has : HasFault takes malformed.fault read

-- ---- a call that reads

-- this holds of what is wrong with the bytes, if the error is about them
abbrev pub IfMalformed : ReadError → (Malformed → Type 0) → Type 0
IfMalformed (errors.Malformed malformed) P = P malformed
IfMalformed errors.Memory P = ⊤
IfMalformed (errors.Reader error) P = ⊤

-- a call found this fault in the bytes that it read, at the end of the input if they are cut short
pub record Finds {R : Type 0} (left : R → Option (List ℕ)) (old new : Source R) (says : Fault → List ℕ → Type 0) (malformed : Malformed) : Type 0 where
  pub read : List ℕ
  pub taken : Consumes (left old.input) (left new.input) read
  pub counted : malformed.at ≡ u64_saturate (old.at + length read)
  pub ended : malformed.fault ≡ faults.CutShort → IsAtEnd (left new.input)
  pub has : says malformed.fault read
