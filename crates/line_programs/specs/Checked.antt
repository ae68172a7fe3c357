-- What is written about the entries of a table that can't be added.
use Rattle.std.specs.Prelude.{◌≡◌, ℕ, Bool, true, false, ◌&&◌, List, [], ◌∷◌, ◌++◌, map, Option, Some, None, ⊤}
use Rattle.std.specs.Io.KnownBytes.{Appends}
use Rattle.line_programs.specs.declared.messages.Place.{Place}
use Rattle.line_programs.specs.LineTables.{IsFaultIn}
use Rattle.line_programs.specs.Messages.{message}

-- An entry with its number, and why it was not added, if it was not.
pub record Tried (Fault : Type 0) : Type 0 where
  pub number : ℕ
  pub entry : List ℕ
  pub fault : Option Fault

-- an entry, unless it has a fault, is added to others
abbrev pub onto : {Fault : Type 0} → List (ℕ × List ℕ) → ℕ × List ℕ → Option Fault → List (ℕ × List ℕ)
onto added entry None = added ++ entry ∷ []
onto added entry (Some fault) = added

-- the entries that are added to others
abbrev pub added_to : {Fault : Type 0} → List (ℕ × List ℕ) → List (Tried Fault) → List (ℕ × List ℕ)
added_to added [] = added
added_to added (t ∷ ts) = added_to (onto added (t.number, t.entry) t.fault) ts

-- an entry has its fault after those that were added
abbrev pub HasFault : {Fault : Type 0} → (List (ℕ × List ℕ) → List ℕ → Fault → Type 0) → List (ℕ × List ℕ) → List ℕ → Option Fault → Type 0
HasFault IsFault added entry None = ⊤
HasFault IsFault added entry (Some fault) = IsFault added entry fault

-- each entry that was not added has its fault after those before it that were
abbrev pub AreTried : {Fault : Type 0} → (List (ℕ × List ℕ) → List ℕ → Fault → Type 0) → List (ℕ × List ℕ) → List (Tried Fault) → Type 0
AreTried IsFault added [] = ⊤
AreTried IsFault added (t ∷ ts) = HasFault IsFault added t.entry t.fault × AreTried IsFault (onto added (t.number, t.entry) t.fault) ts

-- whether there is no fault
abbrev pub is_fine : {Fault : Type 0} → Option Fault → Bool
is_fine None = true
is_fine (Some fault) = false

-- whether all entries were added
abbrev pub all_fine : {Fault : Type 0} → List (Tried Fault) → Bool
all_fine [] = true
all_fine (t ∷ ts) = is_fine t.fault && all_fine ts

-- the message about an entry that was not added, by the texts of faults
abbrev pub fault_message : {Fault : Type 0} → Place → (Fault → List ℕ) → ℕ → List ℕ → Option Fault → List ℕ
fault_message place text number entry None = []
fault_message place text number entry (Some fault) = message place number (text fault) entry

-- the messages about all
abbrev pub fault_messages : {Fault : Type 0} → Place → (Fault → List ℕ) → List (Tried Fault) → List ℕ
fault_messages place text [] = []
fault_messages place text (t ∷ ts) = fault_message place text t.number t.entry t.fault ++ fault_messages place text ts

-- these are the texts of faults
abbrev pub AreTexts : {Fault : Type 0} → (Fault → Option (List ℕ)) → (Fault → List ℕ) → Type 0
AreTexts {Fault} output text = (fault : Fault) → output fault ≡ Some (text fault)

-- Entries were added, apart from those about which messages were written.
pub record AreChecked {Fault : Type 0} (IsFault : List (ℕ × List ℕ) → List ℕ → Fault → Type 0) (output : Fault → Option (List ℕ)) (place : Place)
    (Has : List (ℕ × List ℕ) → Type 0) (before entries : List (ℕ × List ℕ)) (whole : Bool) (old new : Option (List ℕ)) : Type 0 where
  pub tried : List (Tried Fault)
  pub entries_are : entries ≡ map (λ t. (t.number, t.entry)) tried
  pub are : AreTried IsFault before tried
  pub has : Has (added_to before tried)
  pub whole_is : whole ≡ all_fine tried
  pub told : (text : Fault → List ℕ) → AreTexts output text → Appends old new (fault_messages place text tried)

-- a fault that came to light after the last line, if one did
abbrev pub HasLast : {Fault : Type 0} → (List (ℕ × List ℕ) → List ℕ → Fault → Type 0) → (Fault → Type 0) → List (ℕ × List ℕ) → Option (ℕ × Fault) → Type 0
HasLast IsFault IsOutOfMemory added None = ⊤
HasLast IsFault IsOutOfMemory added (Some refused) = IsFaultIn IsFault IsOutOfMemory added refused

-- the message about it
abbrev pub last_message : {Fault : Type 0} → Place → (Fault → List ℕ) → Option (ℕ × Fault) → List ℕ
last_message place text None = []
last_message place text (Some refused) = message place refused.0 (text refused.1) []

-- the table was read; or one more message was written, about an entry that had been added
abbrev pub IsEnded : {Fault : Type 0} → (List (ℕ × List ℕ) → List ℕ → Fault → Type 0) → (Fault → Type 0) → (Fault → Option (List ℕ)) → Place →
    (List (ℕ × List ℕ) → Type 0) → List (ℕ × List ℕ) → Bool → Option (List ℕ) → Option (List ℕ) → Type 0
IsEnded {Fault} IsFault IsOutOfMemory output place IsRead added true old new = IsRead added × (new ≡ old)
IsEnded {Fault} IsFault IsOutOfMemory output place IsRead added false old new =
    (refused : ℕ × Fault) × IsFaultIn IsFault IsOutOfMemory added refused
    × ((text : Fault → List ℕ) → AreTexts output text → Appends old new (message place refused.0 (text refused.1) []))

-- A table was read from entries, apart from those about which messages were written.
pub record TableIsChecked {Fault : Type 0} (IsFault : List (ℕ × List ℕ) → List ℕ → Fault → Type 0) (IsOutOfMemory : Fault → Type 0)
    (output : Fault → Option (List ℕ)) (place : Place) (IsTable : List (ℕ × List ℕ) → Type 0) (entries : List (ℕ × List ℕ)) (whole : Bool)
    (old new : Option (List ℕ)) : Type 0 where
  pub tried : List (Tried Fault)
  pub last : Option (ℕ × Fault)
  pub entries_are : entries ≡ map (λ t. (t.number, t.entry)) tried
  pub are : AreTried IsFault [] tried
  pub last_is : HasLast IsFault IsOutOfMemory (added_to [] tried) last
  pub table : last ≡ None → IsTable (added_to [] tried)
  pub whole_is : whole ≡ (all_fine tried && is_fine last)
  pub told : (text : Fault → List ℕ) → AreTexts output text → Appends old new (fault_messages place text tried ++ last_message place text last)
