-- A table that is read from the lines of a text, and the replies to those of another.
use Rattle.std.specs.Prelude.{◌≡◌, ◌↔◌, ℕ, true, List, [], ◌∷◌, ◌++◌, codes, Option, Some, None, ⊤}
use Rattle.std.specs.Io.KnownBytes.{Appends}
use Rattle.line_programs.specs.declared.line_tables.Outcome.{Outcome}
use Rattle.line_programs.specs.declared.line_tables.Outcome.TheVariants.{Found, NotFound, Invalid}
use Rattle.line_programs.specs.declared.line_tables.Reply.{Reply}
use Rattle.line_programs.specs.declared.reading.ReadError.{ReadError}
use Rattle.line_programs.specs.declared.reading.ReadError.TheVariants.{Line, Input}

-- This is so of the entries before the one of this number, and of that entry.
pub record IsSoOf (Is : List (ℕ × List ℕ) → List ℕ → Type 0) (entries : List (ℕ × List ℕ)) (number : ℕ) : Type 0 where
  pub before : List (ℕ × List ℕ)
  pub entry : List ℕ
  pub after : List (ℕ × List ℕ)
  pub entries_are : entries ≡ before ++ (number, entry) ∷ after
  pub is : Is before entry

-- an entry has this fault after those before it, unless an allocation failed
abbrev pub IsFaultIn : {Fault : Type 0} → (List (ℕ × List ℕ) → List ℕ → Fault → Type 0) → (Fault → Type 0) → List (ℕ × List ℕ) → ℕ × Fault → Type 0
IsFaultIn IsFault IsOutOfMemory entries refused =
    ¬ IsOutOfMemory refused.1 → IsSoOf (λ before entry. IsFault before entry refused.1) entries refused.0

-- there is an entry, and it has this fault after those before it
abbrev pub IsFaultOf : {Fault : Type 0} → (List (ℕ × List ℕ) → List ℕ → Fault → Type 0) → List (ℕ × List ℕ) → Option (List ℕ) → Fault → Type 0
IsFaultOf IsFault before None fault = ⊥
IsFaultOf IsFault before (Some entry) fault = IsFault before entry fault

-- an entry has a fault after those before it, or the input can't be read
abbrev pub IsRefusedFor : {Fault : Type 0} → (List (ℕ × List ℕ) → List ℕ → Fault → Type 0) → (Fault → Type 0) → List (ℕ × List ℕ) → ReadError Fault → Type 0
IsRefusedFor IsFault IsOutOfMemory entries (Line number line fault) = IsFaultIn IsFault IsOutOfMemory entries (number, fault)
IsRefusedFor IsFault IsOutOfMemory entries (Input error) = ⊤

-- a reply to the line was appended
abbrev pub IsAnswered : (List ℕ → List ℕ → Type 0) → List ℕ → Option (List ℕ) → Option (List ℕ) → Type 0
IsAnswered IsReply line old new = (reply : List ℕ) × IsReply line reply × Appends old new reply

-- a line got its reply, and finds something or doesn't; or it asks for nothing, and nothing was written
abbrev pub IsTried : (List ℕ → List ℕ → Type 0) → (List ℕ → Type 0) → (List ℕ → Type 0) → List ℕ → Outcome → Option (List ℕ) → Option (List ℕ) → Type 0
IsTried IsReply Finds AsksForNothing line Found old new = Finds line × IsAnswered IsReply line old new
IsTried IsReply Finds AsksForNothing line NotFound old new = (¬ Finds line) × IsAnswered IsReply line old new
IsTried IsReply Finds AsksForNothing line Invalid old new = AsksForNothing line × (new ≡ old)

-- this is the reply to the line, but for its line feed, and whether the table has something for the line
abbrev pub IsLookedUp : (List ℕ → List ℕ → Type 0) → (List ℕ → Type 0) → List ℕ → Reply → Type 0
IsLookedUp IsReply Finds line reply =
    IsReply line (reply.text.now ++ codes "\n") × ((reply.is_found ≡ true) ↔ Finds line)

-- these items are those of the first ones of the lines, or of other things, one of each
abbrev pub AreOf : {A B : Type 0} → (A → B → Type 0) → List B → List A → Type 0
AreOf Is [] lines = ⊤
AreOf Is (item ∷ items) [] = ⊥
AreOf Is (item ∷ items) (line ∷ lines) = Is line item × AreOf Is items lines

-- these replies were looked up for the first ones of the lines
abbrev pub AreLookedUp : (List ℕ → List ℕ → Type 0) → (List ℕ → Type 0) → List Reply → List (List ℕ) → Type 0
AreLookedUp IsReply Finds = AreOf (IsLookedUp IsReply Finds)
