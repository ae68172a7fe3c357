-- How much of a file was read, and what shows that.
use Rattle.std.specs.Prelude.{◌≡◌, ℕ, ◌+◌, ◌-◌, ◌*◌, ◌/◌, ◌^◌, ◌==◌, if◌then◌else◌, min, List, ◌∷◌, ◌++◌, codes, Option, None, Some}
use Rattle.std.specs.Fmt.{decimal}
use Rattle.line_programs.specs.declared.messages.Place.{Place}
use Rattle.line_programs.specs.declared.progress.Meter.{Meter}
use Rattle.line_programs.specs.declared.progress.Progress.{Progress}

-- what percentage of a length these bytes are, rounded down: never more than all, and all of an empty file
abbrev pub percentage : ℕ → ℕ → ℕ
percentage read len = if len == 0 then 100 else min (read * 100 / len) 100

-- the percentage written over what the line shows, as `word_count: words.txt: 42 %`; what is written next stands over it
abbrev pub shown_percentage : Place → ℕ → List ℕ
shown_percentage place percent =
    codes "\r" ++ (place.program.now ++ (codes ": " ++ (place.source.now ++ (codes ": " ++ (decimal percent ++ codes " %\r")))))

-- what moves to the start of a line and clears it: the control sequence EL of a terminal
abbrev pub clearing : List ℕ
clearing = 13 ∷ 27 ∷ codes "[K"

module _ {E : Type 0} where
  -- the output on which a meter shows the percentage
  abbrev pub meter_output : Meter E → E
  meter_output meter = meter.output

  -- the length of its file
  abbrev pub file_len : Meter E → ℕ
  file_len meter = meter.len

  -- how many bytes of that were read
  abbrev pub bytes_read : Meter E → ℕ
  bytes_read meter = meter.read

  -- the percentage that its line shows
  abbrev pub shown : Meter E → Option ℕ
  shown meter = meter.shown

  -- both are meters of one file
  abbrev pub IsSameFile : Meter E → Meter E → Type 0
  IsSameFile old new = (new.place ≡ old.place) × (file_len new ≡ file_len old)

  -- a meter after a read of so many bytes: its line shows the percentage that these lead to, or is clear at the end
  pub record IsAfter (old : Meter E) (count : ℕ) (new : Meter E) : Type 0 where
    pub file : IsSameFile old new
    pub read : bytes_read new ≡ min (bytes_read old + count) (2 ^ 64 - 1)
    pub line : shown new ≡ (if count == 0 then None else Some (percentage (bytes_read new) (file_len new)))

  -- a meter after a read of so many bytes, if there is one
  abbrev pub Counts : Option (Meter E) → Option (Meter E) → ℕ → Type 0
  Counts None new count = new ≡ None
  Counts (Some old) None count = ⊥
  Counts (Some old) (Some new) count = IsAfter old count new

module _ {R E : Type 0} where
  -- the reader from which all comes
  abbrev pub inner_reader : Progress R E → R
  inner_reader progress = progress.inner

  -- the meter that shows how much that is, if there is one
  abbrev pub meter_of : Progress R E → Option (Meter E)
  meter_of progress = progress.meter
