-- The final state of a map of strings with hints, from which a `&mut` to a value is borrowed by a text.
use Rattle.std.specs.Prelude.{ℕ, List, Option, Result, ⊤}
use Rattle.std.specs.Borrow.{Fml, RattleType, MutBor}
use Rattle.art_keys.specs.Ended.{HasNoZero, ended}
use Rattle.art_keys.specs.Escapes.{escape}
use Rattle.art_keys.specs.contracts.escaped.Escaped.{the_row as EscapedRow}
use Rattle.art_keys.specs.contracts.terminated.Terminated.{the_row as TerminatedRow}
use Rattle.art_hinted.specs.HintedLends.{lends_put, lends_value}

module _ (V P : RattleType) (s : MutBor (List (List ℕ × V.Denot))) where
  -- once the borrow r ends, the text's key has the last value written through r; at `None` the pairs are unchanged
  abbrev pub lends_text : List ℕ → Option (MutBor V.Denot) → Fml
  lends_text text r = lends_value TerminatedRow V P (record { bytes = ended; is_key = HasNoZero }) s (ended text) r

  -- once the borrow r ends, the text is inserted with the last value written through r; at `Err` the pairs are
  -- unchanged
  abbrev pub lends_text_put : {E : Type 0} → List ℕ → Result (MutBor V.Denot) E → Fml
  lends_text_put text r = lends_put TerminatedRow V P (record { bytes = ended; is_key = HasNoZero }) s text r

  -- the same, where the text's key is escaped
  abbrev pub lends_escaped : List ℕ → Option (MutBor V.Denot) → Fml
  lends_escaped text r = lends_value EscapedRow V P (record { bytes = escape; is_key = λ t. ⊤ }) s (escape text) r

  abbrev pub lends_escaped_put : {E : Type 0} → List ℕ → Result (MutBor V.Denot) E → Fml
  lends_escaped_put text r = lends_put EscapedRow V P (record { bytes = escape; is_key = λ t. ⊤ }) s text r
