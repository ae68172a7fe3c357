-- A header as contracts see it.
use Rattle.std.specs.Prelude.{ℕ, List, length, take}

-- how long a prefix is, and the bytes that are stored of it
pub record Prefix : Type 0 where
  pub len : ℕ
  pub stored : List ℕ

-- the header of a whole prefix, where P bytes can be stored
abbrev pub header_of : ℕ → List ℕ → Prefix
header_of P whole = record { len = length whole; stored = take P whole }
