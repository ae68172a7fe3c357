-- The string of a key is written to a buffer, byte by byte.
use Rattle.std.proofs.Common.{◌≡◌, ◌+◌, ◌≤◌, ◌++◌, ℕ, List, length, take}
use Rattle.art_keys.specs.Escapes.{unescape}

-- the bytes written from an index on and those to come make up the string, and the bytes before that index are
-- unchanged
pub record IsWriting (text : List ℕ) (at : ℕ) (before : List ℕ) (end : ℕ) (buffer rest : List ℕ) : Type 0 where
  pub whole : take end buffer ++ unescape rest ≡ take at before ++ text
  pub kept : take at buffer ≡ take at before
  pub len : length buffer ≡ length before
  pub from : at ≤ end
  pub fits : end ≤ length buffer
  pub is_end : end + length (unescape rest) ≡ at + length text
