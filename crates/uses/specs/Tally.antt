-- How often each word was counted.
use Rattle.std.specs.Prelude.{ℕ, List}
use Rattle.std.specs.Option.{unwrap_or}
use Rattle.art_operations.specs.Escapes.{escape}
use Rattle.art_operations.specs.KeyedValues.{value_of}

-- the count of a word
abbrev pub count_of : List ℕ → List (List ℕ × ℕ) → ℕ
count_of word counts = unwrap_or (value_of escape word counts) 0
