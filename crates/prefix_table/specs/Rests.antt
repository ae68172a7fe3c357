-- What networks have beside where they start, in columns.
use Rattle.std.specs.Prelude.{ℕ, List, [], ◌∷◌}
use Rattle.prefix_table.specs.declared.rests.Rest.{Rest}

-- the rests of two columns
abbrev pub rests_of : List ℕ → List ℕ → List Rest
rests_of [] arounds = []
rests_of (length ∷ lengths) [] = []
rests_of (length ∷ lengths) (around ∷ arounds) = record { around = around; length = length } ∷ rests_of lengths arounds
