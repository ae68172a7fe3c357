-- How the lines of an input were answered, all together.
use Rattle.std.specs.Prelude.{ℕ, Bool, true, false, List, [], ◌∷◌}
use Rattle.line_programs.specs.declared.line_tables.Outcome.{Outcome}
use Rattle.line_programs.specs.declared.line_tables.Outcome.TheVariants.{Found, NotFound, Invalid}

-- the outcome where something was found, or nothing
abbrev pub outcome_of : Bool → Outcome
outcome_of true = Found
outcome_of false = NotFound

-- the worse of two outcomes: an invalid line is worse than one for which nothing was found
abbrev pub worse : Outcome → Outcome → Outcome
worse Found other = other
worse NotFound Found = NotFound
worse NotFound NotFound = NotFound
worse NotFound Invalid = Invalid
worse Invalid other = Invalid

-- the worst of some outcomes
abbrev pub worst : List Outcome → Outcome
worst [] = Found
worst (outcome ∷ outcomes) = worse outcome (worst outcomes)

-- the exit status of a program whose worst outcome is this one
abbrev pub status : Outcome → ℕ
status Found = 0
status NotFound = 1
status Invalid = 2
