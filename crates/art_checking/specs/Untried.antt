-- How many keys are left to try, a measure of searches that pass no key twice. No public clause cites this module.
use Rattle.std.specs.Prelude.{ℕ, suc, Bool, if◌then◌else◌, List, [], ◌∷◌}

-- the keys that do not pass the test yet
abbrev pub untried : {K : Type 0} → (K → Bool) → List K → ℕ
untried test [] = 0
untried test (k ∷ ks) = if test k then untried test ks else suc (untried test ks)
