-- Entries that are given one by one.
use Rattle.std.specs.Prelude.{◌≡◌, Bool, true, false, List, [], ◌∷◌}
use Rattle.snapshot_format.specs.Snapshots.{Entry}

-- the first entry was given and the others are left, or there is none
abbrev pub IsGiven : Bool → Entry → List Entry → List Entry → Type 0
IsGiven true given entries left = entries ≡ given ∷ left
IsGiven false given entries left = entries ≡ []
