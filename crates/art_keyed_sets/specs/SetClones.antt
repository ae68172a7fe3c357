-- Sets of clones of keys.
use Rattle.std.specs.Prelude.{◌≡◌, ℕ, List, []}
use Rattle.std.specs.List.{AllZip}
use Rattle.art_sets.specs.SetKeys.{add_all}

-- the set is made of clones of these keys, inserted one by one
abbrev pub AreAddedClones : {K : Type 0} → (K → List ℕ) → (K → K → Type 0) → List K → List K → Type 0
AreAddedClones {K} bytes is_clone keys set = (copies : List K) × AllZip is_clone keys copies × (set ≡ add_all bytes copies [])
