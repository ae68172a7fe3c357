-- Several keys that are added, and one more.
use Rattle.std.proofs.Common.{◌≡◌, ℕ, List, [], ◌∷◌, ◌++◌, refl}
use Rattle.art_sets.specs.SetKeys.{add_all, add_key}

pub add_last : {K : Type 0} (bytes : K → List ℕ) (k : K) (ks keys : List K) → add_all bytes (ks ++ k ∷ []) keys ≡ add_key bytes k (add_all bytes ks keys)
add_last bytes k [] keys = refl
add_last bytes k (j ∷ js) keys = add_last bytes k js (add_key bytes j keys)
