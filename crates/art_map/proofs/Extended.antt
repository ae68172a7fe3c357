-- Puts of several pairs, and of one more.
use Rattle.std.proofs.Common.{◌≡◌, ℕ, List, [], ◌∷◌, ◌++◌, refl}
use Rattle.art_model.specs.Prelude.{of_key, put}
use Rattle.art_map.specs.MapCalls.{put_all}

pub put_last : {K V : Type 0} (bytes : K → List ℕ) (x : K × V) (xs pairs : List (K × V)) →
    put_all bytes (xs ++ x ∷ []) pairs ≡ put (of_key bytes) x (put_all bytes xs pairs)
put_last bytes x [] pairs = refl
put_last bytes x (y ∷ ys) pairs = put_last bytes x ys (put (of_key bytes) y pairs)
