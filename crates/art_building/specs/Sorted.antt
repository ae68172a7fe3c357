-- Pairs that were sorted by their keys. No public clause cites this module.
use Rattle.std.specs.Prelude.{◌≡◌, ℕ, Bool, false, List}
use Rattle.art_parts.specs.Keys.{is_before}
use Rattle.art_model.specs.Pairs.{Pairwise}

module _ {K V : Type 0} (bytes : K → List ℕ) where
  -- whether the key of the first pair comes before that of the second
  abbrev pub comes_before : K × V → K × V → Bool
  comes_before x y = is_before (bytes x.0) (bytes y.0)

  -- no key comes before one that stands before it; equal keys may follow one another
  abbrev pub AreSorted : List (K × V) → Type 0
  AreSorted = Pairwise (λ x y. comes_before y x ≡ false)
