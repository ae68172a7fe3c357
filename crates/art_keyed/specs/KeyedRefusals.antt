-- What the errors of insertions return.
use Rattle.std.specs.Prelude.{◌≡◌, ◌⊎◌, ℕ, false, List, Option, Some}
use Rattle.std.specs.Iterator.{YieldsThen}
use Rattle.art_model.specs.Pairs.{has_key, of_key}
use Rattle.art_changing.specs.MapAnswers.{refused_pair}
use Rattle.art_map.specs.MapCalls.{put_all}
use Rattle.art_map.specs.declared.map.both.BothInsertError.{BothInsertError}
use Rattle.art_map.specs.declared.map.both.BothInsertError.TheVariants.{First, Second}
use Rattle.art_writing.specs.declared.insert.PairRefused.{PairRefused}
use Rattle.art_keyed.specs.declared.map.both.BothRefused.{BothRefused}

module _ {I K V : Type 0} (steps : I → Option (K × V) → I → Type 0) (bytes : K → List ℕ) where
  -- the pairs before one were inserted; the error returns that one, whose key is not stored, and the iterator has the
  -- others
  abbrev pub PutsUntilRefused : I → List (K × V) → PairRefused K V → I → List (K × V) → Type 0
  PutsUntilRefused from before refused to after =
      (xs : List (K × V)) × YieldsThen steps from xs (Some (refused.key, refused.value)) to × (after ≡ put_all bytes xs before) ×
      (has_key (of_key bytes) (bytes refused.key) after ≡ false)

  -- the same of the iterator of a value that is given: the key of the pair after them is not stored
  abbrev pub PutsUntilNew : {U : Type 0} → (U → I → Type 0) → U → List (K × V) → List (K × V) → Type 0
  PutsUntilNew gives given before after =
      (from to : I) × (refused : PairRefused K V) × gives given from × PutsUntilRefused from before refused to after

-- the pairs of an error
abbrev pub AreHandedBack : {K V L W : Type 0} → BothInsertError K V L W → BothRefused K V L W → Type 0
AreHandedBack (First error pair) refused = (refused.pair ≡ refused_pair error) × (refused.other ≡ pair)
AreHandedBack (Second pair error) refused = (refused.pair ≡ pair) × (refused.other ≡ refused_pair error)

-- one of two keys is not stored in its map
abbrev pub IsOneNew : {K V L W : Type 0} → (K → List ℕ) → K → List (K × V) → (L → List ℕ) → L → List (L × W) → Type 0
IsOneNew bytes key pairs other_bytes other others =
    (has_key (of_key bytes) (bytes key) pairs ≡ false) ⊎ (has_key (of_key other_bytes) (other_bytes other) others ≡ false)
