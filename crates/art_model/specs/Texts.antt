-- Keys of which each is a text and an end byte, and the texts that are prefixes of a query.
use Rattle.std.specs.Prelude.{◌≡◌, ◌<◌, ◌≤◌, ℕ, List, [], ◌∷◌, ◌++◌, length, Some, true}
use Rattle.std.specs.List.{AllByRecursion as Each}
use Rattle.art_parts.specs.Keys.{IsFront, is_before}
use Rattle.art_model.specs.Pairs.{Pairwise, first_of, last_of, match_of, without_last}

-- A key is a text and the end byte, which is less than each byte of the text.
pub record IsEndedBy (end : ℕ) (key : List ℕ) : Type 0 where
  pub text : List ℕ
  pub is : key ≡ text ++ end ∷ []
  pub above : Each (λ byte. end < byte) text

module _ {A : Type 0} (bytes : A → List ℕ) where
  -- each key is a text and the end byte
  abbrev pub AreEnded : ℕ → List A → Type 0
  AreEnded end pairs = Each (λ x. IsEndedBy end (bytes x)) pairs

  -- the text of a key: its bytes before the last
  abbrev pub text_of : A → List ℕ
  text_of x = without_last (bytes x)

  -- the pairs whose texts are prefixes of the query
  abbrev pub texts_in_front : List ℕ → List A → List A
  texts_in_front query pairs = match_of text_of query pairs

module _ {A : Type 0} (text : A → List ℕ) where
  -- each text is before all later ones
  abbrev pub TextsRise : List A → Type 0
  TextsRise = Pairwise (λ x y. is_before (text x) (text y) ≡ true)

  -- the last of the texts that are prefixes of a query is a longest one
  abbrev pub LastIsLongest : Type 0
  LastIsLongest =
      (xs : List A) (query : List ℕ) (last : A) → TextsRise xs → last_of (match_of text query xs) ≡ Some last →
      Each (λ x. length (text x) ≤ length (text last)) (match_of text query xs)

  -- the first of the texts that are prefixes of a query is a shortest one
  abbrev pub FirstIsShortest : Type 0
  FirstIsShortest =
      (xs : List A) (query : List ℕ) (first : A) → TextsRise xs → first_of (match_of text query xs) ≡ Some first →
      Each (λ x. length (text first) ≤ length (text x)) (match_of text query xs)

  -- each of the texts that are prefixes of a query is a prefix of the last one
  abbrev pub LastHasAll : Type 0
  LastHasAll =
      (xs : List A) (query : List ℕ) (last : A) → TextsRise xs → last_of (match_of text query xs) ≡ Some last →
      Each (λ x. IsFront (text x) (text last)) (match_of text query xs)
