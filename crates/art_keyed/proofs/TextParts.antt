-- Parts of a map of strings by a text.
use Rattle.std.proofs.Common.{◌≡◌, ℕ, List, [], ◌∷◌, Bool, true, false, ◌&&◌, not, refl, ap, subst}
use Rattle.std.specs.List.{AllByRecursion as Each}
use Rattle.std.specs.declared.ops.Bound.TheVariants.{Included, Excluded}
use Rattle.art_keys.specs.Ended.{HasNoZero}
use Rattle.art_keyed.specs.KeyedPairs.{HaveKeys, strings_below, strings_not_below}
use Rattle.art_parts.specs.Keys.{is_before, is_front}
use Rattle.art_model.specs.Parts.{between}
use Rattle.art_model.proofs.keys.Texts.{not_front}
use Rattle.art_model.proofs.lists.Filters.{filter_all}
use Rattle.art_model.proofs.lists.Lists.{Each-left, Each-weaker, filter_none}

-- a string without a zero does not start with a text that has one
no_start : (text string : List ℕ) → ¬ HasNoZero text → HasNoZero string → is_front text string ≡ false
no_start text string zero none = not_front text string (λ (rest, e). zero (Each-left (λ byte. byte ≡ 0 → ⊥) text rest (subst HasNoZero e none)))

module _ {V : Type 0} (text : List ℕ) (zero : ¬ HasNoZero text) (pairs : List (List ℕ × V)) (known : HaveKeys HasNoZero pairs) where
  pub none_start : strings_below (λ string. string) text pairs ≡ []
  none_start = filter_none _ pairs (Each-weaker (λ x. HasNoZero x.0) (λ x. is_front text x.0 ≡ false) (λ x none. no_start text x.0 zero none) pairs known)

  pub all_stay : strings_not_below (λ string. string) text pairs ≡ pairs
  all_stay =
      filter_all _ pairs (Each-weaker (λ x. HasNoZero x.0) (λ x. not (is_front text x.0) ≡ true)
      (λ x none. ap not (no_start text x.0 zero none)) pairs known)

-- no key is at a bound and before it
pub none_between : {A : Type 0} (bytes : A → List ℕ) (bound : List ℕ) (xs : List A) → between bytes (Included bound) (Excluded bound) xs ≡ []
none_between bytes bound xs = filter_none _ xs (all xs)
  where
    neither : (b : Bool) → (not b && b) ≡ false
    neither true = refl
    neither false = refl

    all : (ys : List _) → Each (λ y. (not (is_before (bytes y) bound) && is_before (bytes y) bound) ≡ false) ys
    all [] = tt
    all (y ∷ ys) = (neither (is_before (bytes y) bound), all ys)
