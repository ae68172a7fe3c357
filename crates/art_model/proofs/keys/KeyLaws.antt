-- the laws of keys
use Rattle.std.proofs.Common.{◌≡◌, ℕ, ◌<◌, List, [], ◌∷◌, ◌++◌, refl, ap, ap₂, sym, ◌∙◌, append-nil, true, false, Bool, ◌||◌, ◌⊎◌, inl, inr, nat_cmp, is_lt, Ordering, Less, Equal, Greater}
use Rattle.std.specs.Cmp.Lexicographic.{slice_cmp}
use Rattle.std.proofs.lemmas.Cmp.{nat_list_cmp_total}
use Rattle.std.proofs.lemmas.Bool.{false≢true, lt-ltb, cases_order}
use Rattle.art_model.specs.Prelude.{IsFront, is_front, are_related, is_before, common_front}
use Rattle.art_model.specs.KeyLaws.{IsProperFront, HasSmallerByte, FrontsAreDecided, RelationIsDecided, SamenessIsDecided, OrderIsDecided, OrderIsStrict, OrderIsTransitive, OrderIsTotal, CommonFrontIsLongest}
use Rattle.art_model.proofs.lists.Lists.{common_front_left, common_front_right, common_front-append}
use Rattle.art_model.proofs.keys.Keys.{front_is, front_from, front_same, front_related, related_sym, same_equal, first_less, cmp-append}

pub fronts_are_decided : FrontsAreDecided
fronts_are_decided a b = (front_from a b, λ f. rw f.1 (front_is a f.0))

pub relation_is_decided : RelationIsDecided
relation_is_decided a b = (either (is_front a b) refl, go)
  where
    either : (t : Bool) → is_front a b ≡ t → (t || is_front b a) ≡ true → IsFront a b ⊎ IsFront b a
    either true e h = inl (front_from a b e)
    either false e h = inr (front_from b a h)

    go : IsFront a b ⊎ IsFront b a → are_related a b ≡ true
    go (inl f) = front_related a b f
    go (inr f) = related_sym a b ∙ front_related b a f

pub sameness_is_decided : SamenessIsDecided
sameness_is_decided a b = ((λ h. sym (same_equal a b h)), λ e. rw (← e) (front_same a))

-- one more byte before both keys
longer : (x y : ℕ) (a b : List ℕ) → x ≡ y → IsProperFront a b ⊎ HasSmallerByte a b → IsProperFront (x ∷ a) (y ∷ b) ⊎ HasSmallerByte (x ∷ a) (y ∷ b)
longer x y a b e (inl (byte, rest, f)) = inl (byte, rest, ap₂ (λ z s. z ∷ s) (sym e) f)
longer x y a b e (inr (front, c, d, r, s, f, g, less)) = inr (x ∷ front, c, d, r, s, ap (λ z. x ∷ z) f, ap₂ (λ z t. z ∷ t) (sym e) g, less)

before_parts : (a b : List ℕ) → is_before a b ≡ true → IsProperFront a b ⊎ HasSmallerByte a b
before_parts [] [] h = absurd (false≢true h)
before_parts [] (y ∷ b) h = inl (y, b, refl)
before_parts (x ∷ a) [] h = absurd (false≢true h)
before_parts (x ∷ a) (y ∷ b) h = go (before_parts a b) (first_less x y a b h)
  where
    go : (is_before a b ≡ true → IsProperFront a b ⊎ HasSmallerByte a b) → (x < y) ⊎ ((x ≡ y) × (is_before a b ≡ true)) →
        IsProperFront (x ∷ a) (y ∷ b) ⊎ HasSmallerByte (x ∷ a) (y ∷ b)
    go ih (inl less) = inr ([], x, y, a, b, refl, refl, less)
    go ih (inr (e, k)) = longer x y a b e (ih k)

pub order_is_decided : OrderIsDecided
order_is_decided a b = (before_parts a b, go)
  where
    go : IsProperFront a b ⊎ HasSmallerByte a b → is_before a b ≡ true
    go (inl (y, s, e)) = rw e (ap (λ z. is_lt (slice_cmp nat_cmp z (a ++ y ∷ s))) (sym (append-nil a)) ∙ ap is_lt (cmp-append a [] (y ∷ s)))
    go (inr (front, x, y, r, s, e, f, less)) = rw (e, f, cmp-append front (x ∷ r) (y ∷ s), lt-ltb x y less) refl

-- what the test for a lesser key decides
pub before_less : (o : Ordering) → is_lt o ≡ true → o ≡ Less
before_less Less h = refl
before_less Equal h = absurd (false≢true h)
before_less Greater h = absurd (false≢true h)

pub order_is_strict : OrderIsStrict
order_is_strict [] = refl
order_is_strict (x ∷ a) = ap is_lt (cmp-append (x ∷ []) a a) ∙ order_is_strict a

pub order_is_transitive : OrderIsTransitive
order_is_transitive a b c h k = ap is_lt (nat_list_cmp_total.trans a b c (before_less (slice_cmp nat_cmp a b) h) (before_less (slice_cmp nat_cmp b c) k))

pub order_is_total : OrderIsTotal
order_is_total [] [] = inr (inl refl)
order_is_total [] (y ∷ b) = inl refl
order_is_total (x ∷ a) [] = inr (inr refl)
order_is_total (x ∷ a) (y ∷ b) = go (cases_order x y) (order_is_total a b)
  where
    go : (x ≡ y) ⊎ ((x < y) ⊎ (y < x)) → (is_before a b ≡ true) ⊎ ((a ≡ b) ⊎ (is_before b a ≡ true)) →
        (is_before (x ∷ a) (y ∷ b) ≡ true) ⊎ ((x ∷ a ≡ y ∷ b) ⊎ (is_before (y ∷ b) (x ∷ a) ≡ true))
    go (inl e) (inl h) = inl ((order_is_decided (x ∷ a) (y ∷ b)).1 (longer x y a b e ((order_is_decided a b).0 h)))
    go (inl e) (inr (inl f)) = inr (inl (ap₂ (λ z s. z ∷ s) e f))
    go (inl e) (inr (inr h)) = inr (inr ((order_is_decided (y ∷ b) (x ∷ a)).1 (longer y x b a (sym e) ((order_is_decided b a).0 h))))
    go (inr (inl less)) h = inl ((order_is_decided (x ∷ a) (y ∷ b)).1 (inr ([], x, y, a, b, refl, refl, less)))
    go (inr (inr less)) h = inr (inr ((order_is_decided (y ∷ b) (x ∷ a)).1 (inr ([], y, x, b, a, refl, refl, less))))

pub common_front_is_longest : CommonFrontIsLongest
common_front_is_longest a b =
    (common_front_left a b, common_front_right a b, λ front (r, e) (s, f). (common_front r s, rw (e, f) (common_front-append front r s)))
