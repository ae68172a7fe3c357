-- A string starts with a prefix exactly if it is from the prefix on and before its end.
use Rattle.std.proofs.Common.{◌≡◌, ◌<◌, ◌≤◌, ◌+◌, ◌&&◌, ◌⊎◌, ◌-◌, ℕ, Bool, zero, suc, List, [], ◌∷◌, ◌++◌, not, true, false, refl, ap, ap₂, add-one, sym, ◌∙◌, arith}
use Rattle.std.proofs.Common.{inl, inr, drop, get_or, length, set, subst, take}
use Rattle.std.proofs.lemmas.List.{drop_more, take-append-drop, take_more_set}
use Rattle.std.proofs.lemmas.Bool.{cases_lt, cases_order, eq-eqb, le-ltb, lt-ltb, ne_eqb}
use Rattle.std.specs.Cmp.Lexicographic.{slice_cmp}
use Rattle.std.specs.List.{AllByRecursion as Each}
use Rattle.std.specs.Ordering.{is_lt, nat_cmp}
use Rattle.art_parts.specs.Keys.{is_front}
use Rattle.string_map.specs.PrefixEnds.{IsPrefixEnd}

abbrev is_less : List ℕ → List ℕ → Bool
is_less a b = is_lt (slice_cmp nat_cmp a b)

less_first : (a b : ℕ) (xs ys : List ℕ) → a < b → is_less (a ∷ xs) (b ∷ ys) ≡ true
less_first a b xs ys below = rw (lt-ltb a b below) refl

more_first : (a b : ℕ) (xs ys : List ℕ) → b < a → is_less (a ∷ xs) (b ∷ ys) ≡ false
more_first a b xs ys above = rw (le-ltb a b (omega (arith, above)), ne_eqb a b (λ e. omega (arith, above, e))) refl

same_first : (a : ℕ) (xs ys : List ℕ) → is_less (a ∷ xs) (a ∷ ys) ≡ is_less xs ys
same_first a xs ys = rw (le-ltb a a (omega arith), eq-eqb a a refl) refl

other_first : (a b : ℕ) (xs ys : List ℕ) → (a ≡ b → ⊥) → is_front (a ∷ xs) (b ∷ ys) ≡ false
other_first a b xs ys apart = rw (ne_eqb a b apart) refl

front_first : (a : ℕ) (xs ys : List ℕ) → is_front (a ∷ xs) (a ∷ ys) ≡ is_front xs ys
front_first a xs ys = rw (eq-eqb a a refl) refl

-- no string is before the empty one
none_before : (text : List ℕ) → is_less text [] ≡ false
none_before [] = refl
none_before (t ∷ text) = refl

-- a prefix whose bytes are all 255 is one of all strings from it on
all_from : (prefix text : List ℕ) → Each (λ byte. byte ≡ 255) prefix → Each (λ byte. byte < 256) text → is_front prefix text ≡ not (is_less text prefix)
all_from [] text is bytes = rw (none_before text) refl
all_from (p ∷ prefix) [] is bytes = refl
all_from (p ∷ prefix) (t ∷ text) (is, more) (byte, bytes) = go (all_from prefix text more bytes) (cases_lt t p)
  where
    go : is_front prefix text ≡ not (is_less text prefix) → (t < p) ⊎ (p ≤ t) → is_front (p ∷ prefix) (t ∷ text) ≡ not (is_less (t ∷ text) (p ∷ prefix))
    go rest (inl below) = rw (other_first p t prefix text (λ e. omega (arith, below, e)), less_first t p text prefix below) refl
    go rest (inr above) =
        let same : t ≡ p = omega (arith, above, is, byte) in
        rw (same, front_first p prefix text, same_first p text prefix) rest

and_true : (b : Bool) → b ≡ (b && true)
and_true true = refl
and_true false = refl

-- a prefix ends with a byte that is not 255 and then bytes that are: in the end of the range that byte is one greater
ends_after : (front : List ℕ) (byte : ℕ) (last text : List ℕ) → Each (λ b. b ≡ 255) last → Each (λ b. b < 256) text →
    is_front (front ++ byte ∷ last) text ≡ (not (is_less text (front ++ byte ∷ last)) && is_less text (front ++ suc byte ∷ []))
ends_after [] byte last [] is bytes = refl
ends_after (f ∷ front) byte last [] is bytes = refl
ends_after [] byte last (t ∷ text) is (first, bytes) = go (cases_order t byte) (cases_lt (suc byte) t)
  where
    go : (t ≡ byte) ⊎ ((t < byte) ⊎ (byte < t)) → (suc byte < t) ⊎ (t ≤ suc byte) →
        is_front (byte ∷ last) (t ∷ text) ≡ (not (is_less (t ∷ text) (byte ∷ last)) && is_less (t ∷ text) (suc byte ∷ []))
    go (inl same) _ =
        rw (same, front_first byte last text, same_first byte text last, less_first byte (suc byte) text [] (omega arith))
        (all_from last text is bytes ∙ and_true (not (is_less text last)))
    go (inr (inl below)) _ =
        rw (other_first byte t last text (λ e. omega (arith, below, e)), less_first t byte text last below) refl
    go (inr (inr above)) (inl far) =
        rw (other_first byte t last text (λ e. omega (arith, above, e)), more_first t byte text last above, more_first t (suc byte) text [] far) refl
    go (inr (inr above)) (inr near) =
        let next : t ≡ suc byte = omega (arith, above, near) in
        rw (
          next,
          other_first byte (suc byte) last text (λ e. omega (arith, e)),
          more_first (suc byte) byte text last (omega arith),
          same_first (suc byte) text [],
          none_before text,
        ) refl
ends_after (f ∷ front) byte last (t ∷ text) is (first, bytes) = go (ends_after front byte last text is bytes) (cases_order t f)
  where
    go : is_front (front ++ byte ∷ last) text ≡ (not (is_less text (front ++ byte ∷ last)) && is_less text (front ++ suc byte ∷ [])) →
        (t ≡ f) ⊎ ((t < f) ⊎ (f < t)) →
        is_front (f ∷ front ++ byte ∷ last) (t ∷ text)
        ≡ (not (is_less (t ∷ text) (f ∷ front ++ byte ∷ last)) && is_less (t ∷ text) (f ∷ front ++ suc byte ∷ []))
    go rest (inl same) =
        rw (same, front_first f (front ++ byte ∷ last) text, same_first f text (front ++ byte ∷ last), same_first f text (front ++ suc byte ∷ [])) rest
    go rest (inr (inl below)) =
        rw (other_first f t (front ++ byte ∷ last) text (λ e. omega (arith, below, e)), less_first t f text (front ++ byte ∷ last) below) refl
    go rest (inr (inr above)) =
        rw (
          other_first f t (front ++ byte ∷ last) text (λ e. omega (arith, above, e)),
          more_first t f text (front ++ byte ∷ last) above,
          more_first t f text (front ++ suc byte ∷ []) above,
        ) refl

-- if each byte is 255, there is no end
pub has_no_end : (prefix after : List ℕ) (len : ℕ) → len ≡ 0 → Each (λ byte. byte ≡ 255) (drop len prefix) → IsPrefixEnd prefix 0 after
has_no_end prefix after len none is = λ text bytes.
    all_from prefix text (subst (λ n. Each (λ byte. byte ≡ 255) (drop n prefix)) none is) bytes ∙ and_true (not (is_less text prefix))

-- else the last other byte is one greater in the end, and what follows it is removed
ends_at : (prefix : List ℕ) (n d byte : ℕ) → n < length prefix → Each (λ byte. byte ≡ 255) (drop (suc n) prefix) →
    byte ≡ get_or prefix n d + 1 → IsPrefixEnd prefix (suc n) (set prefix n byte)
ends_at prefix n d byte few is more = λ text bytes.
    let split : prefix ≡ take n prefix ++ get_or prefix n d ∷ drop (suc n) prefix =
    subst (λ m. prefix ≡ take n prefix ++ get_or prefix n d ∷ drop m prefix) (add-one n)
    (sym (take-append-drop n prefix) ∙ ap (λ xs. take n prefix ++ xs) (drop_more prefix n d few)) in
    let end : take (suc n) (set prefix n byte) ≡ take n prefix ++ suc (get_or prefix n d) ∷ [] =
    subst (λ m. take m (set prefix n byte) ≡ take n prefix ++ suc (get_or prefix n d) ∷ []) (add-one n)
    (take_more_set prefix n byte few ∙ ap (λ b. take n prefix ++ b ∷ []) (more ∙ add-one (get_or prefix n d))) in
    let it = ends_after (take n prefix) (get_or prefix n d) (drop (suc n) prefix) text is bytes in
    ap (λ p. is_front p text) split ∙ it ∙ ap₂ (λ p e. not (is_less text p) && is_less text e) (sym split) (sym end)

pub has_end : (prefix : List ℕ) (len d byte : ℕ) → (len ≡ 0 → ⊥) → len ≤ length prefix → Each (λ byte. byte ≡ 255) (drop len prefix) →
    byte ≡ get_or prefix (len - 1) d + 1 → IsPrefixEnd prefix len (set prefix (len - 1) byte)
has_end prefix zero d byte some few is more = absurd (some refl)
has_end prefix (suc n) d byte some few is more =
    let before : suc n - 1 ≡ n = omega arith in
    subst (λ m. IsPrefixEnd prefix (suc n) (set prefix m byte)) (sym before)
    (ends_at prefix n d byte (omega (arith, few)) is (more ∙ ap (λ m. get_or prefix m d + 1) before))
