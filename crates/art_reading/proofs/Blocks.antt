-- bytes that are compared block by block
use Rattle.std.proofs.Common.{◌≡◌, ◌∙◌, ◌+◌, ◌*◌, ◌^◌, ◌%◌, ◌≤◌, ◌↔◌, ℕ, Bool, true, false, not, cond, IsTrue, List, [], ◌∷◌, ◌++◌, length, take, drop, eqb, eqb-true, refl, ap, ap₂, sym, arith}
use Rattle.std.proofs.Math.Seq.{take-add}
use Rattle.std.proofs.lemmas.Bool.{eq-eqb}
use Rattle.std.proofs.lemmas.List.{append_cancel_left, take_all, take-append-drop, take-append-le, take-take}
use Rattle.std.proofs.lemmas.Simd.{mask_l-mod}
use lib.Lanes.{mask_l, zip2}
use Rattle.art_model.specs.Prelude.{IsFront}

-- bytes that are the same at first, and then a further block
pub joined : (at n : ℕ) (a b : List ℕ) → take at a ≡ take at b → take n (drop at a) ≡ take n (drop at b) → take (at + n) a ≡ take (at + n) b
joined at n a b front block = take-add at n a ∙ ap₂ (λ x y. x ++ y) front block ∙ sym (take-add at n b)

-- fewer of them
pub fewer : (m n : ℕ) (a b : List ℕ) → m ≤ n → take n a ≡ take n b → take m a ≡ take m b
fewer m n a b l e = sym (take-take m n a l) ∙ ap (take m) e ∙ take-take m n b l

-- a block of them
pub block_of : (at n all : ℕ) (a b : List ℕ) → at + n ≤ all → take all a ≡ take all b → take n (drop at a) ≡ take n (drop at b)
block_of at n all a b l e =
    let front = fewer at all a b (omega arith) e in
    append_cancel_left (take at a) (take n (drop at a)) (take n (drop at b))
    (sym (take-add at n a) ∙ fewer (at + n) all a b l e ∙ take-add at n b ∙ ap (λ xs. xs ++ take n (drop at b)) (sym front))

abbrev differ : ℕ → ℕ → Bool
differ x y = not (eqb x y)

-- lanes none of which differ
same : (xs ys : List ℕ) → length xs ≡ length ys → mask_l (zip2 differ xs ys) ≡ 0 → xs ≡ ys
same [] [] l e = refl
same [] (y ∷ ys) l e = absurd (omega arith)
same (x ∷ xs) [] l e = absurd (omega arith)
same (x ∷ xs) (y ∷ ys) l e = go (λ k. same xs ys (omega arith) k) (eqb x y) refl e
  where
    go : (mask_l (zip2 differ xs ys) ≡ 0 → xs ≡ ys) → (t : Bool) → eqb x y ≡ t → cond (not t) 1 0 + 2 * mask_l (zip2 differ xs ys) ≡ 0 → x ∷ xs ≡ y ∷ ys
    go rest true h z = ap₂ (λ a b. a ∷ b) (eqb-true x y h) (rest (omega arith))
    go rest false h z = absurd (omega arith)

-- of lanes that are the same none differ
none_differ : (xs : List ℕ) → mask_l (zip2 differ xs xs) ≡ 0
none_differ [] = refl
none_differ (x ∷ xs) = let l = none_differ xs in rw (eq-eqb x x refl) (omega (arith, l))

lanes : (xs ys : List ℕ) → length (zip2 differ xs ys) ≤ length xs
lanes [] ys = omega arith
lanes (x ∷ xs) [] = omega arith
lanes (x ∷ xs) (y ∷ ys) = let l = lanes xs ys in omega (arith, l)

mask : (xs ys : List ℕ) → length xs ≤ 64 → mask_l (zip2 differ xs ys) % 2 ^ 64 ≡ mask_l (zip2 differ xs ys)
mask xs ys l = let m = lanes xs ys in mask_l-mod (zip2 differ xs ys) 64 (omega (arith, m))

-- no bit is set for different lanes exactly if all are the same
pub unset_same : (xs ys : List ℕ) → length xs ≡ length ys → length xs ≤ 64 → IsTrue (eqb (mask_l (zip2 differ xs ys) % 2 ^ 64) 0) ↔ (xs ≡ ys)
unset_same xs ys e l = (
  λ told. same xs ys e (sym (mask xs ys l) ∙ eqb-true (mask_l (zip2 differ xs ys) % 2 ^ 64) 0 told),
  λ is. eq-eqb (mask_l (zip2 differ xs ys) % 2 ^ 64) 0 (mask xs ys l ∙ ap (λ z. mask_l (zip2 differ xs z)) (sym is) ∙ none_differ xs),
)

-- what starts with all bytes of a prefix
pub front_taken : {r : Bool} (front bytes : List ℕ) → IsTrue r ↔ (take (length front) front ≡ take (length front) bytes) → IsTrue r ↔ IsFront front bytes
front_taken {r} front bytes test =
    let n = length front in
    let all : take n front ≡ front = take_all n front (omega arith) in (
      λ t. (drop n bytes, sym (take-append-drop n bytes) ∙ ap (λ xs. xs ++ drop n bytes) (sym (test.0 t) ∙ all)),
      λ is. test.1 (sym (ap (take n) is.1 ∙ take-append-le n front is.0 (omega arith))),
    )
