-- What is left of an array of stored bytes once a prefix is trimmed or extended.
use Rattle.std.proofs.Common.{◌≡◌, ℕ, ◌+◌, ◌-◌, ◌≤◌, min, List, ◌++◌, length, take, drop, replicate, inl, inr, sym, ap, ◌∙◌, arith, subst}
use Rattle.std.proofs.lemmas.List.{drop-take, drop-drop, drop-replicate, length-take, length-take-le, take-take, take_all, take_rest}
use Rattle.std.proofs.lemmas.Slice.{take-put_mid, drop-put_mid}
use Rattle.std.proofs.Math.Seq.{take-append-add}
use Rattle.art_parts.proofs.Comparisons.{by_order}
use borrow.Rule.Slice.PartMut.{put_mid}

-- a prefix that is stored whole, without its first bytes
pub trimmed : (P n len : ℕ) (bytes : List ℕ) → n ≤ len → len ≤ P →
    take (min (len - n) P) (take (length bytes - n) (drop n bytes)) ≡ drop n (take (min len P) bytes)
trimmed P n len bytes within whole =
    let rest : min (len - n) P ≡ len - n = omega arith in
    let all : n + (len - n) ≡ min len P = omega arith in
    ap (take (min (len - n) P)) (take_rest bytes n)
    ∙ ap (λ (k : ℕ). take k (drop n bytes)) rest
    ∙ sym (drop-take n (len - n) bytes)
    ∙ ap (λ (k : ℕ). drop n (take k bytes)) all

-- the first bytes of two lists, where all of the first one fits
pub take-append_over : (P : ℕ) (xs ys : List ℕ) → length xs ≤ P → take P (xs ++ ys) ≡ xs ++ take (P - length xs) ys
take-append_over P xs ys fits =
    let split : P ≡ length xs + (P - length xs) = omega arith in
    ap (λ (n : ℕ). take n (xs ++ ys)) split ∙ take-append-add xs ys (P - length xs)

pub take_of_take : (k n : ℕ) (xs : List ℕ) → take k (take n xs) ≡ take (min k n) xs
take_of_take k n xs = elim (by_order k n) [
  | inl l ↦ least k (omega arith) (take-take k n xs (omega arith))
  | inr g ↦ least n (elim g [ inl e ↦ omega arith | inr m ↦ omega arith ])
      (take_all k (take n xs) (elim g [ inl e ↦ omega (arith, length-take n xs) | inr m ↦ omega (arith, length-take n xs) ]))
]
  where
    least : (m : ℕ) → m ≡ min k n → take k (take n xs) ≡ take m xs → take k (take n xs) ≡ take (min k n) xs
    least m e is = is ∙ ap (λ (j : ℕ). take j xs) e

fewer : (P : ℕ) (bytes : List ℕ) (k from to : ℕ) → from + k ≡ to → drop from bytes ≡ replicate (P - from) 0 → drop to bytes ≡ replicate (P - to) 0
fewer P bytes k from to e zeros =
    let left : P - from - k ≡ P - to = omega arith in
    ap (λ (n : ℕ). drop n bytes) (sym e) ∙ sym (drop-drop k from bytes) ∙ ap (drop k) zeros ∙ drop-replicate k (P - from) 0 ∙ ap (λ (n : ℕ). replicate n 0) left

-- the bytes after a prefix of one of two equal lengths are zeros
pub same_zeros : (P a b : ℕ) (bytes : List ℕ) → a ≡ b → drop (min a P) bytes ≡ replicate (P - min a P) 0 → drop (min b P) bytes ≡ replicate (P - min b P) 0
same_zeros P a b bytes e = subst (λ n. drop (min n P) bytes ≡ replicate (P - min n P) 0) e

-- what is stored of a prefix of one of two equal lengths
pub same_front : (P a b : ℕ) (bytes : List ℕ) → a ≡ b → take (min a P) bytes ≡ take (min b P) bytes
same_front P a b bytes e = ap (λ n. take (min n P) bytes) e

-- the first bytes after as many more as fit are written behind those that are stored
module _ (P len n start end : ℕ) (bytes more new : List ℕ) (from : start ≡ min len P) (to : end ≡ min (len + n) P) (long : length bytes ≡ P)
    (given : min n P ≤ length more) (is : new ≡ take (end - start) more) where
  count : length new ≡ end - start
  count = ap length is ∙ length-take-le (end - start) more (omega arith)

  pub extended : take (min (len + n) P) (put_mid start (end - start) bytes new) ≡ take P (take (min len P) bytes ++ take n more)
  extended =
      let front : length (take start bytes) ≡ start = length-take-le start bytes (omega arith) in
      let left : end - start ≡ min (P - length (take start bytes)) n = omega (arith, front) in
      take-put_mid start (end - start) bytes new (min (len + n) P) (omega (arith, count)) (omega arith)
      ∙ ap (λ (t : List ℕ). take start bytes ++ t) (is ∙ ap (λ (k : ℕ). take k more) left ∙ sym (take_of_take (P - length (take start bytes)) n more))
      ∙ sym (take-append_over P (take start bytes) (take n more) (omega (arith, front)))
      ∙ ap (λ (k : ℕ). take P (take k bytes ++ take n more)) from

  -- behind them are zeros
  pub zeros_after : drop (min len P) bytes ≡ replicate (P - min len P) 0 →
      drop (min (len + n) P) (put_mid start (end - start) bytes new) ≡ replicate (P - min (len + n) P) 0
  zeros_after zeros =
      drop-put_mid start (end - start) bytes new (min (len + n) P) (omega arith) (omega arith) count
      ∙ fewer P bytes (end - start) (min len P) (min (len + n) P) (omega arith) zeros
