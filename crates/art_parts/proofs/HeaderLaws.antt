-- What the calls of a header do to the header of a whole prefix, for callers.
use Rattle.std.proofs.Common.{◌≡◌, ℕ, ◌+◌, ◌-◌, ◌≤◌, min, List, ◌++◌, length, take, drop, inl, inr, sym, ap, ◌∙◌, arith}
use Rattle.std.proofs.lemmas.List.{drop-take, drop-drop, length-append, length-drop, length-take, take-append-le, take-take, take_all, take_min, append-nil}
use Rattle.art_parts.specs.Headers.{Prefix, header_of}
use Rattle.art_parts.proofs.Comparisons.{by_order}
use Rattle.art_parts.proofs.HeaderLemmas.{take-append_over, take_of_take}

-- the header of a prefix, by its parts
pub header_by_parts : (P : ℕ) (whole : List ℕ) (header : Prefix) → header.len ≡ length whole → header.stored ≡ take P whole → header ≡ header_of P whole
header_by_parts P whole header len stored = λ i. record { len = len i; stored = stored i }

pub len_of_header : (P : ℕ) (whole : List ℕ) (header : Prefix) → header ≡ header_of P whole → header.len ≡ length whole
len_of_header P whole header is = ap (λ (h : Prefix). h.len) is

pub stored_of_header : (P : ℕ) (whole : List ℕ) (header : Prefix) → header ≡ header_of P whole → header.stored ≡ take P whole
stored_of_header P whole header is = ap (λ (h : Prefix). h.stored) is

-- no more is stored than there is
stored_part : (P : ℕ) (whole : List ℕ) → take (min (length whole) P) whole ≡ take P whole
stored_part P whole = let turned : min (length whole) P ≡ min P (length whole) = omega arith in ap (λ (n : ℕ). take n whole) turned ∙ take_min P whole

-- a new header, of bytes that start as its prefix does
pub new_header : (P : ℕ) (whole bytes : List ℕ) (header : Prefix) → take (min (length whole) P) bytes ≡ take (min (length whole) P) whole →
    header ≡ record { len = length whole; stored = take (min (length whole) P) bytes } → header ≡ header_of P whole
new_header P whole bytes header begins is =
    header_by_parts P whole header (ap (λ (h : Prefix). h.len) is) (ap (λ (h : Prefix). h.stored) is ∙ begins ∙ stored_part P whole)

pub trimmed_header : (P n : ℕ) (whole : List ℕ) (old new : Prefix) → old ≡ header_of P whole → old.len ≤ P → new.len ≡ old.len - n →
    new.stored ≡ drop n old.stored → new ≡ header_of P (drop n whole)
trimmed_header P n whole old new was fits len stored =
    let long = len_of_header P whole old was in
    let all : take P whole ≡ whole = take_all P whole (omega (arith, long)) in
    let left : take P (drop n whole) ≡ drop n whole = take_all P (drop n whole) (omega (arith, long, length-drop n whole)) in
    header_by_parts P (drop n whole) new (omega (arith, len, long, length-drop n whole))
    (stored ∙ ap (drop n) (stored_of_header P whole old was ∙ all) ∙ sym left)

pub trimmed_by_leaf : (P n depth : ℕ) (whole leaf : List ℕ) (old new : Prefix) → old ≡ header_of P whole → n ≤ old.len →
    take old.len (drop depth leaf) ≡ whole → new.len ≡ old.len - n → new.stored ≡ take (min (old.len - n) P) (drop (depth + n) leaf) →
    new ≡ header_of P (drop n whole)
trimmed_by_leaf P n depth whole leaf old new was within has len stored =
    let long = len_of_header P whole old was in
    let split : n + (old.len - n) ≡ old.len = omega arith in
    let rest : take (old.len - n) (drop (depth + n) leaf) ≡ drop n whole =
    ap (take (old.len - n)) (sym (drop-drop n depth leaf)) ∙ sym (drop-take n (old.len - n) (drop depth leaf))
    ∙ ap (λ (k : ℕ). drop n (take k (drop depth leaf))) split ∙ ap (drop n) has in
    let turned : min (old.len - n) P ≡ min P (old.len - n) = omega arith in
    header_by_parts P (drop n whole) new (omega (arith, len, long, length-drop n whole))
    (stored ∙ ap (λ (k : ℕ). take k (drop (depth + n) leaf)) turned ∙ sym (take_of_take P (old.len - n) (drop (depth + n) leaf)) ∙ ap (take P) rest)

-- the first bytes of two lists, however long the first one is
take-append : (P : ℕ) (xs ys : List ℕ) → take P (xs ++ ys) ≡ take P xs ++ take (P - length xs) ys
take-append P xs ys = elim (by_order (length xs) P) [
  | inl l ↦ whole (omega arith)
  | inr g ↦ elim g [
    | inl e ↦ whole (omega arith)
    | inr m ↦
        let nothing : P - length xs ≡ 0 = omega arith in
        take-append-le P xs ys (omega arith) ∙ sym (append-nil (take P xs)) ∙ ap (λ (k : ℕ). take P xs ++ take k ys) (sym nothing)
  ]
]
  where
    whole : length xs ≤ P → take P (xs ++ ys) ≡ take P xs ++ take (P - length xs) ys
    whole fits = take-append_over P xs ys fits ∙ ap (λ (t : List ℕ). t ++ take (P - length xs) ys) (sym (take_all P xs fits))

-- bytes that start as the appended prefix does are as good as it
same_part : (k P : ℕ) (more bytes : List ℕ) → k ≤ P → take (min (length more) P) bytes ≡ take (min (length more) P) more →
    take k (take (length more) bytes) ≡ take k more
same_part k P more bytes within begins =
    take_of_take k (length more) bytes
    ∙ sym (take-take (min k (length more)) (min (length more) P) bytes (omega arith))
    ∙ ap (take (min k (length more))) begins
    ∙ take-take (min k (length more)) (min (length more) P) more (omega arith)
    ∙ take_min k more

pub extended_header : (P : ℕ) (whole more bytes : List ℕ) (old new : Prefix) → old ≡ header_of P whole →
    take (min (length more) P) bytes ≡ take (min (length more) P) more → new.len ≡ old.len + length more →
    new.stored ≡ take P (old.stored ++ take (length more) bytes) → new ≡ header_of P (whole ++ more)
extended_header P whole more bytes old new was begins len stored =
    let room : P - length (take P whole) ≡ P - length whole = omega (arith, length-take P whole) in
    header_by_parts P (whole ++ more) new (omega (arith, len, len_of_header P whole old was, length-append whole more))
    (
    stored
    ∙ ap (λ (t : List ℕ). take P (t ++ take (length more) bytes)) (stored_of_header P whole old was)
    ∙ take-append_over P (take P whole) (take (length more) bytes) (omega (arith, length-take P whole))
    ∙ ap (λ (k : ℕ). take P whole ++ take k (take (length more) bytes)) room
    ∙ ap (λ (t : List ℕ). take P whole ++ t) (same_part (P - length whole) P more bytes (omega arith) begins)
    ∙ sym (take-append P whole more)
    )
