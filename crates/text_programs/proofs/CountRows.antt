-- Lines of counts: which they are, and what they say.
use Rattle.std.proofs.Common.{◌≡◌, ◌≢◌, ℕ, ◌+◌, ◌<◌, ◌^◌, Bool, true, false, not, cond, eqb, ne_eqb, List, [], ◌∷◌, ◌++◌, length, map, flat_map, refl, ap, ap₂, sym, ◌∙◌, subst, arith, append_assoc}
use Rattle.std.specs.Fmt.{decimal}
use Rattle.std.specs.List.{AllByRecursion as Each, list_all, onto_first, slice_split}
use Rattle.std.proofs.lemmas.Bool.{and_from, and_parts, false≢true}
use Rattle.std.proofs.lemmas.Fmt.{decimal_digit, decimal_injective}
use Rattle.std.proofs.lemmas.List.Elements.{recursion_from_All}
use Rattle.art_model.proofs.lists.Lists.{Each-append, Each-weaker}
use Rattle.text_lines.proofs.Spaces.{HasNoSpace, has_space, same_words}
use Rattle.text_lines.specs.Lines.{lines, lines_of, without_return}
use Rattle.text_programs.specs.WordCounts.{line_of}
use Rattle.text_programs.specs.Rows.{IsCount, is_word, row_of}
use Rattle.text_programs.specs.Words.{IsWord, is_gap}
use Rattle.text_programs.proofs.RowNumbers.{decimal_without}

-- examples: the line of a count; words, and bytes that are none
row_of_three : row_of (98 ∷ [], 3) ≡ 51 ∷ 32 ∷ 98 ∷ []
row_of_three = ap (λ digits. digits ++ 32 ∷ 98 ∷ []) (decimal_digit 3 (omega arith))

a_word : is_word (255 ∷ 98 ∷ []) ≡ true
a_word = refl

no_word : is_word (98 ∷ 32 ∷ 98 ∷ []) ≡ false
no_word = refl

-- ---- what a line is read as

digits_spaceless : (n : ℕ) → n < 2 ^ 64 → HasNoSpace (decimal n)
digits_spaceless n small = decimal_without 32 n (λ h. omega (arith, h)) small

gapless : (bytes : List ℕ) → list_all (λ byte. not (is_gap byte)) bytes ≡ true → Each (λ byte. is_gap byte ≡ false) bytes
gapless [] h = tt
gapless (b ∷ bytes) h =
    let both = and_parts (not (is_gap b)) (list_all (λ byte. not (is_gap byte)) bytes) h in
    (no (is_gap b) both.0, gapless bytes both.1)
  where
    no : (t : Bool) → not t ≡ true → t ≡ false
    no true h = absurd (false≢true h)
    no false h = refl

pub word_is : (bytes : List ℕ) → is_word bytes ≡ true → IsWord bytes
word_is [] h = absurd (false≢true h)
word_is (b ∷ bytes) h =
    (refl, gapless (b ∷ bytes) (and_parts (not (eqb (length (b ∷ bytes)) 0)) (list_all (λ byte. not (is_gap byte)) (b ∷ bytes)) h).1)

all_gapless : (bytes : List ℕ) → Each (λ byte. is_gap byte ≡ false) bytes → list_all (λ byte. not (is_gap byte)) bytes ≡ true
all_gapless [] h = refl
all_gapless (b ∷ bytes) h = rw h.0 (all_gapless bytes h.1)

pub is_a_word : (bytes : List ℕ) → IsWord bytes → is_word bytes ≡ true
is_a_word [] h = absurd (false≢true h.0)
is_a_word (b ∷ bytes) h = and_from _ _ (ap not (ne_eqb (length (b ∷ bytes)) 0 (λ z. omega arith))) (all_gapless (b ∷ bytes) h.1)

-- the number and the word of a line are those before and after its first space
pub row_parts : (digits word : List ℕ) (count : List ℕ × ℕ) → HasNoSpace digits → IsCount count → digits ++ 32 ∷ word ≡ row_of count →
    (digits ≡ decimal count.1) × (word ≡ count.0)
row_parts digits word count plain is e = same_words digits word (decimal count.1) count.0 plain (digits_spaceless count.1 is.2) e

-- lines that are those of no count
pub no_space : (line : List ℕ) → HasNoSpace line → (count : List ℕ × ℕ) → IsCount count → line ≢ row_of count
no_space line none count is e = has_space (decimal count.1) count.0 (subst HasNoSpace e none)

module _ (line digits word : List ℕ) (is : line ≡ digits ++ 32 ∷ word) (plain : HasNoSpace digits) where
  pub no_number : ((n : ℕ) → n < 2 ^ 64 → digits ≢ decimal n) → (count : List ℕ × ℕ) → IsCount count → line ≢ row_of count
  no_number none count c e = none count.1 c.2 (row_parts digits word count plain c (sym is ∙ e)).0

  pub no_count : (number : ℕ) → number < 2 ^ 64 → digits ≡ decimal number → (0 < number → is_word word ≡ false) →
      (count : List ℕ × ℕ) → IsCount count → line ≢ row_of count
  no_count number small same none count c e =
      let both = row_parts digits word count plain c (sym is ∙ e) in
      let n : number ≡ count.1 = decimal_injective number count.1 small c.2 (sym same ∙ both.0) in
      false≢true (sym (none (omega (arith, n, c.1))) ∙ is_a_word word (subst IsWord (sym both.1) c.0))

-- so a line is that of one count
pub row_injective : (a b : List ℕ × ℕ) → IsCount a → IsCount b → row_of a ≡ row_of b → a ≡ b
row_injective a b h k e =
    let parts = row_parts (decimal a.1) a.0 b (digits_spaceless a.1 h.2) k e in
    ap₂ (λ w n. (w, n)) parts.1 (decimal_injective a.1 b.1 h.2 k.2 parts.0)

pub rows_determined : (xs ys : List (List ℕ × ℕ)) → Each IsCount xs → Each IsCount ys → map row_of xs ≡ map row_of ys → ys ≡ xs
rows_determined [] [] h k e = refl
rows_determined [] (y ∷ ys) h k e = absurd cc
rows_determined (x ∷ xs) [] h k e = absurd cc
rows_determined (x ∷ xs) (y ∷ ys) h k e =
    let first : row_of x ≡ row_of y = cc in
    let rest : map row_of xs ≡ map row_of ys = cc in
    ap₂ (λ z zs. z ∷ zs) (sym (row_injective x y h.0 k.0 first)) (rows_determined xs ys h.1 k.1 rest)

-- ---- the lines that are written

abbrev parts : List ℕ → List (List ℕ)
parts = slice_split (λ b. eqb b 10)

-- no byte ends a line
abbrev IsPlain : List ℕ → Type 0
IsPlain = Each (λ b. (eqb b 10 ≡ false) × (eqb b 13 ≡ false))

first_part : (row rest : List ℕ) → IsPlain row → parts (row ++ 10 ∷ rest) ≡ row ∷ parts rest
first_part [] rest h = refl
first_part (b ∷ row) rest h =
    ap (λ t. cond t ([] ∷ parts (row ++ 10 ∷ rest)) (onto_first b (parts (row ++ 10 ∷ rest)))) h.0.0 ∙ ap (onto_first b) (first_part row rest h.1)

without_any : (row : List ℕ) → IsPlain row → without_return row ≡ row
without_any [] h = refl
without_any (b ∷ []) h = ap (λ t. cond t [] (b ∷ [])) h.0.1
without_any (b ∷ c ∷ row) h = ap (λ bs. b ∷ bs) (without_any (c ∷ row) h.1)

first_stays : (line bs : List ℕ) → lines_of (line ∷ parts bs) ≡ without_return line ∷ lines_of (parts bs)
first_stays line [] = refl
first_stays line (b ∷ bs) = go (eqb b 10) (parts bs)
  where
    go : (t : Bool) (ps : List (List ℕ)) → lines_of (line ∷ cond t ([] ∷ ps) (onto_first b ps))
        ≡ without_return line ∷ lines_of (cond t ([] ∷ ps) (onto_first b ps))
    go true ps = refl
    go false [] = refl
    go false (p ∷ ps) = refl

first_line : (row rest : List ℕ) → IsPlain row → lines (row ++ 10 ∷ rest) ≡ row ∷ lines rest
first_line row rest h = ap lines_of (first_part row rest h) ∙ first_stays row rest ∙ ap (λ l. l ∷ lines rest) (without_any row h)

digits_plain : (n : ℕ) → n < 2 ^ 64 → IsPlain (decimal n)
digits_plain n small = both (decimal n)
    (recursion_from_All (λ b. b ≢ 10) (decimal n) (decimal_without 10 n (λ h. omega (arith, h)) small))
    (recursion_from_All (λ b. b ≢ 13) (decimal n) (decimal_without 13 n (λ h. omega (arith, h)) small))
  where
    both : (bs : List ℕ) → Each (λ b. b ≢ 10) bs → Each (λ b. b ≢ 13) bs → IsPlain bs
    both [] h k = tt
    both (b ∷ bs) h k = ((ne_eqb b 10 h.0, ne_eqb b 13 k.0), both bs h.1 k.1)

word_plain : (word : List ℕ) → Each (λ byte. is_gap byte ≡ false) word → IsPlain word
word_plain word h =
    Each-weaker (λ byte. is_gap byte ≡ false) (λ b. (eqb b 10 ≡ false) × (eqb b 13 ≡ false))
    (λ b e. (ne_eqb b 10 (λ z. false≢true (sym e ∙ ap is_gap z)), ne_eqb b 13 (λ z. false≢true (sym e ∙ ap is_gap z)))) word h

row_plain : (count : List ℕ × ℕ) → IsCount count → IsPlain (row_of count)
row_plain count is =
    Each-append (λ b. (eqb b 10 ≡ false) × (eqb b 13 ≡ false)) (decimal count.1) (32 ∷ count.0) (digits_plain count.1 is.2)
    ((refl, refl), word_plain count.0 is.0.1)

line_is_row : (count : List ℕ × ℕ) → line_of count ≡ row_of count ++ 10 ∷ []
line_is_row count = ap (λ bs. bs ++ 10 ∷ []) (append_assoc (decimal count.1) (32 ∷ []) count.0)

-- the lines of counts, as they are written, are their rows
pub written_rows : (counts : List (List ℕ × ℕ)) → Each IsCount counts → lines (flat_map line_of counts) ≡ map row_of counts
written_rows [] h = refl
written_rows (count ∷ counts) h =
    ap lines (ap (λ bs. bs ++ flat_map line_of counts) (line_is_row count) ∙ append_assoc (row_of count) (10 ∷ []) (flat_map line_of counts))
    ∙ first_line (row_of count) (flat_map line_of counts) (row_plain count h.0)
    ∙ ap (λ ls. row_of count ∷ ls) (written_rows counts h.1)
