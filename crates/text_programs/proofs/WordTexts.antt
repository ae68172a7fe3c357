-- The words of a text that is read line by line.
use Rattle.std.proofs.Common.{◌≡◌, ℕ, Bool, true, false, cond, eqb, eqb-true, ne_eqb, List, [], ◌∷◌, ◌++◌, length, filter, flat_map, inl, inr, ◌⊎◌, refl, ap, ap₂, sym, ◌∙◌, subst, arith, append_assoc, append-nil}
use Rattle.std.specs.List.{AllByRecursion as Each, slice_split, onto_first}
use Rattle.std.proofs.lemmas.List.Elements.{filter-append}
use Rattle.text_lines.specs.Lines.{lines, lines_of, without_return}
use Rattle.text_programs.specs.Words.{EndsWord, GapsAreNoWords, IsWord, WordsAreRuns, is_gap, is_filled, words}

abbrev parts : List ℕ → List (List ℕ)
parts = slice_split is_gap

-- a byte is added to the first of existing parts
onto_more : (x y : ℕ) (ps qs : List (List ℕ)) → onto_first x (onto_first y ps ++ qs) ≡ onto_first x (onto_first y ps) ++ qs
onto_more x y [] qs = refl
onto_more x y (p ∷ ps) qs = refl

onto_parts : (x : ℕ) (bs : List ℕ) (qs : List (List ℕ)) → onto_first x (parts bs ++ qs) ≡ onto_first x (parts bs) ++ qs
onto_parts x [] qs = refl
onto_parts x (b ∷ bs) qs = go (is_gap b)
  where
    go : (t : Bool) → onto_first x (cond t ([] ∷ parts bs) (onto_first b (parts bs)) ++ qs)
        ≡ onto_first x (cond t ([] ∷ parts bs) (onto_first b (parts bs))) ++ qs
    go true = refl
    go false = onto_more x b (parts bs) qs

-- a gap separates a text
split_gap : (xs : List ℕ) (g : ℕ) (ys : List ℕ) → is_gap g ≡ true → parts (xs ++ g ∷ ys) ≡ parts xs ++ parts ys
split_gap [] g ys e = ap (λ t. cond t ([] ∷ parts ys) (onto_first g (parts ys))) e
split_gap (x ∷ xs) g ys e =
    ap (λ ps. cond (is_gap x) ([] ∷ ps) (onto_first x ps)) (split_gap xs g ys e) ∙ go (is_gap x)
  where
    go : (t : Bool) → cond t ([] ∷ (parts xs ++ parts ys)) (onto_first x (parts xs ++ parts ys)) ≡ cond t ([] ∷ parts xs) (onto_first x (parts xs)) ++ parts ys
    go true = refl
    go false = onto_parts x xs (parts ys)

-- so the words before a gap and after it are those of the text
pub words_around : (xs : List ℕ) (g : ℕ) (ys : List ℕ) → is_gap g ≡ true → words (xs ++ g ∷ ys) ≡ words xs ++ words ys
words_around xs g ys e = ap (filter is_filled) (split_gap xs g ys e) ∙ filter-append is_filled (parts xs) (parts ys)

-- the first part is prepended
abbrev before_first : List ℕ → List (List ℕ) → List (List ℕ)
before_first front [] = front ∷ []
before_first front (p ∷ ps) = (front ++ p) ∷ ps

abbrev feeds : List ℕ → List (List ℕ)
feeds = slice_split (λ b. eqb b 10)

words_between : (front text : List ℕ) → words (front ++ text) ≡ flat_map words (before_first front (feeds text))
words_between front [] = sym (append-nil (words (front ++ [])))
words_between front (b ∷ bs) = go (eqb b 10) refl (feeds bs) refl (words_between [] bs) (words_between (front ++ b ∷ []) bs)
  where
    nothing_before : (ps : List (List ℕ)) → words bs ≡ flat_map words (before_first [] ps) → words bs ≡ flat_map words ps
    nothing_before [] e = e
    nothing_before (p ∷ ps) e = e

    moved : (ps : List (List ℕ)) → flat_map words (before_first (front ++ b ∷ []) ps) ≡ flat_map words (before_first front (onto_first b ps))
    moved [] = refl
    moved (p ∷ ps) = ap (λ bytes. words bytes ++ flat_map words ps) (append_assoc front (b ∷ []) p)

    go : (t : Bool) → eqb b 10 ≡ t → (ps : List (List ℕ)) → feeds bs ≡ ps → words bs ≡ flat_map words (before_first [] (feeds bs)) →
        words ((front ++ b ∷ []) ++ bs) ≡ flat_map words (before_first (front ++ b ∷ []) (feeds bs)) →
        words (front ++ b ∷ bs) ≡ flat_map words (before_first front (cond t ([] ∷ ps) (onto_first b ps)))
    go true e ps is here more =
        words_around front b bs (ap is_gap (eqb-true b 10 e))
        ∙ ap₂ (λ us vs. us ++ vs) (ap words (sym (append-nil front))) (nothing_before ps (subst (λ qs. words bs ≡ flat_map words (before_first [] qs)) is here))
    go false e ps is here more =
        ap words (sym (append_assoc front (b ∷ []) bs)) ∙ more ∙ ap (λ qs. flat_map words (before_first (front ++ b ∷ []) qs)) is ∙ moved ps

-- a line has a carriage return at its end, or has none
returned : (line : List ℕ) → (without_return line ≡ line) ⊎ (line ≡ without_return line ++ 13 ∷ [])
returned [] = inl refl
returned (b ∷ []) = go (eqb b 13) refl
  where
    go : (t : Bool) → eqb b 13 ≡ t → (cond t [] (b ∷ []) ≡ b ∷ []) ⊎ (b ∷ [] ≡ cond t [] (b ∷ []) ++ 13 ∷ [])
    go true e = inr (ap (λ c. c ∷ []) (eqb-true b 13 e))
    go false e = inl refl
returned (b ∷ c ∷ line) = go (returned (c ∷ line))
  where
    go : (without_return (c ∷ line) ≡ c ∷ line) ⊎ (c ∷ line ≡ without_return (c ∷ line) ++ 13 ∷ []) →
        (b ∷ without_return (c ∷ line) ≡ b ∷ c ∷ line) ⊎ (b ∷ c ∷ line ≡ b ∷ (without_return (c ∷ line) ++ 13 ∷ []))
    go (inl e) = inl (ap (λ bs. b ∷ bs) e)
    go (inr e) = inr (ap (λ bs. b ∷ bs) e)

-- which is in no word
words_returned : (line : List ℕ) → words (without_return line) ≡ words line
words_returned line = go (returned line)
  where
    go : (without_return line ≡ line) ⊎ (line ≡ without_return line ++ 13 ∷ []) → words (without_return line) ≡ words line
    go (inl e) = ap words e
    go (inr e) = sym (ap words e ∙ words_around (without_return line) 13 [] refl ∙ append-nil (words (without_return line)))

empty_end : (ps : List (List ℕ)) → flat_map words (lines_of ps) ≡ flat_map words ps
empty_end [] = refl
empty_end ([] ∷ []) = refl
empty_end ((b ∷ p) ∷ []) = ap (λ t. flat_map words (cond t [] ((b ∷ p) ∷ []))) (ne_eqb (length (b ∷ p)) 0 (λ z. omega arith))
empty_end (p ∷ q ∷ ps) = ap₂ (λ us vs. us ++ vs) (words_returned p) (empty_end (q ∷ ps))

-- the words of a text are those of its lines
pub words_of_lines : (text : List ℕ) → flat_map words (lines text) ≡ words text
words_of_lines text = empty_end (feeds text) ∙ sym (words_between [] text ∙ nothing (feeds text) refl)
  where
    nothing : (ps : List (List ℕ)) → feeds text ≡ ps → flat_map words (before_first [] (feeds text)) ≡ flat_map words (feeds text)
    nothing [] e = rw e refl
    nothing (p ∷ ps) e = rw e refl

-- no word has a gap
abbrev pub IsWhole : List ℕ → Type 0
IsWhole = Each (λ b. is_gap b ≡ false)

pub whole_parts : (text : List ℕ) → Each IsWhole (parts text)
whole_parts [] = (tt, tt)
whole_parts (x ∷ xs) = go (is_gap x) refl (parts xs) (whole_parts xs)
  where
    go : (t : Bool) → is_gap x ≡ t → (ps : List (List ℕ)) → Each IsWhole ps → Each IsWhole (cond t ([] ∷ ps) (onto_first x ps))
    go true e ps h = (tt, h)
    go false e [] h = ((e, tt), tt)
    go false e (p ∷ ps) h = ((e, h.0), h.1)

-- ---- the words are the longest runs

pub gaps_are_no_words : GapsAreNoWords
gaps_are_no_words [] h = refl
gaps_are_no_words (g ∷ gaps) h = words_around [] g gaps h.0 ∙ gaps_are_no_words gaps h.1

one_part : (word : List ℕ) → IsWhole word → parts word ≡ word ∷ []
one_part [] h = refl
one_part (x ∷ xs) h = ap (λ t. cond t ([] ∷ parts xs) (onto_first x (parts xs))) h.0 ∙ ap (onto_first x) (one_part xs h.1)

one_word : (word : List ℕ) → IsWord word → words word ≡ word ∷ []
one_word word h = ap (filter is_filled) (one_part word h.1) ∙ ap (λ t. cond t (word ∷ []) []) h.0

first_word : (word rest : List ℕ) → IsWord word → EndsWord rest → words (word ++ rest) ≡ word ∷ words rest
first_word word [] h e = ap words (append-nil word) ∙ one_word word h
first_word word (g ∷ rest) h e =
    words_around word g rest e ∙ ap (λ ws. ws ++ words rest) (one_word word h) ∙ ap (λ ws. word ∷ ws) (sym (words_around [] g rest e))

pub words_are_runs : WordsAreRuns
words_are_runs [] word rest h w e = first_word word rest w e
words_are_runs (g ∷ gaps) word rest h w e = words_around [] g (gaps ++ (word ++ rest)) h.0 ∙ words_are_runs gaps word rest h.1 w e
