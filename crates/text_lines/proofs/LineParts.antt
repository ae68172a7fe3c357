-- A text that is read line by line, or piece by piece.
use Rattle.std.proofs.Common.{◌≡◌, ◌≢◌, ℕ, zero, suc, ◌+◌, ◌-◌, ◌<◌, Bool, true, false, cond, eqb, eqb-true, ne_eqb, List, [], ◌∷◌, ◌++◌, length, take, Option, Some, None, IfSome, refl, ap, sym, ◌∙◌, subst, arith, append_assoc, length-append}
use Rattle.std.specs.List.{All, slice_get, slice_split, onto_first}
use Rattle.std.specs.Io.BufRead.{DropsThrough, take_through, drop_through}
use Rattle.std.specs.Io.KnownBytes.{IsAtEnd}
use Rattle.std.proofs.lemmas.Bool.{eqb-false}
use Rattle.std.proofs.lemmas.List.Splits.{slice_split_at}
use Rattle.text_lines.specs.Lines.{IsLineRead, IsPartRead, ended_by, ended_parts, lines, lines_of, without_return}

-- a byte is put before the first of some parts
onto_more : (x : ℕ) (ps : List (List ℕ)) (front : List ℕ) (rest : List (List ℕ)) → ps ≡ front ∷ rest → onto_first x ps ≡ (x ∷ front) ∷ rest
onto_more x ps front rest e = ap (onto_first x) e

module _ (end : ℕ) where
  abbrev parts : List ℕ → List (List ℕ)
  parts = slice_split (λ b. eqb b end)

  -- a part that the byte ends comes first
  ended_part : (text part : List ℕ) → take_through end text ≡ part ++ end ∷ [] → parts text ≡ part ∷ parts (drop_through end text)
  ended_part [] part e = absurd (let l = ap length e in omega (arith, simp length-append at l))
  ended_part (x ∷ xs) part e = go (eqb x end) refl part e (ended_part xs)
    where
      go : (t : Bool) → eqb x end ≡ t → (part : List ℕ) → cond t (x ∷ []) (x ∷ take_through end xs) ≡ part ++ end ∷ [] →
          ((part : List ℕ) → take_through end xs ≡ part ++ end ∷ [] → parts xs ≡ part ∷ parts (drop_through end xs)) →
          cond t ([] ∷ parts xs) (onto_first x (parts xs)) ≡ part ∷ parts (cond t xs (drop_through end xs))
      go true b [] h ih = refl
      go true b (y ∷ part) h ih = absurd (let l = ap length h in omega (arith, simp length-append at l))
      go false b [] h ih = let is : x ≡ end = cc in absurd (eqb-false x end b is)
      go false b (y ∷ part) h ih =
          let same : x ≡ y = cc in
          let rest : take_through end xs ≡ part ++ end ∷ [] = cc in
          onto_more x (parts xs) part (parts (drop_through end xs)) (ih part rest) ∙ ap (λ z. (z ∷ part) ∷ parts (drop_through end xs)) same

  -- what the byte does not end is the only part
  last_part : (text : List ℕ) → ((part : List ℕ) → take_through end text ≡ part ++ end ∷ [] → ⊥) →
      (parts text ≡ take_through end text ∷ []) × (drop_through end text ≡ [])
  last_part [] unended = (refl, refl)
  last_part (x ∷ xs) unended = go (eqb x end) refl unended (last_part xs)
    where
      go : (t : Bool) → eqb x end ≡ t → ((part : List ℕ) → cond t (x ∷ []) (x ∷ take_through end xs) ≡ part ++ end ∷ [] → ⊥) →
          (((part : List ℕ) → take_through end xs ≡ part ++ end ∷ [] → ⊥) → (parts xs ≡ take_through end xs ∷ []) × (drop_through end xs ≡ [])) →
          (cond t ([] ∷ parts xs) (onto_first x (parts xs)) ≡ cond t (x ∷ []) (x ∷ take_through end xs) ∷ []) × (cond t xs (drop_through end xs) ≡ [])
      go true b h ih = absurd (h [] (ap (λ z. z ∷ []) (eqb-true x end b)))
      go false b h ih =
          let rest = ih (λ part e. h (x ∷ part) (ap (λ bs. x ∷ bs) e)) in
          (onto_more x (parts xs) (take_through end xs) [] rest.0, rest.1)

  ends_not : (part : List ℕ) (k : ℕ) → length (part ++ end ∷ []) ≡ suc k → slice_get (part ++ end ∷ []) k ≡ Some end
  ends_not [] zero l = refl
  ends_not [] (suc k) l = absurd (omega arith)
  ends_not (x ∷ part) zero l = absurd (omega (arith, simp length-append at l))
  ends_not (x ∷ part) (suc k) l = ends_not part k (omega arith)

  -- what was read up to the byte or the end, where the byte is not the last one
  not_ended : (text got : List ℕ) → got ≡ take_through end text → (slice_get got (length got - 1) ≡ Some end → ⊥) →
      (part : List ℕ) → take_through end text ≡ part ++ end ∷ [] → ⊥
  not_ended text got all unended part e =
      unended (subst (λ bs. slice_get bs (length bs - 1) ≡ Some end) (sym (all ∙ e))
      (ends_not part _ (let l = length-append part (end ∷ []) in omega arith)))

  -- ---- pieces

  -- a first part before others is a piece
  first_piece : (part bs : List ℕ) → ended_parts (part ∷ parts bs) ≡ part ∷ ended_parts (parts bs)
  first_piece part [] = refl
  first_piece part (b ∷ bs) = go (eqb b end) (parts bs)
    where
      go : (t : Bool) (ps : List (List ℕ)) → ended_parts (part ∷ cond t ([] ∷ ps) (onto_first b ps))
          ≡ part ∷ ended_parts (cond t ([] ∷ ps) (onto_first b ps))
      go true ps = refl
      go false [] = refl
      go false (p ∷ ps) = refl

  -- what was read is a piece that the byte ends
  pub piece_ended : (old new : Option (List ℕ)) (empty got piece : List ℕ) → empty ≡ [] → IfSome old (λ xs. got ≡ empty ++ take_through end xs) →
      DropsThrough old new end → got ≡ piece ++ end ∷ [] → IfSome old (λ text. IsPartRead (ended_by end) true text piece new)
  piece_ended None new empty got piece z is drops e = tt
  piece_ended (Some text) new empty got piece z is drops e = (
    drop_through end text,
    drops,
    ap ended_parts (ended_part text piece (sym (is ∙ ap (λ bs. bs ++ take_through end text) z) ∙ e)) ∙ first_piece piece (drop_through end text),
  )

  -- or the last one, which the byte does not end
  pub piece_last : (old new : Option (List ℕ)) (empty got : List ℕ) → empty ≡ [] → IfSome old (λ xs. got ≡ empty ++ take_through end xs) →
      DropsThrough old new end → 0 < length got → (slice_get got (length got - 1) ≡ Some end → ⊥) →
      IfSome old (λ text. IsPartRead (ended_by end) true text got new)
  piece_last None new empty got z is drops some unended = tt
  piece_last (Some text) new empty got z is drops some unended =
      let all : got ≡ take_through end text = is ∙ ap (λ bs. bs ++ take_through end text) z in
      let alone = last_part text (not_ended text got all unended) in (
        drop_through end text,
        drops,
        ap ended_parts (alone.0 ∙ ap (λ bs. bs ∷ []) (sym all))
            ∙ ap (λ t. cond t [] (got ∷ [])) (ne_eqb (length got) 0 (λ z. omega arith))
            ∙ ap (λ bs. got ∷ ended_by end bs) (sym alone.1),
      )

  pub piece_none : (old new : Option (List ℕ)) (piece : List ℕ) → IsAtEnd old → IfSome old (λ text. IsPartRead (ended_by end) false text piece new)
  piece_none None new piece e = tt
  piece_none (Some text) new piece e = ap (ended_by end) e

-- ---- lines

-- a first part before others is a line
first_stays : (line bs : List ℕ) → lines_of (line ∷ parts 10 bs) ≡ without_return line ∷ lines_of (parts 10 bs)
first_stays line [] = refl
first_stays line (b ∷ bs) = go (eqb b 10) (parts 10 bs)
  where
    go : (t : Bool) (ps : List (List ℕ)) → lines_of (line ∷ cond t ([] ∷ ps) (onto_first b ps))
        ≡ without_return line ∷ lines_of (cond t ([] ∷ ps) (onto_first b ps))
    go true ps = refl
    go false [] = refl
    go false (p ∷ ps) = refl

-- a line that a line feed ends comes first
ended_line : (text line : List ℕ) → take_through 10 text ≡ line ++ 10 ∷ [] → lines text ≡ without_return line ∷ lines (drop_through 10 text)
ended_line text line e = ap lines_of (ended_part 10 text line e) ∙ first_stays line (drop_through 10 text)

-- the first line feed of a text that has more ends the first line
pub first_ended : (text line rest more : List ℕ) → text ≡ line ++ 10 ∷ rest → All (λ b. b ≢ 10) line →
    lines (text ++ more) ≡ without_return line ∷ lines (rest ++ more)
first_ended text line rest more e h =
    ap (λ bs. lines (bs ++ more)) e ∙ ap lines (append_assoc line (10 ∷ rest) more)
    ∙ ap lines_of (slice_split_at (λ b. eqb b 10) line 10 (rest ++ more) (λ k none less. ne_eqb _ 10 (h k none less)) refl)
    ∙ first_stays line (rest ++ more)

pub rest_is_shorter : (text line rest : List ℕ) → text ≡ line ++ 10 ∷ rest → length rest < length text
rest_is_shorter text line rest e = let l = ap length e ∙ length-append line (10 ∷ rest) in omega arith

-- the last line, which no line feed ends, comes alone
last_line : (text : List ℕ) → 0 < length (take_through 10 text) → ((line : List ℕ) → take_through 10 text ≡ line ++ 10 ∷ [] → ⊥) →
    lines text ≡ take_through 10 text ∷ lines (drop_through 10 text)
last_line text some unended =
    let alone = last_part 10 text unended in
    ap lines_of alone.0
    ∙ ap (λ t. cond t [] (take_through 10 text ∷ [])) (ne_eqb (length (take_through 10 text)) 0 (λ z. omega arith))
    ∙ ap (λ bs. take_through 10 text ∷ lines bs) (sym alone.1)

-- what ends with a byte is what is before it, and the byte
pub ends : (end : ℕ) (got : List ℕ) (k : ℕ) → slice_get got k ≡ Some end → length got ≡ suc k → got ≡ take k got ++ end ∷ []
ends end [] k e l = absurd cc
ends end (x ∷ []) zero e l = let is : x ≡ end = cc in ap (λ z. z ∷ []) is
ends end (x ∷ y ∷ xs) zero e l = absurd (omega arith)
ends end (x ∷ xs) (suc k) e l = ap (λ bs. x ∷ bs) (ends end xs k e (omega arith))

-- where there is a last byte, there are bytes
pub filled : (end : ℕ) (got : List ℕ) → slice_get got (length got - 1) ≡ Some end → 0 < length got
filled end [] e = absurd cc
filled end (x ∷ xs) e = omega arith

-- what was read is a line that a line feed ends
pub read_ended : (old new : Option (List ℕ)) (empty got line : List ℕ) → empty ≡ [] → IfSome old (λ xs. got ≡ empty ++ take_through 10 xs) →
    DropsThrough old new 10 → got ≡ line ++ 10 ∷ [] → IfSome old (λ text. IsLineRead true text (without_return line) new)
read_ended None new empty got line z is drops e = tt
read_ended (Some text) new empty got line z is drops e =
    (drop_through 10 text, drops, ended_line text line (sym (is ∙ ap (λ bs. bs ++ take_through 10 text) z) ∙ e))

-- ---- carriage returns

-- a line that a carriage return ends
pub return_dropped : (line : List ℕ) → without_return (line ++ 13 ∷ []) ≡ line
return_dropped [] = refl
return_dropped (x ∷ []) = refl
return_dropped (x ∷ y ∷ line) = ap (λ bs. x ∷ bs) (return_dropped (y ∷ line))

-- and one that none ends
pub return_absent : (line : List ℕ) → (slice_get line (length line - 1) ≡ Some 13 → ⊥) → without_return line ≡ line
return_absent [] h = refl
return_absent (x ∷ []) h = ap (λ t. cond t [] (x ∷ [])) (ne_eqb x 13 (λ is. h (ap Some is)))
return_absent (x ∷ y ∷ line) h = ap (λ bs. x ∷ bs) (return_absent (y ∷ line) (λ is. h (later x (y ∷ line) is)))
  where
    later : (x : ℕ) (line : List ℕ) → slice_get line (length line - 1) ≡ Some 13 → slice_get (x ∷ line) (length (x ∷ line) - 1) ≡ Some 13
    later x [] e = absurd cc
    later x (y ∷ line) e = let k : length (x ∷ y ∷ line) - 1 ≡ suc (length (y ∷ line) - 1) = omega arith in ap (slice_get (x ∷ y ∷ line)) k ∙ e

-- a line whose last byte is one
pub return_trimmed : (line : List ℕ) → slice_get line (length line - 1) ≡ Some 13 → take (length line - 1) line ≡ without_return line
return_trimmed line last =
    let some = filled 13 line last in
    sym (ap without_return (ends 13 line (length line - 1) last (omega arith)) ∙ return_dropped (take (length line - 1) line))

-- or the last one, which none ends
pub read_last : (old new : Option (List ℕ)) (empty got : List ℕ) → empty ≡ [] → IfSome old (λ xs. got ≡ empty ++ take_through 10 xs) →
    DropsThrough old new 10 → 0 < length got → (slice_get got (length got - 1) ≡ Some 10 → ⊥) → IfSome old (λ text. IsLineRead true text got new)
read_last None new empty got z is drops some unended = tt
read_last (Some text) new empty got z is drops some unended =
    let all : got ≡ take_through 10 text = is ∙ ap (λ bs. bs ++ take_through 10 text) z in (
      drop_through 10 text,
      drops,
      last_line text (subst (λ bs. 0 < length bs) all some)
          (not_ended 10 text got all unended)
          ∙ ap (λ bs. bs ∷ lines (drop_through 10 text)) (sym all),
    )

pub read_none : (old new : Option (List ℕ)) (line : List ℕ) → IsAtEnd old → IfSome old (λ text. IsLineRead false text line new)
read_none None new line e = tt
read_none (Some text) new line e = ap lines e

-- the same, for what is known of the result
pub part_read_as : (parts : List ℕ → List (List ℕ)) (old new : Option (List ℕ)) (part : List ℕ) (m n : Bool) → m ≡ n →
    IfSome old (λ text. IsPartRead parts m text part new) → IfSome old (λ text. IsPartRead parts n text part new)
part_read_as parts old new part m n e h = subst (λ t. IfSome old (λ text. IsPartRead parts t text part new)) e h

pub read_as : (old new : Option (List ℕ)) (line : List ℕ) (m n : Bool) → m ≡ n → IfSome old (λ text. IsLineRead m text line new) →
    IfSome old (λ text. IsLineRead n text line new)
read_as = part_read_as lines

-- where some bytes were read, there are some
pub some_read : (n old new : ℕ) {seen : ℕ} (got : List ℕ) → seen ≡ length got → seen ≡ new → new ≡ old + n → (n ≡ 0 → ⊥) → 0 < length got
some_read n old new got a b c d = omega arith
