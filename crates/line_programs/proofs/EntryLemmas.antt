-- The entries of lines that are read one after another.
use Rattle.std.proofs.Common.{◌≡◌, ℕ, ◌+◌, cond, ne_eqb, List, [], ◌∷◌, ◌++◌, length, Option, Some, None, refl, ap, sym, ◌∙◌, subst, arith}
use Rattle.std.specs.Str.{IsTrimAscii}
use Rattle.std.proofs.lemmas.Str.Ascii.{trim_ascii_is}
use Rattle.std.specs.List.{slice_get}
use Rattle.line_programs.specs.Entries.{entries, trimmed, trimmed_entry, unless_comment, with_entry}

-- what is left of a line without white space
pub trimmed_is : (line rest : List ℕ) → IsTrimAscii line rest → rest ≡ trimmed line
trimmed_is line rest h = trim_ascii_is line rest _ refl h

-- entries of lines, and then those of more
pub entries-append : (entry_of : List ℕ → Option (List ℕ)) (n : ℕ) (before after : List (List ℕ)) →
    entries entry_of n (before ++ after) ≡ entries entry_of n before ++ entries entry_of (n + length before) after
entries-append entry_of n [] after = let k : n ≡ n + 0 = omega arith in ap (λ m. entries entry_of m after) k
entries-append entry_of n (line ∷ before) after =
    let k : n + 1 + length before ≡ n + length (line ∷ before) = omega arith in
    ap (with_entry n (entry_of line)) (entries-append entry_of (n + 1) before after
    ∙ ap (λ m. entries entry_of (n + 1) before ++ entries entry_of m after) k)
    ∙ onto n (entry_of line) (entries entry_of (n + 1) before) _
  where
    onto : (n : ℕ) (e : Option (List ℕ)) (xs ys : List (ℕ × List ℕ)) → with_entry n e (xs ++ ys) ≡ with_entry n e xs ++ ys
    onto n None xs ys = refl
    onto n (Some e) xs ys = refl

-- a blank line has no entry
pub blank : (line rest : List ℕ) → IsTrimAscii line rest → None ≡ slice_get rest 0 → None ≡ trimmed_entry line
blank line rest h none = go rest none ∙ ap unless_comment (trimmed_is line rest h)
  where
    go : (rest : List ℕ) → None ≡ slice_get rest 0 → None ≡ unless_comment rest
    go [] e = refl
    go (b ∷ bs) e = absurd cc

-- nor has a comment
pub comment : (line rest : List ℕ) (first : ℕ) → IsTrimAscii line rest → Some first ≡ slice_get rest 0 → first ≡ 35 → None ≡ trimmed_entry line
comment line rest first h some is = go rest some ∙ ap unless_comment (trimmed_is line rest h)
  where
    go : (rest : List ℕ) → Some first ≡ slice_get rest 0 → None ≡ unless_comment rest
    go [] e = absurd cc
    go (b ∷ bs) e = let same : b ≡ 35 = cc in subst (λ c. None ≡ unless_comment (c ∷ bs)) (sym same) refl

-- another line has one
pub an_entry : (line rest : List ℕ) (first : ℕ) → IsTrimAscii line rest → Some first ≡ slice_get rest 0 → (first ≡ 35 → ⊥) → Some rest ≡ trimmed_entry line
an_entry line rest first h some other = go rest some ∙ ap unless_comment (trimmed_is line rest h)
  where
    go : (rest : List ℕ) → Some first ≡ slice_get rest 0 → Some rest ≡ unless_comment rest
    go [] e = absurd cc
    go (b ∷ bs) e =
        let same : first ≡ b = cc in
        ap (λ t. cond t None (Some (b ∷ bs))) (sym (ne_eqb b 35 (λ is. other (same ∙ is))))
