-- A table of codes that is read line by line.
use Rattle.std.proofs.Common.{◌≡◌, ◌≢◌, ℕ, true, false, ◌&&◌, eqb, eqb-true, List, [], ◌∷◌, ◌++◌, map, Result, Ok, Err, IfErr, OnErr, OnOk, refl, ap, sym, ◌∙◌, subst, ◌⊎◌, inl, inr}
use Rattle.std.specs.List.{AllByRecursion as Each, list_any}
use Rattle.std.specs.List.Sorted.{IsPermutation}
use Rattle.std.proofs.lemmas.Bool.{and_parts, false≢true, or_cases, or_parts}
use Rattle.std.proofs.lemmas.List.{map-append}
use Rattle.std.proofs.lemmas.List.Sorted.{IsPermutation-map, IsPermutation-push_more}
use Rattle.std.proofs.lemmas.List.Sorted.{list_any-IsPermutation}
use Rattle.art_parts.specs.Keys.{are_same}
use Rattle.art_model.proofs.keys.Keys.{front_same, same_equal}
use Rattle.art_model.proofs.lists.Lists.{Each-append}
use Rattle.art_model.proofs.lists.Pairwises.{Pairwise-append}
use Rattle.text_programs.specs.declared.dial_codes.table.LineError.{LineError}
use Rattle.text_programs.specs.declared.dial_codes.table.LineError.TheVariants.{NoEntry, Repeated, NoMemory}
use Rattle.text_programs.specs.declared.dial_codes.table.Named.{Named}
use Rattle.text_programs.specs.Entries.{entries_of, is_code}
use Rattle.text_programs.specs.CodeRows.{HasLine, IsFaultBeside, entry_of_row, numbered_line, rows_of}
use Rattle.text_programs.specs.CodeTables.{IsCodeFault, IsFaultOf, IsFilledBy, IsRepeatedAt, IsTableOf}

-- no row has this code
own_code : (new : List ℕ × List ℕ × ℕ) (rows : List (List ℕ × List ℕ × ℕ)) →
    list_any (λ row. are_same new.0 row.0) rows ≡ false → Each (λ x. Each (λ y. x.0 ≢ y.0) (new ∷ [])) rows
own_code new [] h = tt
own_code new (x ∷ rows) h =
    let parts = or_parts (are_same new.0 x.0) (list_any (λ row. are_same new.0 row.0) rows) h in (
      (λ same. false≢true (sym parts.0 ∙ ap (are_same new.0) same ∙ front_same new.0), tt),
      own_code new rows parts.1,
    )

-- with the entry of one more line
pub one_entry_more : (table others : List (List ℕ × List ℕ × ℕ)) (number : ℕ) (line : List ℕ) → HasLine line number table others →
    (before : List (ℕ × List ℕ)) → IsFilledBy table before → IsFilledBy others (before ++ (number, line) ∷ [])
one_entry_more table others number line has before h =
    let row : List ℕ × List ℕ × ℕ = (has.entry.0, has.entry.1, number) in
    record {
      rows = h.rows ++ row ∷ [];
      lines_are = record {
        are = ap (λ ls. ls ++ (number, line) ∷ []) h.lines_are.are ∙ ap (λ l. map numbered_line h.rows ++ (number, l) ∷ []) has.is
            ∙ sym (map-append numbered_line h.rows (row ∷ []));
        codes = Each-append (λ row. is_code row.0 ≡ true) h.rows (row ∷ []) h.lines_are.codes (has.code, tt);
      };
      differ = Pairwise-append (λ x y. x.0 ≢ y.0) h.rows (row ∷ []) h.differ (tt, tt)
          (own_code row h.rows (list_any-IsPermutation (λ r. are_same has.entry.0 r.0) h.rows table h.same ∙ has.unused));
      same = IsPermutation-push_more h.rows table others row h.same has.came;
    }

-- rows, without their numbers
unnumbered : (pairs : List (List ℕ × Named)) → map entry_of_row (rows_of pairs) ≡ entries_of pairs
unnumbered [] = refl
unnumbered (x ∷ xs) = ap (λ es. (x.0, x.1.name.items) ∷ es) (unnumbered xs)

pub table_is : (pairs : List (List ℕ × Named)) (ls : List (ℕ × List ℕ)) → IsFilledBy (rows_of pairs) ls → IsTableOf ls (entries_of pairs)
table_is pairs ls h = record {
  rows = h.rows;
  lines_are = h.lines_are;
  same = subst (IsPermutation (map entry_of_row h.rows)) (unnumbered pairs) (IsPermutation-map entry_of_row _ _ h.same);
}

-- the row of this number with this code
repeated_at : (code : List ℕ) (n : ℕ) (rows : List (List ℕ × List ℕ × ℕ)) → list_any (λ row. are_same code row.0 && eqb row.2 n) rows ≡ true →
    IsRepeatedAt code n rows
repeated_at code n [] h = absurd (false≢true h)
repeated_at code n (row ∷ rows) h = go (or_cases _ _ h) (repeated_at code n rows)
  where
    go : ((are_same code row.0 && eqb row.2 n) ≡ true) ⊎ (list_any (λ row. are_same code row.0 && eqb row.2 n) rows ≡ true) →
        (list_any (λ row. are_same code row.0 && eqb row.2 n) rows ≡ true → IsRepeatedAt code n rows) → IsRepeatedAt code n (row ∷ rows)
    go (inl both) ih =
        let parts = and_parts (are_same code row.0) (eqb row.2 n) both in
        record { earlier = row; there = inl refl; number_is = eqb-true row.2 n parts.1; same = sym (same_equal code row.0 parts.0) }
    go (inr more) ih =
        let rest = ih more in
        record { earlier = rest.earlier; there = inr rest.there; number_is = rest.number_is; same = rest.same }

-- a fault next to the rows of a table is one after its lines
fault_is : (line : List ℕ) (rows table : List (List ℕ × List ℕ × ℕ)) (fault : LineError) → IsPermutation rows table →
    IsFaultBeside line table fault → IsFaultOf line rows fault
fault_is line rows table NoEntry same h = h
fault_is line rows table (Repeated n) same (code, name, is, any) =
    (code, name, is, repeated_at code n rows (list_any-IsPermutation (λ row. are_same code row.0 && eqb row.2 n) rows table same ∙ any))
fault_is line rows table NoMemory same h = tt

pub code_fault : (table : List (List ℕ × List ℕ × ℕ)) (line : List ℕ) (fault : LineError) → IsFaultBeside line table fault →
    (before : List (ℕ × List ℕ)) → IsFilledBy table before → IsCodeFault before line fault
code_fault table line fault is before h = (h.rows, h.lines_are, h.differ, fault_is line h.rows table fault h.same is)

-- ---- what follows from a success or a failure

pub on_ok : {A E P Q : Type 0} (r : Result A E) → (P → Q) → OnOk r P → OnOk r Q
on_ok (Ok x) more h = more h
on_ok (Err e) more h = tt

pub on_err : {A E P Q : Type 0} (r : Result A E) → (P → Q) → OnErr r P → OnErr r Q
on_err (Ok x) more h = tt
on_err (Err e) more h = more h

pub if_err : {A E : Type 0} {P Q : E → Type 0} (r : Result A E) → ((e : E) → P e → Q e) → IfErr r P → IfErr r Q
if_err (Ok x) more h = tt
if_err (Err e) more h = more e h
