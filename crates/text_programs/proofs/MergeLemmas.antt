-- A text of counts that are added line by line.
use Rattle.std.proofs.Common.{◌≡◌, ◌≢◌, ℕ, ◌+◌, List, [], ◌∷◌, ◌++◌, length, Option, Some, None, IfSome, refl, ap, ap₂, sym, ◌∙◌, subst, arith, append_assoc, append-nil}
use Rattle.std.specs.Prelude.{⊤}
use Rattle.std.proofs.lemmas.List.{length-map, map-append}
use Rattle.art_model.proofs.lists.Lists.{Each-append}
use Rattle.text_programs.specs.Merged.{AreAdded}
use Rattle.text_programs.specs.Rows.{IsBadRow, IsCount, row_of}
use Rattle.text_programs.specs.Sums.{HasSums, OutputsAreRows, RowsAreDetermined}
use Rattle.text_programs.proofs.CountRows.{rows_determined, written_rows}
use Rattle.text_programs.proofs.SumLemmas.{counts_are}

pub none_added : (counts : List (List ℕ × ℕ)) → AreAdded counts counts []
none_added counts = ([], (refl, tt), (λ before h. subst (λ xs. HasSums xs counts) (sym (append-nil before)) h))

module _ (number : ℕ) (old now : List (List ℕ × ℕ)) (line seen : List ℕ) (same : seen ≡ line) where
  -- with the count of one more line
  pub one_count_more : (next : List (List ℕ × ℕ)) (count : List ℕ × ℕ) → IsCount count → seen ≡ row_of count →
      ((before : List (List ℕ × ℕ)) → HasSums before now → HasSums (before ++ count ∷ []) next) →
      (ls : List (List ℕ)) → number ≡ length ls + 1 → AreAdded old now ls → AreAdded old next (ls ++ line ∷ [])
  one_count_more next count is row more ls n h = (
    h.0 ++ count ∷ [],
    (
      ap₂ (λ ks ls. ks ++ ls) h.1.0 (ap (λ l. l ∷ []) (sym same ∙ row)) ∙ sym (map-append row_of h.0 (count ∷ [])),
      Each-append IsCount h.0 (count ∷ []) h.1.1 (is, tt),
    ),
    (λ before k. subst (λ xs. HasSums xs next) (append_assoc before h.0 (count ∷ [])) (more (before ++ h.0) (h.2 before k))),
  )

  -- this line is that of no count
  pub line_is_bad : ((count : List ℕ × ℕ) → IsCount count → seen ≢ row_of count) → (before after : List (List ℕ)) → number ≡ length before + 1 →
      AreAdded old now before → IsBadRow number line (before ++ line ∷ after)
  line_is_bad none before after n h =
      let count = ap length h.1.0 ∙ length-map h.0 row_of in
      (h.0, after, ap (λ ls. ls ++ line ∷ after) h.1.0, h.1.1, (λ count is row. none count is (same ∙ row)), n ∙ ap (λ k. k + 1) count)

-- of an input that can't be read nothing is told
pub nothing_told : (text : Option (List ℕ)) → IfSome text (λ bs. ⊤)
nothing_told None = tt
nothing_told (Some bs) = tt

pub outputs_are_rows : OutputsAreRows
outputs_are_rows text counts h = let all = counts_are text counts h in (written_rows counts all, all)

pub rows_are_determined : RowsAreDetermined
rows_are_determined ls counts others h k = rows_determined counts others h.1 k.1 (sym h.0 ∙ k.0)
