-- A table that is read line by line.
use Rattle.std.proofs.Common.{◌≡◌, ℕ, ◌+◌, List, [], ◌∷◌, ◌++◌, length, Option, Some, None, refl, ap, sym, ◌∙◌, subst, arith}
use Rattle.line_programs.specs.Entries.{entries, with_entry}
use Rattle.line_programs.specs.LineTables.{IsFaultIn, IsFaultOf, IsSoOf}
use Rattle.line_programs.proofs.EntryLemmas.{entries-append}

module _ (entry_of : List ℕ → Option (List ℕ)) where
  -- the entry of one more line was added to those of the lines before it
  pub one_line_more : (Has Then : List (ℕ × List ℕ) → Type 0) (number : ℕ) (line seen : List ℕ) → seen ≡ line →
      ((added : List (ℕ × List ℕ)) → Has added → Then (added ++ entries entry_of number (seen ∷ []))) →
      (before : List (List ℕ)) → number ≡ length before + 1 → Has (entries entry_of 1 before) → Then (entries entry_of 1 (before ++ line ∷ []))
  one_line_more Has Then number line seen e more before n h =
      let k : number ≡ 1 + length before = omega arith in
      subst Then (ap (λ l. entries entry_of 1 before ++ entries entry_of number (l ∷ [])) e
      ∙ ap (λ m. entries entry_of 1 before ++ entries entry_of m (line ∷ [])) k
      ∙ sym (entries-append entry_of 1 before (line ∷ [])))
      (more (entries entry_of 1 before) h)

  -- the entry of a line has a fault after those of the lines before it
  pub refused_at : {Fault : Type 0} (Has : List (ℕ × List ℕ) → Type 0) (IsFault : List (ℕ × List ℕ) → List ℕ → Fault → Type 0)
      (IsOutOfMemory : Fault → Type 0) (number : ℕ) (line seen : List ℕ) (fault : Fault) → seen ≡ line →
      ((added : List (ℕ × List ℕ)) → Has added → IsFaultOf IsFault added (entry_of seen) fault) →
      (before after : List (List ℕ)) → number ≡ length before + 1 → Has (entries entry_of 1 before) →
      IsFaultIn IsFault IsOutOfMemory (entries entry_of 1 (before ++ line ∷ after)) (number, fault)
  refused_at IsFault' IsFault IsOutOfMemory number line seen fault e is before after n h = λ memory. go (entry_of line) refl
      (subst (λ l. IsFaultOf IsFault (entries entry_of 1 before) (entry_of l) fault) e (is (entries entry_of 1 before) h))
    where
      go : (o : Option (List ℕ)) → entry_of line ≡ o → IsFaultOf IsFault (entries entry_of 1 before) o fault →
          IsSoOf (λ bs entry. IsFault bs entry fault) (entries entry_of 1 (before ++ line ∷ after)) number
      go None same faulty = absurd faulty
      go (Some entry) same faulty =
          let k : 1 + length before ≡ number = omega arith in
          record {
            before = entries entry_of 1 before;
            entry = entry;
            after = entries entry_of (number + 1) after;
            entries_are = entries-append entry_of 1 before (line ∷ after)
                ∙ ap (λ m. entries entry_of 1 before ++ entries entry_of m (line ∷ after)) k
                ∙ ap (λ o. entries entry_of 1 before ++ with_entry number o (entries entry_of (number + 1) after)) same;
            is = faulty;
          }
