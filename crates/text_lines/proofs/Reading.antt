-- A text that a loop reads part by part: its invariant, and how that begins, continues, ends and stops.
use Rattle.std.proofs.Common.{◌≡◌, ℕ, ◌+◌, true, false, List, [], ◌∷◌, ◌++◌, length, Option, Some, None, IfSome, refl, ap, sym, ◌∙◌, subst, arith, append_assoc, append-nil, length-append}
use Rattle.text_lines.specs.Lines.{IsLineRead, IsPartRead, lines}

module _ (parts : List ℕ → List (List ℕ)) where
  -- This is so of the parts that were read, the next one has this number, and the others are left.
  pub record ArePartsReadTo (Holds : List (List ℕ) → Type 0) (text : List ℕ) (left : Option (List ℕ)) (number : ℕ) : Type 0 where
    pub before : List (List ℕ)
    pub rest : List ℕ
    pub left_is : left ≡ Some rest
    pub parts_are : parts text ≡ before ++ parts rest
    pub number_is : number ≡ length before + 1
    pub holds : Holds before

  part_is_read : (left : Option (List ℕ)) (rest part : List ℕ) (next : Option (List ℕ)) → left ≡ Some rest →
      IfSome left (λ bs. IsPartRead parts true bs part next) → IsPartRead parts true rest part next
  part_is_read left rest part next e h = subst (λ (o : Option (List ℕ)). IfSome o (λ bs. IsPartRead parts true bs part next)) e h

  -- before the first part
  pub parts_begin : (Holds : List (List ℕ) → Type 0) (text : Option (List ℕ)) → Holds [] → IfSome text (λ bs. ArePartsReadTo Holds bs text 1)
  parts_begin Holds None h = tt
  parts_begin Holds (Some bs) h = record {
    before = [];
    rest = bs;
    left_is = refl;
    parts_are = refl;
    number_is = refl;
    holds = h;
  }

  -- after one more part
  pub parts_go_on : (Holds Then : List (List ℕ) → Type 0) (text left next : Option (List ℕ)) (number : ℕ) (part : List ℕ) →
      IfSome text (λ bs. ArePartsReadTo Holds bs left number) →
      IfSome left (λ bs. IsPartRead parts true bs part next) →
      ((before : List (List ℕ)) → number ≡ length before + 1 → Holds before → Then (before ++ part ∷ [])) →
      IfSome text (λ bs. ArePartsReadTo Then bs next (number + 1))
  parts_go_on Holds Then None left next number part h read more = tt
  parts_go_on Holds Then (Some bs) left next number part h read more =
      let after = part_is_read left h.rest part next h.left_is read in
      record {
        before = h.before ++ part ∷ [];
        rest = after.0;
        left_is = after.1;
        parts_are = h.parts_are ∙ ap (λ ls. h.before ++ ls) after.2 ∙ sym (append_assoc h.before (part ∷ []) (parts after.0));
        number_is = let n = h.number_is in let l = length-append h.before (part ∷ []) in omega arith;
        holds = more h.before h.number_is h.holds;
      }

  -- where there is no further part
  pub parts_end : (Holds All : List (List ℕ) → Type 0) (text left next : Option (List ℕ)) (number : ℕ) (part : List ℕ) →
      IfSome text (λ bs. ArePartsReadTo Holds bs left number) →
      IfSome left (λ bs. IsPartRead parts false bs part next) → ((ls : List (List ℕ)) → Holds ls → All ls) → IfSome text (λ bs. All (parts bs))
  parts_end Holds All None left next number part h read all = tt
  parts_end Holds All (Some bs) left next number part h read all =
      let none : parts h.rest ≡ [] = subst (λ (o : Option (List ℕ)). IfSome o (λ bs. IsPartRead parts false bs part next)) h.left_is read in
      subst All (sym (h.parts_are ∙ ap (λ ls. h.before ++ ls) none ∙ append-nil h.before)) (all h.before h.holds)

  -- at a part after which none is read
  pub parts_stop : (Holds All : List (List ℕ) → Type 0) (text left next : Option (List ℕ)) (number : ℕ) (part : List ℕ) →
      IfSome text (λ bs. ArePartsReadTo Holds bs left number) →
      IfSome left (λ bs. IsPartRead parts true bs part next) →
      ((before after : List (List ℕ)) → number ≡ length before + 1 → Holds before → All (before ++ part ∷ after)) →
      IfSome text (λ bs. All (parts bs))
  parts_stop Holds All None left next number part h read all = tt
  parts_stop Holds All (Some bs) left next number part h read all =
      let after = part_is_read left h.rest part next h.left_is read in
      subst All (sym (h.parts_are ∙ ap (λ ls. h.before ++ ls) after.2)) (all h.before (parts after.0) h.number_is h.holds)

-- ---- a text that is read line by line

abbrev pub IsReadTo : (List (List ℕ) → Type 0) → List ℕ → Option (List ℕ) → ℕ → Type 0
IsReadTo = ArePartsReadTo lines

-- before the first line
pub begins : (Holds : List (List ℕ) → Type 0) (text : Option (List ℕ)) → Holds [] → IfSome text (λ bs. IsReadTo Holds bs text 1)
begins = parts_begin lines

-- after one more line
pub goes_on : (Holds Then : List (List ℕ) → Type 0) (text left next : Option (List ℕ)) (number : ℕ) (line : List ℕ) →
    IfSome text (λ bs. IsReadTo Holds bs left number) →
    IfSome left (λ bs. IsLineRead true bs line next) →
    ((before : List (List ℕ)) → number ≡ length before + 1 → Holds before → Then (before ++ line ∷ [])) →
    IfSome text (λ bs. IsReadTo Then bs next (number + 1))
goes_on = parts_go_on lines

-- where there is no further line
pub ends : (Holds All : List (List ℕ) → Type 0) (text left next : Option (List ℕ)) (number : ℕ) (line : List ℕ) →
    IfSome text (λ bs. IsReadTo Holds bs left number) →
    IfSome left (λ bs. IsLineRead false bs line next) → ((ls : List (List ℕ)) → Holds ls → All ls) → IfSome text (λ bs. All (lines bs))
ends = parts_end lines

-- at a line after which none is read
pub stops : (Holds All : List (List ℕ) → Type 0) (text left next : Option (List ℕ)) (number : ℕ) (line : List ℕ) →
    IfSome text (λ bs. IsReadTo Holds bs left number) →
    IfSome left (λ bs. IsLineRead true bs line next) →
    ((before after : List (List ℕ)) → number ≡ length before + 1 → Holds before → All (before ++ line ∷ after)) →
    IfSome text (λ bs. All (lines bs))
stops = parts_stop lines
