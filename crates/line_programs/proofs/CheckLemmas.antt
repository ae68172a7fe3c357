-- The entries of a table that are tried one after another.
use Rattle.std.proofs.Common.{◌≡◌, ℕ, ◌+◌, Bool, true, false, ◌&&◌, List, [], ◌∷◌, ◌++◌, length, Option, Some, None, IfSome, refl, ap, ap₂, sym, ◌∙◌, subst, arith, append-nil, append_assoc}
use Rattle.std.specs.Io.KnownBytes.{Appends}
use Rattle.std.proofs.lemmas.List.{map-append}
use Rattle.text_lines.proofs.Writing.{appends_more, appends_none}
use Rattle.line_programs.specs.declared.messages.Place.{Place}
use Rattle.line_programs.specs.Checked.{AreChecked, AreTried, IsEnded, TableIsChecked, Tried, added_to, all_fine, fault_message, fault_messages, is_fine, onto}
use Rattle.line_programs.specs.Entries.{entries, with_entry}
use Rattle.line_programs.specs.Messages.{message}
use Rattle.line_programs.proofs.EntryLemmas.{entries-append}

-- what is so of a text that is known
pub by_text : (P : List ℕ → Type 0) (o : Option (List ℕ)) (text : List ℕ) → o ≡ Some text → IfSome o P → P text
by_text P o text e h = subst (λ (o : Option (List ℕ)). IfSome o P) e h

all_of_three : (a b c : Bool) → (a && (b && c)) ≡ ((a && b) && c)
all_of_three true b c = refl
all_of_three false b c = refl

module _ {Fault : Type 0} (IsFault : List (ℕ × List ℕ) → List ℕ → Fault → Type 0) (output : Fault → Option (List ℕ)) (place : Place) where
  -- ---- a line

  pub line_added : (Has : List (ℕ × List ℕ) → Type 0) (before : List (ℕ × List ℕ)) (number : ℕ) (entry : List ℕ) (o : Option (List ℕ)) → Some entry ≡ o →
      Has (before ++ (number, entry) ∷ []) → (old : Option (List ℕ)) → AreChecked IsFault output place Has before (with_entry number o []) true old old
  line_added Has before number entry o e h old = subst (λ o. AreChecked IsFault output place Has before (with_entry number o []) true old old) e (record {
    tried = record { number = number; entry = entry; fault = None } ∷ [];
    entries_are = refl;
    are = (tt, tt);
    has = h;
    whole_is = refl;
    told = λ text texts. appends_none old;
  })

  pub line_refused : (Has : List (ℕ × List ℕ) → Type 0) (before : List (ℕ × List ℕ)) (number : ℕ) (entry : List ℕ) (o : Option (List ℕ)) → Some entry ≡ o →
      (fault : Fault) → IsFault before entry fault → Has before → (old new : Option (List ℕ)) →
      IfSome (output fault) (λ text. Appends old new (message place number text entry)) →
      AreChecked IsFault output place Has before (with_entry number o []) false old new
  line_refused Has before number entry o e fault is h old new written = subst (λ o. AreChecked IsFault output place Has before (with_entry number o []) false old new) e (record {
    tried = record { number = number; entry = entry; fault = Some fault } ∷ [];
    entries_are = refl;
    are = (is, tt);
    has = h;
    whole_is = refl;
    told = λ text texts. subst (Appends old new) (sym (append-nil (message place number (text fault) entry)))
        (by_text (λ t. Appends old new (message place number t entry)) (output fault) (text fault) (texts fault) written);
  })

  -- ---- more lines

  tried_more : (before : List (ℕ × List ℕ)) (xs ys : List (Tried Fault)) → AreTried IsFault before xs → AreTried IsFault (added_to before xs) ys →
      AreTried IsFault before (xs ++ ys)
  tried_more before [] ys h k = k
  tried_more before (x ∷ xs) ys h k = (h.0, tried_more (onto before (x.number, x.entry) x.fault) xs ys h.1 k)

  added_more : (before : List (ℕ × List ℕ)) (xs ys : List (Tried Fault)) → added_to (added_to before xs) ys ≡ added_to before (xs ++ ys)
  added_more before [] ys = refl
  added_more before (x ∷ xs) ys = added_more (onto before (x.number, x.entry) x.fault) xs ys

  fine_more : (xs ys : List (Tried Fault)) → all_fine (xs ++ ys) ≡ (all_fine xs && all_fine ys)
  fine_more [] ys = refl
  fine_more (x ∷ xs) ys = ap (λ t. is_fine x.fault && t) (fine_more xs ys) ∙ all_of_three (is_fine x.fault) (all_fine xs) (all_fine ys)

  messages_more : (text : Fault → List ℕ) (xs ys : List (Tried Fault)) →
      fault_messages place text (xs ++ ys) ≡ fault_messages place text xs ++ fault_messages place text ys
  messages_more text [] ys = refl
  messages_more text (x ∷ xs) ys =
      ap (λ bs. fault_message place text x.number x.entry x.fault ++ bs) (messages_more text xs ys)
      ∙ sym (append_assoc (fault_message place text x.number x.entry x.fault) (fault_messages place text xs) (fault_messages place text ys))

  pub checked_none : (Has : List (ℕ × List ℕ) → Type 0) (old : Option (List ℕ)) → Has [] → AreChecked IsFault output place Has [] [] true old old
  checked_none Has old h = record {
    tried = [];
    entries_are = refl;
    are = tt;
    has = h;
    whole_is = refl;
    told = λ text texts. appends_none old;
  }

  pub checked_more : (Has Then : List (ℕ × List ℕ) → Type 0) (es others : List (ℕ × List ℕ)) (whole fine all : Bool) (old now new : Option (List ℕ)) →
      AreChecked IsFault output place Has [] es whole old now →
      ((before : List (ℕ × List ℕ)) → Has before → AreChecked IsFault output place Then before others fine now new) → all ≡ (whole && fine) →
      AreChecked IsFault output place Then [] (es ++ others) all old new
  checked_more Has Then es others whole fine all old now new h then e =
      let k = then (added_to [] h.tried) h.has in
      record {
        tried = h.tried ++ k.tried;
        entries_are = ap₂ (λ xs ys. xs ++ ys) h.entries_are k.entries_are ∙ sym (map-append (λ t. (t.number, t.entry)) h.tried k.tried);
        are = tried_more [] h.tried k.tried h.are k.are;
        has = subst Then (added_more [] h.tried k.tried) k.has;
        whole_is = e ∙ ap₂ (λ a b. a && b) h.whole_is k.whole_is ∙ sym (fine_more h.tried k.tried);
        told = λ text texts. subst (Appends old new) (sym (messages_more text h.tried k.tried))
            (appends_more old now new _ _ (h.told text texts) (k.told text texts));
      }

  -- the line of this number follows those before it
  pub checked_line : (entry_of : List ℕ → Option (List ℕ)) (Has Then : List (ℕ × List ℕ) → Type 0) (number : ℕ) (line seen : List ℕ) → seen ≡ line →
      (whole fine all : Bool) (old now new : Option (List ℕ)) →
      ((before : List (ℕ × List ℕ)) → Has before → AreChecked IsFault output place Then before (entries entry_of number (seen ∷ [])) fine now new) →
      all ≡ (whole && fine) → (before : List (List ℕ)) → number ≡ length before + 1 →
      AreChecked IsFault output place Has [] (entries entry_of 1 before) whole old now →
      AreChecked IsFault output place Then [] (entries entry_of 1 (before ++ line ∷ [])) all old new
  checked_line entry_of Has Then number line seen e whole fine all old now new then e_all before n h =
      let k : number ≡ 1 + length before = omega arith in
      subst (λ es. AreChecked IsFault output place Then [] es all old new)
      (ap (λ l. entries entry_of 1 before ++ entries entry_of number (l ∷ [])) e
      ∙ ap (λ m. entries entry_of 1 before ++ entries entry_of m (line ∷ [])) k
      ∙ sym (entries-append entry_of 1 before (line ∷ [])))
      (checked_more Has Then (entries entry_of 1 before) (entries entry_of number (seen ∷ [])) whole fine all old now new h then e_all)

  -- ---- the end

  pub table_checked : (IsOutOfMemory : Fault → Type 0) (Has IsRead IsTable : List (ℕ × List ℕ) → Type 0) (es : List (ℕ × List ℕ))
      (whole fine all : Bool) (old now new : Option (List ℕ)) → AreChecked IsFault output place Has [] es whole old now →
      ((added : List (ℕ × List ℕ)) → Has added → IsEnded IsFault IsOutOfMemory output place IsRead added fine now new) → all ≡ (whole && fine) →
      ((added : List (ℕ × List ℕ)) → IsRead added → IsTable added) →
      TableIsChecked IsFault IsOutOfMemory output place IsTable es all old new
  table_checked IsOutOfMemory Has IsRead IsTable es whole fine all old now new h then e is =
      go fine e (then (added_to [] h.tried) h.has)
    where
      go : (t : Bool) → all ≡ (whole && t) → IsEnded IsFault IsOutOfMemory output place IsRead (added_to [] h.tried) t now new →
          TableIsChecked IsFault IsOutOfMemory output place IsTable es all old new
      go true e ended = record {
        tried = h.tried;
        last = None;
        entries_are = h.entries_are;
        are = h.are;
        last_is = tt;
        table = λ none. is (added_to [] h.tried) ended.0;
        whole_is = e ∙ ap (λ b. b && true) h.whole_is;
        told = λ text texts. subst (λ (n : Option (List ℕ)). Appends old n (fault_messages place text h.tried ++ [])) (sym ended.1)
            (subst (Appends old now) (sym (append-nil (fault_messages place text h.tried))) (h.told text texts));
      }
      go false e (refused, is_fault, written) = record {
        tried = h.tried;
        last = Some refused;
        entries_are = h.entries_are;
        are = h.are;
        last_is = is_fault;
        table = λ none. absurd cc;
        whole_is = e ∙ ap (λ b. b && false) h.whole_is;
        told = λ text texts. appends_more old now new _ _ (h.told text texts) (written text texts);
      }
