-- Bytes that are appended one after another.
use Rattle.std.proofs.Common.{◌≡◌, ℕ, List, [], ◌∷◌, ◌++◌, flat_map, Option, Some, None, refl, ap, sym, ◌∙◌, subst, append_assoc, append-nil}
use Rattle.std.specs.Io.KnownBytes.{Appends, Keeps}
use Rattle.std.proofs.lemmas.List.Concat.{flat_map-append}

pub keeps_itself : (known : Option (List ℕ)) → Keeps known known
keeps_itself None = tt
keeps_itself (Some xs) = refl

pub keeps_both : (a b c : Option (List ℕ)) → Keeps a b → Keeps b c → Keeps a c
keeps_both None b c h k = tt
keeps_both (Some p) None c h k = absurd h
keeps_both (Some p) (Some q) None h k = absurd k
keeps_both (Some p) (Some q) (Some r) h k = k ∙ h

pub appends_none : (old : Option (List ℕ)) → Appends old old []
appends_none None = tt
appends_none (Some xs) = sym (append-nil xs)

pub appends_more : (a b c : Option (List ℕ)) (xs ys : List ℕ) → Appends a b xs → Appends b c ys → Appends a c (xs ++ ys)
appends_more None b c xs ys h k = tt
appends_more (Some p) None c xs ys h k = absurd h
appends_more (Some p) (Some q) None xs ys h k = absurd k
appends_more (Some p) (Some q) (Some r) xs ys h k = k ∙ ap (λ bs. bs ++ ys) h ∙ append_assoc p xs ys

-- what was appended stays where it is kept
pub appends_kept : (a b c : Option (List ℕ)) (xs : List ℕ) → Appends a b xs → Keeps b c → Appends a c xs
appends_kept None b c xs h k = tt
appends_kept (Some p) None c xs h k = absurd h
appends_kept (Some p) (Some q) None xs h k = absurd k
appends_kept (Some p) (Some q) (Some r) xs h k = k ∙ h

-- ---- what a loop writes of the items of an iterator

-- What is written of the items so far, and these items are left.
pub record AreWritten {A : Type 0} (line : A → List ℕ) (items left : List A) (old new : Option (List ℕ)) : Type 0 where
  pub done : List A
  pub are : items ≡ done ++ left
  pub written : Appends old new (flat_map line done)

module _ {A : Type 0} (line : A → List ℕ) where
  -- before the first item
  pub writing_begins : (items left : List A) (old : Option (List ℕ)) → left ≡ items → AreWritten line items left old old
  writing_begins items left old e = record { done = []; are = sym e; written = appends_none old }

  -- after one more
  pub writing_goes_on : (items left others : List A) (x : A) (old now next : Option (List ℕ)) → AreWritten line items left old now → left ≡ x ∷ others →
      Appends now next (line x) → AreWritten line items others old next
  writing_goes_on items left others x old now next h e more = record {
    done = h.done ++ x ∷ [];
    are = h.are ∙ ap (λ xs. h.done ++ xs) e ∙ sym (append_assoc h.done (x ∷ []) others);
    written = subst (Appends old next) (sym (flat_map-append line h.done (x ∷ []) ∙ ap (λ bs. flat_map line h.done ++ bs) (append-nil (line x))))
        (appends_more old now next _ _ h.written more);
  }

  -- where none is left
  pub writing_ends : (items left : List A) (old now : Option (List ℕ)) → AreWritten line items left old now → left ≡ [] → Appends old now (flat_map line items)
  writing_ends items left old now h e = subst (λ xs. Appends old now (flat_map line xs)) (sym (h.are ∙ ap (λ xs. h.done ++ xs) e ∙ append-nil h.done)) h.written
