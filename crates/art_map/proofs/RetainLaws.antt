-- After the calls of a closure: what each call keeps true of the items so far, what they became and the closure is true
-- of all.
use Rattle.std.proofs.Common.{◌≡◌, List, [], ◌∷◌, ◌++◌, Bool, true, false, cond, refl, append_assoc, append-nil}
use Rattle.std.specs.Borrow.{MutBor}
use Rattle.std.specs.Fn.{Mut}
use Rattle.art_model.specs.Prelude.{CalledOnPair}
use Rattle.art_map.specs.MapCalls.{ChangesBy}
use Rattle.art_map.specs.MapRetain.{Retains, RetainsPairs}
use denote.Ref.{Bor}

one_stays : {A : Type 0} (b : Bool) (x : A) (rest : List A) → cond b (x ∷ []) [] ++ rest ≡ cond b (x ∷ rest) rest
one_stays true x rest = refl
one_stays false x rest = refl

module _ {F A : Type 0} (asks : F → A → Bool → F → Type 0) (Known : List A → List A → F → Type 0)
    (one : (seen kept : List A) (f : F) (x : A) (b : Bool) (left : F) → Known seen kept f → asks f x b left →
    Known (seen ++ x ∷ []) (kept ++ cond b (x ∷ []) []) left) where
  goes_on : (seen so_far : List A) (f : F) (items kept : List A) (left : F) → Known seen so_far f → Retains asks f items kept left →
      Known (seen ++ items) (so_far ++ kept) left
  goes_on seen so_far f [] kept left known (none, same) = rw (none, ← same, append-nil seen, append-nil so_far) known
  goes_on seen so_far f (x ∷ xs) kept left known (b, next, rest, asked, h, is) =
      let all = goes_on (seen ++ x ∷ []) (so_far ++ cond b (x ∷ []) []) next xs rest left (one seen so_far f x b next known asked) h in
      rw (is, ← one_stays b x rest, ← append_assoc so_far (cond b (x ∷ []) []) rest, ← append_assoc seen (x ∷ []) xs) all

  -- after `retain` of a set
  pub retained_known : (f : F) (before kept : List A) (left : F) → Known [] [] f → Retains asks f before kept left → Known before kept left
  retained_known = goes_on [] []

module _ {F K V : Type 0} (g : Mut F (Bor K × (MutBor V × Unit {0})) (Bool × (MutBor V × Unit {0}))) (Known : List (K × V) → List (K × V) → F → Type 0)
    (one : (seen kept : List (K × V)) (f : F) (x : K × V) (b : Bool) (left : F) (w : V) → Known seen kept f → CalledOnPair g f x b left w →
    Known (seen ++ x ∷ []) (kept ++ cond b ((x.0, w) ∷ []) []) left) where
  pairs_go_on : (seen so_far : List (K × V)) (f : F) (pairs kept : List (K × V)) (left : F) → Known seen so_far f → RetainsPairs g f pairs kept left →
      Known (seen ++ pairs) (so_far ++ kept) left
  pairs_go_on seen so_far f [] kept left known (none, same) = rw (none, ← same, append-nil seen, append-nil so_far) known
  pairs_go_on seen so_far f (x ∷ xs) kept left known (b, w, next, rest, asked, h, is) =
      let all = pairs_go_on (seen ++ x ∷ []) (so_far ++ cond b ((x.0, w) ∷ []) []) next xs rest left (one seen so_far f x b next w known asked) h in
      rw (is, ← one_stays b (x.0, w) rest, ← append_assoc so_far (cond b ((x.0, w) ∷ []) []) rest, ← append_assoc seen (x ∷ []) xs) all

  -- after `retain` of a map
  pub retained_pairs_known : (f : F) (before kept : List (K × V)) (left : F) → Known [] [] f → RetainsPairs g f before kept left → Known before kept left
  retained_pairs_known = pairs_go_on [] []

module _ {F K V : Type 0} (calls : F → K × V → F → V → Type 0) (Known : List (K × V) → List (K × V) → F → Type 0)
    (one : (seen done : List (K × V)) (f : F) (x : K × V) (left : F) (w : V) → Known seen done f → calls f x left w →
    Known (seen ++ x ∷ []) (done ++ (x.0, w) ∷ []) left) where
  changes_go_on : (seen so_far : List (K × V)) (f : F) (pairs after : List (K × V)) (left : F) → Known seen so_far f → ChangesBy calls f pairs after left →
      Known (seen ++ pairs) (so_far ++ after) left
  changes_go_on seen so_far f [] after left known (none, same) = rw (none, ← same, append-nil seen, append-nil so_far) known
  changes_go_on seen so_far f (x ∷ xs) after left known (w, next, rest, called, h, is) =
      let all = changes_go_on (seen ++ x ∷ []) (so_far ++ (x.0, w) ∷ []) next xs rest left (one seen so_far f x next w known called) h in
      rw (is, ← append_assoc so_far ((x.0, w) ∷ []) rest, ← append_assoc seen (x ∷ []) xs) all

  -- after `for_each_mut`
  pub changes_known : (f : F) (before after : List (K × V)) (left : F) → Known [] [] f → ChangesBy calls f before after left → Known before after left
  changes_known = changes_go_on [] []
