-- Lists of nodes' keys and names: an entry that stays keeps its name.
use Rattle.std.proofs.Common.{◌≡◌, ◌≢◌, ℕ, List, [], ◌∷◌, ◌++◌, ap, sym, ◌∙◌, ◌⊎◌, inl, inr}
use Rattle.art_model.specs.Prelude.{Pairwise, IsIn}
use Rattle.art_model.proofs.lists.Lists.{each_in, in_left, in_right, in_either}

-- the bytes by which an entry is identified, its name, and which entries are of one sort
module _ {E N : Type 0} (told : E → List ℕ) (name : E → N) (Alike : E → E → Type 0) where
  -- the entries are identified by other bytes
  abbrev ToldApart : E → E → Type 0
  ToldApart e f = told e ≢ told f

  -- an entry of the second list that is identified by the same bytes as one of the first, and is of its sort, has its name
  abbrev pub Keep : List E → List E → Type 0
  Keep old new = (e f : E) → IsIn e old → IsIn f new → Alike e f → told e ≡ told f → name e ≡ name f

  -- of entries with distinct bytes two with the same bytes are equal
  pub same_entry : (xs : List E) → Pairwise ToldApart xs → (e f : E) → IsIn e xs → IsIn f xs → told e ≡ told f → e ≡ f
  same_entry [] d e f i j same = absurd i
  same_entry (x ∷ xs) d e f (inl i) (inl j) same = sym i ∙ j
  same_entry (x ∷ xs) d e f (inl i) (inr j) same = absurd (each_in (ToldApart x) f xs d.0 j (ap told i ∙ same))
  same_entry (x ∷ xs) d e f (inr i) (inl j) same = absurd (each_in (ToldApart x) e xs d.0 i (ap told j ∙ sym same))
  same_entry (x ∷ xs) d e f (inr i) (inr j) same = same_entry xs d.1 e f i j same

  -- names are kept where all entries are among some with distinct bytes
  pub keep_among : (xs old new : List E) → Pairwise ToldApart xs → ((e : E) → IsIn e old → IsIn e xs) → ((e : E) → IsIn e new → IsIn e xs) → Keep old new
  keep_among xs old new d one two e f i j alike same = ap name (same_entry xs d e f (one e i) (two f j) same)

  -- Names are kept in the whole where they are in the middle.
  pub keep_between : (xs old new zs : List E) → Pairwise ToldApart (xs ++ old ++ zs) → Pairwise ToldApart (xs ++ new ++ zs) → Keep old new →
      Keep (xs ++ old ++ zs) (xs ++ new ++ zs)
  keep_between xs old new zs d_old d_new local e f i j alike same = go (parts old e i) (parts new f j)
    where
      Outside : E → Type 0
      Outside x = IsIn x xs ⊎ IsIn x zs

      parts : (middle : List E) (x : E) → IsIn x (xs ++ middle ++ zs) → Outside x ⊎ IsIn x middle
      parts middle x i = elim (in_either x (xs ++ middle) zs i) [
        | inr a ↦ inl (inr a)
        | inl b ↦ elim (in_either x xs middle b) [ inl c ↦ inl (inl c) | inr c ↦ inr c ]
      ]

      whole : (middle : List E) (x : E) → Outside x → IsIn x (xs ++ middle ++ zs)
      whole middle x o = elim o [ inl a ↦ in_left x (xs ++ middle) zs (in_left x xs middle a) | inr a ↦ in_right x (xs ++ middle) zs a ]

      go : Outside e ⊎ IsIn e old → Outside f ⊎ IsIn f new → name e ≡ name f
      go (inl o) q = ap name (same_entry (xs ++ new ++ zs) d_new e f (whole new e o) j same)
      go (inr a) (inl o) = ap name (same_entry (xs ++ old ++ zs) d_old e f i (whole old f o) same)
      go (inr a) (inr b) = local e f a b alike same
