-- groups of neighbours, and the shared part
use Rattle.std.proofs.Common.{◌≡◌, ℕ, List, [], ◌∷◌, ◌++◌, length, drop, refl, ap, sym, ◌∙◌, append_assoc, append-nil, eqb, eq-eqb, false}
use Rattle.std.specs.List.{AllByRecursion as Each}
use Rattle.art_model.specs.Prelude.{IsFront, shared_part, groups}
use Rattle.art_model.specs.Trees.{add_to_groups}
use Rattle.art_model.proofs.lists.Lists.{front_trans, after_front, common_front-append, common_front_left, common_front_right, Each-weaker}

module _ {A : Type 0} where
  abbrev pub StartsApart : ℕ → List (ℕ × List A) → Type 0
  StartsApart b [] = Unit {0}
  StartsApart b ((c, group) ∷ others) = eqb b c ≡ false

  groups_alone : (b : ℕ) (x : A) (gs : List (ℕ × List A)) → StartsApart b gs → add_to_groups b x gs ≡ (b, x ∷ []) ∷ gs
  groups_alone b x [] h = refl
  groups_alone b x ((c, group) ∷ others) h = rw h

  -- a block of neighbours with one byte is one group
  pub groups-block : (byte : A → ℕ) (b : ℕ) (x : A) (xs rest : List A) (gs : List (ℕ × List A)) → Each (λ y. byte y ≡ b) (x ∷ xs) →
      groups byte rest ≡ gs → StartsApart b gs → groups byte ((x ∷ xs) ++ rest) ≡ (b, x ∷ xs) ∷ gs
  groups-block byte b x [] rest gs h e apart = rw (h.0, e) (groups_alone b x gs apart)
  groups-block byte b x (y ∷ xs) rest gs h e apart = rw (h.0, groups-block byte b y xs rest gs h.1 e apart, eq-eqb b b refl)

module _ {A : Type 0} (bytes : A → List ℕ) where
  -- the shared part from the end of a common prefix on
  pub shared_part-front : (place part : List ℕ) (x : A) (xs : List A) → Each (λ y. IsFront (place ++ part) (bytes y)) (x ∷ xs) →
      shared_part bytes (length place) (x ∷ xs) ≡ part ++ shared_part bytes (length (place ++ part)) (x ∷ xs)
  shared_part-front place part x [] h =
      let r = h.0.0 in
      after_front place (bytes x) (part ++ r) (h.0.1 ∙ append_assoc place part r) ∙ ap (λ s. part ++ s) (sym (after_front (place ++ part) (bytes x) r h.0.1))
  shared_part-front place part x (y ∷ xs) h =
      let r = h.0.0 in
      rw (
        after_front place (bytes x) (part ++ r) (h.0.1 ∙ append_assoc place part r),
        after_front (place ++ part) (bytes x) r h.0.1,
        shared_part-front place part y xs h.1,
      ) (common_front-append part r (shared_part bytes (length (place ++ part)) (y ∷ xs)))

  -- it is a prefix of what each key has from there on
  pub shared_part_shared : (d : ℕ) (xs : List A) → Each (λ y. IsFront (shared_part bytes d xs) (drop d (bytes y))) xs
  shared_part_shared d [] = tt
  shared_part_shared d (x ∷ []) = (([], sym (append-nil (drop d (bytes x)))), tt)
  shared_part_shared d (x ∷ y ∷ xs) =
      let r = common_front_right (drop d (bytes x)) (shared_part bytes d (y ∷ xs)) in (
        common_front_left (drop d (bytes x)) (shared_part bytes d (y ∷ xs)),
        Each-weaker (λ z. IsFront (shared_part bytes d (y ∷ xs)) (drop d (bytes z)))
            (λ z. IsFront (shared_part bytes d (x ∷ y ∷ xs)) (drop d (bytes z))) (λ z h. front_trans _ (shared_part bytes d (y ∷ xs)) _ r h)
            (y ∷ xs) (shared_part_shared d (y ∷ xs)),
      )
