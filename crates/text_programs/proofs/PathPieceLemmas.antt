-- The pieces of a text that paths are read from.
use Rattle.std.proofs.Common.{◌≡◌, ℕ, ◌+◌, Bool, true, false, cond, eqb, List, [], ◌∷◌, length, refl, ap}
use Rattle.std.proofs.lemmas.Bool.{eqb-false}
use Rattle.std.specs.List.{AllByRecursion as Each, onto_first, slice_split}
use Rattle.art_operations.specs.Ended.{HasNoZero}
use Rattle.text_lines.specs.Lines.{ended_parts}
use Rattle.text_programs.specs.PathPieces.{PathsArePieces, PiecesHaveNoZero}

pub paths_are_pieces : PathsArePieces
paths_are_pieces number [] = refl
paths_are_pieces number (line ∷ ls) = ap (λ rest. line ∷ rest) (paths_are_pieces (number + 1) ls)

-- between zeros there is none
between_zeros : (text : List ℕ) → Each HasNoZero (slice_split (λ b. eqb b 0) text)
between_zeros [] = (tt, tt)
between_zeros (x ∷ xs) = go (eqb x 0) refl (slice_split (λ b. eqb b 0) xs) (between_zeros xs)
  where
    go : (t : Bool) → eqb x 0 ≡ t → (parts : List (List ℕ)) → Each HasNoZero parts → Each HasNoZero (cond t ([] ∷ parts) (onto_first x parts))
    go true e parts h = (tt, h)
    go false e [] h = ((eqb-false x 0 e, tt), tt)
    go false e (part ∷ parts) h = ((eqb-false x 0 e, h.0), h.1)

without_last : (parts : List (List ℕ)) → Each HasNoZero parts → Each HasNoZero (ended_parts parts)
without_last [] h = tt
without_last (part ∷ []) h = go (eqb (length part) 0)
  where
    go : (t : Bool) → Each HasNoZero (cond t [] (part ∷ []))
    go true = tt
    go false = h
without_last (part ∷ next ∷ parts) h = (h.0, without_last (next ∷ parts) h.1)

pub pieces_have_no_zero : PiecesHaveNoZero
pieces_have_no_zero text = without_last (slice_split (λ b. eqb b 0) text) (between_zeros text)
