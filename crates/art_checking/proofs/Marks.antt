-- places that are marked in bytes
use Rattle.std.proofs.Common.{◌≡◌, ℕ, ◌-◌, ◌≤◌, List, [], ◌∷◌, ◌++◌, length, take, drop, refl, ap, ap₂, ◌∙◌, arith, length-append, length-drop, slice_range}
use Rattle.std.proofs.lemmas.List.{drop-append-le, drop_at, take-append-le, take_all}
use Rattle.art_checking.specs.Marks.{AreWithin, marked}
use Rattle.art_checking.specs.declared.well_formed.met.Mark.{Mark}

-- a part of bytes stays when more are appended
part_stays : (bytes more : List ℕ) (from to : ℕ) → from ≤ to → to ≤ length bytes → slice_range (bytes ++ more) from to ≡ slice_range bytes from to
part_stays bytes more from to l m =
    let n : to - from ≤ length (drop from bytes) = let e = length-drop from bytes in omega arith in
    ap (take (to - from)) (drop-append-le from bytes more (omega arith)) ∙ take-append-le (to - from) (drop from bytes) more n

-- what is appended to the bytes, marked by its ends
last_part : (bytes more : List ℕ) → slice_range (bytes ++ more) (length bytes) (length (bytes ++ more)) ≡ more
last_part bytes more =
    let n : length more ≤ length (bytes ++ more) - length bytes = let e = length-append bytes more in omega arith in
    ap (take (length (bytes ++ more) - length bytes)) (drop_at bytes more (length bytes) refl) ∙ take_all (length (bytes ++ more) - length bytes) more n

-- one further place is appended
pub marked-last : (bytes place : List ℕ) (marks : List Mark) (mark : Mark) → AreWithin bytes marks → mark.from ≡ length bytes →
    mark.to ≡ length (bytes ++ place) →
    marked (bytes ++ place) (marks ++ mark ∷ []) ≡ marked bytes marks ++ (mark.name, place) ∷ []
marked-last bytes place [] mark h from to = ap (λ p. (mark.name, p) ∷ []) (ap₂ (λ i j. slice_range (bytes ++ place) i j) from to ∙ last_part bytes place)
marked-last bytes place (m ∷ marks) mark h from to =
    ap₂ (λ p ps. (m.name, p) ∷ ps) (part_stays bytes place m.from m.to h.0.0 h.0.1) (marked-last bytes place marks mark h.1 from to)
