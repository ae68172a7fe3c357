-- Lists of children by rising bytes.
use Rattle.std.proofs.Common.{◌≡◌, ◌⊎◌, ℕ, zero, suc, ◌+◌, ◌-◌, ◌<◌, ◌≤◌, min, leb, ltb, Bool, true, false, ◌&&◌, cond, [], ◌∷◌, ◌++◌, take, drop, refl, sym, ap, ◌∙◌, inl, inr, arith}
use Rattle.std.proofs.lemmas.Bool.{le-leb, le-ltb, lt-leb, lt-ltb}
use Rattle.art_inner.specs.Inner.{Children, IsBelow, IsRising, children_between, count_below, part_of}
use Rattle.art_inner.proofs.TableLemmas.{Entry, counted_front, counted_here}
use Rattle.art_parts.proofs.Comparisons.{by_order}

and_false : (a : Bool) → (a && false) ≡ false
and_false true = refl
and_false false = refl

IsBelow-take : (x n : ℕ) (cs : Children) → IsBelow x cs → IsBelow x (take n cs)
IsBelow-take x zero cs below = tt
IsBelow-take x (suc n) [] below = tt
IsBelow-take x (suc n) (c ∷ cs) below = (below.0, IsBelow-take x n cs below.1)

IsRising-take : (n : ℕ) (cs : Children) → IsRising cs → IsRising (take n cs)
IsRising-take zero cs rising = tt
IsRising-take (suc n) [] rising = tt
IsRising-take (suc n) (c ∷ cs) rising = (IsBelow-take c.0 n cs rising.0, IsRising-take n cs rising.1)

IsRising-drop : (n : ℕ) (cs : Children) → IsRising cs → IsRising (drop n cs)
IsRising-drop zero cs rising = rising
IsRising-drop (suc n) [] rising = tt
IsRising-drop (suc n) (c ∷ cs) rising = IsRising-drop n cs rising.1

pub IsRising-part : (at n : ℕ) (cs : Children) → IsRising cs → IsRising (take n (drop at cs))
IsRising-part at n cs rising = IsRising-take n (drop at cs) (IsRising-drop at cs rising)

IsBelow-front : (x : ℕ) (before after : Children) → IsBelow x (before ++ after) → IsBelow x before
IsBelow-front x [] after below = tt
IsBelow-front x (c ∷ before) after below = (below.0, IsBelow-front x before after below.1)

pub IsRising-front : (before after : Children) → IsRising (before ++ after) → IsRising before
IsRising-front [] after rising = tt
IsRising-front (c ∷ before) after rising = (IsBelow-front c.0 before after rising.0, IsRising-front before after rising.1)

-- an entry under a byte of the part is listed, and any other is not
pub part_here : (from to : ℕ) (c : Entry) (cs : Children) → from ≤ c.0 → c.0 < to → part_of from to (c ∷ cs) ≡ c ∷ part_of from to cs
part_here from to c cs h k =
    ap (λ t. cond (t && ltb c.0 to) (c ∷ part_of from to cs) (part_of from to cs)) (le-leb from c.0 h)
    ∙ ap (λ t. cond t (c ∷ part_of from to cs) (part_of from to cs)) (lt-ltb c.0 to k)

pub part_not : (from to : ℕ) (c : Entry) (cs : Children) → (c.0 < from) ⊎ (to ≤ c.0) → part_of from to (c ∷ cs) ≡ part_of from to cs
part_not from to c cs (inl h) = ap (λ t. cond (t && ltb c.0 to) (c ∷ part_of from to cs) (part_of from to cs)) (lt-leb from c.0 h)
part_not from to c cs (inr h) =
    ap (λ t. cond (leb from c.0 && t) (c ∷ part_of from to cs) (part_of from to cs)) (le-ltb c.0 to h)
    ∙ ap (λ t. cond t (c ∷ part_of from to cs) (part_of from to cs)) (and_false (leb from c.0))

-- no child above the part is in it
none_above : (from to x : ℕ) (cs : Children) → IsBelow x cs → to ≤ x + 1 → part_of from to cs ≡ []
none_above from to x [] below h = refl
none_above from to x (c ∷ cs) below h = part_not from to c cs (inr (omega (arith, below.0, h))) ∙ none_above from to x cs below.1 h

none_below : (x b : ℕ) (cs : Children) → IsBelow x cs → b ≤ x → count_below cs b ≡ 0
none_below x b [] below h = refl
none_below x b (c ∷ cs) below h = counted_here c cs b (omega (arith, below.0))

-- the children in a range are consecutive
abbrev part : ℕ → ℕ → Children → Children
part from to cs = take (to - min from to) (drop (min from to) cs)

part_at : (from to n m : ℕ) (cs : Children) → min from to ≡ n → to - n ≡ m → part from to cs ≡ take m (drop n cs)
part_at from to n m cs e f = ap (λ (k : ℕ). take (to - k) (drop k cs)) e ∙ ap (λ (k : ℕ). take k (drop n cs)) f

nothing_before : (from : ℕ) (cs : Children) → part from 0 cs ≡ []
nothing_before from cs = part_at from 0 0 0 cs (omega arith) (omega arith)

part_later : (from to : ℕ) (c : Entry) (cs : Children) → part (suc from) (suc to) (c ∷ cs) ≡ part from to cs
part_later from to c cs = part_at (suc from) (suc to) (suc (min from to)) (to - min from to) (c ∷ cs) (omega arith) (omega arith)

part_first : (to : ℕ) (c : Entry) (cs : Children) → part 0 (suc to) (c ∷ cs) ≡ c ∷ part 0 to cs
part_first to c cs =
    part_at 0 (suc to) 0 (suc to) (c ∷ cs) (omega arith) (omega arith)
    ∙ ap (λ (t : Children). c ∷ t) (sym (part_at 0 to 0 to cs (omega arith) (omega arith)))

pub part_between : (first last : ℕ) (cs : Children) → IsRising cs → part (count_below cs first) (count_below cs (last + 1)) cs ≡ children_between first last cs
part_between first last [] rising = refl
part_between first last (c ∷ cs) rising = elim (by_order last c.0) [
  | inl above ↦
      ap (λ (n : ℕ). part (count_below (c ∷ cs) first) n (c ∷ cs)) (counted_here c cs (last + 1) (omega arith))
      ∙ nothing_before (count_below (c ∷ cs) first) (c ∷ cs)
      ∙ sym (part_not first (last + 1) c cs (inr (omega (arith, above))) ∙ none_above first (last + 1) c.0 cs rising.0 (omega (arith, above)))
  | inr other ↦ within (part_between first last cs rising.1) (elim other [ inl e ↦ omega (arith, e) | inr l ↦ omega (arith, l) ]) (by_order c.0 first)
]
  where
    Rest : Type 0
    Rest = part (count_below cs first) (count_below cs (last + 1)) cs ≡ children_between first last cs

    to : c.0 ≤ last → count_below (c ∷ cs) (last + 1) ≡ suc (count_below cs (last + 1))
    to h = counted_front c cs (last + 1) (omega arith)

    here : Rest → c.0 ≤ last → first ≤ c.0 → part (count_below (c ∷ cs) first) (count_below (c ∷ cs) (last + 1)) (c ∷ cs) ≡ children_between first last (c ∷ cs)
    here rest h k =
        ap (λ (n : ℕ). part n (count_below (c ∷ cs) (last + 1)) (c ∷ cs)) (counted_here c cs first k)
        ∙ ap (λ (n : ℕ). part 0 n (c ∷ cs)) (to h)
        ∙ part_first (count_below cs (last + 1)) c cs
        ∙ ap (λ (t : Children). c ∷ t) (ap (λ (n : ℕ). part n (count_below cs (last + 1)) cs) (sym (none_below c.0 first cs rising.0 k)) ∙ rest)
        ∙ sym (part_here first (last + 1) c cs k (omega (arith, h)))

    within : Rest → c.0 ≤ last → (c.0 < first) ⊎ ((c.0 ≡ first) ⊎ (first < c.0)) →
        part (count_below (c ∷ cs) first) (count_below (c ∷ cs) (last + 1)) (c ∷ cs) ≡ children_between first last (c ∷ cs)
    within rest h (inl below) =
        ap (λ (n : ℕ). part n (count_below (c ∷ cs) (last + 1)) (c ∷ cs)) (counted_front c cs first below)
        ∙ ap (λ (n : ℕ). part (suc (count_below cs first)) n (c ∷ cs)) (to h)
        ∙ part_later (count_below cs first) (count_below cs (last + 1)) c cs
        ∙ rest
        ∙ sym (part_not first (last + 1) c cs (inl below))
    within rest h (inr (inl e)) = here rest h (omega (arith, e))
    within rest h (inr (inr l)) = here rest h (omega (arith, l))
