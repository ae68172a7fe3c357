-- Columns of what networks have beside where they start.
use Rattle.std.proofs.Common.{◌≡◌, ℕ, zero, suc, ◌<◌, List, [], ◌∷◌, ◌++◌, length, refl, ap, arith, slice_index}
use Rattle.prefix_table.specs.declared.rests.Rest.{Rest}
use Rattle.prefix_table.specs.Columns.{rest_at}
use Rattle.prefix_table.specs.Rests.{rests_of}
use Rattle.std.proofs.lemmas.List.{get_or_read}

-- what has this length, with so many up to the next one around it
abbrev pub rest_with : ℕ → ℕ → Rest
rest_with length around = record { around = around; length = length }

pub length-rests : (lengths arounds : List ℕ) → length lengths ≡ length arounds → length (rests_of lengths arounds) ≡ length lengths
length-rests [] arounds e = refl
length-rests (l ∷ ls) [] e = absurd (omega (arith, e))
length-rests (l ∷ ls) (a ∷ as') e = let ih = length-rests ls as' (omega (arith, e)) in omega arith

pub at_rests : (lengths arounds : List ℕ) (k : ℕ) → length lengths ≡ length arounds → k < length lengths →
    rest_at (rests_of lengths arounds) k ≡ rest_with (slice_index lengths k) (slice_index arounds k)
at_rests [] arounds k e h = absurd (omega arith)
at_rests (l ∷ ls) [] k e h = absurd (omega (arith, e))
at_rests (l ∷ ls) (a ∷ as') zero e h = refl
at_rests (l ∷ ls) (a ∷ as') (suc k) e h = at_rests ls as' k (omega (arith, e)) (omega arith)

pub rests-push : (lengths arounds : List ℕ) (l a : ℕ) → length lengths ≡ length arounds →
    rests_of (lengths ++ l ∷ []) (arounds ++ a ∷ []) ≡ rests_of lengths arounds ++ rest_with l a ∷ []
rests-push [] [] l a e = refl
rests-push [] (x ∷ xs) l a e = absurd (omega (arith, e))
rests-push (x ∷ xs) [] l a e = absurd (omega (arith, e))
rests-push (x ∷ xs) (y ∷ ys) l a e = ap (λ rests. rest_with x y ∷ rests) (rests-push xs ys l a (omega (arith, e)))

-- for searches in the proofs of functions
pub ruleset around_facts = (at_rests, get_or_read, length-rests)

pub ruleset len_facts = (length-rests)

pub ruleset push_facts = (rests-push)
