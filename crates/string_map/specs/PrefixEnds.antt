-- The end of the range of the strings that start with a prefix.
use Rattle.std.specs.Prelude.{◌≡◌, ◌<◌, ◌&&◌, ℕ, zero, suc, List, take}
use Rattle.std.specs.Cmp.Lexicographic.{slice_cmp}
use Rattle.std.specs.List.{AllByRecursion as Each}
use Rattle.std.specs.Ordering.{nat_cmp}
use Rattle.std.specs.declared.ops.Bound.{Bound}
use Rattle.std.specs.declared.ops.Bound.TheVariants.{Included, Excluded, Unbounded}
use Rattle.art_keyed.specs.KeyedPairs.{is_key_from, is_key_up_to}
use Rattle.art_parts.specs.Keys.{is_front}

-- the bound at the front of a buffer, if its length is not zero
abbrev pub end_in : ℕ → List ℕ → Bound (List ℕ)
end_in zero buffer = Unbounded
end_in (suc n) buffer = Excluded (take (suc n) buffer)

-- a string of bytes starts with a prefix exactly if it is from the prefix on and before this end
abbrev pub IsPrefixEnd : List ℕ → ℕ → List ℕ → Type 0
IsPrefixEnd prefix len buffer =
    (text : List ℕ) → Each (λ byte. byte < 256) text →
    is_front prefix text ≡
    (is_key_from (slice_cmp nat_cmp) (Included prefix) text && is_key_up_to (slice_cmp nat_cmp) (end_in len buffer) text)
