-- A number in two halves of 32 bits.
use Rattle.std.specs.Prelude.{◌≡◌, ℕ, ◌+◌, ◌*◌, ◌/◌, ◌%◌, ◌^◌, ◌<◌}
use Rattle.std.proofs.lemmas.Nat.{mod-mul-add, div-mul-add}
use Rattle.art_parts.specs.declared.header.Halves.{Halves}

-- the number of two halves
abbrev pub whole_of : Halves → ℕ
whole_of h = h.high * 4294967296 + h.low

-- the halves of a number
abbrev pub halves_of : ℕ → Halves
halves_of n = record { low = n % 4294967296; high = n / 4294967296 }

pub halves_back : (h : Halves) → h.low < 2 ^ 32 → halves_of (whole_of h) ≡ h
halves_back h fits = λ i. record { low = mod-mul-add h.high 4294967296 h.low fits i; high = div-mul-add h.high 4294967296 h.low fits i }
