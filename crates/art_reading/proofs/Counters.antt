-- counters of readings
use Rattle.std.proofs.Common.{◌≡◌, ℕ, ◌+◌, ◌-◌, ◌^◌, min, arith}

-- two counts one after another
pub count_both : (before first second : ℕ) {between after : ℕ} → between ≡ before + min first (2 ^ 64 - 1 - before) →
    after ≡ between + min second (2 ^ 64 - 1 - between) →
    after ≡ before + min (first + second) (2 ^ 64 - 1 - before)
count_both before first second one two = omega arith
