-- Where networks start: the numbers of version 4, and then those of version 6.
use Rattle.std.specs.Prelude.{ℕ, ◌-◌, ◌<◌, ◌≤◌, List, ◌++◌, length, map, slice_index, slice_index_or}
use Rattle.prefix_table.specs.declared.network.Address.{Address}
use Rattle.prefix_table.specs.Networks.{IsUpTo}

-- the addresses of these numbers
abbrev pub of_version : ℕ → List ℕ → List Address
of_version version numbers = map (λ n. record { number = n; version = version }) numbers

abbrev pub starts_of : List ℕ → List ℕ → List Address
starts_of four six = of_version 4 four ++ of_version 6 six

-- the address at an index
abbrev pub start_at : List Address → ℕ → Address
start_at starts k = slice_index_or starts k (record { number = 0; version = 0 })

-- none is before an earlier one
abbrev pub AreUpwards : List Address → Type 0
AreUpwards starts = (j k : ℕ) → j < k → k < length starts → IsUpTo (start_at starts j) (start_at starts k)

-- The first so many are not after the address, and the others are.
pub record IsCount (starts : List Address) (address : Address) (count : ℕ) : Type 0 where
  pub bounded : count ≤ length starts
  pub first : (k : ℕ) → k < count → IsUpTo (start_at starts k) address
  pub others : (k : ℕ) → count ≤ k → k < length starts → ¬ IsUpTo (start_at starts k) address

-- The numbers before this part are at most this one, and those after it are greater.
pub record IsPartFor (numbers : List ℕ) (from to most : ℕ) : Type 0 where
  pub in_order : from ≤ to
  pub within : to ≤ length numbers
  pub before : 0 < from → slice_index numbers (from - 1) ≤ most
  pub after : to < length numbers → most < slice_index numbers to
