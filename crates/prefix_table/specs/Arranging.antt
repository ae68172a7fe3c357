-- Values in the order of networks.
use Rattle.std.specs.Prelude.{◌≡◌, ℕ, ◌<◌, List, length, slice_index, slice_index_or}

-- Each of these numbers is an index of the list, and none occurs twice.
pub record AreIndexes (places : List ℕ) : Type 0 where
  pub fits : (k : ℕ) → k < length places → slice_index places k < length places
  pub own : (i j : ℕ) → i < length places → j < length places → slice_index places i ≡ slice_index places j → i ≡ j

-- At each index is the value that was at its place.
pub record AreArranged {V : Type 0} (places : List ℕ) (old new : List V) : Type 0 where
  pub as_many : length new ≡ length old
  pub moved : (k : ℕ) (d : V) → k < length places → slice_index_or new k d ≡ slice_index_or old (slice_index places k) d

-- These are the numbers from 0 up to a count.
pub record AreCounted (count : ℕ) (numbers : List ℕ) : Type 0 where
  pub many : length numbers ≡ count
  pub each : (k : ℕ) → k < count → slice_index numbers k ≡ k
