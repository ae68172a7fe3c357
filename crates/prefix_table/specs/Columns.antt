-- Rows in two columns: where networks start, and what else a row has. The place of a row is its index.
use Rattle.std.specs.Prelude.{◌≡◌, ℕ, ◌+◌, ◌-◌, ◌<◌, ◌≤◌, ◌^◌, true, false, List, [], ◌∷◌, length, count_by, slice_index_or, take}
use Rattle.prefix_table.specs.declared.network.Address.{Address}
use Rattle.prefix_table.specs.declared.network.Network.{Network}
use Rattle.prefix_table.specs.declared.rests.Rest.{Rest}
use Rattle.prefix_table.specs.declared.rows.Row.{Row}
use Rattle.prefix_table.specs.Networks.{IsNetwork, Precedes, covers_at}
use Rattle.prefix_table.specs.Rows.{network_of}
use Rattle.prefix_table.specs.Starts.{start_at}

abbrev pub row_from : ℕ → Address → Rest → Row
row_from place start rest =
    record { number = start.number; place = place; version = start.version; length = rest.length }

-- the rows of two columns, the places counted from this one
abbrev pub rows_from : ℕ → List Address → List Rest → List Row
rows_from place [] rests = []
rows_from place (start ∷ starts) [] = []
rows_from place (start ∷ starts) (rest ∷ rests) = row_from place start rest ∷ rows_from (place + 1) starts rests

abbrev pub rows_of : List Address → List Rest → List Row
rows_of starts rests = rows_from 0 starts rests

abbrev pub rest_at : List Rest → ℕ → Rest
rest_at rests k = slice_index_or rests k (record { around = 0; length = 0 })

abbrev pub network_at : List Address → List Rest → ℕ → Network
network_at starts rests k =
    record { number = (start_at starts k).number; version = (start_at starts k).version; length = (rest_at rests k).length }

-- The columns are those of networks in order. A network that covers where a later one starts is among
-- the first `around` ones of that, the last of which covers it.
pub record AreRows (starts : List Address) (rests : List Rest) : Type 0 where
  pub lengths : length starts ≡ length rests
  pub few : length rests < 2 ^ 32
  pub networks : (k : ℕ) → k < length rests → IsNetwork (network_at starts rests k)
  pub sorted : (j k : ℕ) → j < k → k < length rests → Precedes (network_at starts rests j) (network_at starts rests k)
  pub around : (j k : ℕ) → j < k → k < length rests →
      covers_at (network_at starts rests j) (start_at starts k) ≡ true → j < (rest_at rests k).around
  pub tight : (k : ℕ) → k < length rests → 0 < (rest_at rests k).around →
      covers_at (network_at starts rests ((rest_at rests k).around - 1)) (start_at starts k) ≡ true
  pub back : (k : ℕ) → k < length rests → (rest_at rests k).around ≤ k

-- So many rows reach to the last one of the first `upto` that covers the address.
pub record IsLastOf (starts : List Address) (rests : List Rest) (address : Address) (upto found : ℕ) : Type 0 where
  pub bounded : found ≤ upto
  pub covering : 0 < found → covers_at (network_at starts rests (found - 1)) address ≡ true
  pub none_after : (k : ℕ) → found ≤ k → k < upto → covers_at (network_at starts rests k) address ≡ false

-- No more rows were looked at than there are networks around the last row, itself included.
pub record IsNested (starts : List Address) (rests : List Rest) (upto looked : ℕ) : Type 0 where
  pub few : looked ≤ count_by (λ row. covers_at (network_of row) (start_at starts (upto - 1))) (take upto (rows_of starts rests))
