-- A table as rows and values.
use Rattle.std.specs.Prelude.{◌≡◌, ℕ, ◌<◌, List, [], ◌∷◌, length, map, slice_index_or}
use Rattle.prefix_table.specs.declared.network.Network.{Network}
use Rattle.prefix_table.specs.declared.rows.Row.{Row}
use Rattle.prefix_table.specs.Rows.{AreInOrder, network_of, row_at}

-- a row with the value at its place
abbrev pub entry_of : {V : Type 0} → List V → V → Row → Network × V
entry_of values default row = (network_of row, slice_index_or values row.place default)

-- rows with the values at their places
abbrev pub entries_of : {V : Type 0} → List Row → List V → List (Network × V)
entries_of rows [] = []
entries_of rows (value ∷ values) = map (entry_of (value ∷ values) value) rows

-- The rows are in order, and there is a value at each place.
pub record IsTable {V : Type 0} (rows : List Row) (values : List V) : Type 0 where
  pub order : AreInOrder rows
  pub places : (k : ℕ) → k < length rows → (row_at rows k).place < length values

-- And the values are in the order of the rows.
pub record IsOrderedTable {V : Type 0} (rows : List Row) (values : List V) : Type 0 where
  pub table : IsTable rows values
  pub own : (k : ℕ) → k < length rows → (row_at rows k).place ≡ k
