-- The final state of a map with hints, from which a `&mut` to a value is borrowed.
use Rattle.std.specs.Prelude.{ℕ, List, Option, Result}
use Rattle.std.specs.Borrow.{LendsIf, LendsIfOk, Fml, RattleType, MutBor}
use Rattle.art_model.specs.Pairs.{of_key, put}
use Rattle.art_changing.specs.MapAnswers.{with_value_at}
use Rattle.art_keyed.specs.KeyedLends.{KeyMembers}
use Rattle.art_hinted.specs.contracts.map.HintedMap.{the_row}

abbrev pub map_row : (K V P : RattleType) → KeyMembers K.Denot → RattleType
map_row K V P g = the_row K V P (record { is_key = g.is_key }) (record { bytes = g.bytes })

module _ (K V P : RattleType) (g : KeyMembers K.Denot) (s : MutBor (List (K.Denot × V.Denot))) where
  -- once the borrow r ends, the key has the last value written through r; at `None` the pairs are unchanged
  abbrev pub lends_value : List ℕ → Option (MutBor V.Denot) → Fml
  lends_value key r = LendsIf (map_row K V P g) V s r (λ value. with_value_at g.bytes key value s.now) s.now

  -- once the borrow r ends, the key is inserted with the last value written through r; at `Err` the pairs are unchanged
  abbrev pub lends_put : {E : Type 0} → K.Denot → Result (MutBor V.Denot) E → Fml
  lends_put key r = LendsIfOk (map_row K V P g) V s r (λ value. put (of_key g.bytes) (key, value) s.now) s.now
