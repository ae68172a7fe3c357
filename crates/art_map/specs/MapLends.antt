-- The final state of a map that returned a `&mut` to one of its values.
use Rattle.std.specs.Prelude.{ℕ, List, Option, Result}
use Rattle.std.specs.Borrow.{LendsIf, LendsIfOk, Fml, RattleType, MutBor}
use Rattle.art_parts.specs.declared.bytes.AsBytes as as_bytes
use Rattle.art_model.specs.Pairs.{of_key, put}
use Rattle.art_changing.specs.MapAnswers.{with_value_at}
use Rattle.art_map.specs.contracts.map.ByteMap.{the_row}

module _ (K V P : RattleType) (g : as_bytes.Ghosts K.Denot) (s : MutBor (List (K.Denot × V.Denot))) where
  -- once the borrow r ends, the key has the last value written through r; at `None` the pairs are unchanged
  abbrev pub lends_value : List ℕ → Option (MutBor V.Denot) → Fml
  lends_value key r = LendsIf (the_row K V P g) V s r (λ value. with_value_at g.bytes key value s.now) s.now

  -- once the borrow r ends, the key was put with the last value written through r; at `Err` the pairs are unchanged
  abbrev pub lends_put : {E : Type 0} → K.Denot → Result (MutBor V.Denot) E → Fml
  lends_put key r = LendsIfOk (the_row K V P g) V s r (λ value. put (of_key g.bytes) (key, value) s.now) s.now
