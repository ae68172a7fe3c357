-- Parts of a chain of leaves.
use Rattle.std.specs.Prelude.{List, Option}
use Rattle.art_model.specs.Layouts.{Links, AreDistinct, AreLinked}

-- The names are distinct, and each leaf names the one before it and the one after it in the list; what the ends name outside it is left open.
pub record IsSegment {N : Type 0} (links : N → Option (Links N)) (names : List N) : Type 0 where
  pub distinct : AreDistinct names
  pub before : Option N
  pub after : Option N
  pub linked : AreLinked links before names after
