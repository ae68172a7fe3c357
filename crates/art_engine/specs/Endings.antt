-- Why no further line is read.
use Rattle.std.specs.Prelude.{ℕ}
use Rattle.art_engine.specs.declared.keeping.status.Ending.{Ending}
use Rattle.art_engine.specs.declared.keeping.status.Ending.TheVariants.{Input, BadLine}

-- the exit status at this end
abbrev pub status_of : Ending → ℕ
status_of Input = 0
status_of BadLine = 2
