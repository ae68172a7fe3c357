-- Writers that remember whether their last call failed.
use Rattle.std.specs.Prelude.{Bool}
use Rattle.line_programs.specs.declared.watching.Watched.{Watched}

-- the writer that each call is passed on to
abbrev pub inner_writer : {W : Type 0} → Watched W → W
inner_writer watched = watched.inner

-- whether the last call failed
abbrev pub has_failed : {W : Type 0} → Watched W → Bool
has_failed watched = watched.has_failed
