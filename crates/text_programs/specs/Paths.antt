-- Lists of paths, and how the lines of a text become one.
use Rattle.std.specs.Prelude.{◌≡◌, ℕ, Bool, true, not, ◌&&◌, ◌||◌, List, filter, map, ⊤}
use Rattle.std.specs.List.{AllByRecursion as Each, list_any}
use Rattle.art_operations.specs.Ended.{HasNoZero}
use Rattle.art_operations.specs.Keys.{are_same, is_before, is_front}
use Rattle.art_operations.specs.Pairs.{Pairwise}
use Rattle.text_programs.specs.declared.path_indexes.index.PathError.{PathError}
use Rattle.text_programs.specs.declared.path_indexes.index.PathError.TheVariants.{Zero, NoMemory}

-- whether a path is one of these
abbrev pub is_stored : List ℕ → List (List ℕ) → Bool
is_stored path paths = list_any (λ other. are_same path other) paths

-- the paths that start with a prefix
abbrev pub below : List ℕ → List (List ℕ) → List (List ℕ)
below prefix paths = filter (λ path. is_front prefix path) paths

-- the paths from one up to but without another
abbrev pub between : List ℕ → List ℕ → List (List ℕ) → List (List ℕ)
between from to paths = filter (λ path. not (is_before path from) && is_before path to) paths

-- the lines of numbered lines
abbrev pub lines_of : List (ℕ × List ℕ) → List (List ℕ)
lines_of numbered = map (λ line. line.1) numbered

-- The paths are those of the lines, of which none has a zero.
pub record ArePathsOf (paths ls : List (List ℕ)) : Type 0 where
  pub plain : Each HasNoZero ls
  pub same : (path : List ℕ) → is_stored path paths ≡ is_stored path ls

-- The paths rise strictly, and are those of the lines, of which none has a zero.
pub record IsIndexOf (ls paths : List (List ℕ)) : Type 0 where
  pub plain : Each HasNoZero ls
  pub rising : Pairwise (λ a b. is_before a b ≡ true) paths
  pub same : (path : List ℕ) → is_stored path paths ≡ is_stored path ls

-- a path was added to the others, unless it was one of them
abbrev pub AddsPath : List ℕ → List (List ℕ) → List (List ℕ) → Type 0
AddsPath path old new = (other : List ℕ) → is_stored other new ≡ (is_stored other old || are_same other path)

-- why a path was not added: it has a zero, or an allocation failed
abbrev pub IsFaultOf : List ℕ → PathError → Type 0
IsFaultOf path Zero = ¬ HasNoZero path
IsFaultOf path NoMemory = ⊤

-- no line before this one has a zero, and it has this fault
abbrev pub IsPathFault : List (List ℕ) → List ℕ → PathError → Type 0
IsPathFault before line fault = Each HasNoZero before × IsFaultOf line fault
