-- The replies to the lines of a text.
use Rattle.std.specs.Prelude.{◌≡◌, ◌≢◌, ℕ, ◌+◌, ◌⊎◌, List, [], ◌∷◌, ◌++◌, codes, Option, None, vec_len}
use Rattle.std.specs.Fmt.{decimal}
use Rattle.std.specs.List.{AllByRecursion as Each, AllZip}
use Rattle.std.specs.Io.KnownBytes.{Appends, Keeps}
use Rattle.art_parts.specs.LeafClones.{IsPairClone}
use Rattle.art_engine.specs.CommandLines.{HasSmallValue, line_of}
use Rattle.art_engine.specs.declared.lines.Request.{Request}
use Rattle.art_engine.specs.declared.keeping.status.Ending.{Ending}
use Rattle.art_engine.specs.declared.keeping.status.Ending.TheVariants.{Input, BadLine}
use Rattle.art_engine.specs.declared.keeping.tree.KeptTree.{KeptTree}
use Rattle.art_engine.specs.KeptKeys.{Key}
use Rattle.art_engine.specs.KeptTrees.{state_of}
use Rattle.art_engine.specs.Shown.{IsReplied}

-- the line writes the request, and its value is one that a request can have
abbrev pub AsksFor : List ℕ → Request → Type 0
AsksFor line request = HasSmallValue request × (line ≡ line_of request)

-- the line asks for something
abbrev pub IsAsked : List ℕ → Type 0
IsAsked line = (request : Request) × AsksFor line request

-- the line is no valid request
abbrev pub AsksForNothing : List ℕ → Type 0
AsksForNothing line = (request : Request) → HasSmallValue request → line ≢ line_of request

-- each line asks for something
abbrev pub AllAsk : List (List ℕ) → Type 0
AllAsk = Each IsAsked

-- one line is no valid request, and each before it is one
abbrev pub OneAsksForNothing : List (List ℕ) → Type 0
OneAsksForNothing lines =
    (before : List (List ℕ)) × (line : List ℕ) × (after : List (List ℕ)) × (lines ≡ before ++ line ∷ after) ×
    AllAsk before × AsksForNothing line

-- the reply to a line of this number that is no valid request
abbrev pub refusal : ℕ → List ℕ
refusal number = codes "line " ++ decimal number ++ codes ": refused\n"

-- a clone of a pair: a key of equal bytes, and an equal value
abbrev pub IsClone : Key × ℕ → Key × ℕ → Type 0
IsClone = IsPairClone (λ old new. AllZip (λ b c. c ≡ b) old.items new.items × (vec_len new ≡ vec_len old)) (λ old new. new ≡ old)

-- Each line is answered in its turn, and leaves the tree that the next one finds; the last tree is the one that they all leave.
-- The first line that is no valid request gets an error with its number, and no further one is answered.
abbrev pub AreServed : List (List ℕ) → ℕ → KeptTree → KeptTree → Option (List ℕ) → Ending → Option (List ℕ) → Type 0
AreServed [] number tree last old why new = (why ≡ Input) × (last ≡ tree) × Keeps old new
AreServed (line ∷ lines) number tree last old why new =
    (AsksForNothing line × (why ≡ BadLine) × (last ≡ tree) × Appends old new (refusal number)) ⊎
    ((request : Request) × (left : KeptTree) × (replied : Option (List ℕ)) × (kept : Option (List ℕ)) ×
    AsksFor line request × IsReplied IsClone request tree left old replied × Keeps replied kept ×
    AreServed lines (number + 1) left last kept why new)

-- each line is answered in its turn, the first one from no tree
abbrev pub AreServedAnew : List (List ℕ) → Ending → Option (List ℕ) → Option (List ℕ) → Type 0
AreServedAnew lines why old new =
    (tree : KeptTree) × (last : KeptTree) × ((state_of tree).root ≡ None) × AreServed lines 1 tree last old why new
