-- What is appended for a request that asks to see the tree.
use Rattle.std.specs.Prelude.{◌≡◌, ℕ, ◌⊎◌, List, [], ◌∷◌, ◌++◌, reverse, codes, Option, Some, None, Result, IfErr, IfOk, IfSome, IsOkAnd}
use Rattle.std.specs.Io.KnownBytes.{Appends}
use Rattle.art_engine.specs.declared.lines.Request.{Request}
use Rattle.art_engine.specs.declared.lines.Request.TheVariants.{Walk, Back, Nodes, Check}
use Rattle.art_model.specs.Canonical.{IsCanonical}
use Rattle.art_model.specs.Faults.{out_of_memory}
use Rattle.art_model.specs.Pairs.{of_key}
use Rattle.art_checking.specs.Checks.{IsWellFormed, fault_of}
use Rattle.art_running.specs.Runs.{IsRun}
use Rattle.art_running.specs.declared.run.Command.{Command}
use Rattle.art_running.specs.declared.run.Reply.{Reply}
use Rattle.art_running.specs.declared.run.Side.{Side}
use Rattle.art_checking.specs.declared.well_formed.fault.MalformedTreeError.{MalformedTreeError}
use Rattle.art_checking.specs.declared.well_formed.WellFormedTreeStats.{WellFormedTreeStats}
use Rattle.art_engine.specs.declared.keeping.tree.KeptTree.{KeptTree}
use Rattle.art_engine.specs.Commands.{AsksForCommand, IsCommandFor}
use Rattle.art_engine.specs.KeptTrees.{state_of, state_before}
use Rattle.art_engine.specs.KeptKeys.{Key, key_bytes}
use Rattle.art_engine.specs.NodeLines.{nodes_text}
use Rattle.art_engine.specs.Texts.{check_text, pairs_text, reply_text}

-- these bytes are appended, or a line that reports that an allocation failed
abbrev pub AppendsUnlessNoMemory : Option (List ℕ) → Option (List ℕ) → List ℕ → Type 0
AppendsUnlessNoMemory old new text = Appends old new (codes "no memory\n") ⊎ Appends old new text

-- the line of the tree's pairs, in this order
abbrev pub ShowsPairs : (List (Key × ℕ) → List (Key × ℕ)) → KeptTree → Option (List ℕ) → Option (List ℕ) → Type 0
ShowsPairs order tree old new =
    (pairs : List (Key × ℕ)) → IsCanonical (of_key key_bytes) 4 (state_of tree).first (state_of tree).root pairs →
    Appends old new (pairs_text (order pairs) ++ codes "\n")

-- the lines of the nodes of the tree of its pairs
abbrev pub ShowsNodes : KeptTree → Option (List ℕ) → Option (List ℕ) → Type 0
ShowsNodes tree old new =
    (pairs : List (Key × ℕ)) → IsCanonical (of_key key_bytes) 4 (state_of tree).first (state_of tree).root pairs →
    AppendsUnlessNoMemory old new (nodes_text 4 pairs)

-- what a check of the tree may return: the numbers of its nodes, or out of memory
abbrev pub IsCheckOf : KeptTree → Result WellFormedTreeStats MalformedTreeError → Type 0
IsCheckOf tree checked =
    ((state_of tree).root ≡ None → IsOkAnd checked (λ stats. (stats.num_leaf ≡ 0) × (stats.num_inner ≡ 0))) ×
    IfSome (state_of tree).root (λ name. IfOk checked (IsWellFormed (of_key key_bytes) 4 (state_of tree).first name)) ×
    IfErr checked (λ error. fault_of error ≡ out_of_memory)

-- the line of such a result
abbrev pub ShowsCheck : KeptTree → Option (List ℕ) → Option (List ℕ) → Type 0
ShowsCheck tree old new =
    (checked : Result WellFormedTreeStats MalformedTreeError) × IsCheckOf tree checked ×
    IfSome (check_text checked) (λ text. Appends old new (text ++ codes "\n"))

-- the pairs in either order, the nodes, or a check's result; no other request asks to see something
abbrev pub IsShown : Request → KeptTree → Option (List ℕ) → Option (List ℕ) → Type 0
IsShown Walk tree old new = ShowsPairs (λ pairs. pairs) tree old new
IsShown Back tree old new = ShowsPairs reverse tree old new
IsShown Check tree old new = ShowsCheck tree old new
IsShown Nodes tree old new = ShowsNodes tree old new
IsShown request tree old new = ⊥

-- What is appended for a request: where it asks for a command, that an allocation failed, and then the tree is unchanged; or
-- the reply to a run of that one command; or what is asked to be seen of the tree, which is unchanged.
abbrev pub IsReplied : (Key × ℕ → Key × ℕ → Type 0) → Request → KeptTree → KeptTree → Option (List ℕ) → Option (List ℕ) → Type 0
IsReplied IsClone request tree after old new =
    (AsksForCommand request × (state_of after ≡ state_of tree) × Appends old new (codes "no memory\n")) ⊎
    (((command : Command Key ℕ) × (reply : Reply Key ℕ) × (side : Side) × IsCommandFor request (Some command) ×
    IsRun key_bytes 4 IsClone (state_of tree) (command ∷ []) (reply ∷ []) (state_before side after) ×
    Appends old new (reply_text reply ++ codes "\n")) ⊎
    ((state_of after ≡ state_of tree) × IsShown request tree old new))
