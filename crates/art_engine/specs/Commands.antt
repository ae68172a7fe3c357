-- The commands that lines ask for, and what they make of the tree that the program keeps.
use Rattle.std.specs.Prelude.{◌≡◌, ℕ, ⊤, ◌⊎◌, [], ◌∷◌, Option, Some, None}
use Rattle.art_running.specs.Runs.{IsRun}
use Rattle.art_running.specs.declared.run.Command.{Command}
use Rattle.art_running.specs.declared.run.Command.TheVariants as commands
use Rattle.art_running.specs.declared.run.Reply.{Reply}
use Rattle.art_running.specs.declared.run.Side.{Side}
use Rattle.art_engine.specs.KeyTexts.{key_word}
use Rattle.art_engine.specs.KeptTrees.{state_of, state_before}
use Rattle.art_engine.specs.KeptKeys.{Key, key_bytes}
use Rattle.art_engine.specs.declared.lines.Request.{Request}
use Rattle.art_engine.specs.declared.lines.Request.TheVariants.{Insert, Prefix, Delete, First, Last, Clone, Find, Longest, Walk, Back, Nodes, Check}
use Rattle.art_engine.specs.declared.keeping.tree.KeptTree.{KeptTree}

-- the command that a request asks for, with the key that its word writes; no command where it only asks to see the tree
abbrev pub IsCommandFor : Request → Option (Command Key ℕ) → Type 0
IsCommandFor (Insert key value) (Some (commands.Insert k v)) = (key.word.now ≡ key_word k.items) × (v ≡ value)
IsCommandFor (Prefix key value) (Some (commands.InsertPrefix k v)) = (key.word.now ≡ key_word k.items) × (v ≡ value)
IsCommandFor (Delete key) (Some (commands.Delete k)) = key.word.now ≡ key_word k.items
IsCommandFor First (Some commands.DeleteMin) = ⊤
IsCommandFor Last (Some commands.DeleteMax) = ⊤
IsCommandFor Clone (Some commands.Clone) = ⊤
IsCommandFor (Find key) (Some (commands.Contains k)) = key.word.now ≡ key_word k.items
IsCommandFor (Longest key) (Some (commands.LongestMatch k)) = key.word.now ≡ key_word k.items
IsCommandFor Walk None = ⊤
IsCommandFor Back None = ⊤
IsCommandFor Nodes None = ⊤
IsCommandFor Check None = ⊤
IsCommandFor request command = ⊥

-- the request asks for a command, and not to see the tree
abbrev pub AsksForCommand : Request → Type 0
AsksForCommand Walk = ⊥
AsksForCommand Back = ⊥
AsksForCommand Nodes = ⊥
AsksForCommand Check = ⊥
AsksForCommand request = ⊤

-- the tree is unchanged, or after a run of the one command that is asked for
abbrev pub IsAnswered : (Key × ℕ → Key × ℕ → Type 0) → Request → KeptTree → KeptTree → Type 0
IsAnswered IsClone request old new =
    (state_of new ≡ state_of old) ⊎
    ((command : Command Key ℕ) × (reply : Reply Key ℕ) × (side : Side) × IsCommandFor request (Some command) ×
    IsRun key_bytes 4 IsClone (state_of old) (command ∷ []) (reply ∷ []) (state_before side new))
