-- What is appended for a request whose command was run.
use Rattle.std.proofs.Common.{◌≡◌, ℕ, List, [], ◌∷◌, ◌++◌, codes, Option, Some, OnOk, Result, Ok, Err, inl, inr}
use Rattle.std.specs.Io.KnownBytes.{Appends}
use Rattle.art_engine.specs.declared.lines.Request.{Request}
use Rattle.art_running.specs.Runs.{IsRun}
use Rattle.art_running.specs.declared.run.Command.{Command}
use Rattle.art_running.specs.declared.run.Reply.{Reply}
use Rattle.art_running.specs.declared.run.Side.{Side}
use Rattle.art_engine.specs.Commands.{AsksForCommand, IsCommandFor}
use Rattle.art_engine.specs.KeptTrees.{state_of, state_before}
use Rattle.art_engine.specs.KeptKeys.{Key, key_bytes}
use Rattle.art_engine.specs.declared.keeping.tree.KeptTree.{KeptTree}
use Rattle.art_engine.specs.Shown.{IsReplied}
use Rattle.art_engine.specs.Texts.{reply_text}

module _ {E : Type 0} (IsClone : Key × ℕ → Key × ℕ → Type 0) (request : Request) (tree after : KeptTree) (old new : Option (List ℕ)) where
  pub run_replied : (command : Command Key ℕ) (reply : Reply Key ℕ) (r : Result (Unit {0}) E) → IsCommandFor request (Some command) →
      (side : Side) × IsRun key_bytes 4 IsClone (state_of tree) (command ∷ []) (reply ∷ []) (state_before side after) →
      OnOk r (Appends old new (reply_text reply ++ codes "\n")) → OnOk r (IsReplied IsClone request tree after old new)
  run_replied command reply (Err e) asked run written = tt
  run_replied command reply (Ok u) asked (side, run) written = inr (inl (command, reply, side, asked, run, written))

  pub no_memory_replied : (r : Result (Unit {0}) E) → AsksForCommand request → state_of after ≡ state_of tree →
      OnOk r (Appends old new (codes "no memory\n")) → OnOk r (IsReplied IsClone request tree after old new)
  no_memory_replied (Err e) asks same written = tt
  no_memory_replied (Ok u) asks same written = inl (asks, same, written)
