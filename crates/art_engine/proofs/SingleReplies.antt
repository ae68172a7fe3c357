-- A run of one command has one reply.
use Rattle.std.proofs.Common.{◌≡◌, ℕ, suc, refl, List, [], ◌∷◌, ◌++◌, length, ap, arith, length-append}
use Rattle.art_running.specs.Runs.{Chain, Shown, IsRun}
use Rattle.art_running.specs.Steps.{Step}
use Rattle.art_running.specs.declared.run.Command.{Command}
use Rattle.art_running.specs.declared.run.Reply.{Reply}

-- a chain has as many replies as commands
chain_long : {S C R : Type 0} (Step : S → C → R → S → Type 0) (old new : S) (cs : List C) (rs : List R) → Chain Step old cs rs new → length rs ≡ length cs
chain_long Step old new [] [] steps = refl
chain_long Step old new (c ∷ cs) (r ∷ rs) (mid, step, steps) = ap suc (chain_long Step mid new cs rs steps)
chain_long Step old new [] (r ∷ rs) steps = absurd steps
chain_long Step old new (c ∷ cs) [] steps = absurd steps

module _ {K V : Type 0} (bytes : K → List ℕ) (P : ℕ) (IsClone : K × V → K × V → Type 0) (from to : Shown K V) (command : Command K V) (reply : Reply K V) where
  -- the last reply to one command is the only one
  pub only_reply : (front : List (Reply K V)) → IsRun bytes P IsClone from (command ∷ []) (front ++ reply ∷ []) to →
      IsRun bytes P IsClone from (command ∷ []) (reply ∷ []) to
  only_reply [] run = run
  only_reply (r ∷ front) run =
      let long = chain_long (Step bytes P IsClone) run.start run.end (command ∷ []) ((r ∷ front) ++ reply ∷ []) run.steps in
      let more = length-append front (reply ∷ []) in
      absurd (omega arith)
