-- a chain is extended by one step, and so is a run
use Rattle.std.proofs.Common.{◌≡◌, ℕ, List, [], ◌∷◌, ◌++◌, subst, refl}
use Rattle.art_running.specs.Made.{MakesStep}
use Rattle.art_running.specs.Steps.{State, Step, IsSound}
use Rattle.art_running.specs.Runs.{Chain, Shown, shown_state, IsRun}
use Rattle.art_running.specs.declared.run.Command.{Command}
use Rattle.art_running.specs.declared.run.Reply.{Reply}

module _ {S C R : Type 0} (Step : S → C → R → S → Type 0) where
  chain_more : (old mid new : S) (cs : List C) (rs : List R) (c : C) (r : R) → Chain Step old cs rs mid → Step mid c r new →
      Chain Step old (cs ++ c ∷ []) (rs ++ r ∷ []) new
  chain_more old mid new [] [] c r e s = (new, subst (λ x. Step x c r new) e s, refl)
  chain_more old mid new [] (r' ∷ rs) c r e s = absurd e
  chain_more old mid new (c' ∷ cs) [] c r e s = absurd e
  chain_more old mid new (c' ∷ cs) (r' ∷ rs) c r (x, first, rest) s = (x, first, chain_more x mid new cs rs c r rest s)

module _ {K V : Type 0} {bytes : K → List ℕ} {P : ℕ} {IsClone : K × V → K × V → Type 0} where
  -- a run of no commands
  pub run_none : {from : Shown K V} (old : State K V) → shown_state old ≡ from → IsSound bytes P old → IsRun bytes P IsClone from [] [] from
  run_none old shows sound = record { start = old; end = old; starts = shows; ends = shows; start_sound = sound; end_sound = sound; steps = refl }

  -- a run, and a further step
  pub run_more : {from mid to : Shown K V} {cs : List (Command K V)} {rs : List (Reply K V)} {c : Command K V} {r : Reply K V} →
      IsRun bytes P IsClone from cs rs mid → MakesStep bytes P IsClone mid c r to → IsRun bytes P IsClone from (cs ++ c ∷ []) (rs ++ r ∷ []) to
  run_more {from} {mid} {to} {cs} {rs} {c} {r} run step =
      let (new, shows, made) = step run.end run.ends run.end_sound in
      record {
        start = run.start;
        end = new;
        starts = run.starts;
        ends = shows;
        start_sound = run.start_sound;
        end_sound = made.sound;
        steps = chain_more (Step bytes P IsClone) run.start run.end new cs rs c r run.steps made;
      }
