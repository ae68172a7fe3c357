-- The steps of a run, as the functions that make them state them.
use Rattle.std.specs.Prelude.{◌≡◌, ℕ, List, Option, Some}
use Rattle.art_nodes.specs.Nodes.{Nodes}
use Rattle.art_parts.specs.declared.names.OpaqueNodePtr.{OpaqueNodePtr}
use Rattle.art_model.specs.Pairs.{of_key, remove_key}
use Rattle.art_model.specs.Roots.{ForTree}
use Rattle.art_writing.specs.Deleted.{LeadsTo}
use Rattle.art_writing.specs.declared.delete.DeletePoint.{DeletePoint}
use Rattle.art_running.specs.Answers.{Answers}
use Rattle.art_running.specs.Runs.{Shown, from_side, shown_state}
use Rattle.art_running.specs.Steps.{State, Step, IsSound}
use Rattle.art_running.specs.declared.run.Command.{Command}
use Rattle.art_running.specs.declared.run.Reply.{Reply}
use Rattle.art_running.specs.declared.run.Reply.TheVariants.{Deleted}
use Rattle.art_running.specs.declared.run.Side.{Side}

module _ {K V : Type 0} (bytes : K → List ℕ) (P : ℕ) (IsClone : K × V → K × V → Type 0) where
  -- a step is made, whatever state is shown so
  abbrev pub MakesStep : Shown K V → Command K V → Reply K V → Shown K V → Type 0
  MakesStep from command reply to = (old : State K V) → shown_state old ≡ from → IsSound bytes P old →
      (new : State K V) × (shown_state new ≡ to) × Step bytes P IsClone old command reply new

  -- a step is made in one store, whichever side it is on and whatever the other one holds
  abbrev pub StepsAlone : Nodes K V → Option OpaqueNodePtr → Command K V → Reply K V → Nodes K V →
      Option OpaqueNodePtr → Type 0
  StepsAlone s root command reply t after =
      (side : Side) (other : Nodes K V) → MakesStep (from_side side s other root) command reply (from_side side t other after)

  -- in all trees of the root: the point leads to a pair that the command removes
  abbrev pub IsDeletionAt : Nodes K V → OpaqueNodePtr → DeletePoint → Command K V → Type 0
  IsDeletionAt s root point command =
      ForTree (of_key bytes) P s root (λ pairs layout. (x : K × V) × LeadsTo layout x point ×
      Answers bytes IsClone pairs command (Deleted (Some x)) (remove_key (of_key bytes) (bytes x.0) pairs))
