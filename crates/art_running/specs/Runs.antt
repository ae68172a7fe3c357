-- Runs of commands.
use Rattle.std.specs.Prelude.{◌≡◌, ℕ, List, [], ◌∷◌, Option}
use Rattle.std.specs.Option.{option_map}
use Rattle.art_nodes.specs.Nodes.{Nodes}
use Rattle.art_parts.specs.declared.names.OpaqueNodePtr.{OpaqueNodePtr}
use Rattle.art_model.specs.Radix.{unmarked}
use Rattle.art_running.specs.Steps.{State, Step, IsSound, pairs_in, root_in}
use Rattle.art_running.specs.declared.run.Command.{Command}
use Rattle.art_running.specs.declared.run.Reply.{Reply}
use Rattle.art_running.specs.declared.run.Side.{Side}
use Rattle.art_running.specs.declared.run.Side.TheVariants.{First, Second}

-- one step after another, for each command in order, with one reply each
abbrev pub Chain : {S C R : Type 0} → (S → C → R → S → Type 0) → S → List C → List R → S → Type 0
Chain Step old [] [] new = new ≡ old
Chain {S} Step old (c ∷ cs) (r ∷ rs) new = (mid : S) × Step old c r mid × Chain Step mid cs rs new
Chain Step old [] (r ∷ rs) new = ⊥
Chain Step old (c ∷ cs) [] new = ⊥

-- what a caller sees of a state: the stores, the side that the tree is on, and the root
pub record Shown (K V : Type 0) : Type 0 where
  pub first : Nodes K V
  pub second : Nodes K V
  pub side : Side
  pub root : Option OpaqueNodePtr

-- a root on a side of two stores
abbrev pub on : {K V : Type 0} → Side → Nodes K V → Nodes K V → Option OpaqueNodePtr → Shown K V
on side first second root = record { first = first; second = second; side = side; root = root }

-- the first of two on the first side, and the second on the second
abbrev pub of_side : {X : Type 0} → Side → X → X → X
of_side First x y = x
of_side Second x y = y

-- a root in the store of a side, and the other store
abbrev pub from_side : {K V : Type 0} → Side → Nodes K V → Nodes K V → Option OpaqueNodePtr → Shown K V
from_side side present other root = on side (of_side side present other) (of_side side other present) root

-- what is shown of a state
abbrev pub shown_state : {K V : Type 0} → State K V → Shown K V
shown_state state = from_side state.side state.present state.other (root_in state)

module _ {K V : Type 0} (bytes : K → List ℕ) (P : ℕ) (IsClone : K × V → K × V → Type 0) where
  -- The commands get these replies, a step each, on the way from a state with a canonical root to the last one.
  pub record IsRun (from : Shown K V) (commands : List (Command K V)) (replies : List (Reply K V))
      (to : Shown K V) : Type 0 where
    pub start : State K V
    pub end : State K V
    pub starts : shown_state start ≡ from
    pub ends : shown_state end ≡ to
    pub start_sound : IsSound bytes P start
    pub end_sound : IsSound bytes P end
    pub steps : Chain (Step bytes P IsClone) start commands replies end

  -- runs that leave the same pairs leave the same tree, up to names, whatever their commands and wherever they began
  abbrev pub SamePairsLeaveSameTree : Type 0
  SamePairsLeaveSameTree =
      (from : Shown K V) (commands : List (Command K V)) (replies : List (Reply K V)) (to : Shown K V)
      (start : Shown K V) (others : List (Command K V)) (answers : List (Reply K V)) (end : Shown K V) →
      (one : IsRun from commands replies to) (other : IsRun start others answers end) →
      pairs_in other.end.tree ≡ pairs_in one.end.tree →
      option_map unmarked other.end.tree ≡ option_map unmarked one.end.tree
