-- One step over the children of a node.
use Rattle.std.proofs.Common.{◌≡◌, ◌≢◌, ℕ, ◌-◌, List, [], ◌∷◌, ◌++◌, length, take, Some, sym, ap, subst, ◌∙◌}
use Rattle.std.specs.FinMap as map
use Rattle.art_model.specs.Prelude.{Inner, Children, IsRising, inner_name, Nodes, InnerPtr, Leaf, OpaqueNodePtr, Reaches, slots_of, header_at}
use Rattle.art_inner.specs.Inner.{IsBelow}
use Rattle.art_checking.specs.Checked.{IsPassed, IsRead, IsWalked, NoneAfter, AllBefore}
use Rattle.art_checking.specs.Meetings.{place_in}
use Rattle.art_checking.specs.declared.well_formed.seen.Seen.{Seen}
use Rattle.art_checking.proofs.Passed.{HasPassed, before_last, passed_more, passed_none}
use Rattle.art_checking.proofs.Walked.{HasWalked, child_reached, read_again, rising_right, walked_more, walked_none}

-- Some children of a node were checked, and these are left: the prefix that was read before all of them, and what was passed and met.
pub record HasTurned {K V : Type 0} (bytes : K × V → List ℕ) (P : ℕ) (s : Nodes K V) (old now : Seen) (place whole : List ℕ) (p : InnerPtr)
    (node : Inner) (left : Children) : Type 0 where
  pub read : IsRead bytes P s place whole (inner_name p) (header_at p.kind node)
  pub passed : HasPassed bytes P s old now (place ++ read.part) node.children left
  pub walked : HasWalked bytes P s (place_in old) (place_in now) place read.part (inner_name p) left

-- A child is next: its byte was pushed, it is reached, and its byte is below those that are left.
pub record IsTurn {K V : Type 0} (bytes : K × V → List ℕ) (P : ℕ) (s : Nodes K V) (old now : Seen) (place whole pushed : List ℕ) (p : InnerPtr) (node : Inner)
    (byte : ℕ) (child : OpaqueNodePtr) (left : Children) : Type 0 where
  pub so_far : HasTurned bytes P s old now place whole p node ((byte, child) ∷ left)
  pub open so_far use *
  pub at : pushed ≡ (place ++ read.part) ++ byte ∷ []
  pub step : (root : OpaqueNodePtr) → Reaches bytes P s root place (inner_name p) → Reaches bytes P s root ((place ++ read.part) ++ byte ∷ []) child
  pub rises : IsBelow byte left

module _ {K V : Type 0} {bytes : K × V → List ℕ} {P : ℕ} {s : Nodes K V} {old : Seen} {place whole : List ℕ} {p : InnerPtr} {node : Inner} where
  -- before the first step
  pub none_turned : {left : Children} → node.children ≡ left → IsRead bytes P s place whole (inner_name p) (header_at p.kind node) →
      NoneAfter (place_in old) place →
      HasTurned bytes P s old old place whole p node left
  none_turned all read none = record {
    read = read;
    passed = subst (HasPassed bytes P s old old (place ++ read.part) node.children) all (passed_none old (place ++ read.part) node.children);
    walked =
        subst (HasWalked bytes P s (place_in old) (place_in old) place read.part (inner_name p)) all
        (walked_none read.part (inner_name p) node.children none);
  }

  -- a step begins where the iterator returns a child, whose byte is pushed
  pub turn_from : {now : Seen} {pushed : List ℕ} {rest : Children} {byte : ℕ} {child : OpaqueNodePtr} {left : Children} → p.kind ≢ Leaf →
      map.get s.inners p ≡ Some node →
      IsRising node.children → rest ≡ (byte, child) ∷ left → HasTurned bytes P s old now place whole p node rest → pushed ≡ whole ++ byte ∷ [] →
      IsTurn bytes P s old now place whole pushed p node byte child left
  turn_from {now} {pushed} {rest} {byte} {child} {left} proper there rising steps has more =
      let so_far : HasTurned bytes P s old now place whole p node ((byte, child) ∷ left) = subst (HasTurned bytes P s old now place whole p node) steps has in
      let slots = so_far.passed.slots in
      let before = slots_of so_far.passed.children in
      record {
        so_far = so_far;
        at = more ∙ ap (λ ps. ps ++ byte ∷ []) so_far.read.is;
        step = child_reached bytes P s p node proper there rising so_far.read before byte child left slots;
        rises = (rising_right before ((byte, child) ∷ left) (subst IsRising (sym slots) rising)).0;
      }

module _ {K V : Type 0} {bytes : K × V → List ℕ} {P : ℕ} {s : Nodes K V} {old now : Seen} {place whole pushed : List ℕ} {p : InnerPtr}
    {node : Inner} {byte : ℕ} {child : OpaqueNodePtr}
    {left : Children} (turn : IsTurn bytes P s old now place whole pushed p node byte child left) where
  -- the child is reached by the bytes that were pushed
  pub reached : (root : OpaqueNodePtr) → Reaches bytes P s root place (inner_name p) → Reaches bytes P s root pushed child
  reached root reach = subst (λ ps. Reaches bytes P s root ps child) (sym turn.at) (turn.step root reach)

  -- what was met is before it
  pub free : AllBefore (place_in now) pushed
  free = subst (AllBefore (place_in now)) (sym turn.at) turn.walked.free.0

  -- The step ends once the child and all below it were passed, and the byte was removed: the next child follows.
  pub turned : {new : Seen} {behind rest : List ℕ} {len : ℕ} → IsPassed bytes P s now new pushed child →
      IsWalked bytes P s (place_in now) (place_in new) pushed child →
      behind ≡ pushed → length behind ≡ len → rest ≡ take (len - 1) behind → HasTurned bytes P s old new place rest p node left
  turned {new} {behind} {rest} {len} passed walked kept long cut = record {
    read = read_again bytes P s rest turn.read (before_last behind rest (place ++ turn.read.part) byte len (kept ∙ turn.at) long cut);
    passed = passed_more byte child turn.passed (subst (λ ps. IsPassed bytes P s now new ps child) turn.at passed);
    walked = walked_more byte child turn.walked turn.rises turn.step (subst (λ ps. IsWalked bytes P s (place_in now) (place_in new) ps child) turn.at walked);
  }
