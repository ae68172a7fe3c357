-- Steps to a tree of one leaf, where there was no tree.
use Rattle.std.proofs.Common.{◌≡◌, ℕ, ◌<◌, List, refl, ap, sym, ◌∙◌, arith, Option, Some, None, zero, suc, inl, inr}
use Rattle.std.proofs.lemmas.Bool.{le-leb, leb-true}
use Rattle.art_model.specs.Prelude.{leaf_name, Nodes, Promise, take_leaf, LeafPtr, OpaqueNodePtr, TouchesAtMost, promise_after, leaf}
use Rattle.art_model.proofs.stores.Touches.{touches_at_most}
use Rattle.art_writing.specs.ParentWrites.{IsPlanted}
use Rattle.art_running.specs.declared.run.Side.{Side}
use Rattle.art_running.specs.declared.run.Command.TheVariants.{Insert, InsertPrefix}
use Rattle.art_running.specs.declared.run.Reply.TheVariants.{Inserted, Overwrote, NoMemory}
use Rattle.art_running.proofs.Moves.{StepFrom, nothing}
use Rattle.art_writing.proofs.OneLeaf.{planted, leaves_touched, inners_touched, in_place}

-- the promise after one leaf
leaf_taken : (promise : Promise) → take_leaf promise ≡ promise_after (record { leaves = 1; inner = None }) promise
leaf_taken promise = go promise.leaves refl
  where
    go : (n : ℕ) → promise.leaves ≡ n → take_leaf promise ≡ promise_after (record { leaves = 1; inner = None }) promise
    go zero e = rw e refl
    go (suc n) e = rw (e, le-leb 1 (suc n) (omega arith)) refl

module _ {K V : Type 0} (bytes : K → List ℕ) (P : ℕ) {s t : Nodes K V} (z : Nodes K V) where
  module _ {n : LeafPtr} {x : K × V} (is : IsPlanted s t n x) where
    few : TouchesAtMost 2 2 4 s t
    few = touches_at_most s t 2 2 4 (leaves_touched bytes P is) (inners_touched bytes P is) tt tt tt (omega arith) (omega arith) (omega arith)

    pub planted_step : {IsClone : K × V → K × V → Type 0} {side : Side} →
        StepFrom bytes P IsClone side s t z None (Insert x.0 x.1) (Inserted None) (Some (leaf_name n))
    planted_step = (
      Some (leaf (leaf_name n) x),
      refl,
      record {
        answers = (refl, refl, refl);
        refuses = tt;
        sound = planted bytes P is;
        changes = record { side = refl; kept = in_place bytes P is; touches = few; other = refl };
        promises = is.promise ∙ leaf_taken s.promise;
      },
    )

    pub planted_prefix_step : {IsClone : K × V → K × V → Type 0} {side : Side} →
        StepFrom bytes P IsClone side s t z None (InsertPrefix x.0 x.1) (Overwrote None 0) (Some (leaf_name n))
    planted_prefix_step = (
      Some (leaf (leaf_name n) x),
      refl,
      record {
        answers = (refl, refl);
        refuses = tt;
        sound = planted bytes P is;
        changes = record { side = refl; kept = in_place bytes P is; touches = few; other = refl };
        promises = is.promise ∙ leaf_taken s.promise;
      },
    )

  -- or an allocation fails
  module _ {k : K} {v : V} {pair : K × V} {root : Option OpaqueNodePtr} (empty : root ≡ None) (same : t ≡ s) (handed : pair ≡ (k, v))
      (none : 0 < s.promise.leaves → ⊥) where
    pub unplanted_step : {IsClone : K × V → K × V → Type 0} {side : Side} → StepFrom bytes P IsClone side s t z None (Insert k v) (NoMemory (Some pair)) root
    unplanted_step = (
      None,
      sym empty,
      record {
        answers = (refl, ap Some handed, refl);
        refuses = inr (λ promised. none (leb-true 1 s.promise.leaves promised));
        sound = refl;
        changes = nothing z None (ap (λ m. m.leaves) same, ap (λ m. m.inners) same);
        promises = inl (ap (λ m. m.promise) same);
      },
    )

    pub unplanted_prefix_step : {IsClone : K × V → K × V → Type 0} {side : Side} →
        StepFrom bytes P IsClone side s t z None (InsertPrefix k v) (NoMemory (Some pair)) root
    unplanted_prefix_step = (
      None,
      sym empty,
      record {
        answers = ((λ e. absurd (omega arith)), ap Some handed, refl);
        refuses = λ promised. none (leb-true 1 s.promise.leaves promised);
        sound = refl;
        changes = nothing z None (ap (λ m. m.leaves) same, ap (λ m. m.inners) same);
        promises = inl (ap (λ m. m.promise) same);
      },
    )
