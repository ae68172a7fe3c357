-- The steps of a clone: to the other store, or a failure.
use Rattle.std.proofs.Common.{◌≡◌, ℕ, List, [], refl, ap, sym, ◌∙◌, subst, Option, Some, None}
use Rattle.art_model.specs.Prelude.{IsPairClone, Nodes, OpaqueNodePtr, IsCanonicalTree, IsCanonical, AreClones, Frees, KeepsOthers, SameNodes, names_of, of_key, IsLessened, pairs_of, ForTree}
use Rattle.art_model.specs.Promises.{tree_taken}
use Rattle.art_model.proofs.stores.Canonical.{tree_radix}
use Rattle.art_running.specs.Runs.{on, of_side, from_side, shown_state}
use Rattle.art_running.specs.Steps.{State, Step, opposite}
use Rattle.art_running.specs.declared.run.Command.TheVariants.{Clone}
use Rattle.art_running.specs.declared.run.Reply.TheVariants.{Cloned, NoMemory}
use Rattle.art_running.specs.declared.run.Side.{Side}
use Rattle.art_running.specs.declared.run.Side.TheVariants.{First, Second}
use Rattle.art_running.proofs.Moves.{Layout, in_store, nothing, own_pairs}

-- What a successful clone leaves: the clone in the other store, and no tree in its source.
pub record HasGone {K V : Type 0} (bytes : K → List ℕ) (P : ℕ) (is_key_clone : K → K → Type 0) (is_value_clone : V → V → Type 0) (s t z w : Nodes K V)
    (layout : Layout K V) (after : OpaqueNodePtr) : Type 0 where
  pub canonical : (copies : List (K × V)) × AreClones is_key_clone is_value_clone (pairs_of layout) copies × IsCanonical (of_key bytes) P w (Some after) copies
  pub gained : ForTree (of_key bytes) P w after (λ _ copy. KeepsOthers z w [] (names_of copy))
  pub freed : Frees (names_of layout) s t
  pub left : t.promise ≡ s.promise
  pub taken : w.promise ≡ tree_taken layout z.promise

module _ {K V : Type 0} (bytes : K → List ℕ) (P : ℕ) (is_key_clone : K → K → Type 0) (is_value_clone : V → V → Type 0) (side : Side) where
  -- no tree has none as its clone
  pub nothing_cloned : {s z : Nodes K V} → Step bytes P (IsPairClone is_key_clone is_value_clone) (in_store side s z None) Clone Cloned (in_store side s z None)
  nothing_cloned {s} {z} = record { answers = tt; refuses = tt; sound = refl; changes = nothing z None (refl, refl); promises = refl }

  -- what is shown when the sides are changed
  shown_over : (t w : Nodes K V) (root : Option OpaqueNodePtr) →
      from_side (opposite side) w t root ≡ on (opposite side) (of_side side t w) (of_side side w t) root
  shown_over t w root = go side
    where
      go : (d : Side) → from_side (opposite d) w t root ≡ on (opposite d) (of_side d t w) (of_side d w t) root
      go First = refl
      go Second = refl

  module _ {s : Nodes K V} {root : OpaqueNodePtr} {layout : Layout K V} (by : IsCanonicalTree (of_key bytes) P s root (pairs_of layout) layout) where
    pub over_step : {t z w : Nodes K V} {after : OpaqueNodePtr} (now : Side) → now ≡ opposite side →
        HasGone bytes P is_key_clone is_value_clone s t z w layout after →
        (new : State K V) × (shown_state new ≡ on now (of_side side t w) (of_side side w t) (Some after)) ×
        Step bytes P (IsPairClone is_key_clone is_value_clone) (in_store side s z (Some layout)) Clone Cloned new
    over_step {t} {z} {w} {after} now over is =
        let (copies, clones, (copy, by_copy)) = is.canonical in (
          in_store (opposite side) w t (Some copy),
          ap (λ n. from_side (opposite side) w t (Some n)) by_copy.stands.0.named ∙ shown_over t w (Some after)
              ∙ ap (λ d. on d (of_side side t w) (of_side side w t) (Some after)) (sym over),
          record {
            answers = subst (AreClones is_key_clone is_value_clone (pairs_of layout)) (sym (tree_radix by_copy).1) clones;
            refuses = tt;
            sound = own_pairs bytes P by_copy;
            changes = record { side = refl; came = is.gained copies copy by_copy; went = is.freed };
            promises = (is.left, is.taken);
          },
        )

    -- or an allocation fails
    pub uncloned_step : (z w : Nodes K V) → SameNodes z w → IsLessened z.promise w.promise →
        (new : State K V) × (shown_state new ≡ from_side side s w (Some root)) ×
        Step bytes P (IsPairClone is_key_clone is_value_clone) (in_store side s z (Some layout)) Clone (NoMemory None) new
    uncloned_step z w same lessened = (
      in_store side s w (Some layout),
      ap (λ n. from_side side s w (Some n)) by.stands.0.named,
      record {
        answers = (refl, refl);
        refuses = λ e. absurd cc;
        sound = own_pairs bytes P by;
        changes = record { side = refl; tree = refl; present = refl; nodes = same };
        promises = lessened;
      },
    )
