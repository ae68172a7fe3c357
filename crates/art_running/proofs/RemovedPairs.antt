-- Which pair a command removes.
use Rattle.std.proofs.Common.{◌≡◌, ℕ, List, [], ◌∷◌, ap, sym, subst, Option, Some}
use Rattle.std.specs.Global.{Vec}
use Rattle.art_running.specs.Made.{IsDeletionAt}
use Rattle.art_model.specs.Prelude.{Nodes, OpaqueNodePtr, first_of, last_of, IsMap, of_key, remove_key, remove_reply, ForTree}
use Rattle.art_model.proofs.pairs.MapLaws.{first_is_removed_by_key, last_is_removed_by_key}
use Rattle.art_running.specs.Answers.{Answers}
use Rattle.art_running.specs.declared.run.Command.{Command}
use Rattle.art_running.specs.declared.run.Command.TheVariants.{Delete, DeleteMin, DeleteMax}
use Rattle.art_running.specs.declared.run.Reply.TheVariants.{Deleted}
use Rattle.art_writing.specs.Deleted.{IsDeletePoint}
use Rattle.art_writing.specs.declared.delete.DeletePoint.{DeletePoint}
use Rattle.art_writing.proofs.KeysFound.{point_some, removed_key}

module _ {K V : Type 0} (bytes : K → List ℕ) where
  -- the command removes the pair that is found so, if any, whatever a clone is
  abbrev TakesOut : Command K V → (List (K × V) → Option (K × V)) → Type 0
  TakesOut c found = (pairs : List (K × V)) (x : K × V) → IsMap (of_key bytes) pairs → found pairs ≡ Some x →
      Answers bytes (λ _ _. Unit {0}) pairs c (Deleted (Some x)) (remove_key (of_key bytes) (bytes x.0) pairs)

  pub takes_first : TakesOut DeleteMin first_of
  takes_first [] x rising e = absurd cc
  takes_first (y ∷ rest) x rising e = let same : y ≡ x =
      cc in (
        sym e,
        subst (λ q. remove_key (of_key bytes) (bytes q.0) (y ∷ rest) ≡ rest) same
            (first_is_removed_by_key (of_key bytes) y rest rising),
      )

  pub takes_last : TakesOut DeleteMax last_of
  takes_last pairs x rising e = (sym e, last_is_removed_by_key (of_key bytes) x pairs rising e)

  pub takes_key : (key : Vec ℕ) → TakesOut (Delete key) (remove_reply (of_key bytes) key.items)
  takes_key key pairs x rising e = (sym e, ap (λ k. remove_key (of_key bytes) k pairs) (removed_key (of_key bytes) key.items pairs x e))

  -- so the point of that pair is one for the command
  pub deletion_at : (P : ℕ) {s : Nodes K V} {root : OpaqueNodePtr} {point : DeletePoint} (c : Command K V)
      (found : List (K × V) → Option (K × V)) → TakesOut c found →
      ForTree (of_key bytes) P s root (λ pairs layout. IsDeletePoint layout (found pairs) (Some point)) → IsDeletionAt bytes P (λ _ _. Unit {0}) s root point c
  deletion_at P {s} {root} {point} c found takes is pairs layout by =
      let (x, e, leads) = point_some layout point (found pairs) (is pairs layout by) in (x, leads, takes pairs x by.is_map e)
