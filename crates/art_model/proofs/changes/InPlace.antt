-- What a change in place keeps, from the lists of names that it touches and from the model's lists of nodes.
use Rattle.std.proofs.Common.{◌≡◌, ℕ, List, [], refl, sym, Option, None, ◌⊎◌, inl, inr}
use Rattle.art_model.specs.Prelude.{Nodes, OpaqueNodePtr, Tree, content_at, IsUsed, IsIn, Footprint, names_in, KeepsOthers, ChangesInPlace}
use Rattle.art_model.specs.Kept.{leaves_in, inners_in}
use Rattle.art_model.proofs.lists.Lists.{each_in}
use Rattle.art_model.proofs.changes.Kept.{KeepLeaves}
use Rattle.art_model.proofs.places.Wholes.{KeepNames}

-- The names of an old and a new tree differ by those placed and freed, and those changed are of the old tree.
pub record AreNames {N : Type 0} (old new placed freed changed : List N) : Type 0 where
  pub placed_in : (n : N) → IsIn n placed → IsIn n new
  pub freed_in : (n : N) → IsIn n freed → IsIn n old
  pub changed_in : (n : N) → IsIn n changed → IsIn n old
  pub old_stays : (n : N) → IsIn n old → IsIn n new ⊎ IsIn n freed
  pub new_comes : (n : N) → IsIn n new → IsIn n old ⊎ IsIn n placed

-- the other way round
pub names_back : {N : Type 0} {old new placed freed : List N} → AreNames old new placed freed [] → AreNames new old freed placed []
names_back names =
    record {
      placed_in = names.freed_in;
      freed_in = names.placed_in;
      changed_in = λ n i. absurd i;
      old_stays = names.new_comes;
      new_comes = names.old_stays;
    }

module _ {K V : Type 0} {s t : Nodes K V} {placed freed changed : List OpaqueNodePtr} (print : Footprint s t placed freed changed) where
  -- nodes outside the tree are unchanged
  pub others_kept : {old new : List OpaqueNodePtr} → AreNames old new placed freed changed → KeepsOthers s t old new
  others_kept {old} {new} names = record {
    beside = λ n not_old not_new. print.others n (λ i. not_new (names.placed_in n i)) (λ i. not_old (names.freed_in n i)) (λ i. not_old (names.changed_in n i));
    gone = λ n is_old not_new. elim (names.old_stays n is_old) [
      | inl i ↦ absurd (not_new i)
      | inr i ↦ (each_in (λ k. IsUsed s k × (content_at t k ≡ None)) n freed print.are_freed i).1
    ];
    taken = λ n is_new not_old. elim (names.new_comes n is_new) [
      | inl i ↦ absurd (not_old i)
      | inr i ↦ (each_in (λ k. (content_at s k ≡ None) × IsUsed t k) n placed print.are_placed i).0
    ];
  }

  -- All of it, where the nodes that stay keep their names.
  pub in_place : {bytes : K × V → List ℕ} (P : ℕ) {old new : Option (Tree OpaqueNodePtr (K × V))} →
      AreNames (names_in old) (names_in new) placed freed changed →
      KeepLeaves bytes P (leaves_in old) (leaves_in new) → KeepNames (inners_in bytes old) (inners_in bytes new) → ChangesInPlace bytes s t old new
  in_place P names leaves inners = record {
    leaves = λ x y n m i j same. sym (leaves (x, n) (y, m) i j tt (sym same));
    inners = λ kind whole n m i j. sym (inners (kind, whole, n) (kind, whole, m) i j refl refl);
    others = others_kept names;
  }
