-- Slots with clones of other slots' values, and the maps that they stand for.
use Rattle.std.proofs.Common.{◌≡◌, ℕ, zero, suc, List, [], ◌∷◌, get_or, Option, Some, None, refl, ap}
use Rattle.std.specs.FinMap.{FinMap}
use Rattle.std.specs.List.{AllZip}
use Rattle.slab.specs.Slab.{IsSlotClone}
use Rattle.art_parts.specs.LeafClones.{IsLeafCopy}
use Rattle.art_parts.specs.Names.{leaf_cmp}
use Rattle.art_parts.specs.declared.leaf.LeafNode.{LeafNode}
use Rattle.art_nodes.specs.Replacing.{AreSame}
use Rattle.art_nodes.specs.StoreClones.{IsCopyThere, AreLeafCopies}
use Rattle.art_nodes.specs.StoreView.{leaves_of}
use Rattle.art_nodes.proofs.StoreLemmas.{get_leaves_of, leaf_under}

-- slots with clones that equal what they are clones of are the same slots
module _ {N : Type 0} (is_clone : N → N → Type 0) (same : AreSame is_clone) where
  slot_same : (slot copy : Option N) → IsSlotClone is_clone slot copy → copy ≡ slot
  slot_same None copy is = is
  slot_same (Some node) None is = absurd is
  slot_same (Some node) (Some copy) is = ap Some (same node copy is)

  pub slots_same : (slots copies : List (Option N)) → AllZip (IsSlotClone is_clone) slots copies → copies ≡ slots
  slots_same [] [] are = refl
  slots_same [] (copy ∷ copies) are = absurd are
  slots_same (slot ∷ slots) [] are = absurd are
  slots_same (slot ∷ slots) (copy ∷ copies) are = rw (slot_same slot copy are.0, slots_same slots copies are.1) refl

-- leaves in slots with clones
module _ {K V : Type 0} (is_key_clone : K → K → Type 0) (is_value_clone : V → V → Type 0) where
  copy_there : (slot copy : Option (LeafNode K V)) → IsSlotClone (IsLeafCopy is_key_clone is_value_clone) slot copy →
      IsCopyThere is_key_clone is_value_clone slot copy
  copy_there None copy is = is
  copy_there (Some leaf) copy is = is

  slot_copied : (slots copies : List (Option (LeafNode K V))) → AllZip (IsSlotClone (IsLeafCopy is_key_clone is_value_clone)) slots copies → (at : ℕ) →
      IsCopyThere is_key_clone is_value_clone (get_or slots at None) (get_or copies at None)
  slot_copied [] [] are at = refl
  slot_copied [] (copy ∷ copies) are at = absurd are
  slot_copied (slot ∷ slots) [] are at = absurd are
  slot_copied (slot ∷ slots) (copy ∷ copies) are zero = copy_there slot copy are.0
  slot_copied (slot ∷ slots) (copy ∷ copies) are (suc at) = slot_copied slots copies are.1 at

  -- each name has a clone of its leaf
  pub leaves_copied : (slots copies : List (Option (LeafNode K V))) (leaves : FinMap leaf_cmp (LeafNode K V)) → leaves_of slots ≡ leaves →
      AllZip (IsSlotClone (IsLeafCopy is_key_clone is_value_clone)) slots copies → AreLeafCopies is_key_clone is_value_clone leaves (leaves_of copies)
  leaves_copied slots copies leaves is are name = rw (leaf_under slots leaves name is, get_leaves_of copies name) (slot_copied slots copies are name.slot)
