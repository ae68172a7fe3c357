-- A change of a leaf, where two changes agree on what the store has.
use Rattle.std.proofs.Common.{◌≡◌, Some, ap, sym, ◌∙◌}
use Rattle.std.specs.FinMap.{get, insert}
use Rattle.art_model.specs.Prelude.{change, LeafPtr, LeafNode, Leaves}
use Rattle.art_nodes.proofs.StoreChanges.{changed_from}

module _ {K V : Type 0} (m : Leaves K V) where
  -- two changes that agree on the names in the store
  pub change_as : (p : LeafPtr) (f h : LeafNode K V → LeafNode K V) (x : LeafNode K V) → get m p ≡ Some x → f x ≡ h x → change m p f ≡ change m p h
  change_as p f h x e same = changed_from m p f (Some x) e ∙ ap (insert m p) same ∙ sym (changed_from m p h (Some x) e)
