-- The leaves after some links are changed.
use Rattle.std.proofs.Common.{◌≡◌, Option, Some, IsSome, ap, sym, ◌∙◌, option_map}
use Rattle.std.specs.FinMap.{get, insert}
use Rattle.art_model.specs.Prelude.{LeafPtr, LeafNode, pair_of, Leaves, IsThere, with_links_around}
use Rattle.art_parts.proofs.NameLemmas.{leaf_cmp_total, leaf_cmp-IsAntisymmetric}
use Rattle.art_model.proofs.stores.Touches.{still_placed}
use Rattle.art_model.proofs.leaves.Leaves.{joined_pair}
use Rattle.art_reading.proofs.PartNodes.{some_there}

module _ {K V : Type 0} (m : Leaves K V) where
  -- a new leaf leaves the others in the store
  pub there_placed : (n : LeafPtr) (x : LeafNode K V) (o : Option LeafPtr) → IsThere m o → IsThere (insert m n x) o
  there_placed n x o h p e = still_placed leaf_cmp_total leaf_cmp-IsAntisymmetric m n p x (h p e)

  -- a leaf is in the store, with its pair, after the links around a place change
  module _ (before after next previous : Option LeafPtr) (q : LeafPtr) (x : LeafNode K V) (is : get m q ≡ Some x) where
    pub joined_there : IsSome (get (with_links_around m before after next previous) q)
    joined_there =
        some_there _ (λ gone.
        let pairs = sym (ap (option_map pair_of) is) ∙ sym (joined_pair m before after next previous q) ∙ ap (option_map pair_of) (sym gone) in absurd cc)

    pub joined_keeps : (y : LeafNode K V) → get (with_links_around m before after next previous) q ≡ Some y → pair_of y ≡ pair_of x
    joined_keeps y e = let pairs = sym (ap (option_map pair_of) e) ∙ joined_pair m before after next previous q ∙ ap (option_map pair_of) is in cc
