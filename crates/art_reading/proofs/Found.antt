-- The leaf that is found in the tree is in the store, with its pair.
use Rattle.std.proofs.Common.{ℕ, List, Option}
use Rattle.art_model.specs.Prelude.{Nodes, LeafPtr, OpaqueNodePtr, FindsLeaf, ForTree, IsCanonicalRoot}
use Rattle.art_model.proofs.leaves.LeavesFound.{found_is_there, pair_found}
use Rattle.art_reading.specs.Found.{HasFound}

module _ {K V : Type 0} (bytes : K × V → List ℕ) (P : ℕ) {s : Nodes K V} {root : OpaqueNodePtr} where
  module _ (is : IsCanonicalRoot bytes P s root) {sought : List (K × V) → List (K × V)} where
    -- of the only pair that is sought
    pub has_found : {result : Option LeafPtr} → ForTree bytes P s root (λ pairs layout. FindsLeaf layout (sought pairs) result) →
        HasFound bytes P s root sought result
    has_found {result} leaf =
        let (pairs, layout, by) = is in
        record {
          leaf = leaf;
          there = found_is_there bytes P by result (sought pairs) (leaf pairs layout by);
          pair = λ ps l b. pair_found bytes P b result (sought ps) (leaf ps l b);
        }
