-- The leaf of the first or the last pair that is sought is in the store, with its pair.
use Rattle.std.proofs.Common.{◌≡◌, ℕ, List, refl, ap, sym, ◌∙◌, Option, Some, None, IsSome, option_map}
use Rattle.std.specs.FinMap.{get}
use Rattle.art_model.specs.Prelude.{Nodes, leaf_name, LeafPtr, OpaqueNodePtr, IsCanonicalTree, FindsLast, HasLeaf, first_of, last_of, ForTree, IsCanonicalRoot, pair_of, Tree}
use Rattle.art_model.proofs.leaves.LeavesFound.{leaf_found}
use Rattle.art_ranges.specs.FoundTexts.{HasFoundFirst, HasFoundLast}
use Rattle.art_ranges.specs.ShortTexts.{FindsFirst}

module _ {K V : Type 0} (bytes : K × V → List ℕ) (P : ℕ) {s : Nodes K V} {root : OpaqueNodePtr} where
  module _ {pairs : List (K × V)} {layout : Tree OpaqueNodePtr (K × V)} (by : IsCanonicalTree bytes P s root pairs layout) where
    there : {p : LeafPtr} {x : K × V} → HasLeaf layout (leaf_name p) x → IsSome (get s.leaves p)
    there has = let (node, is, its) = leaf_found bytes P by has in rw is refl

    shown : {p : LeafPtr} {x : K × V} → HasLeaf layout (leaf_name p) x → option_map pair_of (get s.leaves p) ≡ Some x
    shown has = let (node, is, its) = leaf_found bytes P by has in ap (option_map pair_of) is ∙ ap Some its

  module _ (is : IsCanonicalRoot bytes P s root) {sought : List (K × V) → List (K × V)} where
    -- of the first
    pub has_found_first : {result : Option LeafPtr} → ForTree bytes P s root (λ pairs layout. FindsFirst layout (sought pairs) result) →
        HasFoundFirst bytes P s root sought result
    has_found_first {result = None} leaf = record { leaf = leaf; there = tt; pair = λ pairs layout by. ap first_of (sym (leaf pairs layout by)) }
    has_found_first {result = Some p} leaf =
        let (pairs, layout, by) = is in
        record {
          leaf = leaf;
          there = there by (leaf pairs layout by).2;
          pair = λ ps l b. let (x, first, has) = leaf ps l b in shown b has ∙ sym first;
        }

    -- of the last
    pub has_found_last : {result : Option LeafPtr} → ForTree bytes P s root (λ pairs layout. FindsLast layout (sought pairs) result) →
        HasFoundLast bytes P s root sought result
    has_found_last {result = None} leaf = record { leaf = leaf; there = tt; pair = λ pairs layout by. ap last_of (sym (leaf pairs layout by)) }
    has_found_last {result = Some p} leaf =
        let (pairs, layout, by) = is in
        record {
          leaf = leaf;
          there = there by (leaf pairs layout by).2;
          pair = λ ps l b. let (x, last, has) = leaf ps l b in shown b has ∙ sym last;
        }
