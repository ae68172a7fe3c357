-- The header that remains of a split prefix, from what is stored of the prefix, or from the least leaf below.
use Rattle.std.proofs.Common.{◌≡◌, ◌≢◌, ℕ, ◌+◌, ◌-◌, ◌<◌, ◌≤◌, min, List, length, take, drop, IsSome, Some, None, ap, sym, ◌∙◌, subst, arith}
use Rattle.std.specs.FinMap.{get}
use Rattle.art_model.specs.Prelude.{Inner, Prefix, header_of, leaf_name, inner_name, Nodes, Leaf, InnerPtr, LeafPtr, LeafNode, OpaqueNodePtr, IsCanonicalTree, slots_of, Holds, HasFirstLeaf, depth_of, prefix_of, node_at, pair_of, Tree}
use Rattle.art_parts.proofs.HeaderLaws.{trimmed_header, trimmed_by_leaf, len_of_header}
use Rattle.art_model.proofs.stores.Stores.{path_holds}
use Rattle.art_model.proofs.stores.Writes.{inner_at}
use Rattle.art_reading.specs.declared.end_node.InsertKind.TheVariants.{MismatchPrefix}
use Rattle.art_writing.specs.declared.insert.InsertPoint.{InsertPoint}
use Rattle.art_reading.specs.declared.path.ExplicitMismatch.{ExplicitMismatch}
use Rattle.art_reading.specs.EndNodes.{IsLeafForPrefix}
use Rattle.art_reading.specs.PartEnds.{IsPlaced}
use Rattle.art_writing.specs.Points.{AnswersTo}
use Rattle.art_writing.proofs.BranchLemmas.{end_laid, end_hole, end_depth}
use Rattle.art_writing.proofs.BranchReads.{end_full, inner_found, inner_named, inner_start, inner_least, prefix_inside}
use Rattle.art_reading.proofs.PartNodes.{leaf_is_there, least_is, some_there}
use Rattle.art_reading.proofs.Prefixes as prefixes

module _ {K V : Type 0} {bytes : K × V → List ℕ} {P : ℕ} {s : Nodes K V} {key : List ℕ} {point : InsertPoint} {pairs : List (K × V)}
    {layout : Tree OpaqueNodePtr (K × V)} (by : IsCanonicalTree bytes P s point.root pairs layout) (at : AnswersTo bytes P layout key point) {p : InnerPtr}
    {mismatch : ExplicitMismatch} (kind : point.insert_kind ≡ MismatchPrefix mismatch p) where
  abbrev prefix : List ℕ
  prefix = prefix_of bytes (depth_of at.path) at.node

  part : IsPlaced bytes P s (inner_name p) (depth_of at.path) at.node
  part = record {
    place = take (depth_of at.path) key;
    depth_is = sym (end_depth by at);
    radix = (end_hole by at).radix;
    layout = (end_full by at (inner_named by at kind)).0;
  }

  proper : p.kind ≢ Leaf
  proper =
      let (h, cs, found) = inner_found by at kind in
      (inner_at s (inner_name p) h (slots_of cs) (subst (Holds (node_at s)) found (path_holds (node_at s) at.path at.node (end_laid by at).holds).1).0).0

  pub inner_met : IsSome (get s.inners p)
  inner_met = some_there (get s.inners p) (prefixes.node_there part proper)

  module _ {shown : Inner} (there : Some shown ≡ get s.inners p) {old : Prefix} (read : old ≡ shown.prefix) where
    own : old ≡ header_of P prefix
    own = read ∙ prefixes.header_is part proper there

    -- less than the prefix is removed
    pub trim_inside : mismatch.matched_bytes + 1 ≤ old.len
    trim_inside = let l = len_of_header P prefix old own in let inside = prefix_inside by at kind in omega arith

    -- without a leaf the prefix is stored whole
    stored_whole : mismatch.leaf_ptr ≡ None → old.len ≤ P
    stored_whole none = let l =
        len_of_header P prefix old own in let short : length prefix ≤ P =
        subst (IsLeafForPrefix P prefix at.node) none (inner_least by at kind) in omega arith

    pub trim_whole : mismatch.leaf_ptr ≡ None → (mismatch.matched_bytes + 1 ≤ old.len) × (old.len ≤ P)
    trim_whole none = (trim_inside, stored_whole none)

    pub trim_stored : {new : Prefix} → mismatch.leaf_ptr ≡ None → new.len ≡ old.len - (mismatch.matched_bytes + 1) →
        new.stored ≡ drop (mismatch.matched_bytes + 1) old.stored → new ≡ header_of P (drop (mismatch.matched_bytes + 1) prefix)
    trim_stored {new} none len stored = trimmed_header P (mismatch.matched_bytes + 1) prefix old new own (stored_whole none) len stored

    -- else it is read from the least leaf
    module _ {q : LeafPtr} (some : mismatch.leaf_ptr ≡ Some q) where
      first : HasFirstLeaf at.node (leaf_name q)
      first = let least : (P < length prefix) × HasFirstLeaf at.node (leaf_name q) =
          subst (IsLeafForPrefix P prefix at.node) some (inner_least by at kind) in least.1

      pub least_met : IsSome (get s.leaves q)
      least_met = leaf_is_there s part.layout.holds first.has

      module _ {l : LeafNode K V} (leaf_there : Some l ≡ get s.leaves q) {text : List ℕ} (text_is : text ≡ bytes (pair_of l)) where
        pub trim_given : (mismatch.matched_bytes + 1 ≤ old.len) × (point.key_bytes_used + old.len ≤ length text)
        trim_given =
            let long = prefixes.long_enough part proper there l (λ Q all. least_is s part.layout.holds first Q all l leaf_there) in
            let k = ap (λ z. z.len) read in
            let start = inner_start by at kind in
            let t = ap length text_is in
            (trim_inside, omega arith)

        pub trim_read : {new : Prefix} → new.len ≡ old.len - (mismatch.matched_bytes + 1) →
            new.stored ≡ take (min (old.len - (mismatch.matched_bytes + 1)) P) (drop (point.key_bytes_used + (mismatch.matched_bytes + 1)) text) →
            new ≡ header_of P (drop (mismatch.matched_bytes + 1) prefix)
        trim_read {new} len stored = trimmed_by_leaf P (mismatch.matched_bytes + 1) point.key_bytes_used prefix text old new own trim_inside has len stored
          where
            has : take old.len (drop point.key_bytes_used text) ≡ prefix
            has = ap (λ z. take z.len (drop point.key_bytes_used text)) read ∙
                ap (λ d. take shown.prefix.len (drop d text)) (inner_start by at kind) ∙
                ap (λ z. take shown.prefix.len (drop (depth_of at.path) z)) text_is
                ∙ prefixes.prefix_read part proper there l (λ Q all. least_is s part.layout.holds first Q all l leaf_there)
