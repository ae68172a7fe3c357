-- A key's own point is that of the first key that starts with it, if that one is no longer.
use Rattle.std.proofs.Common.{◌≡◌, ℕ, ◌<◌, ◌≤◌, List, [], length, if◌then◌else◌, ap, append-nil, arith, refl, sym, ◌∙◌, subst, Some, None, IsSome}
use Rattle.std.specs.FinMap as map
use Rattle.art_model.specs.Prelude.{Nodes, LeafNode, OpaqueNodePtr, IsCanonicalTree, common_front, is_front, first_of, remove_reply, below, pair_of, Tree}
use Rattle.art_model.proofs.keys.Fronts.{shared_whole}
use Rattle.art_model.proofs.keys.KeyLaws.{common_front_is_longest}
use Rattle.art_model.proofs.keys.Texts.{front_short, not_front, true_front}
use Rattle.art_model.proofs.leaves.LeavesFound.{leaf_found}
use Rattle.art_reading.specs.Matching.{shared_len}
use Rattle.art_reading.proofs.PartNodes.{own_pair}
use Rattle.art_writing.specs.Deleted.{IsDeletePoint, LeadsTo}
use Rattle.art_writing.specs.declared.delete.DeletePoint.{DeletePoint}
use Rattle.art_writing.proofs.DeletePoints.{point_there}
use Rattle.art_writing.proofs.KeysFound.{first_below, none_below, point_none, point_some}

module _ {K V : Type 0} {bytes : K × V → List ℕ} {P : ℕ} {s : Nodes K V} {root : OpaqueNodePtr} {pairs : List (K × V)}
    {layout : Tree OpaqueNodePtr (K × V)} (by : IsCanonicalTree bytes P s root pairs layout) {start key : List ℕ} (same : start ≡ key) where
  -- no key starts with it
  pub none_starts : IsDeletePoint layout (first_of (below bytes start pairs)) None → remove_reply bytes key pairs ≡ None
  none_starts none = none_below bytes key pairs
      (subst (λ k. first_of (below bytes k pairs) ≡ None) same (point_none layout (first_of (below bytes start pairs)) none))

  module _ (point : DeletePoint) (first : IsDeletePoint layout (first_of (below bytes start pairs)) (Some point)) where
    pub there : IsSome (map.get s.leaves point.leaf_node_ptr)
    there =
        let (x, e, leads) = point_some layout point (first_of (below bytes start pairs)) first in
        let (node, found, its) = leaf_found bytes P by (record { path = leads.path; whole = leads.whole }) in
        rw found refl

    module _ {node : LeafNode K V} (read : map.get s.leaves point.leaf_node_ptr ≡ Some node) {own : List ℕ} (own_is : own ≡ bytes (pair_of node))
        {n : ℕ} (shared : n ≡ shared_len own key) where
      its_pair : (x : K × V) × (remove_reply bytes key pairs ≡ (if is_front own key then Some x else None)) × LeadsTo layout x point
      its_pair =
          let (x, e, leads) = point_some layout point (first_of (below bytes start pairs)) first in
          let its : pair_of node ≡ x = own_pair by (record { path = leads.path; whole = leads.whole }) (sym read) in (
            x,
            first_below bytes key pairs x by.is_map (subst (λ k. first_of (below bytes k pairs) ≡ Some x) same e)
                ∙ ap (λ z. if is_front z key then Some x else None) (ap bytes (sym its) ∙ sym own_is),
            leads,
          )

      -- the first key that starts with it is longer
      pub longer : n < length own → remove_reply bytes key pairs ≡ None
      longer less =
          let (x, is, leads) = its_pair in
          is ∙ ap (λ b. if b then Some x else None) (not_front own key (λ leads_key.
          let short = front_short own (common_front own key) ((common_front_is_longest own key).2 own ([], sym (append-nil own)) leads_key) in
          absurd (omega arith)))

      -- it is the key itself
      pub no_longer : length own ≤ n → IsDeletePoint layout (remove_reply bytes key pairs) (Some point)
      no_longer all =
          let (x, is, leads) = its_pair in
          let found = is ∙ ap (λ b. if b then Some x else None) (true_front own key (shared_whole own key (omega arith))) in
          point_there found leads
