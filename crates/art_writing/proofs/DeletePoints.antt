-- points at which leaves are removed
use Rattle.std.proofs.Common.{◌≡◌, ℕ, List, ap, sym, ◌∙◌, subst, Option, Some, None, IfNone, option_map}
use Rattle.art_model.specs.Prelude.{Nodes, leaf_name, OpaqueNodePtr, IsCanonical, IsCanonicalTree, HasLeaf, first_of, last_of, remove_key, remove_reply, pairs_of, ForTree, IsCanonicalRoot, pair_of, Tree}
use Rattle.art_model.proofs.leaves.LeavesFound.{leaf_found}
use Rattle.art_reading.specs.declared.lookup.descent.End.{End}
use Rattle.art_reading.specs.declared.lookup.descent.End.TheVariants.{First, Last}
use Rattle.art_reading.specs.PathSteps.{path_of}
use Rattle.art_reading.specs.Descents.{LeadsToEnd, of_two}
use Rattle.art_writing.specs.declared.delete.DeletePoint.{DeletePoint}
use Rattle.art_writing.specs.Deleted.{HasDeletePoint, HasKeyPoint, IsDeletePoint, LeadsTo, pair_at}
use Rattle.art_writing.proofs.KeysFound.{point_none, point_some, removes_none}

-- the path to a leaf that a point names makes the point that leaf's
pub leads_to : {A : Type 0} {tree : Tree OpaqueNodePtr A} {x : A} {point : DeletePoint} (is : HasLeaf tree (leaf_name point.leaf_node_ptr) x) →
    point.path ≡ path_of is.path → LeadsTo tree x point
leads_to is path_is = record { path = is.path; whole = is.whole; path_is = path_is }

-- where there is a pair, what leads to its leaf is the point
pub point_there : {A : Type 0} {tree : Tree OpaqueNodePtr A} {pair : Option A} {x : A} {point : DeletePoint} → pair ≡ Some x →
    LeadsTo tree x point → IsDeletePoint tree pair (Some point)
point_there {A} {tree} {pair} {x} {point} is leads = subst (λ o. IsDeletePoint tree o (Some point)) (sym is) leads

-- the leaf that a point names has the pair that the point leads to
pub pair_named : {K V : Type 0} (bytes : K × V → List ℕ) (P : ℕ) {s : Nodes K V} {root : OpaqueNodePtr} {pairs : List (K × V)}
    {layout : Tree OpaqueNodePtr (K × V)} {x : K × V} {point : DeletePoint} →
    IsCanonicalTree bytes P s root pairs layout → LeadsTo layout x point → pair_at s (Some point) ≡ Some x
pair_named bytes P by leads =
    let (node, there, its) = leaf_found bytes P by (record { path = leads.path; whole = leads.whole }) in
    ap (option_map pair_of) there ∙ ap Some its

-- and so is what leads to the leaf at an end, of the pair there
pub point_at_end : {A : Type 0} {tree : Tree OpaqueNodePtr A} {pairs : List A} {point : DeletePoint} (end : End) → pairs ≡ pairs_of tree →
    LeadsToEnd tree end point.path point.leaf_node_ptr →
    (x : A) × (of_two end (first_of pairs, last_of pairs) ≡ Some x) × LeadsTo tree x point
point_at_end First same (is, path_is) = (_, ap first_of same ∙ is.pair_is, leads_to is.has path_is)
point_at_end Last same (is, path_is) = (_, ap last_of same ∙ is.pair_is, leads_to is.has path_is)

module _ {K V : Type 0} (bytes : K × V → List ℕ) (P : ℕ) {s : Nodes K V} {name : OpaqueNodePtr} (is : IsCanonicalRoot bytes P s name) where
  -- a point of the pair that is sought
  pub has_delete_point : {sought : List (K × V) → Option (K × V)} {result : Option DeletePoint} →
      ForTree bytes P s name (λ pairs layout. IsDeletePoint layout (sought pairs) result) → HasDeletePoint bytes P s name sought result
  has_delete_point {sought} {result = None} at =
      record { point = at; pair = λ pairs layout by. sym (point_none layout (sought pairs) (at pairs layout by)); applies = tt }
  has_delete_point {sought} {result = Some point} at =
      let (pairs, layout, by) = is in
      let (x, e, leads) = point_some layout point (sought pairs) (at pairs layout by) in
      record {
        point = at;
        pair = λ ps l b. let (y, is, to) = point_some l point (sought ps) (at ps l b) in pair_named bytes P b to ∙ sym is;
        applies = (pairs, layout, x, by, leads);
      }

  -- a point of a key's pair
  pub has_key_point : {key : List ℕ} {result : Option DeletePoint} →
      ForTree bytes P s name (λ pairs layout. IsDeletePoint layout (remove_reply bytes key pairs) result) → HasKeyPoint bytes P s name key result
  has_key_point {key} {result} at =
      let has = has_delete_point at in
      record { point = has.point; pair = has.pair; absent = λ pairs layout by. absent result (at pairs layout by) by; applies = has.applies }
    where
      absent : {pairs : List (K × V)} {layout : Tree OpaqueNodePtr (K × V)} (result : Option DeletePoint) →
          IsDeletePoint layout (remove_reply bytes key pairs) result → IsCanonicalTree bytes P s name pairs layout →
          IfNone result (IsCanonical bytes P s (Some name) (remove_key bytes key pairs))
      absent {pairs} {layout} None at by =
          let none = removes_none bytes key pairs (point_none layout (remove_reply bytes key pairs) at) in
          (layout, subst (λ ps. IsCanonicalTree bytes P s name ps layout) (sym none) by)
      absent (Some point) at by = tt
