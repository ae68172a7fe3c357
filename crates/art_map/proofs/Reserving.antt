-- What holds of a place that was reserved for a key, or was not.
use Rattle.std.proofs.Common.{◌≡◌, ℕ, List, Option, refl, ap, ◌∙◌, true}
use Rattle.art_model.specs.Prelude.{Nodes, IsMap, is_conflict, of_key, OpaqueNodePtr}
use Rattle.art_reading.specs.declared.end_node.InsertKind.{InsertKind}
use Rattle.art_reading.specs.declared.end_node.InsertKind.TheVariants.{Exact, IntoExisting, MismatchPrefix, SplitLeaf}
use Rattle.art_writing.specs.Inserted.{placed_for}
use Rattle.art_writing.specs.Points.{IsRefusedFor}
use Rattle.art_writing.specs.declared.insert.InsertSearchError.{InsertSearchError}
use Rattle.art_writing.specs.declared.insert.InsertSearchError.TheVariants.{Memory, Prefix}
use Rattle.art_writing.proofs.KeysFound.{conflict_new}
use Rattle.art_changing.specs.MapPairs.{HoldsPairs, pairs_at}
use Rattle.art_map.specs.Reserved.{IsUnreserved}
use Rattle.art_changing.proofs.MapPuts.{stays}
use Rattle.art_changing.proofs.ViewsOfPairs.{holds, view_of}

-- equal inner nodes need the same placements
pub placed_same : {K V : Type 0} (s t : Nodes K V) → t.inners ≡ s.inners → (kind : InsertKind) → placed_for t kind ≡ placed_for s kind
placed_same s t same (Exact p) = refl
placed_same s t same (SplitLeaf p n) = refl
placed_same s t same (IntoExisting p) = ap (λ inners. placed_for (record s { inners = inners }) (IntoExisting p)) same
placed_same s t same (MismatchPrefix m p) = refl

-- a search that found a conflict
pub unreserved : {K V : Type 0} (bytes : K → List ℕ) (key : List ℕ) (pairs : List (K × V)) → IsMap (of_key bytes) pairs →
    is_conflict (of_key bytes) key pairs ≡ true → (error : InsertSearchError) →
    IsRefusedFor key error → IsUnreserved bytes key pairs error
unreserved bytes key pairs rising related (Prefix error) spelled = (spelled, related)
unreserved bytes key pairs rising related (Memory error) any = conflict_new (of_key bytes) key pairs rising related

-- the pairs that are seen of a store with the same nodes
pub seen_after : {K V : Type 0} (bytes : K × V → List ℕ) (P : ℕ) (s t : Nodes K V) {root : Option OpaqueNodePtr} {len : ℕ}
    {seen : List (K × V)} → t.leaves ≡ s.leaves → t.inners ≡ s.inners →
    HoldsPairs bytes P s root len (pairs_at s root) → pairs_at s root ≡ seen → HoldsPairs bytes P t root len (pairs_at t root) × (pairs_at t root ≡ seen)
seen_after bytes P s t leaves inners is view =
    let held = stays bytes P s t leaves inners is in
    (holds bytes P t held, view_of bytes P t held ∙ view)
