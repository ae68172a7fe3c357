-- What holds once a point of insertion is applied: the contracts of its calls `apply`, whose clauses are the fields of these records.
use Rattle.std.specs.Prelude.{◌≡◌, ℕ, List, Some, Result, IsOk, IsTrue, IfErr, OnOk, OnErr}
use Rattle.std.specs.Option.{option_map}
use Rattle.art_nodes.specs.Nodes.{Nodes, Promise, no_promise}
use Rattle.art_model.specs.Apart.{KeepsApart}
use Rattle.art_model.specs.Canonical.{IsCanonical}
use Rattle.art_model.specs.Kept.{ChangesInPlace}
use Rattle.art_model.specs.Pairs.{overwrite, overwrite_reply, put, put_reply, stored_for}
use Rattle.art_model.specs.Promises.{is_covered, promise_after}
use Rattle.art_model.specs.Roots.{ForTree, IsCanonicalRoot}
use Rattle.art_writing.specs.declared.insert.InsertPoint.{InsertPoint}
use Rattle.art_writing.specs.declared.insert.InsertResult.{InsertResult}
use Rattle.art_writing.specs.declared.insert.PrefixInsertPoint.{PrefixInsertPoint}
use Rattle.art_writing.specs.declared.insert.PrefixInsertResult.{PrefixInsertResult}
use Rattle.art_writing.specs.declared.insert.PairRefused.{PairRefused}
use Rattle.art_writing.specs.Inserted.{HasInserted, IsBelow, Touches, unlinked_leaf}
use Rattle.art_writing.specs.Points.{AnswersTo}
use Rattle.art_writing.specs.Overwritten.{HasCome, TouchesForPrefix, root_of}

-- The nodes are placed, from the promise where it covers them; or the pair is returned, with the nodes as they were and nothing promised.
pub record TakesMemory {K V X : Type 0} (s t : Nodes K V) (placed : Promise) (pair : K × V)
    (result : Result X (PairRefused K V)) : Type 0 where
  pub promise : OnOk result (t.promise ≡ promise_after placed s.promise)
  pub succeeds : IsTrue (is_covered placed s.promise) → IsOk result
  pub handed_back : IfErr result (λ refused. (refused.key ≡ pair.0) × (refused.value ≡ pair.1))
  pub leaves : OnErr result (t.leaves ≡ s.leaves)
  pub inners : OnErr result (t.inners ≡ s.inners)
  pub void : OnErr result (t.promise ≡ no_promise)

module _ {K V : Type 0} (bytes : K × V → List ℕ) (P : ℕ) (s t : Nodes K V) where
  -- An insert point is applied: the pair is put among those of the root.
  pub record IsApplied (point : InsertPoint) (pair : K × V) (done : InsertResult K V) : Type 0 where
    pub canonical : ForTree bytes P s point.root (λ pairs layout.
        IsCanonical bytes P t (Some done.new_root) (put bytes pair pairs))
    pub root : IsCanonicalRoot bytes P t done.new_root
    pub leaf : ForTree bytes P t done.new_root (λ pairs layout.
        HasInserted layout point (stored_for bytes pair pairs) done)
    pub replaced : ForTree bytes P s point.root (λ pairs layout.
        done.existing_leaf ≡ option_map unlinked_leaf (put_reply bytes pair pairs))
    pub kept : ForTree bytes P s point.root (λ pairs old. ForTree bytes P t done.new_root (λ after new.
        ChangesInPlace bytes s t (Some old) (Some new)))
    pub below : ForTree bytes P s point.root (λ pairs old. (at : AnswersTo bytes P old (bytes pair) point) →
        ForTree bytes P t done.new_root (λ after new.
        IsBelow at.path new pair done.leaf_node_ptr done.parent_node_change))
    pub apart : KeepsApart bytes P s t (Some point.root) (Some done.new_root)
    pub touches : Touches point.insert_kind s t

  -- A point of a prefix insertion is applied, of either kind: the pair replaces those with related keys.
  pub record IsPrefixApplied (point : PrefixInsertPoint) (pair : K × V) (done : PrefixInsertResult K V) : Type 0 where
    pub canonical : ForTree bytes P s (root_of point) (λ pairs layout.
        IsCanonical bytes P t (Some done.insert_result.new_root) (overwrite bytes pair pairs))
    pub root : IsCanonicalRoot bytes P t done.insert_result.new_root
    pub leaf : ForTree bytes P t done.insert_result.new_root (λ pairs layout.
        HasCome bytes pairs layout point pair done.insert_result)
    pub replaced : ForTree bytes P s (root_of point) (λ pairs layout.
        done.insert_result.existing_leaf ≡ option_map unlinked_leaf (overwrite_reply bytes pair pairs).0)
    pub removed : ForTree bytes P s (root_of point) (λ pairs layout.
        done.leafs_removed ≡ (overwrite_reply bytes pair pairs).1)
    pub kept : ForTree bytes P s (root_of point) (λ pairs old.
        ForTree bytes P t done.insert_result.new_root (λ after new. ChangesInPlace bytes s t (Some old) (Some new)))
    pub apart : KeepsApart bytes P s t (Some (root_of point)) (Some done.insert_result.new_root)
    pub touches : ForTree bytes P s (root_of point) (λ pairs layout.
        TouchesForPrefix point bytes (bytes pair) s t layout)
