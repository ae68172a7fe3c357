-- What a change leaves of a store, a root and a length that stand for pairs. No public clause cites this module.
use Rattle.std.specs.Prelude.{◌≡◌, ◌≢◌, ℕ, Bool, true, false, not, filter, if◌then◌else◌, List, [], length, Option, Some, None, Result, Ok, Err}
use Rattle.std.specs.FinMap as nodes
use Rattle.art_nodes.specs.Lends.{with_leaf_value}
use Rattle.art_nodes.specs.Nodes.{Nodes}
use Rattle.art_parts.specs.declared.names.OpaqueNodePtr.{OpaqueNodePtr}
use Rattle.art_parts.specs.Names.{leaf_name}
use Rattle.art_parts.specs.declared.leaf.LeafNode.{LeafNode}
use Rattle.art_parts.specs.declared.names.LeafPtr.{LeafPtr}
use Rattle.art_model.specs.Canonical.{IsCanonicalTree}
use Rattle.art_model.specs.Clones.{AreClones}
use Rattle.art_model.specs.Lookups.{HasLeaf}
use Rattle.art_model.specs.Pairs.{first_of, has_key, is_conflict, of_key, put, replace_key, with_key}
use Rattle.art_model.specs.Trees.{Tree}
use Rattle.art_writing.specs.Inserted.{IsPointIn}
use Rattle.art_writing.specs.Points.{IsRefusedFor}
use Rattle.art_reading.specs.declared.end_node.InsertKind.TheVariants.{Exact}
use Rattle.art_map.specs.MadeKeys.{IsSourceRefusal}
use Rattle.art_changing.specs.MapAnswers.{IsRefusalOf}
use Rattle.art_iterating.specs.MapItems.{keys_of}
use Rattle.art_changing.specs.MapPairs.{HoldsPairs, pairs_at}
use Rattle.art_changing.specs.declared.insert.MapInsertError.{MapInsertError}
use Rattle.art_map.specs.MapCalls.{ChangesBy, IsMakeRefusal}
use Rattle.art_map.specs.declared.map.MapMakeError.{MapMakeError}
use Rattle.art_map.specs.declared.map.to_key.MapSourceError.{MapSourceError}
use Rattle.art_map.specs.declared.map.position.Position.{Position}
use Rattle.art_map.specs.declared.map.position.Position.TheVariants as positions

-- there is a pair, and the tree has its leaf under this name
abbrev pub NamesPair : {A : Type 0} → Tree OpaqueNodePtr A → Option A → LeafPtr → Type 0
NamesPair {A} layout pair leaf = (x : A) × (pair ≡ Some x) × HasLeaf layout (leaf_name leaf) x

-- a call of f on the pair of this leaf left another value, which the leaf now has
abbrev pub ChangesLeaf : {K V F : Type 0} → (F → K × V → F → V → Type 0) → LeafPtr → F → Nodes K V → F → Nodes K V → Type 0
ChangesLeaf {K} {V} calls leaf f s left t =
    (node : LeafNode K V) × (value : V) × (nodes.get s.leaves leaf ≡ Some node) × calls f (node.key, node.value) left value ×
    (t ≡ with_leaf_value s leaf value)

-- this leaf exists, with the key of these bytes
abbrev pub HasKeyAt : {K V : Type 0} → (K → List ℕ) → Nodes K V → LeafPtr → List ℕ → Type 0
HasKeyAt {K} {V} bytes s leaf key = (node : LeafNode K V) × (nodes.get s.leaves leaf ≡ Some node) × (bytes node.key ≡ key)

-- The root's tree has the leaf of a key under this name.
pub record NamesLeafOf {K V : Type 0} (bytes : K → List ℕ) (P : ℕ) (s : Nodes K V) (root : Option OpaqueNodePtr)
    (key : List ℕ) (leaf : LeafPtr) : Type 0 where
  pub name : OpaqueNodePtr
  pub pairs : List (K × V)
  pub layout : Tree OpaqueNodePtr (K × V)
  pub pair : K × V
  pub root_is : root ≡ Some name
  pub by : IsCanonicalTree (of_key bytes) P s name pairs layout
  pub has : HasLeaf layout (leaf_name leaf) pair
  pub key_is : bytes pair.0 ≡ key

-- the leaf is the key's; or there is none, and the key is not stored
abbrev pub IsLeafOfKey : {K V : Type 0} → (K → List ℕ) → ℕ → Nodes K V → OpaqueNodePtr → List ℕ → Option LeafPtr → Type 0
IsLeafOfKey bytes P s root key (Some leaf) = NamesLeafOf bytes P s (Some root) key leaf
IsLeafOfKey bytes P s root key None = with_key (of_key bytes) key (pairs_at s (Some root)) ≡ []

-- The leaf is the key's; or the point is, and no key is equal or conflicts; or there is no tree; or a key conflicts.
abbrev pub IsPositionOf : {K V : Type 0} → (K → List ℕ) → ℕ → Nodes K V → Option OpaqueNodePtr → List ℕ → Position → Type 0
IsPositionOf bytes P s root key (positions.Leaf leaf) = NamesLeafOf bytes P s root key leaf
IsPositionOf bytes P s root key (positions.Point point) =
    (root ≡ Some point.root) × IsPointIn (of_key bytes) P s key point × ((leaf : LeafPtr) → point.insert_kind ≢ Exact leaf) ×
    (is_conflict (of_key bytes) key (pairs_at s root) ≡ false)
IsPositionOf bytes P s root key positions.Bare = root ≡ None
IsPositionOf bytes P s root key (positions.Refused error) =
    IsRefusedFor key error × (is_conflict (of_key bytes) key (pairs_at s root) ≡ true)

-- the pairs with a new one, if its key is not stored yet
abbrev pub put_new : {K V : Type 0} → (K → List ℕ) → K × V → List (K × V) → List (K × V)
put_new bytes new pairs = if has_key (of_key bytes) (bytes new.0) pairs then pairs else put (of_key bytes) new pairs

module _ {K V : Type 0} (bytes : K → List ℕ) (P : ℕ) (pairs : List (K × V)) where
  -- the pair was inserted in place of the one with an equal key, or it is returned and the pairs are unchanged
  abbrev pub HasReplaced : K → V → Result (Option (K × V)) (MapInsertError K V) → Nodes K V → Option OpaqueNodePtr → ℕ → Type 0
  HasReplaced key value (Ok replaced) t root len =
      HoldsPairs (of_key bytes) P t root len (replace_key (of_key bytes) (key, value) pairs) ×
      (replaced ≡ first_of (with_key (of_key bytes) (bytes key) pairs)) × (is_conflict (of_key bytes) (bytes key) pairs ≡ false)
  HasReplaced key value (Err error) t root len =
      HoldsPairs (of_key bytes) P t root len pairs × IsRefusalOf bytes key value pairs error

  -- the pair was put if its key is new, and the key's leaf is returned; or the pair is, and the pairs are unchanged
  abbrev pub HasEntered : K → V → Result LeafPtr (MapInsertError K V) → Nodes K V → Option OpaqueNodePtr → ℕ → Type 0
  HasEntered key value (Ok leaf) t root len =
      HoldsPairs (of_key bytes) P t root len (put_new bytes (key, value) pairs) × NamesLeafOf bytes P t root (bytes key) leaf ×
      (is_conflict (of_key bytes) (bytes key) pairs ≡ false)
  HasEntered key value (Err error) t root len =
      HoldsPairs (of_key bytes) P t root len pairs × IsRefusalOf bytes key value pairs error

  -- the same with some value, which was made if the key was not stored
  abbrev pub HasMade : K → (V → Type 0) → Result LeafPtr (MapInsertError K V) → Nodes K V → Option OpaqueNodePtr → ℕ → Type 0
  HasMade key IsMade result t root len =
      (value : V) × (has_key (of_key bytes) (bytes key) pairs ≡ false → IsMade value) × HasEntered key value result t root len

  -- the same with a closure that may fail; if it does, the pairs are unchanged
  abbrev pub HasTried : {E : Type 0} → K → (Result V E → Type 0) → Result LeafPtr (MapMakeError K V E) → Nodes K V → Option OpaqueNodePtr → ℕ → Type 0
  HasTried key IsMade (Ok leaf) t root len = HasMade key (λ value. IsMade (Ok value)) (Ok leaf) t root len
  HasTried key IsMade (Err error) t root len =
      HoldsPairs (of_key bytes) P t root len pairs × IsMakeRefusal bytes key IsMade pairs error

  -- the same with a key that is made if it is not stored; if it is not made or not inserted, the pairs are unchanged
  abbrev pub HasEnteredFrom : K → Type 0 → Type 0 → V → Result LeafPtr (MapSourceError K V) → Nodes K V → Option OpaqueNodePtr → ℕ → Type 0
  HasEnteredFrom key IsKey AllocatesNothing value (Ok leaf) t root len =
      HasEntered key value (Ok leaf) t root len × (has_key (of_key bytes) (bytes key) pairs ≡ false → IsKey)
  HasEnteredFrom key IsKey AllocatesNothing value (Err error) t root len =
      HoldsPairs (of_key bytes) P t root len pairs × IsSourceRefusal bytes key IsKey AllocatesNothing value pairs error

  -- a store, a root and a length stand for clones of the pairs
  abbrev pub HoldsClones : (K → K → Type 0) → (V → V → Type 0) → Nodes K V → Option OpaqueNodePtr → ℕ → Type 0
  HoldsClones is_key_clone is_value_clone t root len =
      (copies : List (K × V)) × AreClones is_key_clone is_value_clone pairs copies ×
      HoldsPairs (of_key bytes) P t root len copies

-- The root still stands for as many pairs, with the same keys. Of those that an iterator began with, where they are the
-- ones that pass a test of their keys, f changed each; the others are unchanged.
pub record HasChanged {K V F : Type 0} (bytes : K → List ℕ) (P : ℕ) (calls : F → K × V → F → V → Type 0) (f : F) (began : List (K × V))
    (before : List (K × V)) (left : F) (t : Nodes K V) (root : Option OpaqueNodePtr) (len : ℕ) : Type 0 where
  pub holds : HoldsPairs (of_key bytes) P t root len (pairs_at t root)
  pub keys : keys_of (pairs_at t root) ≡ keys_of before
  pub those : (test : List ℕ → Bool) → began ≡ filter (λ x. test (bytes x.0)) before →
      ChangesBy calls f (filter (λ x. test (bytes x.0)) before) (filter (λ x. test (bytes x.0)) (pairs_at t root)) left ×
      (filter (λ x. not (test (bytes x.0))) (pairs_at t root) ≡ filter (λ x. not (test (bytes x.0))) before)
