-- What a put or a removal leaves of a store, a root and a length that stand for pairs.
use Rattle.std.specs.Prelude.{◌≡◌, ◌≢◌, ℕ, false, List, [], ◌∷◌, length, Option, Some, None, Result, Ok, Err}
use Rattle.art_nodes.specs.Nodes.{Nodes}
use Rattle.art_parts.specs.declared.names.OpaqueNodePtr.{OpaqueNodePtr}
use Rattle.art_model.specs.Pairs.{is_conflict, of_key, overwrite, put, put_reply, related_to}
use Rattle.art_model.specs.Parts.{below, not_below}
use Rattle.art_writing.specs.declared.insert.PrefixInsertResult.{PrefixInsertResult}
use Rattle.art_writing.specs.declared.insert.PairRefused.{PairRefused}
use Rattle.art_changing.specs.MapAnswers.{IsRefusalOf}
use Rattle.art_changing.specs.MapPairs.{HoldsPairs}
use Rattle.art_changing.specs.declared.insert.MapInsertError.{MapInsertError}

-- how many pairs were replaced: the one that was returned, or those that were freed
abbrev pub gone_count : {K V : Type 0} → PrefixInsertResult K V → ℕ
gone_count done = elim done.insert_result.existing_leaf [ None ↦ done.leafs_removed | Some leaf ↦ 1 ]

module _ {K V : Type 0} (bytes : K → List ℕ) (P : ℕ) where
  -- the pair is the only one, or it is returned and there is none
  abbrev pub HasPlanted : K → V → Result (Unit {0}) (PairRefused K V) → Nodes K V → Option OpaqueNodePtr → ℕ → Type 0
  HasPlanted key value (Ok done) t root len = HoldsPairs (of_key bytes) P t root len ((key, value) ∷ [])
  HasPlanted key value (Err refused) t root len =
      HoldsPairs (of_key bytes) P t root len [] × (refused.key ≡ key) × (refused.value ≡ value)

module _ {K V : Type 0} (bytes : K → List ℕ) (P : ℕ) (pairs : List (K × V)) where
  -- the pair was put, or it is returned and the pairs are unchanged
  abbrev pub HasPut : K → V → Result (Option (K × V)) (MapInsertError K V) → Nodes K V →
      Option OpaqueNodePtr → ℕ → Type 0
  HasPut key value (Ok replaced) t root len =
      HoldsPairs (of_key bytes) P t root len (put (of_key bytes) (key, value) pairs) ×
      (replaced ≡ put_reply (of_key bytes) (key, value) pairs) × (is_conflict (of_key bytes) (bytes key) pairs ≡ false)
  HasPut key value (Err error) t root len =
      HoldsPairs (of_key bytes) P t root len pairs × IsRefusalOf bytes key value pairs error

  -- the pair replaced those with related keys; or it is returned, the pairs are unchanged, and not just one is related
  abbrev pub HasPutOver : K → V → Result ℕ (PairRefused K V) → Nodes K V → Option OpaqueNodePtr → ℕ → Type 0
  HasPutOver key value (Ok gone) t root len =
      HoldsPairs (of_key bytes) P t root len (overwrite (of_key bytes) (key, value) pairs) ×
      (gone ≡ length (related_to (of_key bytes) (bytes key) pairs))
  HasPutOver key value (Err refused) t root len =
      HoldsPairs (of_key bytes) P t root len pairs × (refused.key ≡ key) × (refused.value ≡ value) ×
      (length (related_to (of_key bytes) (bytes key) pairs) ≢ 1)

  -- the pairs whose keys start with a prefix were removed, and this is their number
  abbrev pub HasTakenBelow : List ℕ → ℕ → Nodes K V → Option OpaqueNodePtr → ℕ → Type 0
  HasTakenBelow prefix removed t root len =
      HoldsPairs (of_key bytes) P t root len (not_below (of_key bytes) prefix pairs) ×
      (removed ≡ length (below (of_key bytes) prefix pairs))

-- this pair was removed, if there is one, and these are left
abbrev pub HasTaken : {K V : Type 0} → (K → List ℕ) → ℕ → Option (K × V) → List (K × V) → Option (K × V) → Nodes K V →
    Option OpaqueNodePtr → ℕ → Type 0
HasTaken bytes P pair left taken t root len = HoldsPairs (of_key bytes) P t root len left × (taken ≡ pair)
