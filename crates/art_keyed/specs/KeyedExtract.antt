-- Pairs that an iterator removes from a map whose keys never conflict, and returns.
use Rattle.std.specs.Prelude.{◌≡◌, ℕ, ◌&&◌, List, Option}
use Rattle.std.specs.declared.cmp.Ordering.{Ordering}
use Rattle.std.specs.declared.ops.Bound.{Bound}
use Rattle.art_parts.specs.Keys.{is_front}
use Rattle.art_model.specs.Pairs.{of_key}
use Rattle.art_map.specs.MapExtract.{ExtractsFirst}
use Rattle.art_keyed.specs.KeyedPairs.{is_key_from, is_key_up_to}
use Rattle.art_keyed.specs.declared.map.extract.TreeExtractPrefixOf.{TreeExtractPrefixOf}
use Rattle.art_keyed.specs.declared.map.extract.TreeExtractRangeOf.{TreeExtractRangeOf}

module _ {R K V : Type 0} (bytes : K → List ℕ) (order : K → K → Ordering) (has_bounds : R → Type 0) (start end : R → Bound K) where
  -- the first pair in the range was removed and returned
  abbrev pub ExtractsKeys : TreeExtractRangeOf R (List (K × V)) → Option (K × V) → TreeExtractRangeOf R (List (K × V)) → Type 0
  ExtractsKeys s taken t =
      (t.map.ghost_name ≡ s.map.ghost_name) × (t.range ≡ s.range) ×
      (has_bounds s.range → ExtractsFirst (of_key bytes)
      (λ x. is_key_from order (start s.range) x.0 && is_key_up_to order (end s.range) x.0) s.map.now taken t.map.now)

module _ {K V : Type 0} (bytes text : K → List ℕ) where
  -- the first pair whose string starts with that of the key was removed and returned
  abbrev pub ExtractsStrings : TreeExtractPrefixOf K (List (K × V)) → Option (K × V) → TreeExtractPrefixOf K (List (K × V)) → Type 0
  ExtractsStrings s taken t =
      (t.map.ghost_name ≡ s.map.ghost_name) × (t.prefix ≡ s.prefix) ×
      ExtractsFirst (of_key bytes) (λ x. is_front (text s.prefix.now) (text x.0)) s.map.now taken t.map.now
