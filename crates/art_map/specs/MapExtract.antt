-- Pairs that an iterator removes from a map and returns, each the first of those that pass a test.
use Rattle.std.specs.Prelude.{◌≡◌, ℕ, Bool, not, List, filter, Option, None}
use Rattle.std.specs.Iterator.{YieldsFirst, YieldsThen}
use Rattle.std.specs.Range.Bound.{bound_map}
use Rattle.art_parts.specs.Keys.{is_front}
use Rattle.art_model.specs.Pairs.{of_key}
use Rattle.art_model.specs.Parts.{is_between}
use Rattle.art_map.specs.MapParts.{without}
use Rattle.art_map.specs.declared.map.extract.ExtractPrefixOf.{ExtractPrefixOf}
use Rattle.art_map.specs.declared.map.extract.ExtractRangeOf.{ExtractRangeOf}

module _ {A : Type 0} (bytes : A → List ℕ) (test : A → Bool) where
  -- The first pair that passes the test was removed and returned, or there was none. The other pairs are unchanged.
  pub record ExtractsFirst (before : List A) (taken : Option A) (after : List A) : Type 0 where
    pub pairs : after ≡ without bytes taken before
    pub first : YieldsFirst (filter test) before taken after
    pub others : filter (λ x. not (test x)) after ≡ filter (λ x. not (test x)) before

  -- if calls returned some pairs and then `None`, these are all that pass, in order, and the others are left
  abbrev pub ExtractsAll : {S : Type 0} → (S → Option A → S → Type 0) → (S → List A) → List A → S → Type 0
  ExtractsAll {S} steps pairs_of before from =
      (xs : List A) (to : S) → YieldsThen steps from xs None to →
      (xs ≡ filter test before) × (pairs_of to ≡ filter (λ x. not (test x)) before)

module _ {K V : Type 0} (bytes : K → List ℕ) where
  -- the first pair between the bounds was removed and returned
  abbrev pub ExtractsBetween : ExtractRangeOf (List (K × V)) → Option (K × V) → ExtractRangeOf (List (K × V)) → Type 0
  ExtractsBetween s taken t =
      (t.map.ghost_name ≡ s.map.ghost_name) × (t.from ≡ s.from) × (t.to ≡ s.to) ×
      ExtractsFirst (of_key bytes) (λ x. is_between (bound_map (λ b. b.now) s.from) (bound_map (λ b. b.now) s.to) (bytes x.0)) s.map.now taken t.map.now

  -- the first pair with the prefix was removed and returned
  abbrev pub ExtractsBelow : ExtractPrefixOf (List (K × V)) → Option (K × V) → ExtractPrefixOf (List (K × V)) → Type 0
  ExtractsBelow s taken t =
      (t.map.ghost_name ≡ s.map.ghost_name) × (t.prefix ≡ s.prefix) ×
      ExtractsFirst (of_key bytes) (λ x. is_front s.prefix.now (bytes x.0)) s.map.now taken t.map.now
