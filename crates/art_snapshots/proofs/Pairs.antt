-- Pairs and their entries.
use Rattle.std.proofs.Common.{◌≡◌, ℕ, List, [], ◌∷◌, ◌++◌, Option, Some, IfSome, refl, ap, ap₂, subst, ◌∙◌}
use Rattle.std.proofs.lemmas.List.{map_push}
use Rattle.std.specs.List.{AllByRecursion as Each}
use Rattle.art_keyed.specs.KeyedPairs.{HaveKeys}
use Rattle.snapshot_format.specs.Snapshots.{entry}
use Rattle.art_snapshots.specs.MapEntries.{IsEntry, entries_of}

module _ {K V : Type 0} (bytes : K → List ℕ) (value_bytes : V → List ℕ) where
  -- the entries of pairs can be taken
  pub each_entry : (is_key : K → Type 0) (pairs : List (K × V)) → HaveKeys is_key pairs → Each (IsEntry bytes value_bytes is_key) (entries_of bytes value_bytes pairs)
  each_entry is_key [] keys = tt
  each_entry is_key (x ∷ pairs) keys = (record { key = x.0; value = x.1; of_key = keys.0; is = refl }, each_entry is_key pairs keys.1)

  -- the entries after a pair with these bytes was added
  pub entries_added : (key value : List ℕ) (pair : K × V) (before after : List (K × V)) → bytes pair.0 ≡ key → value_bytes pair.1 ≡ value →
      after ≡ before ++ pair ∷ [] → entries_of bytes value_bytes after ≡ entries_of bytes value_bytes before ++ entry key value ∷ []
  entries_added key value pair before after of_key of_value added =
      ap (entries_of bytes value_bytes) added ∙ map_push _ before pair
      ∙ ap₂ (λ k v. entries_of bytes value_bytes before ++ entry k v ∷ []) of_key of_value

pub some_at : {X : Type 0} (P : X → Type 0) (o : Option X) (x : X) → o ≡ Some x → IfSome o P → P x
some_at P o x e h = subst (λ o. IfSome o P) e h
