-- What all keys of a set are, those that stay and those that are added are too; keys are in the order of their type.
use Rattle.std.proofs.Common.{◌≡◌, ℕ, List, [], ◌∷◌, Bool, true, false, refl, sym, ◌∙◌}
use Rattle.std.specs.List.{AllByRecursion as Each}
use Rattle.std.specs.declared.cmp.Ordering.{Ordering}
use Rattle.std.specs.declared.cmp.Ordering.TheVariants.{Less}
use Rattle.art_keys.specs.Prefixes.{KeepsOrder}
use Rattle.art_keyed.specs.KeyedPairs.{KeysRiseBy}
use Rattle.art_parts.specs.Keys.{Precedes}
use Rattle.art_model.specs.Pairs.{IsMap, has_key, remove_key, replace_key, without_first, without_last}
use Rattle.art_sets.specs.SetKeys.{add_key}
use Rattle.art_model.proofs.keys.KeyLaws.{before_less}
use Rattle.art_model.proofs.lists.Filters.{Each-filter, Each-add, Each-without_last}

module _ {K : Type 0} (is_key : K → Type 0) (bytes : K → List ℕ) where
  pub key_put_keeps : (key : K) (keys : List K) → is_key key → Each is_key keys → Each is_key (add_key bytes key keys)
  key_put_keeps key keys of_key' all = go (has_key bytes (bytes key) keys) refl
    where
      go : (t : Bool) → has_key bytes (bytes key) keys ≡ t → Each is_key (add_key bytes key keys)
      go true e = rw e all
      go false e = rw e (Each-add bytes is_key key keys of_key' all)

  pub key_replace_keeps : (key : K) (keys : List K) → is_key key → Each is_key keys → Each is_key (replace_key bytes key keys)
  key_replace_keeps key keys of_key' all = Each-add bytes is_key key (remove_key bytes (bytes key) keys) of_key' (Each-filter is_key _ keys all)

  pub key_remove_keeps : (key : List ℕ) (keys : List K) → Each is_key keys → Each is_key (remove_key bytes key keys)
  key_remove_keeps key keys all = Each-filter is_key _ keys all

  pub key_last_keeps : (keys : List K) → Each is_key keys → Each is_key (without_last keys)
  key_last_keeps keys all = Each-without_last is_key keys all

  pub key_first_keeps : (keys : List K) → Each is_key keys → Each is_key (without_first keys)
  key_first_keeps [] all = tt
  key_first_keeps (x ∷ keys) all = all.1

  pub keys_rise : {order : K → K → Ordering} → KeepsOrder is_key bytes order → (keys : List K) → Each is_key keys → IsMap bytes keys → KeysRiseBy order keys
  keys_rise keeps [] all sorted = tt
  keys_rise {order} keeps (x ∷ keys) all sorted = (each keys all.1 sorted.0, keys_rise keeps keys all.1 sorted.1)
    where
      each : (others : List K) → Each is_key others → Each (λ y. Precedes (bytes x) (bytes y)) others → Each (λ y. order x y ≡ Less) others
      each [] of_others h = tt
      each (y ∷ others) of_others h = (sym (keeps x y all.0 of_others.0) ∙ before_less _ h.0.0, each others of_others.1 h.1)
