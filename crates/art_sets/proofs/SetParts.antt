-- What is removed from a map, by the keys alone.
use Rattle.std.proofs.Common.{◌≡◌, ℕ, List, [], ◌∷◌, ◌++◌, not, ap, sym, refl, ◌∙◌}
use Rattle.std.specs.declared.ops.Bound.{Bound}
use Rattle.art_model.specs.Prelude.{is_before, of_key, is_between}
use Rattle.art_iterating.specs.MapItems.{keys_of}
use Rattle.art_map.specs.MapParts.{keys_before, keys_from, not_between}
use Rattle.art_sets.proofs.SetLaws.{keys_between, keys_first, keys_len, keys_where, removed_keys}

module _ {K V : Type 0} (bytes : K → List ℕ) where
  pub keys_not_between : (from to : Bound (List ℕ)) (pairs : List (K × V)) →
      not_between bytes from to (keys_of pairs) ≡ keys_of (not_between (of_key bytes) from to pairs)
  keys_not_between from to pairs = keys_where (λ k. not (is_between from to (bytes k))) pairs

  pub before_keys : (key : List ℕ) (pairs : List (K × V)) → keys_before bytes key (keys_of pairs) ≡ keys_of (keys_before (of_key bytes) key pairs)
  before_keys key pairs = keys_where (λ k. is_before (bytes k) key) pairs

  pub from_keys : (key : List ℕ) (pairs : List (K × V)) → keys_from bytes key (keys_of pairs) ≡ keys_of (keys_from (of_key bytes) key pairs)
  from_keys key pairs = keys_where (λ k. not (is_before (bytes k) key)) pairs

keys_join : {K V : Type 0} (xs ys : List (K × V)) → keys_of (xs ++ ys) ≡ keys_of xs ++ keys_of ys
keys_join [] ys = refl
keys_join (x ∷ xs) ys = ap (λ ks. x.0 ∷ ks) (keys_join xs ys)

-- the keys of the two parts of a map and of the pair between them
pub keys_parted : {K V : Type 0} (bytes : K → List ℕ) (key : List ℕ) (before after moved : List (K × V)) (x : K × V) →
    keys_from (of_key bytes) key before ≡ moved ++ x ∷ keys_from (of_key bytes) key after →
    keys_from bytes key (keys_of before) ≡ keys_of moved ++ x.0 ∷ keys_from bytes key (keys_of after)
keys_parted bytes key before after moved x parts =
    from_keys bytes key before ∙ ap keys_of parts ∙ keys_join moved (x ∷ keys_from (of_key bytes) key after)
    ∙ ap (λ ks. keys_of moved ++ x.0 ∷ ks) (sym (from_keys bytes key after))

pub ruleset part_laws = (keys_len, keys_first, keys_between, removed_keys, keys_not_between, before_keys, from_keys)
