use Rattle.std.proofs.Common.{List, [], ◌∷◌, ap, subst, sym, ◌∙◌}
use Rattle.std.specs.List.{AllByRecursion as Each}
use Rattle.art_keyed.specs.KeyedPairs.{HaveKeys}
use Rattle.art_iterating.specs.MapItems.{keys_of}
use Rattle.art_keyed_sets.proofs.set.TreeSet.from_map.Goals as goal

-- the keys of pairs with keys of the type are such keys
known_keys : {K V : Type 0} (is_key : K → Type 0) (pairs : List (K × V)) → HaveKeys is_key pairs → Each is_key (keys_of pairs)
known_keys is_key [] all = tt
known_keys is_key (pair ∷ pairs) all = (all.0, known_keys is_key pairs all.1)

pub invariant_of-result : goal.invariant_of-result
invariant_of-result g c =
    subst (Each g.K.NoPrefixesBytes.is_key) (sym (c.from_map.ensures ∙ ap keys_of c.into_byte_map.ensures.pairs))
    (known_keys g.K.NoPrefixesBytes.is_key c.args.map c.into_byte_map.ensures.keys)
