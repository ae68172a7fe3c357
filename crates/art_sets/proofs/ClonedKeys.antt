-- The keys of clones are clones of the keys.
use Rattle.std.proofs.Common.{List, [], ◌∷◌}
use Rattle.std.specs.List.{AllZip}
use Rattle.art_model.specs.Prelude.{AreClones}
use Rattle.art_iterating.specs.MapItems.{keys_of}

pub cloned_keys : {K V : Type 0} (is_clone : K → K → Type 0) (is_value_clone : V → V → Type 0) (pairs copies : List (K × V)) →
    AreClones is_clone is_value_clone pairs copies → AllZip is_clone (keys_of pairs) (keys_of copies)
cloned_keys is_clone is_value_clone [] [] are = tt
cloned_keys is_clone is_value_clone [] (y ∷ copies) are = absurd are
cloned_keys is_clone is_value_clone (x ∷ pairs) [] are = absurd are
cloned_keys is_clone is_value_clone (x ∷ pairs) (y ∷ copies) are = (are.0.0, cloned_keys is_clone is_value_clone pairs copies are.1)
