-- Sets of clones of keys.
use Rattle.std.proofs.Common.{◌≡◌, ℕ, List, [], ◌∷◌, ◌++◌, Bor, map, ap, sym, ◌∙◌}
use Rattle.std.specs.List.{AllZip, AllByRecursion as Each}
use Rattle.std.specs.Iterator.{Drains}
use Rattle.art_keys.specs.Prefixes.{IsKept}
use Rattle.art_iterating.specs.MapItems.{ShowsFirst}
use Rattle.art_sets.specs.SetKeys.{add_key}
use Rattle.art_sets.proofs.AddedKeys.{add_last}
use Rattle.art_keyed_sets.specs.SetClones.{AreAddedClones}

-- what holds for keys holds for their clones
pub cloned_keys_keep : {K : Type 0} (is_key : K → Type 0) (is_clone : K → K → Type 0) → IsKept is_key is_clone →
    (keys copies : List K) → AllZip is_clone keys copies → Each is_key keys → Each is_key copies
cloned_keys_keep is_key is_clone kept [] [] are all = tt
cloned_keys_keep is_key is_clone kept [] (y ∷ copies) are all = absurd are
cloned_keys_keep is_key is_clone kept (x ∷ keys) [] are all = absurd are
cloned_keys_keep is_key is_clone kept (x ∷ keys) (y ∷ copies) are all =
    (kept x y are.0 all.0, cloned_keys_keep is_key is_clone kept keys copies are.1 all.1)

zip_last : {K : Type 0} (is_clone : K → K → Type 0) (came : List (Bor K)) (copies : List K) (x : Bor K) (y : K) →
    AllZip is_clone (map (λ key. key.now) came) copies → is_clone x.now y →
    AllZip is_clone (map (λ key. key.now) (came ++ x ∷ [])) (copies ++ y ∷ [])
zip_last is_clone [] [] x y are one = (one, tt)
zip_last is_clone [] (z ∷ copies) x y are one = absurd are
zip_last is_clone (z ∷ came) [] x y are one = absurd are
zip_last is_clone (z ∷ came) (w ∷ copies) x y are one = (are.0, zip_last is_clone came copies x y are.1 one)

-- a clone of one more key is inserted
pub one_added : {K : Type 0} (bytes : K → List ℕ) (is_clone : K → K → Type 0) (came : List (Bor K)) (set new : List K) (x : Bor K) (y : K) →
    AreAddedClones bytes is_clone (map (λ key. key.now) came) set → is_clone x.now y → new ≡ add_key bytes y set →
    AreAddedClones bytes is_clone (map (λ key. key.now) (came ++ x ∷ [])) new
one_added bytes is_clone came set new x y (copies, are, is) one added =
    (copies ++ y ∷ [], zip_last is_clone came copies x y are one, added ∙ ap (add_key bytes y) is ∙ sym (add_last bytes y copies []))

-- the elements that an iterator over a list returns are the list
pub all_came : {K : Type 0} (keys : List K) (came : List (Bor K)) → Drains ShowsFirst keys came → map (λ key. key.now) came ≡ keys
all_came keys [] (left, (end, yields, gives)) = sym (yields ∙ gives.0)
all_came keys (x ∷ came) (left, (end, (rest, step, more), gives)) = ap (λ others. x.now ∷ others) (all_came rest came (left, (end, more, gives))) ∙ sym step
