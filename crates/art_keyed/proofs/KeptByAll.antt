-- What holds for all pairs holds for those that a closure selected or changed.
use Rattle.std.proofs.Common.{◌≡◌, List, [], ◌∷◌, Bool, true, false, cond, Bor, subst, sym}
use Rattle.std.specs.Borrow.{MutBor}
use Rattle.std.specs.Fn.{Mut}
use Rattle.std.specs.List.{AllByRecursion as Each}
use Rattle.art_iterating.specs.MapItems.{keys_of}
use Rattle.art_map.specs.MapRetain.{Retains, RetainsPairs}

module _ {F A : Type 0} (asks : F → A → Bool → F → Type 0) (Known : A → Type 0) where
  pub retains_keep : (f : F) (before kept : List A) (left : F) → Retains asks f before kept left → Each Known before → Each Known kept
  retains_keep f [] kept left retains all = rw retains.0 tt
  retains_keep f (x ∷ xs) kept left (b, next, rest, asked, retains, is) all = go b is (retains_keep next xs rest left retains all.1)
    where
      go : (b : Bool) → kept ≡ cond b (x ∷ rest) rest → Each Known rest → Each Known kept
      go true is known = rw is (all.0, known)
      go false is known = rw is known

-- the same of pairs by their keys, where values may change
pub pairs_keep : {F K V : Type 0} (g : Mut F (Bor K × (MutBor V × Unit {0})) (Bool × (MutBor V × Unit {0}))) (is_key : K → Type 0) (f : F)
    (before kept : List (K × V)) (left : F) →
    RetainsPairs g f before kept left → Each (λ x. is_key x.0) before → Each (λ x. is_key x.0) kept
pairs_keep g is_key f [] kept left retains all = rw retains.0 tt
pairs_keep g is_key f (x ∷ xs) kept left (b, value, next, rest, asked, retains, is) all = go b is (pairs_keep g is_key next xs rest left retains all.1)
  where
    go : (b : Bool) → kept ≡ cond b ((x.0, value) ∷ rest) rest → Each (λ x. is_key x.0) rest → Each (λ x. is_key x.0) kept
    go true is known = rw is (all.0, known)
    go false is known = rw is known

-- and of pairs with the same keys
pub keys_keep : {K V : Type 0} (is_key : K → Type 0) (before after : List (K × V)) → keys_of after ≡ keys_of before →
    Each (λ x. is_key x.0) before → Each (λ x. is_key x.0) after
keys_keep is_key before [] same all = tt
keys_keep is_key [] (y ∷ ys) same all = absurd cc
keys_keep is_key (x ∷ xs) (y ∷ ys) same all =
    let key : y.0 ≡ x.0 = cc in
    let keys : keys_of ys ≡ keys_of xs = cc in
    (subst is_key (sym key) all.0, keys_keep is_key xs ys keys all.1)
