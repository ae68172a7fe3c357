-- What calls of trees return, with networks in the place of keys.
use Rattle.std.proofs.Common.{◌≡◌, ℕ, List, Option, Some, None, Result, Ok, Err, IfErr, IfOk, OnErr, OnOk, refl, subst, sym}
use Rattle.std.specs.Option.{option_map}
use Rattle.art_model.specs.Pairs.{first_of, of_key, put, put_reply, with_key}
use Rattle.art_changing.specs.MapAnswers.{value_at}
use Rattle.art_keyed.specs.KeyedPairs.{HaveKeys}
use Rattle.art_keyed.proofs.Keyed.{put_keeps}

-- what is known of an insertion is known of what is returned for it
module _ {A E B F : Type 0} where
  pub on_ok : {P Q : Type 0} (inserted : Result A E) (result : Result B F) (g : A → B) → IfOk inserted (λ a. result ≡ Ok (g a)) →
      (h : E → F) → IfErr inserted (λ e. result ≡ Err (h e)) → OnOk inserted P → (P → Q) → OnOk result Q
  on_ok (Ok a) result g is h _ known f = rw is (f known)
  on_ok (Err e) result g _ h is known f = rw is tt

  pub on_err : {P Q : Type 0} (inserted : Result A E) (result : Result B F) (g : A → B) → IfOk inserted (λ a. result ≡ Ok (g a)) →
      (h : E → F) → IfErr inserted (λ e. result ≡ Err (h e)) → OnErr inserted P → (P → Q) → OnErr result Q
  on_err (Ok a) result g is h _ known f = rw is tt
  on_err (Err e) result g _ h is known f = rw is (f known)

  pub if_ok : (P : A → Type 0) (Q : B → Type 0) (inserted : Result A E) (result : Result B F) (g : A → B) →
      IfOk inserted (λ a. result ≡ Ok (g a)) → (h : E → F) → IfErr inserted (λ e. result ≡ Err (h e)) → IfOk inserted P →
      ((a : A) → P a → Q (g a)) → IfOk result Q
  if_ok P Q (Ok a) result g is h _ known f = rw is (f a known)
  if_ok P Q (Err e) result g _ h is known f = rw is tt

  pub if_err : (P : E → Type 0) (Q : F → Type 0) (inserted : Result A E) (result : Result B F) (g : A → B) →
      IfOk inserted (λ a. result ≡ Ok (g a)) → (h : E → F) → IfErr inserted (λ e. result ≡ Err (h e)) → IfErr inserted P →
      ((e : E) → P e → Q (h e)) → IfErr result Q
  if_err P Q (Ok a) result g is h _ known f = rw is tt
  if_err P Q (Err e) result g _ h is known f = rw is (f e known)

-- keys stay those of networks
pub after_insertion : {K V A E : Type 0} (is_key : K → Type 0) (bytes : K → List ℕ) (key : K) (value : V) (old new : List (K × V))
    (inserted : Result A E) → is_key key → HaveKeys is_key old → OnOk inserted (new ≡ put (of_key bytes) (key, value) old) →
    OnErr inserted (new ≡ old) → HaveKeys is_key new
after_insertion {V = V} is_key bytes key value old new (Ok a) known keys put_is _ =
    subst (HaveKeys is_key) (sym put_is) (put_keeps V is_key bytes key value old known keys)
after_insertion is_key bytes key value old new (Err e) known keys _ kept = subst (HaveKeys is_key) (sym kept) keys

-- the value that was replaced is that of the key
pub replaced_value : {K V : Type 0} (bytes : K → List ℕ) (key : K) (value : V) (pairs : List (K × V)) →
    option_map (λ (pair : K × V). pair.1) (put_reply (of_key bytes) (key, value) pairs) ≡ value_at bytes (bytes key) pairs
replaced_value {K} {V} bytes key value pairs = go (first_of (with_key (of_key bytes) (bytes key) pairs))
  where
    go : (o : Option (K × V)) → option_map (λ (pair : K × V). pair.1) (option_map (λ (old : K × V). (key, old.1)) o) ≡ option_map (λ (x : K × V). x.1) o
    go None = refl
    go (Some old) = refl
