-- keys of a type that are added never conflict
use Rattle.std.proofs.Common.{◌≡◌, ◌≢◌, inl, inr, ℕ, List, [], ◌∷◌, ◌++◌, Option, Some, None, Result, Ok, Err, OnOk, OnErr, IfErr, refl, sym, subst}
use Rattle.art_building.specs.Pushes.{IsPushError, IsReasonAfter}
use Rattle.art_keyed.specs.KeyedPairs.{HaveKeys}
use Rattle.art_keys.specs.Prefixes.{HasNoPrefixes}
use Rattle.art_loading.specs.declared.append.AppendError.{AppendError}
use Rattle.art_loading.specs.declared.append.AppendReason.TheVariants.{Conflict}
use Rattle.art_model.specs.Pairs.{last_of}
use Rattle.art_model.proofs.keys.KeyLaws.{relation_is_decided}
use Rattle.art_model.proofs.lists.Lists.{Each-append}

module _ {K V : Type 0} (is_key : K → Type 0) (bytes : K → List ℕ) (key : K) (value : V) where
  -- the pairs still have keys of the type
  pub keys_after : (before after : List (K × V)) (result : Result (Unit {0}) (AppendError K V)) → OnOk result (after ≡ before ++ (key, value) ∷ []) →
      OnErr result (after ≡ before) → is_key key → HaveKeys is_key before → HaveKeys is_key after
  keys_after before after (Ok done) pushed kept own all =
      subst (HaveKeys is_key) (sym pushed) (Each-append (λ pair. is_key pair.0) before ((key, value) ∷ []) all (own, tt))
  keys_after before after (Err error) pushed kept own all = subst (HaveKeys is_key) (sym kept) all

  -- the last pair has one
  last_key : (pairs : List (K × V)) (last : K × V) → HaveKeys is_key pairs → last_of pairs ≡ Some last → is_key last.0
  last_key [] last all is = absurd cc
  last_key (x ∷ []) last all is = let same : x ≡ last = cc in subst (λ z. is_key z.0) same all.0
  last_key (x ∷ y ∷ pairs) last all is = last_key (y ∷ pairs) last all.1 is

  -- so no key conflicts with it
  pub never_conflicts : HasNoPrefixes is_key bytes → (pairs : List (K × V)) (result : Result (Unit {0}) (AppendError K V)) →
      IfErr result (IsPushError bytes pairs key value) → is_key key → HaveKeys is_key pairs → IfErr result (λ error. error.reason ≢ Conflict)
  never_conflicts law pairs (Ok done) told own all = tt
  never_conflicts law pairs (Err error) told own all = λ is. go (last_of pairs) refl (subst (IsReasonAfter bytes (last_of pairs) key) is told.2)
    where
      go : (o : Option (K × V)) → last_of pairs ≡ o → IsReasonAfter bytes o key Conflict → ⊥
      go None none reason = absurd cc
      go (Some last) some (related, other) =
          let known = last_key pairs last all some in
          elim ((relation_is_decided (bytes last.0) (bytes key)).0 related) [
            | inl front ↦ other (sym (law last.0 key known own front))
            | inr front ↦ other (law key last.0 own known front)
          ]
