-- The listed ends are those of the open sessions, whatever one call changes.
use Rattle.std.proofs.Common.{◌≡◌, ◌≢◌, ◌<◌, ◌≤◌, inl, inr, ◌^◌, ℕ, List, Option, Some, None, IfSome, nat_cmp, refl, ap, sym, ◌∙◌, arith}
use Rattle.std.proofs.lemmas.Bool.{eq-eqb, ne_eqb}
use Rattle.std.proofs.lemmas.Bool.Decides.{eqb_tells}
use Rattle.std.specs.Cmp.Lexicographic.{slice_cmp}
use Rattle.std.specs.Int.{bytes_high_first}
use Rattle.art_model.specs.Pairs.{first_of}
use Rattle.art_operations.specs.Ended.{ended_length}
use Rattle.art_operations.specs.Escapes.{escape, unescape}
use Rattle.art_operations.specs.Joins.{pair_cmp}
use Rattle.art_operations.specs.KeyedPairs.{HaveKeys, RiseBy}
use Rattle.art_operations.specs.KeyedValues.{KeepsOtherKeys, value_of}
use Rattle.art_operations.specs.Numbers.{HasBytes, number_of}
use Rattle.art_operations.specs.Prefixes.{AreInjective}
use Rattle.art_operations.proofs.CallerLemmas.{escape_comes_back, escape_injective, first_found, firsts_rise, joins_injective, known_after_change, known_from_first, numbers_come_back}
use Rattle.uses.specs.Sessions.{Agree, Changes, Ends, IsEndKey, IsFirst, IsListed, Open, end_bytes, end_of, listed_at}

-- under one key there is this now, and under each other one what was
abbrev pub Sets : ℕ × List ℕ → Option (Unit {0}) → Ends → Ends → Type 0
Sets key o old new = (value_of end_bytes key new ≡ o) × KeepsOtherKeys IsEndKey end_bytes key old new

-- ends with the same bytes are the same
law : AreInjective IsEndKey end_bytes
law = joins_injective (HasBytes 8) (bytes_high_first 8) (λ text. Unit {0}) escape number_of (λ bytes. 8) unescape ended_length
    (numbers_come_back 8) escape_comes_back

-- at another time than the end nothing is listed
no_end : (time end : ℕ) → time ≢ end → listed_at time (Some end) ≡ None
no_end time end off = rw (ne_eqb time end off) refl

-- what is listed of a token after a change at one time
at : (token : List ℕ) (end : ℕ) (o : Option (Unit {0})) (before after : Ends) → Sets (end, token) o before after → (time : ℕ) → time < 2 ^ 64 →
    (v : Option (Unit {0})) → (time ≡ end → o ≡ v) → (time ≢ end → value_of end_bytes (time, token) before ≡ v) → value_of end_bytes (time, token) after ≡ v
at token end o before after sets time small v here off =
    elim (eqb_tells time end) [
      | inl w ↦ ap (λ t. value_of end_bytes (t, token) after) w.1 ∙ sets.0 ∙ here w.1
      | inr w ↦ sets.1 (time, token) (small, tt) (λ same. w.1 (ap (λ k. k.0) same)) ∙ off w.1
    ]

module _ (token : List ℕ) (old new : Open) (ends : Ends) (was : Agree old ends) where
  -- nothing changes of other tokens
  settled : (end : Option ℕ) (time : ℕ) (o : Option (Unit {0})) (mid after : Ends) → Changes token end old new →
      ((other : List ℕ) → other ≢ token → IsListed other (end_of other old) mid) → Sets (time, token) o mid after → IsListed token end after → Agree new after
  settled end time o mid after changes others sets listed t =
      known_after_change escape (λ text. Unit {0}) escape_injective (λ t o. IsListed t o after) token old new tt
      (λ other _ off. changes.1 other off) (rw changes.0 listed) (λ other _ off. let is = others other off in
      (is.0, λ at small. sets.1 (at, other) (small, tt) (λ same. off (ap (λ k. k.1) same)) ∙ is.1 at small)) t tt

  pub opened : (end : ℕ) (after : Ends) → end_of token old ≡ None → end < 2 ^ 64 → Changes token (Some end) old new →
      Sets (end, token) (Some tt) ends after → Agree new after
  opened end after none small changes lists = settled (Some end) end (Some tt) ends after changes (λ other off. was other) lists (
    small,
    λ time fits. at token end (Some tt) ends after lists time fits _ (λ same. rw (eq-eqb time end same) refl)
        (λ off. (was token).1 time fits ∙ ap (listed_at time) none ∙ sym (no_end time end off)),
  )

  module _ (before : ℕ) (is : end_of token old ≡ Some before) where
    pub closed : (after : Ends) → Changes token None old new → Sets (before, token) None ends after → Agree new after
    closed after changes drops = settled None before None ends after changes (λ other off. was other) drops (
      tt,
      λ time fits. at token before None ends after drops time fits None (λ same. refl)
          (λ off. (was token).1 time fits ∙ ap (listed_at time) is ∙ no_end time before off),
    )

    pub moved : (end : ℕ) (mid after : Ends) → before ≢ end → end < 2 ^ 64 → Changes token (Some end) old new →
        Sets (end, token) (Some tt) ends mid → Sets (before, token) None mid after → Agree new after
    moved end mid after differ small changes lists drops = settled (Some end) before None mid after changes
        (λ other off. ((was other).0, λ at fits. lists.1 (at, other) (fits, tt) (λ same. off (ap (λ k. k.1) same)) ∙ (was other).1 at fits)) drops (
          small,
          λ time fits. at token before None mid after drops time fits _ (λ same. sym (no_end time end (λ e. differ (sym same ∙ e))))
              (λ off. at token end (Some tt) ends mid lists time fits _ (λ same. rw (eq-eqb time end same) refl)
              (λ other. (was token).1 time fits ∙ ap (listed_at time) is ∙ no_end time before off ∙ sym (no_end time end other))),
        )

module _ (sessions : Open) (ends : Ends) (agrees : Agree sessions ends) (keys : HaveKeys IsEndKey ends)
    (rise : RiseBy (pair_cmp nat_cmp (slice_cmp nat_cmp)) ends) where
  -- what is known of the first end, and so of each later one, is known of the end of each session
  known_of_ends : (Known : ℕ → Type 0) → ((a b : ℕ) → Known a → a ≤ b → Known b) → IfSome (first_of ends) (λ first. Known first.0.0) →
      (token : List ℕ) → IfSome (end_of token sessions) Known
  known_of_ends Known later first token = go (end_of token sessions) (agrees token)
    where
      go : (o : Option ℕ) → IsListed token o ends → IfSome o Known
      go None is = tt
      go (Some end) is =
          known_from_first end_bytes IsEndKey law (end, token) tt (is.0, tt) (pair_cmp nat_cmp (slice_cmp nat_cmp)) (λ key. Known key.0)
          (λ x y known less. later x.0 y.0 known (firsts_rise (slice_cmp nat_cmp) x y less)) ends keys rise first
          (is.1 end is.0 ∙ (rw (eq-eqb end end refl) refl))

  pub none_is_first : first_of ends ≡ None → IsFirst None sessions
  none_is_first e = (tt, known_of_ends (λ end. ⊥) (λ a b known upto. known) (rw e tt))

  pub one_is_first : (token : List ℕ) (end : ℕ) → first_of ends ≡ Some ((end, token), tt) → IsFirst (Some (token, end)) sessions
  one_is_first token end e =
      let (of_key, stored) = first_found end_bytes IsEndKey law ends ((end, token), tt) keys e in (
        go (end_of token sessions) (sym ((agrees token).1 end of_key.0) ∙ stored),
        known_of_ends (λ time. end ≤ time) (λ a b known upto. omega (arith, known, upto)) (rw e (omega arith)),
      )
    where
      go : (o : Option ℕ) → listed_at end o ≡ Some tt → o ≡ Some end
      go None listed = absurd cc
      go (Some time) listed = grind arith
