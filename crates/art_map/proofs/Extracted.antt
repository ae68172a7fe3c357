-- Pairs that an iterator removes from a map, one after another.
use Rattle.std.proofs.Common.{◌≡◌, ℕ, ◌<◌, ◌+◌, suc, Bool, true, false, not, cond, List, [], ◌∷◌, filter, length, Option, Some, None, refl, ap, ap₂, sym, subst, ◌∙◌, arith}
use Rattle.std.specs.Prelude.{⊤}
use Rattle.std.specs.Iterator.{MakesProgress, at_most}
use Rattle.std.specs.Range.Bound.{bound_map}
use Rattle.std.specs.declared.ops.Bound.{Bound}
use Rattle.std.specs.declared.ops.Bound.TheVariants.{Included, Excluded, Unbounded}
use Rattle.art_model.specs.Prelude.{is_front, IsMap, first_of, of_key, below, is_between, without_below}
use Rattle.art_model.proofs.lists.Filters.{filter_all, none_passes}
use Rattle.art_model.proofs.lists.Lists.{Each-weaker}
use Rattle.art_model.proofs.pairs.Puts.{first_none}
use Rattle.art_map.specs.MapExtract.{ExtractsAll, ExtractsBelow, ExtractsBetween, ExtractsFirst}
use Rattle.art_map.specs.MapParts.{without}
use Rattle.art_map.proofs.FirstOut.{first_out, passing}
use Rattle.art_changing.proofs.PartsOut.{first_below, nothing_out}
use Rattle.art_map.specs.declared.map.extract.ExtractPrefixOf.{ExtractPrefixOf}
use Rattle.art_map.specs.declared.map.extract.ExtractRangeOf.{ExtractRangeOf}
use denote.Ref.{Bor}

module _ {A : Type 0} (bytes : A → List ℕ) (test : List ℕ → Bool) where
  -- a removal of the first pair whose key passes
  pub extracts : (before after : List A) (taken : Option A) → IsMap bytes before → taken ≡ first_of (passing bytes test before) →
      after ≡ without bytes taken before →
      ExtractsFirst bytes (λ x. test (bytes x)) before taken after
  extracts before after None rising first left =
      let none = first_none (passing bytes test before) (sym first) in
      rw left (record { pairs = refl; first = (none, none); others = refl })
  extracts before after (Some x) rising first left =
      let out = first_out bytes test before x rising (sym first) in
      rw left (record { pairs = refl; first = out.passes; others = out.fails })

-- the same of the first pair with a prefix
pub extracts_below : {A : Type 0} (bytes : A → List ℕ) (prefix : List ℕ) (before after : List A) (taken : Option A) → IsMap bytes before →
    taken ≡ first_of (below bytes prefix before) → after ≡ without_below bytes prefix 1 before →
    ExtractsFirst bytes (λ x. is_front prefix (bytes x)) before taken after
extracts_below bytes prefix before after None rising first left =
    extracts bytes (is_front prefix) before after None rising first (left ∙ nothing_out bytes prefix before first)
extracts_below bytes prefix before after (Some x) rising first left =
    extracts bytes (is_front prefix) before after (Some x) rising first (left ∙ sym (first_below bytes prefix before x rising (sym first)).1)

module _ {A : Type 0} (bytes : A → List ℕ) (test : A → Bool) where
  abbrev others : List A → List A
  others xs = filter (λ x. not (test x)) xs

  counted : (xs : List A) → length (others xs) + length (filter test xs) ≡ length xs
  counted [] = refl
  counted (x ∷ xs) = go (counted xs) (test x)
    where
      go : length (others xs) + length (filter test xs) ≡ length xs → (b : Bool) →
          length (cond (not b) (x ∷ others xs) (others xs)) + length (cond b (x ∷ filter test xs) (filter test xs)) ≡ suc (length xs)
      go ih true = omega arith
      go ih false = omega arith

  -- there are fewer pairs after it
  fewer_left : (before after : List A) (x : A) → ExtractsFirst bytes test before (Some x) after → length after < length before
  fewer_left before after x is =
      let all = counted before in
      let left = counted after in
      let own = ap length is.first in
      let rest = ap length is.others in
      omega arith

  none_fails : (xs : List A) → filter test xs ≡ [] → others xs ≡ xs
  none_fails xs none =
      filter_all (λ x. not (test x)) xs
      (Each-weaker (λ x. test x ≡ false) (λ x. not (test x) ≡ true) (λ x e. ap not e) xs (none_passes test xs none))

  -- if this holds along a run, all that pass are removed
  module _ {S : Type 0} (Inv : S → Type 0) (steps : S → Option A → S → Type 0) (pairs_of : S → List A)
      (keeps : (s : S) (taken : Option A) (t : S) → Inv s → steps s taken t → Inv t × ExtractsFirst bytes test (pairs_of s) taken (pairs_of t)) where
    pub extracts_all : (s : S) → Inv s → ExtractsAll bytes test steps pairs_of (pairs_of s) s
    extracts_all s inv [] to (t, same, last) =
        let is = (keeps t None to (subst Inv same inv) last).1 in
        subst (λ q. ([] ≡ filter test (pairs_of q)) × (pairs_of to ≡ others (pairs_of q))) (sym same)
        (sym is.first.0, is.pairs ∙ sym (none_fails (pairs_of t) is.first.0))
    extracts_all s inv (x ∷ xs) to (t, (j, first, rest), last) =
        let (next, is) = keeps s (Some x) j inv first in
        let (all, left) = extracts_all j next xs to (t, rest, last) in
        (ap (λ ys. x ∷ ys) all ∙ sym is.first, left ∙ is.others)

bound_twice : (b : Bound (Bor (Bor (List ℕ)))) → bound_map (λ k. k.now.now) b ≡ bound_map (λ k. k.now) (bound_map (λ k. k.now) b)
bound_twice (Included k) = refl
bound_twice (Excluded k) = refl
bound_twice Unbounded = refl

-- the bytes of a bound of a range
pub bound_read : (bound : Bound (Bor (Bor (List ℕ)))) (read given : Bound (Bor (List ℕ))) →
    bound_map (λ k. k.now) read ≡ bound_map (λ k. k.now.now) bound → bound_map (λ k. k.now) bound ≡ given →
    bound_map (λ k. k.now) read ≡ bound_map (λ k. k.now) given
bound_read bound read given is of_range = is ∙ bound_twice bound ∙ ap (bound_map (λ k. k.now)) of_range

module _ {K V : Type 0} (bytes : K → List ℕ) where
  module _ (low high : Bound (List ℕ)) where
    abbrev IsWithin : ExtractRangeOf (List (K × V)) → Type 0
    IsWithin s = (bound_map (λ b. b.now) s.from ≡ low) × (bound_map (λ b. b.now) s.to ≡ high)

    -- an iterator over a range removes all pairs of it
    pub range_all : (s : ExtractRangeOf (List (K × V))) → IsWithin s →
        ExtractsAll (of_key bytes) (λ x. is_between low high (bytes x.0)) (ExtractsBetween bytes) (λ q. q.map.now) s.map.now s
    range_all = extracts_all (of_key bytes) (λ x. is_between low high (bytes x.0)) IsWithin (ExtractsBetween bytes) (λ q. q.map.now)
        (λ s taken t within step. (
          (ap (bound_map (λ b. b.now)) step.1 ∙ within.0, ap (bound_map (λ b. b.now)) step.2 ∙ within.1),
          subst (λ (ends : Bound (List ℕ) × Bound (List ℕ)). ExtractsFirst (of_key bytes) (λ x. is_between ends.0 ends.1 (bytes x.0)) s.map.now taken t.map.now)
              (ap₂ (λ a b. (a, b)) within.0 within.1) step.3,
        ))

  module _ (prefix : List ℕ) where
    abbrev HasPrefix : ExtractPrefixOf (List (K × V)) → Type 0
    HasPrefix s = s.prefix.now ≡ prefix

    -- an iterator over a prefix removes all pairs with it
    pub prefix_all : (s : ExtractPrefixOf (List (K × V))) → HasPrefix s →
        ExtractsAll (of_key bytes) (λ x. is_front prefix (bytes x.0)) (ExtractsBelow bytes) (λ q. q.map.now) s.map.now s
    prefix_all = extracts_all (of_key bytes) (λ x. is_front prefix (bytes x.0)) HasPrefix (ExtractsBelow bytes) (λ q. q.map.now)
        (λ s taken t has step.
        (ap (λ p. p.now) step.1 ∙ has, subst (λ p. ExtractsFirst (of_key bytes) (λ x. is_front p (bytes x.0)) s.map.now taken t.map.now) has step.2))

-- a step leaves fewer pairs, or there was none to remove
pub step_goes : {A S : Type 0} (bytes : A → List ℕ) (test : A → Bool) (pairs_of : S → List A) (s : S) (taken : Option A) (t : S) →
    ExtractsFirst bytes test (pairs_of s) taken (pairs_of t) → MakesProgress (λ _. ⊤) (λ q. at_most (length (pairs_of q))) s taken t
step_goes bytes test pairs_of s None t is = record { on = λ _. tt; keeps = tt; rests = λ _. tt }
step_goes bytes test pairs_of s (Some x) t is = record { on = λ _. (tt, tt, fewer_left bytes test (pairs_of s) (pairs_of t) x is); keeps = tt; rests = λ _. tt }
