-- The columns of starts as one list.
use Rattle.std.proofs.Common.{◌≡◌, ℕ, ◌+◌, ◌-◌, ◌/◌, ◌^◌, ◌<◌, ◌≤◌, ◌⊎◌, inl, inr, List, [], ◌∷◌, ◌++◌, length, zero, suc, slice_index_or, get_or, refl, ap, ap₂, sym, ◌∙◌, subst, arith, length-append, append-nil}
use Rattle.std.specs.List.Sorted.{IsNonDecreasing, IsPartitionPoint}
use Rattle.std.proofs.Math.ListN.{get_or-append}
use Rattle.std.proofs.lemmas.Bool.{cases_lt}
use Rattle.std.proofs.lemmas.Nat.{pow-add}
use Rattle.std.proofs.lemmas.List.{get_or-append-add, get_or-map, length-map, map-append}
use Rattle.prefix_table.specs.declared.network.Address.{Address}
use Rattle.prefix_table.specs.Networks.{IsUpTo}
use Rattle.prefix_table.specs.Starts.{AreUpwards, IsCount, IsPartFor, of_version, start_at, starts_of}

module _ (four six : List ℕ) where
  abbrev Starts : List Address
  Starts = starts_of four six

  pub length-starts : length Starts ≡ length four + length six
  length-starts =
      length-append (of_version 4 four) (of_version 6 six)
      ∙ ap₂ (λ m n. m + n) (length-map four (λ n. record { number = n; version = 4 })) (length-map six (λ n. record { number = n; version = 6 }))

  pub at_four : (k d : ℕ) → k < length four → start_at Starts k ≡ record { number = get_or four k d; version = 4 }
  at_four k d h =
      get_or-append (of_version 4 four) (of_version 6 six) (record { number = 0; version = 0 }) k
      (subst (λ n. k < n) (sym (length-map four (λ n. record { number = n; version = 4 }))) h)
      ∙ get_or-map (λ n. record { number = n; version = 4 }) four k d (record { number = 0; version = 0 }) h

  pub at_six : (k d : ℕ) → k < length six → start_at Starts (length four + k) ≡ record { number = get_or six k d; version = 6 }
  at_six k d h =
      ap (λ n. start_at Starts (n + k)) (sym (length-map four (λ n. record { number = n; version = 4 })))
      ∙ get_or-append-add (of_version 4 four) (of_version 6 six) k (record { number = 0; version = 0 })
      ∙ get_or-map (λ n. record { number = n; version = 6 }) six k d (record { number = 0; version = 0 }) h

  -- an index is among the first numbers or after them
  in_which : (k : ℕ) → k < length Starts → (k < length four) ⊎ ((j : ℕ) × (j < length six) × (k ≡ length four + j))
  in_which k h =
      elim (cases_lt k (length four)) [
        | inl first ↦ inl first
        | inr after ↦ let many = length-starts in inr (k - length four, omega arith, omega arith)
      ]

  module _ (upwards : AreUpwards Starts) where
    pub four_rise : IsNonDecreasing four
    four_rise i j d le fits =
        elim (cases_lt i j) [
          | inl below ↦
              let many = length-starts in
              let order = upwards i j below (omega arith) in
              let first = at_four i d (omega arith) in
              let second = at_four j d fits in
              let here = order.number (ap (λ a. a.version) first ∙ sym (ap (λ a. a.version) second)) in
              let a = ap (λ a. a.number) first in
              let b = ap (λ a. a.number) second in
              omega (arith, a, b, here)
          | inr same ↦ let e : i ≡ j = omega arith in subst (λ k. get_or four i d ≤ get_or four k d) e (omega arith)
        ]

    pub six_rise : IsNonDecreasing six
    six_rise i j d le fits =
        elim (cases_lt i j) [
          | inl below ↦
              let many = length-starts in
              let order = upwards (length four + i) (length four + j) (omega arith) (omega arith) in
              let first = at_six i d (omega arith) in
              let second = at_six j d fits in
              let here = order.number (ap (λ a. a.version) first ∙ sym (ap (λ a. a.version) second)) in
              let a = ap (λ a. a.number) first in
              let b = ap (λ a. a.number) second in
              omega (arith, a, b, here)
          | inr same ↦ let e : i ≡ j = omega arith in subst (λ k. get_or six i d ≤ get_or six k d) e (omega arith)
        ]

  -- so many addresses are not after one of version 4
  pub count_is_of_four : (address : Address) (count : ℕ) → address.version ≡ 4 →
      IsPartitionPoint (λ n. n ≤ address.number) (λ n. address.number < n) four count → count ≤ length four → IsCount Starts address count
  count_is_of_four address count v parts bounded = record {
    bounded = let many = length-starts in omega arith;
    first = λ k h.
        subst (λ a. IsUpTo a address) (sym (at_four k 0 (omega arith)))
        (record { version = omega (arith, v); number = λ _. parts.0 k 0 (omega arith) h });
    others = λ k h fits up.
        elim (in_which k fits) [
          | inl first ↦ let other = subst (λ a. IsUpTo a address) (at_four k 0 first) up in omega (arith, other.number (sym v), parts.1 k 0 h first)
          | inr (j, below, is) ↦ let other = subst (λ a. IsUpTo a address) (ap (start_at Starts) is ∙ at_six j 0 below) up in omega (arith, v, other.version)
        ];
  }

  -- and so many are not after one of version 6
  pub count_is_of_six : (address : Address) (count : ℕ) → address.version ≡ 6 →
      IsPartitionPoint (λ n. n ≤ address.number) (λ n. address.number < n) six count → count ≤ length six →
      IsCount Starts address (length four + count)
  count_is_of_six address count v parts bounded = record {
    bounded = let many = length-starts in omega arith;
    first = λ k h.
        elim (in_which k (let many = length-starts in omega arith)) [
          | inl first ↦
              subst (λ a. IsUpTo a address) (sym (at_four k 0 first)) (record { version = omega (arith, v); number = λ e. absurd (omega (arith, e, v)) })
          | inr (j, below, is) ↦
              subst (λ a. IsUpTo a address) (sym (ap (start_at Starts) is ∙ at_six j 0 below))
              (record { version = omega (arith, v); number = λ _. parts.0 j 0 (omega arith) (omega arith) })
        ];
    others = λ k h fits up.
        elim (in_which k fits) [
          | inl first ↦ absurd (omega arith)
          | inr (j, below, is) ↦
              let other = subst (λ a. IsUpTo a address) (ap (start_at Starts) is ∙ at_six j 0 below) up in
              omega (arith, other.number (sym v), parts.1 j 0 (omega arith) below)
        ];
  }

  -- an address of version 4 can follow only such ones
  pub none_of_six : (address : Address) → address.version ≡ 4 → ((k : ℕ) → k < length Starts → IsUpTo (start_at Starts k) address) → length six ≡ 0
  none_of_six address v order =
      elim (cases_lt 0 (length six)) [
        | inl some ↦
            let many = length-starts in
            let up = subst (λ a. IsUpTo a address) (at_six 0 0 some) (order (length four + 0) (omega arith)) in
            absurd (omega (arith, up.version, v))
        | inr none ↦ omega arith
      ]

empty_list : {A : Type 0} (xs : List A) → length xs ≡ 0 → xs ≡ []
empty_list [] h = refl
empty_list (x ∷ xs) h = absurd (omega (arith, h))

pub push_four : (four six : List ℕ) (n : ℕ) → length six ≡ 0 →
    starts_of (four ++ n ∷ []) six ≡ starts_of four six ++ record { number = n; version = 4 } ∷ []
push_four four six n none =
    let e = empty_list six none in
    ap (starts_of (four ++ n ∷ [])) e ∙ append-nil _ ∙ map-append (λ n. record { number = n; version = 4 }) four (n ∷ [])
    ∙ ap (λ xs. xs ++ record { number = n; version = 4 } ∷ []) (sym (append-nil (of_version 4 four)) ∙ ap (starts_of four) (sym e))

-- ---- binary searches in sorted numbers

-- A part of so many numbers is left once so many were looked at: each look leaves at most half.
pub record IsHalved (many left looked : ℕ) : Type 0 where
  pub few : (k : ℕ) → many < 2 ^ k → looked ≤ k
  pub less : (k : ℕ) → many < 2 ^ k → left < 2 ^ (k - looked)

pub halved_at_first : (many left : ℕ) → left ≤ many → IsHalved many left 0
halved_at_first many left fits = record {
  few = λ k h. omega arith;
  less = λ k h. let all : k - 0 ≡ k = omega arith in subst (λ n. left < 2 ^ n) (sym all) (omega arith);
}

pub halved_once : (many left looked rest : ℕ) → IsHalved many left looked → 0 < left → rest ≤ left / 2 → IsHalved many rest (looked + 1)
halved_once many left looked rest halved some half = record { few = λ k h. (step k h).0; less = λ k h. (step k h).1 }
  where
    step : (k : ℕ) → many < 2 ^ k → (looked + 1 ≤ k) × (rest < 2 ^ (k - (looked + 1)))
    step k h =
        let few = halved.few k h in
        let less = halved.less k h in
        elim (cases_lt looked k) [
          | inl more ↦
              let twice = pow-add 2 (k - (looked + 1)) 1 in
              let exponent : k - (looked + 1) + 1 ≡ k - looked = omega arith in
              let next = ap (λ n. 2 ^ n) exponent in
              (omega arith, omega arith)
          | inr all ↦
              let none : k - looked ≡ 0 = omega arith in
              let one = subst (λ n. left < 2 ^ n) none less in
              absurd (omega arith)
        ]

module _ (numbers : List ℕ) (from to most at : ℕ) (part : IsPartFor numbers from to most) (within : from ≤ at) (below : at < to) where
  -- what is left after a number that is not greater, and before one that is
  pub part_after : slice_index_or numbers at 0 ≤ most → IsPartFor numbers (at + 1) to most
  part_after up = record {
    in_order = omega arith;
    within = part.within;
    before = λ _. let e : at + 1 - 1 ≡ at = omega arith in subst (λ k. slice_index_or numbers k 0 ≤ most) (sym e) up;
    after = part.after;
  }

  pub part_before : most < slice_index_or numbers at 0 → IsPartFor numbers from at most
  part_before over = record {
    in_order = within;
    within = let fits = part.within in omega arith;
    before = part.before;
    after = λ _. over;
  }

default_of : (xs : List ℕ) (k d e : ℕ) → k < length xs → slice_index_or xs k d ≡ slice_index_or xs k e
default_of [] k d e h = absurd (omega arith)
default_of (x ∷ xs) zero d e h = refl
default_of (x ∷ xs) (suc k) d e h = default_of xs k d e (omega arith)

-- where no part is left, sorted numbers are parted
pub part_is_point : (numbers : List ℕ) (at most : ℕ) → IsNonDecreasing numbers → IsPartFor numbers at at most →
    IsPartitionPoint (λ n. n ≤ most) (λ n. most < n) numbers at
part_is_point numbers at most rise part =
    let within = part.within in (
      λ k d _ below.
          let last = part.before (omega arith) in
          let up = rise k (at - 1) 0 (omega arith) (omega arith) in
          let same = default_of numbers k d 0 (omega arith) in
          omega arith,
      λ k d after fits.
          let first = part.after (omega arith) in
          let up = rise at k 0 after fits in
          let same = default_of numbers k d 0 fits in
          omega arith,
    )

-- for searches in the proofs of functions
pub ruleset search_six_facts = (halved_once, part_after, part_before)
