-- The order of keys, and that of their networks.
use Rattle.std.proofs.Common.{◌≡◌, ℕ, ◌<◌, inl, inr, true, not, refl, sym, arith, nat_cmp}
use Rattle.std.proofs.lemmas.Bool.{cases_order, eq-eqb, false≢true, le-ltb, lt-ltb, ne_eqb}
use Rattle.std.specs.declared.cmp.Ordering.TheVariants.{Less, Equal, Greater}
use Rattle.std.specs.Ordering.{is_lt}
use Rattle.art_keys.specs.Joins.{pair_cmp}
use Rattle.prefix_table.specs.Steps.{IsUpToNetwork}
use Rattle.route_map.specs.Routes.{network_of}

module _ (a b : ℕ × ℕ) where
  less_first : a.0 < b.0 → pair_cmp nat_cmp nat_cmp a b ≡ Less
  less_first h = rw (lt-ltb a.0 b.0 h) refl

  greater_first : b.0 < a.0 → pair_cmp nat_cmp nat_cmp a b ≡ Greater
  greater_first h = rw (le-ltb a.0 b.0 (omega arith), ne_eqb a.0 b.0 (λ e. omega arith)) refl

  less_second : a.0 ≡ b.0 → a.1 < b.1 → pair_cmp nat_cmp nat_cmp a b ≡ Less
  less_second e h = rw (le-ltb a.0 b.0 (omega arith), eq-eqb a.0 b.0 e, lt-ltb a.1 b.1 h) refl

  greater_second : a.0 ≡ b.0 → b.1 < a.1 → pair_cmp nat_cmp nat_cmp a b ≡ Greater
  greater_second e h =
      rw (le-ltb a.0 b.0 (omega arith), eq-eqb a.0 b.0 e, le-ltb a.1 b.1 (omega arith), ne_eqb a.1 b.1 (λ same. omega arith)) refl

  same_both : a.0 ≡ b.0 → a.1 ≡ b.1 → pair_cmp nat_cmp nat_cmp a b ≡ Equal
  same_both e h = rw (le-ltb a.0 b.0 (omega arith), eq-eqb a.0 b.0 e, le-ltb a.1 b.1 (omega arith), eq-eqb a.1 b.1 h) refl

  -- a key that is before another one has a network up to its
  pub less_is_up : (version : ℕ) → pair_cmp nat_cmp nat_cmp a b ≡ Less → IsUpToNetwork (network_of version a) (network_of version b)
  less_is_up version e = record {
    version = refl;
    number =
        elim (cases_order a.0 b.0) [
          | inl same ↦ omega arith
          | inr (inl less) ↦ omega arith
          | inr (inr more) ↦ let g = greater_first more in absurd cc
        ];
    length = λ first.
        elim (cases_order a.1 b.1) [
          | inl same ↦ omega arith
          | inr (inl less) ↦ omega arith
          | inr (inr more) ↦ let g = greater_second first more in absurd cc
        ];
  }

-- a key that is not after another one
pub up_is_passed : (version : ℕ) (bound key : ℕ × ℕ) → IsUpToNetwork (network_of version key) (network_of version bound) →
    not (is_lt (pair_cmp nat_cmp nat_cmp bound key)) ≡ true
up_is_passed version bound key up =
    elim (cases_order bound.0 key.0) [
      | inl same ↦
          elim (cases_order bound.1 key.1) [
            | inl also ↦ rw (same_both bound key same also) refl
            | inr (inl less) ↦ let le = up.length (sym same) in absurd (omega arith)
            | inr (inr more) ↦ rw (greater_second bound key same more) refl
          ]
      | inr (inl less) ↦ let le = up.number in absurd (omega arith)
      | inr (inr more) ↦ rw (greater_first bound key more) refl
    ]

pub passed_is_up : (version : ℕ) (bound key : ℕ × ℕ) → not (is_lt (pair_cmp nat_cmp nat_cmp bound key)) ≡ true →
    IsUpToNetwork (network_of version key) (network_of version bound)
passed_is_up version bound key h = record {
  version = refl;
  number =
      elim (cases_order bound.0 key.0) [
        | inl same ↦ omega arith
        | inr (inl less) ↦ absurd (false≢true (rw (less_first bound key less) at h))
        | inr (inr more) ↦ omega arith
      ];
  length = λ first.
      elim (cases_order bound.1 key.1) [
        | inl same ↦ omega arith
        | inr (inl less) ↦ absurd (false≢true (rw (less_second bound key (sym first) less) at h))
        | inr (inr more) ↦ omega arith
      ];
}
