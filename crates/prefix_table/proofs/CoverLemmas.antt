-- Which networks cover an address: those that are nested around it.
use Rattle.std.proofs.Common.{◌≡◌, ℕ, ◌+◌, ◌-◌, ◌*◌, ◌/◌, ◌%◌, ◌^◌, ◌<◌, ◌≤◌, Bool, true, false, inl, inr, eqb, eq-eqb, eqb-true, le-leb, leb-true, refl, ap, ap₂, sym, ◌∙◌, subst, arith}
use Rattle.std.proofs.Math.Nat.{div-eq_of_lt-le, div-mul-le_self, mul-le-mul_right, mul_assoc, mul_comm}
use Rattle.std.proofs.lemmas.Bool.{and_from, and_parts, cases_lt}
use Rattle.std.proofs.lemmas.Nat.{div-mul-add, pow-add, pow_pos, shr-shr, shr_below, shr_split}
use Rattle.prefix_table.specs.declared.network.Address.{Address}
use Rattle.prefix_table.specs.declared.network.Network.{Network}
use Rattle.prefix_table.specs.Networks.{IsAddress, IsNetwork, IsUpTo, Precedes, cleared, covers_at, host_bits, last_of, start_of, width}
use Rattle.prefix_table.specs.Parts.{is_inside}
use Rattle.std.specs.Prelude.{nat_le}

module _ (n : Network) (a : Address) where
  pub covered_parts : covers_at n a ≡ true → (n.version ≡ a.version) × (n.number ≡ cleared (host_bits n) a.number)
  covered_parts h =
      let parts = and_parts (eqb n.version a.version) (eqb n.number (cleared (host_bits n) a.number)) h in
      (eqb-true n.version a.version parts.0, eqb-true n.number (cleared (host_bits n) a.number) parts.1)

  pub covered_from : n.version ≡ a.version → n.number ≡ cleared (host_bits n) a.number → covers_at n a ≡ true
  covered_from v e = and_from _ _ (eq-eqb n.version a.version v) (eq-eqb n.number (cleared (host_bits n) a.number) e)

  -- a network begins at or before the addresses that it covers
  pub starts_up_to : covers_at n a ≡ true → IsUpTo (start_of n) a
  starts_up_to h =
      let parts = covered_parts h in
      let less = div-mul-le_self a.number (2 ^ host_bits n) in
      record { version = omega arith; number = λ _. omega arith }

-- a number between a cleared one and what it was cleared from is cleared to the same
cleared_between : (count number between : ℕ) → cleared count number ≤ between → between ≤ number → cleared count between ≡ cleared count number
cleared_between count number between low high =
    let positive = pow_pos count in
    let whole = shr_split number count in
    let rest : number % 2 ^ count < 2 ^ count = omega arith in
    let next : (number / 2 ^ count + 1) * 2 ^ count ≡ number / 2 ^ count * 2 ^ count + 2 ^ count = grind arith in
    ap (λ q. q * 2 ^ count) (div-eq_of_lt-le (2 ^ count) low (omega arith))

-- a network that covers an address covers what is between its own start and the address
pub covers_between : (n : Network) (between a : Address) → IsUpTo (start_of n) between → IsUpTo between a → covers_at n a ≡ true →
    covers_at n between ≡ true
covers_between n between a low high h =
    let parts = covered_parts n a h in
    let version : n.version ≡ between.version = omega (arith, low.version, high.version) in
    covered_from n between version (parts.1 ∙
    sym (cleared_between (host_bits n) a.number between.number
    (let l = low.number version in omega arith) (high.number (sym version ∙ parts.0))))

-- the more bits are cleared, the less is left
cleared_less : (count more number : ℕ) → cleared (count + more) number ≤ cleared count number
cleared_less count more number =
    let less = mul-le-mul_right (2 ^ count) (div-mul-le_self (number / 2 ^ count) (2 ^ more)) in
    subst (λ q. q * 2 ^ (count + more) ≤ number / 2 ^ count * 2 ^ count) (shr-shr number count more)
    (subst (λ x. x ≤ number / 2 ^ count * 2 ^ count)
    (mul_assoc (number / 2 ^ count / 2 ^ more) (2 ^ more) (2 ^ count)
    ∙ ap (λ x. number / 2 ^ count / 2 ^ more * x) (mul_comm (2 ^ more) (2 ^ count) ∙ sym (pow-add 2 count more)))
    less)

pub less_left : (few many number : ℕ) → few ≤ many → cleared many number ≤ cleared few number
less_left few many number h =
    let all : few + (many - few) ≡ many = omega arith in
    subst (λ count. cleared count number ≤ cleared few number) all (cleared_less few (many - few) number)

-- of two networks that cover an address, the later one is no shorter
pub later_is_longer : (m n : Network) (a : Address) → Precedes m n → covers_at m a ≡ true → covers_at n a ≡ true → m.length ≤ n.length
later_is_longer m n a before h k =
    let first = covered_parts m a h in
    let second = covered_parts n a k in
    let version : m.version ≡ n.version = first.0 ∙ sym second.0 in
    let wide : width m.version ≡ width n.version = ap width version in
    let order = before.number version in
    elim (cases_lt n.length m.length) [
      | inr fits ↦ fits
      | inl longer ↦
          let less : n.number ≤ m.number =
          subst (λ x. x ≤ m.number) (sym second.1) (subst (λ x. cleared (host_bits n) a.number ≤ x) (sym first.1)
          (less_left (host_bits m) (host_bits n) a.number (omega (arith, wide, longer)))) in
          let shorter = before.length version (omega arith) in
          omega arith
    ]

-- the last address of a network is one of its version
pub last_fits : (n : Network) → IsNetwork n → n.number + (2 ^ host_bits n - 1) < 2 ^ width n.version
last_fits n is =
    let all : width n.version ≡ n.length + host_bits n = let fits = is.length_fits in omega arith in
    let prefix : n.number / 2 ^ host_bits n < 2 ^ n.length =
    shr_below n.number n.length (host_bits n) (subst (λ w. n.number < 2 ^ w) all is.number_fits) in
    let next : n.number / 2 ^ host_bits n + 1 ≤ 2 ^ n.length = omega (arith, prefix) in
    let room : (n.number / 2 ^ host_bits n + 1) * 2 ^ host_bits n ≤ 2 ^ n.length * 2 ^ host_bits n = mul-le-mul_right (2 ^ host_bits n) next in
    let more : (n.number / 2 ^ host_bits n + 1) * 2 ^ host_bits n ≡ cleared (host_bits n) n.number + 2 ^ host_bits n = grind arith in
    let whole : 2 ^ width n.version ≡ 2 ^ n.length * 2 ^ host_bits n = ap (λ w. 2 ^ w) all ∙ pow-add 2 n.length (host_bits n) in
    let positive = pow_pos (host_bits n) in
    let same = is.no_host_bits in
    omega arith

pub is_last_address : (n : Network) → IsNetwork n → IsAddress (last_of n)
is_last_address n is = record { version_is = is.version_is; fits = last_fits n is }

pub fits_number : (a : Address) → IsAddress a → a.number < 2 ^ 128
fits_number a is =
    elim is.version_is [
      | inl four ↦ let small = subst (λ v. a.number < 2 ^ width v) four is.fits in omega arith
      | inr six ↦ subst (λ v. a.number < 2 ^ width v) six is.fits
    ]

-- and it is longer
pub later_is_strictly_longer : (m n : Network) (a : Address) → Precedes m n → covers_at m a ≡ true → covers_at n a ≡ true → m.length < n.length
later_is_strictly_longer m n a before h k =
    let first = covered_parts m a h in
    let second = covered_parts n a k in
    let version : m.version ≡ n.version = first.0 ∙ sym second.0 in
    let le = later_is_longer m n a before h k in
    elim (cases_lt m.length n.length) [
      | inl less ↦ less
      | inr more ↦
          let same : m.length ≡ n.length = omega arith in
          let number : m.number ≡ n.number =
          first.1 ∙ ap₂ (λ w l. cleared (w - l) a.number) (ap width version) same ∙ sym second.1 in
          before.length version number
    ]

-- a network that covers where another one starts covers what that does, if it is no longer
pub covers_through : (n m : Network) (a : Address) → covers_at n (start_of m) ≡ true → covers_at m a ≡ true → n.length ≤ m.length →
    covers_at n a ≡ true
covers_through n m a h k shorter =
    let first = covered_parts n (start_of m) h in
    let second = covered_parts m a k in
    let wide : width n.version ≡ width m.version = ap width first.0 in
    let few : host_bits m ≤ host_bits n = omega (arith, wide, shorter) in
    covered_from n a (first.0 ∙ second.0)
    (first.1 ∙ ap (cleared (host_bits n)) second.1
    ∙ cleared_between (host_bits n) a.number (cleared (host_bits m) a.number) (less_left (host_bits m) (host_bits n) a.number few)
    (div-mul-le_self a.number (2 ^ host_bits m)))

-- a network covers where it starts
pub covers_own_start : (n : Network) → IsNetwork n → covers_at n (start_of n) ≡ true
covers_own_start n is = covered_from n (start_of n) refl (sym is.no_host_bits)

-- ---- networks inside another one

pub not_before_itself : (n : Network) → ¬ Precedes n n
not_before_itself n h = let l = h.length refl refl in omega arith

inside_parts : (outer inner : Network) → is_inside outer inner ≡ true →
    (outer.version ≡ inner.version) × (outer.number ≡ cleared (host_bits outer) inner.number) × (outer.length ≤ inner.length)
inside_parts outer inner h =
    let parts = and_parts (covers_at outer (start_of inner)) (nat_le outer.length inner.length) h in
    let covers = covered_parts outer (start_of inner) parts.0 in
    (covers.0, covers.1, leb-true _ _ parts.1)

pub is_false : (b : Bool) → (b ≡ true → ⊥) → b ≡ false
is_false true h = absurd (h refl)
is_false false h = refl

-- a network that is before another one is not inside it
pub before_is_not_inside : (outer inner : Network) → Precedes inner outer → is_inside outer inner ≡ false
before_is_not_inside outer inner before =
    is_false _ (λ h.
    let parts = inside_parts outer inner h in
    let less = div-mul-le_self inner.number (2 ^ host_bits outer) in
    let n = before.number (sym parts.0) in
    let shorter = before.length (sym parts.0) (omega (arith, parts.1)) in
    omega (arith, parts.2))

-- nor is one that starts after its last address
pub after_is_not_inside : (outer inner : Network) → ¬ IsUpTo (start_of inner) (last_of outer) → is_inside outer inner ≡ false
after_is_not_inside outer inner after =
    is_false _ (λ h.
    let parts = inside_parts outer inner h in
    let positive = pow_pos (host_bits outer) in
    let whole = shr_split inner.number (host_bits outer) in
    let rest : inner.number % 2 ^ host_bits outer < 2 ^ host_bits outer = omega arith in
    after (record { version = omega (arith, parts.0); number = λ _. omega (arith, parts.1) }))

-- the last address without its last bits
last_cleared : (n : Network) → IsNetwork n → cleared (host_bits n) (n.number + (2 ^ host_bits n - 1)) ≡ n.number
last_cleared n is =
    let positive = pow_pos (host_bits n) in
    ap (λ m. cleared (host_bits n) (m + (2 ^ host_bits n - 1))) (sym is.no_host_bits)
    ∙ ap (λ q. q * 2 ^ host_bits n) (div-mul-add (n.number / 2 ^ host_bits n) (2 ^ host_bits n) (2 ^ host_bits n - 1) (omega arith))
    ∙ is.no_host_bits

-- the others are
pub between_is_inside : (outer inner : Network) → IsNetwork outer → IsNetwork inner → ¬ Precedes inner outer →
    IsUpTo (start_of inner) (last_of outer) → is_inside outer inner ≡ true
between_is_inside outer inner is other not_before up =
    let version : inner.version ≡ outer.version =
    (let le = up.version in
    elim (cases_lt inner.version outer.version) [
      | inl less ↦ absurd (not_before (record { version = le; number = λ e. absurd (omega arith); length = λ e _. absurd (omega arith) }))
      | inr more ↦ omega arith
    ]) in
    let low : outer.number ≤ inner.number =
    (elim (cases_lt inner.number outer.number) [
      | inl less ↦ absurd (not_before (record { version = up.version; number = λ _. omega arith; length = λ _ e. absurd (omega arith) }))
      | inr more ↦ more
    ]) in
    let high = up.number version in
    let last = last_cleared outer is in
    let number : cleared (host_bits outer) inner.number ≡ outer.number =
    cleared_between (host_bits outer) (outer.number + (2 ^ host_bits outer - 1)) inner.number
    (subst (λ m. m ≤ inner.number) (sym last) low) high ∙ last in
    let long : outer.length ≤ inner.length =
    (elim (cases_lt inner.length outer.length) [
      | inr fits ↦ fits
      | inl shorter ↦
          let wide : width inner.version ≡ width outer.version = ap width version in
          let less =
          less_left (host_bits outer) (host_bits inner) inner.number (omega (arith, wide, shorter)) in
          let same : inner.number ≡ outer.number = let own = other.no_host_bits in omega arith in
          absurd (not_before (record { version = up.version; number = λ _. omega arith; length = λ _ _. shorter }))
    ]) in
    and_from _ _ (covered_from outer (start_of inner) (sym version) (sym number)) (le-leb outer.length inner.length long)
