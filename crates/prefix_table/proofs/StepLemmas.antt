-- Steps from a network to shorter ones around an address.
use Rattle.std.proofs.Common.{◌≡◌, ℕ, ◌+◌, ◌-◌, ◌*◌, ◌/◌, ◌^◌, ◌<◌, ◌≤◌, true, false, inl, inr, ap, ap₂, sym, ◌∙◌, subst, arith}
use Rattle.std.specs.Int.Bits.{bit_xor, xor_self}
use Rattle.std.specs.Int.{leading_zeros, w128}
use Rattle.std.proofs.Math.Nat.{div-mul-le_self, pow-le-pow_right}
use Rattle.std.proofs.lemmas.Bool.{cases_lt, false≢true}
use Rattle.std.proofs.lemmas.Nat.{leading_length, pow-add, pow_pos, shl-shr, shr_split, xor_shr}
use Rattle.prefix_table.specs.declared.network.Address.{Address}
use Rattle.prefix_table.specs.declared.network.Network.{Network}
use Rattle.prefix_table.specs.Networks.{cleared, covers_at, start_of, width}
use Rattle.prefix_table.specs.Steps.{IsUpToNetwork, cut}
use Rattle.prefix_table.proofs.CoverLemmas.{covered_from, covered_parts, covers_between}

-- numbers that are cleared to the same have the same first bits
same_first : (k a b : ℕ) → cleared k a ≡ cleared k b → a / 2 ^ k ≡ b / 2 ^ k
same_first k a b same = sym (shl-shr (a / 2 ^ k) k) ∙ ap (λ n. n / 2 ^ k) same ∙ shl-shr (b / 2 ^ k) k

-- numbers with the same first bits differ at most in the others
differ_later : (k a b : ℕ) → cleared k a ≡ cleared k b → bit_xor a b < 2 ^ k
differ_later k a b same =
    let none : bit_xor a b / 2 ^ k ≡ 0 =
    xor_shr a b k ∙ ap (λ n. bit_xor n (b / 2 ^ k)) (same_first k a b same) ∙ xor_self (b / 2 ^ k) in
    let split = shr_split (bit_xor a b) k in
    let positive = pow_pos k in
    let first : bit_xor a b / 2 ^ k * 2 ^ k ≡ 0 * 2 ^ k = ap (λ n. n * 2 ^ k) none in
    omega arith

-- a number of few bits begins with zeros
pub begins_with_zeros : (k n : ℕ) → k ≤ 128 → n < 2 ^ k → 128 - k ≤ leading_zeros w128 n
begins_with_zeros k n fits small =
    let more = pow-le-pow_right {n = 2} (omega arith) {i = k} {j = 128} fits in
    let (m, all, below, above) = leading_length 128 n (omega arith) in
    elim (cases_lt k m) [
      | inl less ↦
          let twice = pow-le-pow_right {n = 2} (omega arith) {i = k + 1} {j = m} (omega arith) in
          let next = pow-add 2 k 1 in
          absurd (omega arith)
      | inr few ↦ omega arith
    ]

pub shares : (width length a b : ℕ) → width ≤ 128 → length ≤ width → cleared (width - length) a ≡ cleared (width - length) b →
    length ≤ leading_zeros w128 (bit_xor a b) - (128 - width)
shares width length a b wide fits same =
    let zeros = begins_with_zeros (width - length) (bit_xor a b) (omega arith) (differ_later (width - length) a b same) in
    omega arith

module _ (last : Network) (address : Address) (length : ℕ) (up : IsUpToNetwork last (cut address length)) (fits : length ≤ width address.version)
    (network : Network) (covers : covers_at network address ≡ true) (short : network.length ≤ length) (before : IsUpToNetwork network last) where
  -- a network that covers the address covers where the last one starts
  pub covers_last : covers_at network (start_of last) ≡ true
  covers_last =
      let less = div-mul-le_self address.number (2 ^ (width address.version - length)) in
      covers_between network (start_of last) address
      (record { version = omega (arith, before.version); number = λ _. before.number })
      (record { version = omega (arith, up.version); number = λ _. omega (arith, up.number) })
      covers

  pub shares_its_bits : cleared (width address.version - network.length) last.number ≡ cleared (width address.version - network.length) address.number
  shares_its_bits =
      let of_last = covered_parts network (start_of last) covers_last in
      let of_address = covered_parts network address covers in
      subst (λ v. cleared (width v - network.length) last.number ≡ cleared (width v - network.length) address.number) of_address.0
      (sym of_last.1 ∙ of_address.1)

  -- one of all bits is the last one itself
  pub is_shorter : covers_at last address ≡ false → network.length < length
  is_shorter not =
      elim (cases_lt network.length length) [
        | inl less ↦ less
        | inr more ↦
            let same : network.length ≡ length = omega arith in
            let of_address = covered_parts network address covers in
            let number : network.number ≡ cleared (width address.version - length) address.number =
            of_address.1 ∙ ap₂ (λ v l. cleared (width v - l) address.number) of_address.0 same in
            let all : last.number ≡ network.number = omega (arith, number, before.number, up.number) in
            let long : last.length ≡ length = omega (arith, same, before.length (sym all), up.length (all ∙ number)) in
            let version : last.version ≡ address.version = up.version in
            absurd (false≢true (sym not ∙ covered_from last address version
            (all ∙ number ∙ ap₂ (λ v l. cleared (width v - l) address.number) (sym version) (sym long))))
      ]
