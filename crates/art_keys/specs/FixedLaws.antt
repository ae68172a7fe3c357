-- Strings of bytes of one length.
use Rattle.std.proofs.Common.{◌≡◌, ℕ, List, [], ◌∷◌, ◌++◌, length, ap, arith, append-nil, length-append, ◌∙◌, refl, sym}
use Rattle.std.specs.Array.{AllZipBelow}
use Rattle.std.specs.List.{each_same}
use Rattle.art_keys.specs.Decoded.{ComesBack}
use Rattle.art_keys.specs.Prefixes.{HasNoPrefixes, IsKept}
use Rattle.art_parts.specs.Keys.{KeepBytes}

-- none is a prefix of another
pub fixed_no_prefixes : (n : ℕ) → HasNoPrefixes (λ bytes. length bytes ≡ n) (λ bytes. bytes)
fixed_no_prefixes n a b of_a of_b (rest, is) = go rest is (let l = ap length is in omega (arith, simp length-append at l))
  where
    go : (rest : List ℕ) → b ≡ a ++ rest → length rest ≡ 0 → a ≡ b
    go [] e none = sym (e ∙ append-nil a)
    go (x ∷ rest) e none = absurd (omega arith)

-- a clone has the same bytes, and the same length
pub fixed_keeps_bytes : (n : ℕ) → KeepBytes (λ bytes. bytes) (λ a b. AllZipBelow (λ (x y : ℕ). y ≡ x) a b n)
fixed_keeps_bytes n a b is = each_same a b is.whole

pub fixed_keeps_key : (n : ℕ) → IsKept (λ bytes. length bytes ≡ n) (λ a b. AllZipBelow (λ (x y : ℕ). y ≡ x) a b n)
fixed_keeps_key n a b is of_a = is.long

pub fixed_comes_back : (n : ℕ) → ComesBack (λ bytes. length bytes ≡ n) (λ bytes. bytes) (λ bytes. bytes) (λ bytes. n)
fixed_comes_back n key of_key = (refl, λ rest. sym of_key)
