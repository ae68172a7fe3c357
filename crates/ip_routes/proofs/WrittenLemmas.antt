-- How lines write networks.
use Rattle.std.proofs.Common.{◌≡◌, ◌≢◌, ℕ, zero, suc, ◌+◌, ◌-◌, ◌*◌, ◌^◌, ◌<◌, ◌≤◌, min, Bool, true, false, ◌==◌, if◌then◌else◌, List, [], ◌∷◌, ◌++◌, length}
use Rattle.std.proofs.Common.{take, get_or, decimal, refl, ap, sym, ◌∙◌, subst, arith, inl, inr}
use Rattle.std.specs.Char.{digit_value}
use Rattle.std.specs.List.{All}
use Rattle.std.specs.Str.Parse.{AllDigits, digits_value}
use Rattle.std.specs.Net.Grammar.{IsDotted, IsGroupsAfter, IsIpText}
use Rattle.std.specs.declared.net.ip_addr.IpAddr.{IpAddr}
use Rattle.std.specs.declared.net.ip_addr.IpAddr.TheVariants.{V4, V6}
use Rattle.std.proofs.lemmas.Fmt.{decimal_is_IsNumeral}
use Rattle.std.proofs.lemmas.Int.Digits.{digits_more, digits_value_more}
use Rattle.std.proofs.lemmas.List.Elements.{All-nil, All-cons, All-head, All-tail, All-append}
use Rattle.prefix_table.specs.declared.network.Address.{Address}
use Rattle.prefix_table.specs.Networks.{IsAddress, IsNetwork, cleared, host_bits, network_with, width}
use Rattle.ip_routes.specs.Written.{IsLength, IsNetworkText, IsWrittenAt, StartsWith}

-- ---- lists that a byte separates

module _ (byte : ℕ) where
  abbrev Lacks : List ℕ → Type 0
  Lacks = All (λ c. c ≢ byte)

  has_it : (a b : List ℕ) → Lacks (a ++ byte ∷ b) → ⊥
  has_it [] b lacks = All-head (λ c. c ≢ byte) byte b lacks refl
  has_it (x ∷ a) b lacks = has_it a b (All-tail (λ c. c ≢ byte) x (a ++ byte ∷ b) lacks)

  -- what is before the first such byte, and after it
  same_parts : (a b c d : List ℕ) → Lacks a → Lacks c → a ++ byte ∷ b ≡ c ++ byte ∷ d → (a ≡ c) × (b ≡ d)
  same_parts [] b [] d ha hc e = (refl, cc)
  same_parts [] b (x ∷ c) d ha hc e = absurd (All-head (λ z. z ≢ byte) x c hc (cc))
  same_parts (x ∷ a) b [] d ha hc e = absurd (All-head (λ z. z ≢ byte) x a ha (cc))
  same_parts (x ∷ a) b (y ∷ c) d ha hc e =
      let rest : a ++ byte ∷ b ≡ c ++ byte ∷ d = cc in
      let both = same_parts a b c d (All-tail (λ z. z ≢ byte) x a ha) (All-tail (λ z. z ≢ byte) y c hc) rest in
      (cc, both.1)

-- ---- the bytes of addresses and of numbers

-- a byte that is no digit, no dot and no colon
pub record IsOther (byte : ℕ) : Type 0 where
  pub no_digit : ¬ (digit_value byte < 16)
  pub no_dot : 46 ≢ byte
  pub no_colon : 58 ≢ byte

space_is_other : IsOther 32
space_is_other = record { no_digit = λ h. omega (arith, h); no_dot = λ e. omega (arith, e); no_colon = λ e. omega (arith, e) }

slash_is_other : IsOther 47
slash_is_other = record { no_digit = λ h. omega (arith, h); no_dot = λ e. omega (arith, e); no_colon = λ e. omega (arith, e) }

module _ (byte : ℕ) (other : IsOther byte) where
  digits_lack : (radix : ℕ) (ds : List ℕ) → radix ≤ 16 → AllDigits radix ds → Lacks byte ds
  digits_lack radix [] low h = All-nil (λ c. c ≢ byte)
  digits_lack radix (d ∷ ds) low h =
      All-cons (λ c. c ≢ byte) d ds (λ e. other.no_digit (subst (λ c. digit_value c < 16) e (omega (arith, h.0)))) (digits_lack radix ds low h.1)

  both : (a b : List ℕ) → Lacks byte a → Lacks byte b → Lacks byte (a ++ b)
  both a b = All-append (λ c. c ≢ byte) a b

  one : (c : ℕ) → c ≢ byte → Lacks byte (c ∷ [])
  one c off = All-cons (λ z. z ≢ byte) c [] off (All-nil (λ z. z ≢ byte))

  octet_lacks : (n : ℕ) → n < 256 → Lacks byte (decimal n)
  octet_lacks n small = digits_lack 10 (decimal n) (omega arith) (decimal_is_IsNumeral n (omega arith)).0.1

  dotted_lacks : (text octets : List ℕ) → IsDotted text octets → Lacks byte text
  dotted_lacks text octets h =
      subst (Lacks byte) (sym h.spelled)
      (both _ _ (both _ _ (both _ _ (both _ _ (both _ _ (both _ _ (octet_lacks h.a h.fit.0) dot) (octet_lacks h.b h.fit.1)) dot)
      (octet_lacks h.c h.fit.2)) dot) (octet_lacks h.d h.fit.3))
    where
      dot : Lacks byte (46 ∷ [])
      dot = one 46 other.no_dot

  groups_lack : (ipv4 : Bool) (lead text segments : List ℕ) → Lacks byte lead → IsGroupsAfter ipv4 lead text segments → Lacks byte text
  groups_lack ipv4 lead text [] l h = subst (Lacks byte) (sym h) (All-nil (λ c. c ≢ byte))
  groups_lack ipv4 lead text (s ∷ segments) l (inl (group, rest, is, is_group, more)) =
      subst (Lacks byte) (sym is) (both _ _ (both _ _ l (digits_lack 16 group (omega arith) is_group.0.0.1))
      (groups_lack ipv4 (58 ∷ []) rest segments (one 58 other.no_colon) more))
  groups_lack ipv4 lead text (s ∷ segments) l (inr (last, octets, can, is, dotted, value)) =
      subst (Lacks byte) (sym is) (both _ _ l (dotted_lacks last octets dotted))

  address_lacks : (text : List ℕ) (a : IpAddr) → IsIpText text a → Lacks byte text
  address_lacks text (V4 ip) h = dotted_lacks text _ h
  address_lacks text (V6 ip) (inl h) = groups_lack true [] text _ (All-nil (λ c. c ≢ byte)) h.0
  address_lacks text (V6 ip) (inr h) =
      subst (Lacks byte) (sym h.spelled)
      (both _ _ (both _ _ (groups_lack false [] h.head_text h.head none h.head_groups) (both (58 ∷ []) (58 ∷ []) colon colon))
      (groups_lack true [] h.tail_text h.tail none h.tail_groups))
    where
      none : Lacks byte []
      none = All-nil (λ c. c ≢ byte)

      colon : Lacks byte (58 ∷ [])
      colon = one 58 other.no_colon

-- ---- the parts of a line

module _ (text : List ℕ) (a : IpAddr) (n : ℕ) where
  network_lacks : IsNetworkText text a n → Lacks 32 text
  network_lacks (inl p) =
      subst (Lacks 32) (sym p.text_is)
      (All-append (λ c. c ≢ 32) p.start (47 ∷ p.digits) (address_lacks 32 space_is_other p.start a p.address_is)
      (All-cons (λ c. c ≢ 32) 47 p.digits (λ e. omega (arith, e)) (digits_lack 32 space_is_other 10 p.digits (omega arith) p.length_is.0.0.1)))
  network_lacks (inr h) = address_lacks 32 space_is_other text a h.0

-- what is before the first space
same_word : (line text other : List ℕ) → StartsWith line text → StartsWith line other → Lacks 32 text → Lacks 32 other → text ≡ other
same_word line text other (inl e) (inl f) ht ho = sym e ∙ f
same_word line text other (inl e) (inr (name, f)) ht ho = absurd (has_it 32 other name (subst (Lacks 32) (sym e ∙ f) ht))
same_word line text other (inr (name, e)) (inl f) ht ho = absurd (has_it 32 text name (subst (Lacks 32) (sym f ∙ e) ho))
same_word line text other (inr (name, e)) (inr (rest, f)) ht ho = (same_parts 32 text name other rest ht ho (sym e ∙ f)).0

-- a line whose first word is no network's text writes none
pub no_network : (line text : List ℕ) → StartsWith line text → Lacks 32 text → ((a : IpAddr) (n : ℕ) → ¬ IsNetworkText text a n) →
    (a : IpAddr) (n : ℕ) → ¬ IsWrittenAt line a n
no_network line text starts lacks none a n (other, starts', is) =
    none a n (subst (λ t. IsNetworkText t a n) (sym (same_word line text other starts starts' lacks (network_lacks other a n is))) is)

module _ (text : List ℕ) where
  -- a text with a slash is a network's only by its parts
  pub no_prefix : (start digits : List ℕ) → text ≡ start ++ 47 ∷ digits → Lacks 47 start →
      ((a : IpAddr) (n : ℕ) → IsIpText start a → ¬ IsLength digits n) → (a : IpAddr) (n : ℕ) → ¬ IsNetworkText text a n
  no_prefix start digits is lacks none a n (inl p) =
      let parts = same_parts 47 start digits p.start p.digits lacks (address_lacks 47 slash_is_other p.start a p.address_is) (sym is ∙ p.text_is) in
      none a n (subst (λ t. IsIpText t a) (sym parts.0) p.address_is) (subst (λ ds. IsLength ds n) (sym parts.1) p.length_is)
  no_prefix start digits is lacks none a n (inr h) =
      has_it 47 start digits (subst (Lacks 47) is (address_lacks 47 slash_is_other text a h.0))

  -- and one without a slash only as an address
  pub no_host : Lacks 47 text → ((a : IpAddr) → ¬ IsIpText text a) → (a : IpAddr) (n : ℕ) → ¬ IsNetworkText text a n
  no_host lacks none a n (inl p) = has_it 47 p.start p.digits (subst (Lacks 47) p.text_is lacks)
  no_host lacks none a n (inr h) = none a h.0

-- the width of a version is a small number
pub small_width : (version : ℕ) → width version ≤ 128
small_width version = go (version == 4)
  where
    go : (b : Bool) → (if b then 32 else 128) ≤ 128
    go true = omega arith
    go false = omega arith

-- a network is one unless it has host bits or is too long
pub is_network_but : (start : Address) (n : ℕ) → IsAddress start → n ≤ width start.version →
    cleared (host_bits (network_with start n)) start.number ≡ start.number → IsNetwork (network_with start n)
is_network_but start n is within none =
    record { version_is = is.version_is; number_fits = is.fits; length_fits = within; no_host_bits = none }

-- ---- numbers that are cut

cut_more : (n d m : ℕ) → min (min (min n m * 10) m + d) m ≡ min (n * 10 + d) m
cut_more n d m = omega arith

-- a further digit
pub length_more : (ds : List ℕ) (i j cut tens next byte digit : ℕ) → i < length ds → AllDigits 10 (take i ds) →
    cut ≡ min (digits_value 10 (take i ds)) (2 ^ 32 - 1) →
    byte ≡ get_or ds i 0 → (digit_value byte < 10) × (digit ≡ digit_value byte) → tens ≡ min (cut * 10) (2 ^ 32 - 1) → next ≡ min (tens + digit) (2 ^ 32 - 1) →
    AllDigits 10 (take (i + 1) ds) × (next ≡ min (digits_value 10 (take (i + 1) ds)) (2 ^ 32 - 1))
length_more ds i j cut tens next byte digit within all is read h t n = (
  digits_more 10 ds i within all (subst (λ b. digit_value b < 10) read h.0),
  n ∙ ap (λ x. min (x + digit) (2 ^ 32 - 1)) (t ∙ ap (λ x. min (x * 10) (2 ^ 32 - 1)) is) ∙ cut_more (digits_value 10 (take i ds)) digit (2 ^ 32 - 1)
      ∙ ap (λ x. min x (2 ^ 32 - 1)) (ap (λ d. digits_value 10 (take i ds) * 10 + d) (h.1 ∙ ap digit_value read) ∙ sym (digits_value_more 10 ds i within)),
)

-- each byte of digits is one
pub is_digit_at : (radix : ℕ) (ds : List ℕ) (i : ℕ) → i < length ds → AllDigits radix ds → digit_value (get_or ds i 0) < radix
is_digit_at radix [] i within h = absurd (omega (arith, within))
is_digit_at radix (d ∷ ds) zero within h = h.0
is_digit_at radix (d ∷ ds) (suc i) within h = is_digit_at radix ds i (omega arith) h.1

-- a length beyond a width is beyond it also where it was not cut
pub longer : (room wide from cut length : ℕ) → wide ≡ room → from ≡ wide → cut ≡ min length (2 ^ 32 - 1) → from < cut → room < length
longer room wide from cut length w f is more = omega arith

-- and one within it was not cut
pub not_cut : (room wide from cut length : ℕ) → wide ≡ room → wide ≤ 128 → from ≡ wide → cut ≡ min length (2 ^ 32 - 1) → cut ≤ from →
    (cut ≡ length) × (length ≤ room)
not_cut room wide from cut length w low f is within = (omega arith, omega arith)
