-- The last network up to another one, and the longest one that covers an address.
use Rattle.std.proofs.Common.{◌≡◌, ◌≢◌, ℕ, ◌-◌, ◌<◌, ◌≤◌, ◌⊎◌, inl, inr, Bool, ◌&&◌, true, false, slice_index_or, List, length, map, Option, Some, None, nat_cmp, refl, ap, sym, ◌∙◌, subst, arith}
use Rattle.std.specs.List.{All, Contains}
use Rattle.std.specs.Option.{option_map}
use Rattle.std.specs.declared.net.ip_addr.IpAddr.{IpAddr}
use Rattle.std.specs.declared.cmp.Ordering.TheVariants.{Less}
use Rattle.std.specs.declared.ops.Bound.TheVariants.{Included, Unbounded}
use Rattle.std.proofs.lemmas.Bool.{cases_lt, false≢true}
use Rattle.std.proofs.lemmas.List.{get_or-map, length-map}
use Rattle.std.proofs.lemmas.List.Elements.{All-append, All-contains, All-from_recursion, All-map, All-weaker, Contains-append_left, Contains-append_right}
use Rattle.art_model.specs.Pairs.{last_of}
use Rattle.art_keys.specs.Joins.{pair_cmp}
use Rattle.art_keyed.specs.KeyedPairs.{RiseBy, is_key_from, is_key_up_to, keys_between}
use Rattle.prefix_table.specs.declared.network.Address.{Address}
use Rattle.prefix_table.specs.declared.network.Network.{Network}
use Rattle.prefix_table.specs.Entries.{IsLongest}
use Rattle.prefix_table.specs.Networks.{IsNetwork, address_of, covers, covers_at, host_bits, width}
use Rattle.prefix_table.specs.Steps.{IsBound, IsUpToNetwork, cut}
use Rattle.prefix_table.proofs.CoverLemmas.{covered_parts, is_false, later_is_longer, less_left}
use Rattle.route_map.specs.Routes.{AreNetworks, IsLastEntryUpTo, IsLastUpTo, entries_of, entry_of, key_of, network_of}
use Rattle.route_map.proofs.KeyOrder.{less_is_up, passed_is_up, up_is_passed}
use Rattle.route_map.proofs.LastPassing.{last_passes, none_passes}
use Rattle.route_map.proofs.ValueLemmas.{its_own}

contains_map : {X Y : Type 0} (f : X → Y) (xs : List X) (x : X) → Contains xs x → Contains (map f xs) (f x)
contains_map f xs x (k, fits, is) =
    (k, subst (λ n. k < n) (sym (length-map xs f)) fits, get_or-map f xs k x (f x) fits ∙ ap f is)

-- the pairs with keys up to this one
abbrev passes : {V : Type 0} → ℕ × ℕ → (ℕ × ℕ) × V → Bool
passes key pair = is_key_from (pair_cmp nat_cmp nat_cmp) Unbounded pair.0 && is_key_up_to (pair_cmp nat_cmp nat_cmp) (Included key) pair.0

-- the pairs of a tree among the entries of a map: what holds of them and of networks of other versions holds of all
module _ {V : Type 0} (version : ℕ) (pairs : List ((ℕ × ℕ) × V)) (entries : List (Network × V))
    (here : (pair : (ℕ × ℕ) × V) → Contains pairs pair → Contains entries (entry_of version pair))
    (each : (P : Network × V → Type 0) → All (λ pair. P (entry_of version pair)) pairs →
    ((entry : Network × V) → entry.0.version ≢ version → P entry) → All P entries)
    (rise : RiseBy (pair_cmp nat_cmp nat_cmp) pairs) (network : Network) (v : network.version ≡ version) where
  own : network ≡ network_of version (key_of network)
  own = its_own version network v

  is_passed : (pair : (ℕ × ℕ) × V) → IsUpToNetwork (network_of version pair.0) network → passes (key_of network) pair ≡ true
  is_passed pair up = up_is_passed version (key_of network) pair.0 (subst (IsUpToNetwork (network_of version pair.0)) own up)

  pub last_is : (found : Option ((ℕ × ℕ) × V)) →
      found ≡ last_of (keys_between (pair_cmp nat_cmp nat_cmp) Unbounded (Included (key_of network)) pairs) →
      IsLastUpTo entries network (option_map (entry_of version) found)
  last_is None e =
      each (λ entry. ¬ IsUpToNetwork entry.0 network)
      (All-weaker (λ pair. passes (key_of network) pair ≡ false) (λ pair. ¬ IsUpToNetwork (network_of version pair.0) network)
      (λ pair f up. false≢true (sym f ∙ is_passed pair up)) pairs (none_passes (passes (key_of network)) pairs (sym e)))
      (λ entry off up. off (up.version ∙ v))
  last_is (Some pair) e =
      let order : (ℕ × ℕ) × V → (ℕ × ℕ) × V → Type 0 = λ x y. pair_cmp nat_cmp nat_cmp x.0 y.0 ≡ Less in
      let last = last_passes (passes (key_of network)) order pairs pair rise (sym e) in
      record {
        there = here pair last.there;
        up = subst (IsUpToNetwork (network_of version pair.0)) (sym own) (passed_is_up version (key_of network) pair.0 last.passes);
        last =
            each (λ other. IsUpToNetwork other.0 network → IsUpToNetwork other.0 (network_of version pair.0))
            (All-weaker (λ y. passes (key_of network) y ≡ true → (y ≡ pair) ⊎ order y pair)
            (λ y. IsUpToNetwork (network_of version y.0) network → IsUpToNetwork (network_of version y.0) (network_of version pair.0))
            (λ y found up. before y (found (is_passed y up))) pairs last.before)
            (λ other off up. absurd (off (up.version ∙ v)));
      }
    where
      before : (y : (ℕ × ℕ) × V) → (y ≡ pair) ⊎ (pair_cmp nat_cmp nat_cmp y.0 pair.0 ≡ Less) →
          IsUpToNetwork (network_of version y.0) (network_of version pair.0)
      before y (inl same) = subst (λ p. IsUpToNetwork (network_of version y.0) (network_of version p.0)) same (itself y)
        where
          itself : (y : (ℕ × ℕ) × V) → IsUpToNetwork (network_of version y.0) (network_of version y.0)
          itself y = record { version = refl; number = omega arith; length = λ _. omega arith }
      before y (inr less) = less_is_up y.0 pair.0 version less

module _ {V : Type 0} (four six : List ((ℕ × ℕ) × V)) (network : Network) where
  pub last_of_four : RiseBy (pair_cmp nat_cmp nat_cmp) four → network.version ≡ 4 → (found : Option ((ℕ × ℕ) × V)) →
      found ≡ last_of (keys_between (pair_cmp nat_cmp nat_cmp) Unbounded (Included (key_of network)) four) →
      IsLastUpTo (entries_of four six) network (option_map (entry_of 4) found)
  last_of_four rise v found e =
      last_is 4 four (entries_of four six)
      (λ pair there. Contains-append_left (map (entry_of 4) four) (map (entry_of 6) six) (entry_of 4 pair) (contains_map (entry_of 4) four pair there))
      (λ P all others.
      All-append P (map (entry_of 4) four) (map (entry_of 6) six) (All-map P (entry_of 4) four all)
      (All-map P (entry_of 6) six (λ k d h. others _ (λ w. omega (arith, w)))))
      rise network v found e

  pub last_of_six : RiseBy (pair_cmp nat_cmp nat_cmp) six → network.version ≡ 6 → (found : Option ((ℕ × ℕ) × V)) →
      found ≡ last_of (keys_between (pair_cmp nat_cmp nat_cmp) Unbounded (Included (key_of network)) six) →
      IsLastUpTo (entries_of four six) network (option_map (entry_of 6) found)
  last_of_six rise v found e =
      last_is 6 six (entries_of four six)
      (λ pair there. Contains-append_right (map (entry_of 4) four) (map (entry_of 6) six) (entry_of 6 pair) (contains_map (entry_of 6) six pair there))
      (λ P all others.
      All-append P (map (entry_of 4) four) (map (entry_of 6) six)
      (All-map P (entry_of 4) four (λ k d h. others _ (λ w. omega (arith, w)))) (All-map P (entry_of 6) six all))
      rise network v found e

pub all_networks : {V : Type 0} (four six : List ((ℕ × ℕ) × V)) → AreNetworks four six → All (λ entry. IsNetwork entry.0) (entries_of four six)
all_networks four six are =
    All-append (λ entry. IsNetwork entry.0) (map (entry_of 4) four) (map (entry_of 6) six)
    (All-map (λ entry. IsNetwork entry.0) (entry_of 4) four (All-from_recursion (λ pair. IsNetwork (network_of 4 pair.0)) four are.of_four))
    (All-map (λ entry. IsNetwork entry.0) (entry_of 6) six (All-from_recursion (λ pair. IsNetwork (network_of 6 pair.0)) six are.of_six))

pub stored_network : {V : Type 0} (four six : List ((ℕ × ℕ) × V)) → AreNetworks four six → (entries : List (Network × V)) →
    entries_of four six ≡ entries → (entry : Network × V) → Contains entries entry → IsNetwork entry.0
stored_network four six are entries is entry there =
    All-contains (λ entry. IsNetwork entry.0) entries entry (subst (All (λ entry. IsNetwork entry.0)) is (all_networks four six are)) there

-- ---- steps to the longest network

module _ {V : Type 0} (entries : List (Network × V)) (address : Address) where
  -- no network that covers the address is longer
  abbrev pub AreUpToLength : ℕ → Type 0
  AreUpToLength length = All (λ entry. covers_at entry.0 address ≡ true → entry.0.length ≤ length) entries

  pub all_fit : All (λ entry. IsNetwork entry.0) entries → AreUpToLength (width address.version)
  all_fit networks k d h covers =
      let entry = slice_index_or entries k d in
      let version = (covered_parts entry.0 address covers).0 in
      subst (λ v. entry.0.length ≤ width v) version (networks k d h).length_fits

  -- a network that covers the address is up to that of as many of its bits or more
  up_to_cut : (network : Network) (length : ℕ) → covers_at network address ≡ true → network.length ≤ length →
      IsUpToNetwork network (cut address length)
  up_to_cut network length covers short =
      let parts = covered_parts network address covers in
      let wide : width network.version ≡ width address.version = ap width parts.0 in
      let less = less_left (width address.version - length) (host_bits network) address.number (omega (arith, wide, short)) in
      record { version = parts.0; number = omega (arith, parts.1, less); length = λ _. short }

  module _ (length : ℕ) (short : AreUpToLength length) where
    pub none_covers : IsLastUpTo entries (cut address length) None → All (λ entry. covers_at entry.0 address ≡ false) entries
    none_covers none k d h =
        let entry = slice_index_or entries k d in
        is_false _ (λ covers. none k d h (up_to_cut entry.0 length covers (short k d h covers)))

    module _ (found : Network × V) (last : IsLastEntryUpTo entries (cut address length) found) where
      pub is_longest : (ip : IpAddr) → address ≡ address_of ip → covers_at found.0 address ≡ true → IsLongest entries ip found
      is_longest ip is it = record {
        there = last.there;
        it_covers = sym (ap (covers_at found.0) is) ∙ it;
        longest = λ k d h covered.
            let entry = slice_index_or entries k d in
            let covers = ap (covers_at entry.0) is ∙ covered in
            let up = last.last k d h (up_to_cut entry.0 length covers (short k d h covers)) in
            elim (cases_lt entry.0.number found.0.number) [
              | inl less ↦
                  later_is_longer entry.0 found.0 address
                  (record { version = omega (arith, up.version); number = λ _. up.number; length = λ _ same. absurd (omega (arith, less, same)) })
                  covers it
              | inr more ↦ up.length (omega (arith, up.number, more))
            ];
      }

      abbrev BoundsAll : Option ℕ → Type 0
      BoundsAll next = (network : Network) → covers_at network address ≡ true → network.length ≤ length → IsUpToNetwork network found.0 →
          IsBound next network.length

      pub next_short : (next : ℕ) → BoundsAll (Some next) → AreUpToLength next
      next_short next bound k d h covers =
          let entry = slice_index_or entries k d in
          bound entry.0 covers (short k d h covers) (last.last k d h (up_to_cut entry.0 length covers (short k d h covers)))

      pub no_next : BoundsAll None → All (λ entry. covers_at entry.0 address ≡ false) entries
      no_next bound k d h =
          let entry = slice_index_or entries k d in
          is_false _ (λ covers.
          bound entry.0 covers (short k d h covers) (last.last k d h (up_to_cut entry.0 length covers (short k d h covers))))
