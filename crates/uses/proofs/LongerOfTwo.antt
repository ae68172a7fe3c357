-- The longest network of two lists.
use Rattle.std.proofs.Common.{◌≡◌, arith, ℕ, ◌≤◌, true, false, List, [], ◌∷◌, ◌++◌, map, Option, Some, None, refl, ap, sym, ◌∙◌}
use Rattle.std.specs.List.{All, zip}
use Rattle.std.specs.declared.net.ip_addr.IpAddr.{IpAddr}
use Rattle.std.proofs.lemmas.Bool.{false≢true}
use Rattle.std.proofs.lemmas.List.Elements.{All-append, All-weaker, Contains-append_left, Contains-append_right}
use Rattle.prefix_table.specs.declared.network.Network.{Network}
use Rattle.prefix_table.specs.Entries.{IsLongest, IsLongestMatch}
use Rattle.prefix_table.specs.Networks.{covers}

-- routes are their networks with where they lead
pub zip_routes : (routes : List (Network × ℕ)) → zip (map (λ route. route.0) routes) (map (λ route. route.1) routes) ≡ routes
zip_routes [] = refl
zip_routes (route ∷ routes) = ap (λ others. route ∷ others) (zip_routes routes)

-- no network that covers the address is longer than this
abbrev AreUpTo : IpAddr → ℕ → List (Network × ℕ) → Type 0
AreUpTo address most routes = All (λ route. covers route.0 address ≡ true → route.0.length ≤ most) routes

pub none_is_longer : (address : IpAddr) (most : ℕ) (routes : List (Network × ℕ)) → IsLongestMatch routes address None →
    AreUpTo address most routes
none_is_longer address most routes none =
    All-weaker (λ route. covers route.0 address ≡ false) (λ route. covers route.0 address ≡ true → route.0.length ≤ most)
    (λ route f t. absurd (false≢true (sym f ∙ t))) routes none

pub shorter_are : (address : IpAddr) (most : ℕ) (routes : List (Network × ℕ)) (found : Network × ℕ) → IsLongest routes address found →
    found.0.length ≤ most → AreUpTo address most routes
shorter_are address most routes found is short =
    All-weaker (λ route. covers route.0 address ≡ true → route.0.length ≤ found.0.length)
    (λ route. covers route.0 address ≡ true → route.0.length ≤ most) (λ route up t. let least = up t in omega (arith, least, short)) routes is.longest

module _ (before after : List (Network × ℕ)) (address : IpAddr) (found : Network × ℕ) where
  pub longest_is_first : IsLongest before address found → AreUpTo address found.0.length after → IsLongest (before ++ after) address found
  longest_is_first is others = record {
    there = Contains-append_left before after found is.there;
    it_covers = is.it_covers;
    longest = All-append (λ route. covers route.0 address ≡ true → route.0.length ≤ found.0.length) before after is.longest others;
  }

  pub longest_is_second : IsLongest after address found → AreUpTo address found.0.length before → IsLongest (before ++ after) address found
  longest_is_second is others = record {
    there = Contains-append_right before after found is.there;
    it_covers = is.it_covers;
    longest = All-append (λ route. covers route.0 address ≡ true → route.0.length ≤ found.0.length) before after others is.longest;
  }

module _ (before after : List (Network × ℕ)) (address : IpAddr) where
  pub second_alone : (found : Option (Network × ℕ)) → IsLongestMatch before address None → IsLongestMatch after address found →
      IsLongestMatch (before ++ after) address found
  second_alone None none is = All-append (λ route. covers route.0 address ≡ false) before after none is
  second_alone (Some found) none is =
      longest_is_second before after address found is (none_is_longer address found.0.length before none)

  pub first_alone : (found : Option (Network × ℕ)) → IsLongestMatch before address found → IsLongestMatch after address None →
      IsLongestMatch (before ++ after) address found
  first_alone None is none = All-append (λ route. covers route.0 address ≡ false) before after is none
  first_alone (Some found) is none =
      longest_is_first before after address found is (none_is_longer address found.0.length after none)
