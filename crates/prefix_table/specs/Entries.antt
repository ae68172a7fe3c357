-- Networks with values, and which of them an address gets.
use Rattle.std.specs.Prelude.{◌≡◌, ◌≢◌, ℕ, ◌<◌, ◌≤◌, ◌^◌, true, false, List, [], ◌∷◌, length, MatchOption, All, Contains, count_by, max, slice_index_or, Option, Some, None, ⊤}
use Rattle.std.specs.declared.net.ip_addr.IpAddr.{IpAddr}
use denote.Ref.{Bor}
use Rattle.prefix_table.specs.declared.network.Network.{Network}
use Rattle.prefix_table.specs.declared.table.BuildFault.{BuildFault}
use Rattle.prefix_table.specs.declared.table.BuildFault.TheVariants as Why
use Rattle.prefix_table.specs.Networks.{covers, covers_at, start_of}

-- This entry is in the list, its network covers the address, and none that does is longer.
pub record IsLongest {V : Type 0} (entries : List (Network × V)) (address : IpAddr) (entry : Network × V) : Type 0 where
  pub there : Contains entries entry
  pub it_covers : covers entry.0 address ≡ true
  pub longest : All (λ other. covers other.0 address ≡ true → other.0.length ≤ entry.0.length) entries

-- the longest network that covers an address, with its value; none where none does
abbrev pub IsLongestMatch : {V : Type 0} → List (Network × V) → IpAddr → Option (Network × V) → Type 0
IsLongestMatch entries address None = All (λ entry. covers entry.0 address ≡ false) entries
IsLongestMatch entries address (Some entry) = IsLongest entries address entry

-- the value of the longest network that covers an address; none where none does
abbrev pub IsLongestValue : {V : Type 0} → List (Network × V) → IpAddr → Option (Bor V) → Type 0
IsLongestValue entries address None = All (λ entry. covers entry.0 address ≡ false) entries
IsLongestValue entries address (Some value) = (network : Network) × IsLongest entries address (network, value.now)

-- how many networks cover where this one starts
abbrev pub depth_of : {V : Type 0} → List (Network × V) → Network → ℕ
depth_of entries network = count_by (λ entry. covers_at entry.0 (start_of network)) entries

-- the greatest value of a function on a list, 0 if there is none
abbrev pub most_of : {X : Type 0} → (X → ℕ) → List X → ℕ
most_of f [] = 0
most_of f (x ∷ xs) = max (f x) (most_of f xs)

-- the most networks of a list that cover where one of them starts
abbrev pub nesting : {V : Type 0} → List (Network × V) → ℕ
nesting entries = most_of (λ entry. depth_of entries entry.0) entries

-- an entry whose value is borrowed
abbrev pub shown : {V : Type 0} → Network × Bor V → Network × V
shown entry = (entry.0, entry.1.now)

-- the first of a list was returned, with its value borrowed, and the others are left; or there was none
abbrev pub ShowsFirst : {V : Type 0} → List (Network × V) → Option (Network × Bor V) → List (Network × V) → Type 0
ShowsFirst old entry new = MatchOption entry ((old ≡ []) × (new ≡ [])) (λ e. old ≡ shown e ∷ new)

abbrev pub at_place : List Network → ℕ → Network
at_place networks k = slice_index_or networks k (record { number = 0; version = 0; length = 0 })

-- The networks at two places are equal, and no two before the second place are.
pub record IsRepeat (networks : List Network) (first second : ℕ) : Type 0 where
  pub in_order : first < second
  pub fits : second < length networks
  pub same : at_place networks first ≡ at_place networks second
  pub none_before : (i j : ℕ) → i < j → j < second → at_place networks i ≢ at_place networks j

-- why there is no table of these networks
abbrev pub IsBuildFault : List Network → BuildFault → Type 0
IsBuildFault networks (Why.Twice first second) = IsRepeat networks first second
IsBuildFault networks Why.TooMany = 2 ^ 32 ≤ length networks
IsBuildFault networks Why.NoMemory = ⊤
