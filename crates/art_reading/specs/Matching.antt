-- How a lookup compares the prefix of an inner node, and the key of a leaf, with its query.
use Rattle.std.specs.Prelude.{◌≡◌, ℕ, min, ◌||◌, nat_lt, if◌then◌else◌, length, slice_get, drop, Bool, true, List, ◌++◌, ◌≤◌, ◌<◌, Some, None, Result, Ok, Err, ◌+◌, ◌&&◌, is_ok, get_or, Option}
use Rattle.art_parts.specs.Headers.{Prefix}
use Rattle.std.specs.Option.{option_map}
use Rattle.art_inner.specs.Inner.{Inner, child_at}
use Rattle.art_parts.specs.declared.names.OpaqueNodePtr.{OpaqueNodePtr}
use Rattle.art_parts.specs.Keys.{IsFront, common_front}
use Rattle.art_reading.specs.declared.lookup.matching.PrefixMatchBehavior.{PrefixMatchBehavior}
use Rattle.art_reading.specs.declared.lookup.matching.PrefixMatchBehavior.TheVariants.{Pessimistic, Optimistic}
use Rattle.art_reading.specs.declared.lookup.matching.Step.{Step}
use Rattle.art_reading.specs.declared.lookup.matching.Step.TheVariants.{Down, AtEnd, Nowhere}
use Rattle.art_reading.specs.declared.path.AttemptOptimisticPrefixMatch.{AttemptOptimisticPrefixMatch}
use Rattle.art_reading.specs.declared.path.PessimisticMismatch.{PessimisticMismatch}

-- The bytes and at most one further are the rest of a key.
pub record HasRest (rest bytes : List ℕ) : Type 0 where
  pub last : List ℕ
  pub is : rest ≡ bytes ++ last
  pub few : length last ≤ 1

-- the length of the longest common prefix of two keys
abbrev pub shared_len : List ℕ → List ℕ → ℕ
shared_len a b = length (common_front a b)

-- a prefix of this length matches where the rest of the query is no shorter; the `Bool` says whether bytes of it are skipped
abbrev pub match_by_length : ℕ → List ℕ → Bool → Result AttemptOptimisticPrefixMatch PessimisticMismatch
match_by_length len rest implicit =
    if nat_lt (length rest) len then
    Err (record { matched_bytes = length rest; prefix_byte = None })
    else
    Ok (record { matched_bytes = len; any_implicit_bytes = implicit })

-- whether the rest of the query differs from the stored bytes of a prefix
abbrev pub parts_from : List ℕ → List ℕ → Bool
parts_from rest stored = nat_lt (shared_len stored rest) (length stored)

-- what the comparison of a prefix with the rest of the query returns
abbrev pub prefix_match : PrefixMatchBehavior → Prefix → List ℕ →
    Result AttemptOptimisticPrefixMatch PessimisticMismatch
prefix_match Optimistic prefix rest = match_by_length prefix.len rest true
prefix_match Pessimistic prefix rest =
    if parts_from rest prefix.stored then
    Err (record {
      matched_bytes = shared_len prefix.stored rest;
      prefix_byte = slice_get prefix.stored (shared_len prefix.stored rest);
    })
    else
    match_by_length prefix.len rest (nat_lt (length prefix.stored) prefix.len)

-- the behavior after the comparison: optimistic once bytes were skipped, or the query ended before the prefix
abbrev pub behavior_after : PrefixMatchBehavior → Prefix → List ℕ → PrefixMatchBehavior
behavior_after Optimistic prefix rest = Optimistic
behavior_after Pessimistic prefix rest =
    if parts_from rest prefix.stored then Pessimistic
    else if nat_lt (length rest) prefix.len || nat_lt (length prefix.stored) prefix.len then Optimistic
    else Pessimistic

-- where the key leads below an inner node at a depth: the place of its byte after the prefix, and the child under that byte
abbrev pub child_below : PrefixMatchBehavior → Inner → List ℕ → ℕ → Option (ℕ × OpaqueNodePtr)
child_below behavior node key depth =
    let place = depth + node.prefix.len in
    if is_ok (prefix_match behavior node.prefix (drop depth key)) && nat_lt place (length key) then
    option_map (λ child. (place, child)) (child_at node.children (get_or key place 0))
    else None

-- where the first bytes of a key lead below a node at a depth: to the child that the key leads to, to what the byte after them decides, or to no child
abbrev pub LeadsTo : PrefixMatchBehavior → PrefixMatchBehavior → Inner → List ℕ → List ℕ → ℕ → Step → Type 0
LeadsTo before after node key front depth (Down place child) =
    (Some (place, child) ≡ child_below before node key depth) × (depth ≤ place) × (place < length front)
    × (after ≡ behavior_after before node.prefix (drop depth key))
LeadsTo before after node key front depth AtEnd = (depth + node.prefix.len ≡ length front) × (after ≡ before)
LeadsTo before after node key front depth Nowhere = None ≡ child_below before node key depth

-- how many of the first bytes of a leaf's key and of the query are not compared: none once bytes were skipped
abbrev pub compared_from : PrefixMatchBehavior → ℕ → List ℕ → List ℕ → ℕ
compared_from Optimistic depth leaf query = 0
compared_from Pessimistic depth leaf query = min depth (min (length leaf) (length query))

-- what is compared of a leaf's key and of the query is the same
abbrev pub MatchesLeafKey : PrefixMatchBehavior → ℕ → List ℕ → List ℕ → Type 0
MatchesLeafKey behavior depth leaf query =
    let from = compared_from behavior depth leaf query in drop from leaf ≡ drop from query

-- what is compared of a leaf's key is a prefix of what is compared of the query
abbrev pub LeafKeyIsPrefix : PrefixMatchBehavior → ℕ → List ℕ → List ℕ → Type 0
LeafKeyIsPrefix behavior depth leaf query =
    let from = compared_from behavior depth leaf query in IsFront (drop from leaf) (drop from query)
