-- what a search for a text reads
use Rattle.std.proofs.Common.{◌≡◌, ℕ, ◌+◌, ◌-◌, ◌^◌, ◌<◌, ◌≤◌, ◌⊎◌, List, [], length, length-take, append-nil, drop, take, min, get_or, refl, ap, sym, ◌∙◌, subst, arith, Option, Some, None, inl, inr}
use Rattle.std.specs.Bool.{⊤}
use Rattle.std.specs.Option.{option_map}
use Rattle.std.specs.Prelude.{IsSome}
use Rattle.std.proofs.lemmas.Bool.{cases_lt}
use Rattle.std.proofs.lemmas.List.{get_or_append_left, take-append-drop}
use Rattle.art_inner.specs.Inner.{Inner, child_at}
use Rattle.art_nodes.specs.Nodes.{Nodes}
use Rattle.art_parts.specs.declared.names.InnerPtr.{InnerPtr}
use Rattle.art_parts.specs.declared.names.LeafPtr.{LeafPtr}
use Rattle.art_parts.specs.declared.names.OpaqueNodePtr.{OpaqueNodePtr}
use Rattle.art_model.specs.Canonical.{IsCanonicalTree}
use Rattle.art_parts.specs.Keys.{IsFront}
use Rattle.art_model.specs.Lookups.{nodes_on_way}
use Rattle.art_model.specs.Roots.{ForTree}
use Rattle.art_model.specs.Trees.{Tree, leaf}
use Rattle.art_model.proofs.keys.Texts.{front_short}
use Rattle.art_model.proofs.stores.Shown.{IsShown}
use Rattle.art_reading.specs.Readings.{CountsReadings, left_on_way}
use Rattle.art_ranges.specs.PartReadings.{CountsToText}
use Rattle.art_ranges.specs.TextWays.{IsTextStep, bytes_along}
use Rattle.art_reading.specs.declared.lookup.descent.End.{End}
use Rattle.art_reading.specs.declared.lookup.descent.End.TheVariants.{First, Last}
use Rattle.art_reading.proofs.Counters.{count_both}
use Rattle.art_reading.proofs.Descents.{IsDescent, down, start}
use Rattle.art_reading.proofs.LeftOnWay.{child_left, end_left, gap_left, leaf_left}
use Rattle.art_ranges.proofs.TextWays.{same_parts, unmapped}

-- A descent to a node, above which the nodes on the key's path were read.
pub record IsReadTo {A : Type 0} (bytes : A → List ℕ) (P : ℕ) (key : List ℕ) (tree : Tree OpaqueNodePtr A) (name : OpaqueNodePtr)
    (depth number : ℕ) : Type 0 where
  pub descent : IsDescent bytes P (λ x. ⊤) (λ x. ⊤) tree name depth
  pub at_least : length (nodes_on_way bytes key tree) ≤ number + left_on_way bytes key depth descent.at.node

-- it begins at the root
pub read_begins : {K V : Type 0} {s : Nodes K V} {bytes : K × V → List ℕ} {P : ℕ} {root : OpaqueNodePtr} {pairs : List (K × V)}
    {layout : Tree OpaqueNodePtr (K × V)} (key : List ℕ) → IsCanonicalTree bytes P s root pairs layout → IsReadTo bytes P key layout root 0 0
read_begins key by = record { descent = start by; at_least = omega arith }

module _ {A : Type 0} {bytes : A → List ℕ} {P : ℕ} {key : List ℕ} {tree : Tree OpaqueNodePtr A} {name : OpaqueNodePtr} {depth number : ℕ}
    (r : IsReadTo bytes P key tree name depth number) where
  -- one reading more, and all are counted
  abbrev pub IsAllBut : Type 0
  IsAllBut = length (nodes_on_way bytes key tree) ≤ number + 1

  pub read_leaf : (n : OpaqueNodePtr) (x : A) → r.descent.at.node ≡ leaf n x → IsAllBut
  read_leaf n x is = let one = leaf_left r.descent key n x is in let seen = r.at_least in omega arith

  module _ {p : InnerPtr} {shown : Inner} (at : IsShown r.descent.at.node p shown) where
    -- the key ends with the node's prefix, or before
    pub read_end : length key ≤ depth + shown.prefix.len → IsAllBut
    read_end short = let one = end_left r.descent key at short in let seen = r.at_least in omega arith

    module _ (b : ℕ) (same : depth + shown.prefix.len < length key → b ≡ get_or key (depth + shown.prefix.len) 0) where
      -- there is no child under the byte
      pub read_gap : child_at shown.children b ≡ None → IsAllBut
      read_gap none = go (cases_lt (depth + shown.prefix.len) (length key))
        where
          go : (depth + shown.prefix.len < length key) ⊎ (length key ≤ depth + shown.prefix.len) → IsAllBut
          go (inl less) =
              let one = gap_left r.descent key at (ap (child_at shown.children) (sym (same less)) ∙ none) in let seen = r.at_least in omega arith
          go (inr short) = read_end short

      -- the descent continues to this child
      pub read_child : {to : OpaqueNodePtr} → child_at shown.children b ≡ Some to →
          IsReadTo bytes P key tree to (depth + shown.prefix.len + 1) (number + 1)
      read_child {to} there = record {
        descent = down r.descent at b there (λ c i less x f. tt) (λ c i more x f. tt);
        at_least = go (cases_lt (depth + shown.prefix.len) (length key));
      }
        where
          go : (depth + shown.prefix.len < length key) ⊎ (length key ≤ depth + shown.prefix.len) →
              length (nodes_on_way bytes key tree) ≤ number + 1 +
              left_on_way bytes key (depth + shown.prefix.len + 1) (down r.descent at b there (λ c i less x f. tt) (λ c i more x f. tt)).at.node
          go (inl less) =
              let one = child_left r.descent key at b (same less) there (λ c i less x f. tt) (λ c i more x f. tt) in
              let seen = r.at_least in
              omega arith
          go (inr short) = let all = read_end short in omega arith

    -- a step along a query, which starts with the key
    module _ {query : List ℕ} (along : IsFront key query) {end least : ℕ} {before after : Option LeafPtr} {result : Option (OpaqueNodePtr × ℕ)}
        (step : IsTextStep shown query end least depth before after result) where
      next_byte : depth + shown.prefix.len < length key →
          get_or query (depth + shown.prefix.len) 0 ≡ get_or key (depth + shown.prefix.len) 0
      next_byte less =
          ap (λ bs. get_or bs (depth + shown.prefix.len) 0) along.1
          ∙ get_or_append_left key along.0 0 (depth + shown.prefix.len) less

      -- to no child
      pub text_read : result ≡ None → IsAllBut
      text_read none = go (cases_lt (depth + shown.prefix.len) (length key))
        where
          go : (depth + shown.prefix.len < length key) ⊎ (length key ≤ depth + shown.prefix.len) → IsAllBut
          go (inr short) = read_end short
          go (inl less) =
              let within = front_short key query along in
              read_gap (get_or query (depth + shown.prefix.len) 0) next_byte
              (unmapped _ (child_at shown.children (get_or query (depth + shown.prefix.len) 0)) (sym (step.below (omega arith)) ∙ none))

      -- the first text is found
      pub text_kept : length key ≤ least → before ≡ None → IsSome after → IsAllBut
      text_kept short none some = go after refl some (cases_lt (depth + shown.prefix.len) least)
        where
          go : (a : Option LeafPtr) → after ≡ a → IsSome a → (depth + shown.prefix.len < least) ⊎ (least ≤ depth + shown.prefix.len) → IsAllBut
          go a e some (inr enough) = read_end (omega arith)
          go None e some (inl less) = absurd cc
          go (Some name) e some (inl less) = let same = step.early less in absurd cc

      -- to this child
      pub text_reads_on : {to : OpaqueNodePtr} {below : ℕ} → ◌≡◌ {A = Option (OpaqueNodePtr × ℕ)} result (Some (to, below)) →
          IsReadTo bytes P key tree to below (number + 1)
      text_reads_on {to} {below} is = go (cases_lt (length query) (depth + shown.prefix.len)) (cases_lt (depth + shown.prefix.len) (length query))
        where
          go : (length query < depth + shown.prefix.len) ⊎ (depth + shown.prefix.len ≤ length query) →
              (depth + shown.prefix.len < length query) ⊎ (length query ≤ depth + shown.prefix.len) → IsReadTo bytes P key tree to below (number + 1)
          go (inl less) o = let none = (step.short less).0 in absurd cc
          go (inr enough) (inr most) = let none = step.last (omega arith) in absurd cc
          go (inr enough) (inl more) = from (child_at shown.children (get_or query (depth + shown.prefix.len) 0)) refl (sym is ∙ step.below more)
            where
              from : (found : Option OpaqueNodePtr) → child_at shown.children (get_or query (depth + shown.prefix.len) 0) ≡ found →
                  ◌≡◌ {A = Option (OpaqueNodePtr × ℕ)} (Some (to, below)) (option_map (λ next. (next, depth + shown.prefix.len + 1)) found) →
                  IsReadTo bytes P key tree to below (number + 1)
              from None there e = absurd cc
              from (Some next) there e =
                  let (at_child, at_depth) = same_parts e in
                  subst (λ n. IsReadTo bytes P key tree to n (number + 1)) (sym at_depth)
                  (subst (λ t. IsReadTo bytes P key tree t (depth + shown.prefix.len + 1) (number + 1)) (sym at_child)
                  (read_child (get_or query (depth + shown.prefix.len) 0) next_byte there))

-- the bytes along which a descent goes at least are the query's first
pub along_query : (kept : End) (least : ℕ) (query : List ℕ) → IsFront (bytes_along kept least query) query
along_query First least query = (drop least query, sym (take-append-drop least query))
along_query Last least query = ([], sym (append-nil query))

-- to the first text they are so many at most
pub along_least : (kept : End) → kept ≡ First → (least : ℕ) (query : List ℕ) → length (bytes_along kept least query) ≤ least
along_least First first least query = short
  where
    short : length (take least query) ≤ least
    short = let cut = length-take least query in omega arith
along_least Last first least query = absurd cc

-- ---- the counter
-- what was counted above a node, to which so many bytes lead
abbrev pub CountsAbove : {K V : Type 0} → (K × V → List ℕ) → ℕ → Nodes K V → OpaqueNodePtr → List ℕ → ℕ → OpaqueNodePtr → ℕ → ℕ → Type 0
CountsAbove bytes P s root key before name depth now =
    CountsReadings before now (λ number. (number ≤ depth) × ForTree bytes P s root (λ pairs layout. IsReadTo bytes P key layout name depth number))

module _ {K V : Type 0} {s : Nodes K V} {bytes : K × V → List ℕ} {P : ℕ} {root : OpaqueNodePtr} {key : List ℕ} {before : ℕ} where
  module _ {name : OpaqueNodePtr} {depth now most : ℕ} (reads : CountsAbove bytes P s root key before name depth now)
      (all : (pairs : List (K × V)) (layout : Tree OpaqueNodePtr (K × V)) (by : IsCanonicalTree bytes P s root pairs layout) (number : ℕ) →
      (r : IsReadTo bytes P key layout name depth number) → IsAllBut r) where
    -- the node is read last
    pub read_last : {after : ℕ} → after ≡ now + min 1 (2 ^ 64 - 1 - now) → depth + 1 ≤ most → CountsToText bytes P s root key most before after
    read_last one room =
        let (few, seen) = reads.is_number in
        record {
          number = reads.number + 1;
          counted = count_both _ _ _ reads.counted one;
          is_number = λ pairs layout by. (all pairs layout by _ (seen pairs layout by), omega arith);
        }

  -- one more was read
  pub with_one : {most more now after : ℕ} → CountsToText bytes P s root key most before now →
      after ≡ now + min 1 (2 ^ 64 - 1 - now) → most + 1 ≤ more → CountsToText bytes P s root key more before after
  with_one counts one room = record {
    number = counts.number + 1;
    counted = count_both _ _ _ counts.counted one;
    is_number = λ pairs layout by. let (seen, few) = counts.is_number pairs layout by in (omega arith, omega arith);
  }

  -- at most this
  pub at_most : {most more now : ℕ} → CountsToText bytes P s root key most before now → most ≤ more → CountsToText bytes P s root key more before now
  at_most counts room = record {
    number = counts.number;
    counted = counts.counted;
    is_number = λ pairs layout by. let (seen, few) = counts.is_number pairs layout by in (seen, omega arith);
  }
