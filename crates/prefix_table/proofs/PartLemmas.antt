-- Parts of tables: what entries have of rows, and lists that are filtered.
use Rattle.std.proofs.Common.{fold, ◌≡◌, ◌≢◌, ℕ, ◌-◌, ◌<◌, ◌≤◌, inl, inr, Bool, false, List, [], ◌∷◌, length, filter, reverse, take, drop, ap, sym, ◌∙◌, subst, arith, slice_index_or, cond, count_by, sum_by, zero, suc, map, refl, ◌+◌}
use Rattle.std.specs.List.{All, AllPairs}
use Rattle.std.proofs.lemmas.Bool.{cases_lt}
use Rattle.std.proofs.lemmas.List.{get_or-map, get_or-reverse, length-reverse, reverse-append}
use Rattle.std.proofs.lemmas.List.Elements.{filter_passes}
use Rattle.std.proofs.lemmas.List.Kept.{AllPairs-filter}
use Rattle.std.proofs.Math.Seq.{take-length}
use Rattle.prefix_table.specs.declared.network.Address.{Address}
use Rattle.prefix_table.specs.declared.network.Network.{Network}
use Rattle.prefix_table.specs.declared.rows.Row.{Row}
use Rattle.prefix_table.specs.Networks.{IsNetwork, IsUpTo, Precedes, covers_at, last_of, start_of}
use Rattle.prefix_table.specs.Parts.{AreStarted, IsLastEntry, IsPositionIn, covering, is_inside, network_in}
use Rattle.prefix_table.specs.Rows.{IsLast, IsNestedIn, IsPosition, IsRowCount, network_of, row_at}
use Rattle.prefix_table.specs.Entries.{depth_of, most_of, nesting}
use Rattle.std.proofs.lemmas.List.Sums.{count_by-le-length, sum_by-take-le}
use Rattle.prefix_table.specs.Tables.{IsTable, entries_of, entry_of}
use Rattle.prefix_table.proofs.CoverLemmas.{after_is_not_inside, before_is_not_inside, between_is_inside, is_false, later_is_strictly_longer, not_before_itself, starts_up_to}
use Rattle.prefix_table.proofs.FilterLemmas.{last_passes, none_later, none_passes, part_passes}
use Rattle.prefix_table.proofs.RowLemmas.{no_row}
use Rattle.prefix_table.proofs.OrderLemmas.{no_network}
use Rattle.prefix_table.proofs.NetworkTables.{length-entries}

module _ {V : Type 0} where
  -- the network of an entry, whatever the default
  pub network_in_is : (entries : List (Network × V)) (k : ℕ) (d : Network × V) → k < length entries →
      (slice_index_or entries k d).0 ≡ network_in entries k
  network_in_is entries k d h = sym (get_or-map (λ entry. entry.0) entries k d no_network h)

  network_of_entry : (rows : List Row) (values : List V) → IsTable rows values → (k : ℕ) → k < length rows →
      network_in (entries_of rows values) k ≡ network_of (row_at rows k)
  network_of_entry rows [] table k h = absurd (let fits = table.places k h in omega arith)
  network_of_entry rows (v ∷ vs) table k h =
      get_or-map (λ entry. entry.0) (entries_of rows (v ∷ vs)) k (no_network, v) no_network
      (subst (λ n. k < n) (sym (length-entries rows (v ∷ vs) table)) h)
      ∙ ap (λ entry. entry.0) (get_or-map (entry_of (v ∷ vs) v) rows k no_row (no_network, v) h)

  module _ (rows : List Row) (values : List V) (table : IsTable rows values) where
    many : length (entries_of rows values) ≡ length rows
    many = length-entries rows values table

    pub started_entries : (address : Address) (count : ℕ) → IsRowCount rows address count → AreStarted (entries_of rows values) address count
    started_entries address count h =
        let m = many in
        let bounded = h.bounded in
        record {
          within = omega arith;
          started = λ k below.
              subst (λ n. IsUpTo (start_of n) address) (sym (network_of_entry rows values table k (omega arith))) (h.first k below);
        }

    pub others_start_later : (address : Address) (count : ℕ) → IsRowCount rows address count →
        (k : ℕ) → count ≤ k → k < length (entries_of rows values) → ¬ IsUpTo (start_of (network_in (entries_of rows values) k)) address
    others_start_later address count h k after fits up =
        let m = many in
        h.others k after (omega arith) (subst (λ n. IsUpTo (start_of n) address) (network_of_entry rows values table k (omega arith)) up)

    pub started_rows : (address : Address) (upto : ℕ) → AreStarted (entries_of rows values) address upto →
        (upto ≤ length rows) × ((k : ℕ) → k < upto → IsUpTo (start_of (network_of (row_at rows k))) address)
    started_rows address upto h =
        let m = many in
        let within = h.within in (
          omega arith,
          λ k below. subst (λ n. IsUpTo (start_of n) address) (network_of_entry rows values table k (omega arith)) (h.started k below),
        )

    pub last_entry : (address : Address) (upto found : ℕ) → upto ≤ length rows → IsLast rows address upto found →
        IsLastEntry (entries_of rows values) address upto found
    last_entry address upto found within h =
        let bounded = h.bounded in
        record {
          bounded = bounded;
          covering = λ some. ap (λ n. covers_at n address) (network_of_entry rows values table (found - 1) (omega arith)) ∙ h.covering some;
          none_after = λ k after below. ap (λ n. covers_at n address) (network_of_entry rows values table k (omega arith)) ∙ h.none_after k after below;
        }

    pub position_in : (network : Network) (at : ℕ) → IsPosition rows network at → IsPositionIn (entries_of rows values) network at
    position_in network at h =
        let m = many in
        let bounded = h.bounded in
        record {
          bounded = omega arith;
          before = λ k below. subst (λ n. Precedes n network) (sym (network_of_entry rows values table k (omega arith))) (h.before k below);
          after = λ k after fits p.
              h.after k after (omega arith) (subst (λ n. Precedes n network) (network_of_entry rows values table k (omega arith)) p);
        }

  -- ---- the entries that cover an address

  module _ (entries : List (Network × V)) (address : Address) (upto found : ℕ) (within : upto ≤ length entries)
      (last : IsLastEntry entries address upto found) where
    later_fail : (k : ℕ) (d : Network × V) → found ≤ k → k < upto → covers_at (slice_index_or entries k d).0 address ≡ false
    later_fail k d after below = ap (λ n. covers_at n address) (network_in_is entries k d (omega arith)) ∙ last.none_after k after below

    pub no_match : found ≡ 0 → covering address (take upto entries) ≡ []
    no_match none =
        ap reverse (none_passes (λ entry. covers_at entry.0 address) entries upto within
        (λ k d _ below. later_fail k d (omega arith) below))

    pub next_match : 0 < found → (entry : Network × V) → entry ≡ slice_index_or entries (found - 1) entry →
        covering address (take upto entries) ≡ entry ∷ covering address (take (found - 1) entries)
    next_match some entry is =
        let bounded = last.bounded in
        let here = ap (λ n. covers_at n address) (ap (λ e. e.0) is ∙ network_in_is entries (found - 1) entry (omega arith)) ∙ last.covering some in
        ap reverse (last_passes (λ e. covers_at e.0 address) entries found upto entry some bounded within is here later_fail)
        ∙ reverse-append (filter (λ e. covers_at e.0 address) (take (found - 1) entries)) (entry ∷ [])

  pub all_matches : (entries : List (Network × V)) (address : Address) (count : ℕ) → count ≤ length entries →
      ((k : ℕ) → count ≤ k → k < length entries → ¬ IsUpTo (start_of (network_in entries k)) address) →
      covering address (take count entries) ≡ covering address entries
  all_matches entries address count within others =
      ap reverse (sym (none_later (λ e. covers_at e.0 address) entries count (length entries) within (omega arith)
      (λ k d after below.
      ap (λ n. covers_at n address) (network_in_is entries k d below)
      ∙ is_false _ (λ h. others k after below (starts_up_to (network_in entries k) address h))))
      ∙ ap (filter (λ e. covers_at e.0 address)) (take-length entries))

  -- ---- a network that is not there, and those inside one

  module _ (entries : List (Network × V)) (network : Network) (at : ℕ) (position : IsPositionIn entries network at)
      (order : AllPairs (λ a b. Precedes a.0 b.0) entries) where
    pub not_there : ((d : Network × V) → at < length entries → (slice_index_or entries at d).0 ≢ network) →
        All (λ entry. entry.0 ≢ network) entries
    not_there here k d fits e =
        elim (cases_lt k at) [
          | inl before ↦
              not_before_itself network (subst (λ n. Precedes n network) (sym (network_in_is entries k d fits) ∙ e) (position.before k before))
          | inr from ↦
              elim (cases_lt at k) [
                | inl after ↦
                    let bounded = position.bounded in
                    position.after at (omega arith) (omega arith)
                    (subst (λ n. Precedes n network) (network_in_is entries at d (omega arith))
                    (subst (Precedes (slice_index_or entries at d).0) e (order at k d after fits)))
                | inr same ↦ let i : k ≡ at = omega arith in here d (omega arith) (ap (λ n. (slice_index_or entries n d).0) (sym i) ∙ e)
              ]
        ]

    pub all_inside : IsNetwork network → All (λ entry. IsNetwork entry.0) entries → (to : ℕ) → AreStarted entries (last_of network) to →
        ((k : ℕ) → to ≤ k → k < length entries → ¬ IsUpTo (start_of (network_in entries k)) (last_of network)) → at ≤ to →
        drop at (take to entries) ≡ filter (λ entry. is_inside network entry.0) entries
    all_inside is are to started others le =
        let within = started.within in
        part_passes (λ entry. is_inside network entry.0) entries at to le within
        (λ k d below.
        before_is_not_inside network (slice_index_or entries k d).0
        (subst (λ n. Precedes n network) (sym (network_in_is entries k d (omega arith))) (position.before k below)))
        (λ k d after below.
        let same = network_in_is entries k d (omega arith) in
        between_is_inside network (slice_index_or entries k d).0 is (are k d (omega arith))
        (λ p. position.after k after (omega arith) (subst (λ n. Precedes n network) same p))
        (subst (λ n. IsUpTo (start_of n) (last_of network)) (sym same) (started.started k below)))
        (λ k d after below.
        after_is_not_inside network (slice_index_or entries k d).0
        (λ up. others k after below (subst (λ n. IsUpTo (start_of n) (last_of network)) (network_in_is entries k d below) up)))

  pub network_at_is : (entries : List (Network × V)) (k : ℕ) (entry d : Network × V) → k < length entries → entry ≡ slice_index_or entries k entry →
      entry.0 ≡ (slice_index_or entries k d).0
  network_at_is entries k entry d h is = ap (λ e. e.0) is ∙ network_in_is entries k entry h ∙ sym (network_in_is entries k d h)

  -- the position of a network is not after those that start up to its last address
  pub position_is_early : (entries : List (Network × V)) (network : Network) (at to : ℕ) → IsPositionIn entries network at →
      ((k : ℕ) → to ≤ k → k < length entries → ¬ IsUpTo (start_of (network_in entries k)) (last_of network)) → at ≤ to
  position_is_early entries network at to position others =
      elim (cases_lt to at) [
        | inr le ↦ le
        | inl more ↦
            let bounded = position.bounded in
            let before = position.before to more in
            absurd (others to (omega arith) (omega arith) (record { version = before.version; number = λ e. let n = before.number e in omega arith }))
      ]

  -- those that cover an address come from the longest to the shortest
  pub longest_first : (entries : List (Network × V)) (address : Address) → AllPairs (λ a b. Precedes a.0 b.0) entries →
      AllPairs (λ a b. b.0.length < a.0.length) (covering address entries)
  longest_first entries address order i j d below fits =
      let test : Network × V → Bool = λ entry. covers_at entry.0 address in
      let some = filter test entries in
      let turned = length-reverse some in
      let first = get_or-reverse some i d (omega arith) in
      let second = get_or-reverse some j d (omega arith) in
      let passes = filter_passes test entries in
      let longer =
      later_is_strictly_longer (slice_index_or some (length some - 1 - j) d).0 (slice_index_or some (length some - 1 - i) d).0 address
      (AllPairs-filter (λ a b. Precedes a.0 b.0) test entries order (length some - 1 - j) (length some - 1 - i) d (omega arith) (omega arith))
      (passes (length some - 1 - j) d (omega arith)) (passes (length some - 1 - i) d (omega arith)) in
      subst (λ e. (slice_index_or (covering address entries) j d).0.length < e.0.length) (sym first)
      (subst (λ e. e.0.length < (slice_index_or some (length some - 1 - i) d).0.length) (sym second) longer)

-- ---- how deep networks nest

most_is_more : {X : Type 0} (f : X → ℕ) (xs : List X) (k : ℕ) (d : X) → k < length xs → f (slice_index_or xs k d) ≤ most_of f xs
most_is_more f [] k d h = absurd (omega arith)
most_is_more f (x ∷ xs) zero d h = omega arith
most_is_more f (x ∷ xs) (suc k) d h = let ih = most_is_more f xs k d (omega arith) in omega arith

sum_of_map : {X Y : Type 0} (g : X → Y) (f : Y → ℕ) (xs : List X) → sum_by f (map g xs) ≡ sum_by (λ x. f (g x)) xs
sum_of_map {X} {Y} g f xs = folded 0 xs
  where
    folded : (total : ℕ) (xs : List X) → fold (λ a y. a + f y) total (map g xs) ≡ fold (λ a x. a + f (g x)) total xs
    folded total [] = refl
    folded total (x ∷ xs) = folded (total + f (g x)) xs

-- no more rows are looked at than there are
pub looked_fits : (rows : List Row) (upto looked : ℕ) → IsNestedIn rows upto looked → looked ≤ length rows
looked_fits rows upto looked h =
    let start = start_of (network_of (row_at rows (upto - 1))) in
    let short = sum_by-take-le (λ row. cond (covers_at (network_of row) start) 1 0) rows upto in
    let few = count_by-le-length (λ row. covers_at (network_of row) start) rows in
    let looks = h.few in
    omega arith

module _ {V : Type 0} where
  pub within_nesting : (rows : List Row) (values : List V) (upto looked : ℕ) → IsTable rows values → upto ≤ length rows → IsNestedIn rows upto looked →
      looked ≤ nesting (entries_of rows values)
  within_nesting rows [] upto looked table within h =
      elim (cases_lt 0 (length rows)) [
        | inl some ↦ absurd (let fits = table.places 0 some in omega arith)
        | inr none ↦
            let short = sum_by-take-le (λ row. cond (covers_at (network_of row) (start_of (network_of (row_at rows (upto - 1))))) 1 0) rows upto in
            let few = count_by-le-length (λ row. covers_at (network_of row) (start_of (network_of (row_at rows (upto - 1))))) rows in
            let looks = h.few in
            omega arith
      ]
  within_nesting rows (v ∷ vs) upto looked table within h =
      elim (cases_lt 0 upto) [
        | inl some ↦
            let entries = entries_of rows (v ∷ vs) in
            let k = upto - 1 in
            let start = start_of (network_of (row_at rows k)) in
            let many = length-entries rows (v ∷ vs) table in
            let d : Network × V = (no_network, v) in
            let entry = get_or-map (entry_of (v ∷ vs) v) rows k no_row d (omega arith) in
            let short = sum_by-take-le (λ row. cond (covers_at (network_of row) start) 1 0) rows upto in
            let same = sum_of_map (entry_of (v ∷ vs) v) (λ e. cond (covers_at e.0 start) 1 0) rows in
            let looks = h.few in
            let most = most_is_more (λ e. depth_of entries e.0) entries k d (omega arith) in
            let here : depth_of entries (slice_index_or entries k d).0 ≡ depth_of entries (network_of (row_at rows k)) =
            ap (λ e. depth_of entries e.0) entry in
            omega arith
        | inr none ↦
            let zero_rows : upto ≡ 0 = omega arith in
            let few : looked ≤ 0 =
            subst (λ n. looked ≤ n) (no_count rows (start_of (network_of (row_at rows (upto - 1)))))
            (subst (λ n. looked ≤ count_by (λ row. covers_at (network_of row) (start_of (network_of (row_at rows (upto - 1))))) (take n rows)) zero_rows h.few) in
            omega arith
      ]
    where
      no_count : (rs : List Row) (s : Address) → count_by (λ row. covers_at (network_of row) s) (take 0 rs) ≡ 0
      no_count [] s = refl
      no_count (r ∷ rs) s = refl
