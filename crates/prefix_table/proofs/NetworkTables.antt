-- Tables of rows and values, and what they have for an address.
use Rattle.std.proofs.Common.{◌≡◌, ℕ, zero, suc, ◌+◌, ◌-◌, ◌<◌, ◌≤◌, inl, inr, true, false, List, [], ◌∷◌, length, map, refl, ap, ap₂, sym, ◌∙◌, subst, arith, slice_index_or}
use Rattle.std.specs.List.{All, AllPairs, zip}
use Rattle.std.specs.List.Sorted.{IsPermutation}
use Rattle.std.specs.declared.net.ip_addr.IpAddr.{IpAddr}
use Rattle.std.proofs.lemmas.Bool.{cases_lt, false≢true}
use Rattle.std.proofs.lemmas.List.{get_or-map, length-map, same_lists}
use Rattle.std.proofs.lemmas.List.Sorted.{IsPermutation-map, IsPermutation-refl}
use Rattle.prefix_table.specs.declared.network.Address.{Address}
use Rattle.prefix_table.specs.declared.network.Network.{Network}
use Rattle.prefix_table.specs.declared.rows.Row.{Row}
use Rattle.prefix_table.specs.Networks.{IsNetwork, Precedes, address_of, covers, covers_at}
use Rattle.prefix_table.specs.Rows.{AreInOrder, IsLast, IsRowCount, network_of, row_at}
use Rattle.prefix_table.specs.Arranging.{AreArranged}
use Rattle.prefix_table.specs.Sorting.{in_order, numbered, place_of}
use Rattle.prefix_table.specs.Tables.{IsOrderedTable, IsTable, entries_of, entry_of}
use Rattle.prefix_table.specs.Entries.{IsLongest}
use Rattle.prefix_table.proofs.CoverLemmas.{later_is_longer, starts_up_to}
use Rattle.prefix_table.proofs.RowLemmas.{no_row}
use Rattle.prefix_table.proofs.OrderLemmas.{in_order_network, in_order_place, length-in_order, places_fit, still_in_order}

module _ {V : Type 0} where
  any_default : (xs : List V) (i : ℕ) (d e : V) → i < length xs → slice_index_or xs i d ≡ slice_index_or xs i e
  any_default [] i d e h = absurd (omega arith)
  any_default (x ∷ xs) zero d e h = refl
  any_default (x ∷ xs) (suc i) d e h = any_default xs i d e (omega arith)

  pub length-entries : (rows : List Row) (values : List V) → IsTable rows values → length (entries_of rows values) ≡ length rows
  length-entries rows [] table =
      elim (cases_lt 0 (length rows)) [ inl some ↦ absurd (let fits = table.places 0 some in omega arith) | inr none ↦ omega arith ]
  length-entries rows (v ∷ vs) table = length-map rows (entry_of (v ∷ vs) v)

  pub at_entries : (rows : List Row) (values : List V) → IsTable rows values → (k : ℕ) (d : Network × V) → k < length rows →
      slice_index_or (entries_of rows values) k d ≡ (network_of (row_at rows k), slice_index_or values (row_at rows k).place d.1)
  at_entries rows [] table k d h = absurd (let fits = table.places k h in omega arith)
  at_entries rows (v ∷ vs) table k d h =
      get_or-map (entry_of (v ∷ vs) v) rows k no_row d h
      ∙ ap (λ x. (network_of (row_at rows k), x)) (any_default (v ∷ vs) (row_at rows k).place v d.1 (table.places k h))

  -- ---- building

  zip_from : (all : List V) (d : V) (place : ℕ) (networks : List Network) (values : List V) → length networks ≡ length values →
      ((k : ℕ) → k < length values → slice_index_or all (place + k) d ≡ slice_index_or values k d) →
      map (entry_of all d) (numbered place networks) ≡ zip networks values
  zip_from all d place [] values e h = refl
  zip_from all d place (n ∷ ns) [] e h = absurd (omega (arith, e))
  zip_from all d place (n ∷ ns) (v ∷ vs) e h =
      let first : slice_index_or all place d ≡ v = let none : place + 0 ≡ place = omega arith in ap (λ p. slice_index_or all p d) (sym none) ∙ h 0 (omega arith) in
      ap₂ (λ x xs. (n, x) ∷ xs) first
      (zip_from all d (place + 1) ns vs (omega (arith, e))
      (λ k below. let next : place + 1 + k ≡ place + suc k = omega arith in ap (λ p. slice_index_or all p d) next ∙ h (suc k) (omega arith)))

  numbered_zip : (networks : List Network) (values : List V) → length values ≡ length networks →
      entries_of (numbered 0 networks) values ≡ zip networks values
  numbered_zip [] [] e = refl
  numbered_zip (n ∷ ns) [] e = absurd (omega (arith, e))
  numbered_zip networks (v ∷ vs) e =
      zip_from (v ∷ vs) v 0 networks (v ∷ vs) (sym e)
      (λ k h. let none : 0 + k ≡ k = omega arith in ap (λ p. slice_index_or (v ∷ vs) p v) none)

  entries_move : (xs ys : List Row) (values : List V) → IsPermutation xs ys → IsPermutation (entries_of xs values) (entries_of ys values)
  entries_move xs ys [] h = IsPermutation-refl []
  entries_move xs ys (v ∷ vs) h = IsPermutation-map (entry_of (v ∷ vs) v) xs ys h

  pub has_all_entries : (networks : List Network) (values : List V) (rows : List Row) → length values ≡ length networks →
      IsPermutation (numbered 0 networks) rows → IsPermutation (zip networks values) (entries_of rows values)
  has_all_entries networks values rows e h =
      subst (λ xs. IsPermutation xs (entries_of rows values)) (numbered_zip networks values e) (entries_move (numbered 0 networks) rows values h)

  pub is_table : (networks : List Network) (values : List V) (rows : List Row) → length values ≡ length networks →
      IsPermutation (numbered 0 networks) rows → AreInOrder rows → IsTable rows values
  is_table networks values rows e h order = record { order = order; places = λ k below. let fits = places_fit networks rows h k below in omega arith }

  module _ (rows : List Row) (values : List V) (table : IsTable rows values) where
    pub entries_in_order : AllPairs (λ a b. Precedes a.0 b.0) (entries_of rows values)
    entries_in_order i j d below fits =
        let many = length-entries rows values table in
        subst (λ n. Precedes n (slice_index_or (entries_of rows values) j d).0) (sym (ap (λ e. e.0) (at_entries rows values table i d (omega arith))))
        (subst (Precedes (network_of (row_at rows i))) (sym (ap (λ e. e.0) (at_entries rows values table j d (omega arith))))
        (table.order.sorted i j below (omega arith)))

    pub entries_are_networks : All (λ entry. IsNetwork entry.0) (entries_of rows values)
    entries_are_networks k d fits =
        let many = length-entries rows values table in
        subst IsNetwork (sym (ap (λ e. e.0) (at_entries rows values table k d (omega arith)))) (table.order.networks k (omega arith))

    -- ---- the longest network of an address

    network_is : (k : ℕ) (d : Network × V) → k < length rows → (slice_index_or (entries_of rows values) k d).0 ≡ network_of (row_at rows k)
    network_is k d h = ap (λ e. e.0) (at_entries rows values table k d h)

    module _ (address : IpAddr) (seen : Address) (upto found : ℕ) (is : seen ≡ address_of address) (count : IsRowCount rows seen upto)
        (last : IsLast rows seen upto found) where
      none_later : (k : ℕ) → found ≤ k → k < length rows → covers_at (network_of (row_at rows k)) seen ≡ true → ⊥
      none_later k after fits h =
          elim (cases_lt k upto) [
            | inl below ↦ false≢true (sym (last.none_after k after below) ∙ h)
            | inr late ↦ count.others k late fits (starts_up_to (network_of (row_at rows k)) seen h)
          ]

      pub none_covers : found ≡ 0 → All (λ entry. covers entry.0 address ≡ false) (entries_of rows values)
      none_covers none k d h =
          let many = length-entries rows values table in
          ap₂ covers_at (network_is k d (omega arith)) (sym is)
          ∙ no_true (covers_at (network_of (row_at rows k)) seen) (none_later k (omega arith) (omega arith))
        where
          no_true : (b : _) → (b ≡ true → ⊥) → b ≡ false
          no_true true h = absurd (h refl)
          no_true false h = refl

      pub longest_is : 0 < found → (entry : Network × V) → entry.0 ≡ network_of (row_at rows (found - 1)) →
          entry.1 ≡ slice_index_or values (row_at rows (found - 1)).place entry.1 → IsLongest (entries_of rows values) address entry
      longest_is some entry n v =
          let many = length-entries rows values table in
          let bounded = count.bounded in
          let fits : found - 1 < length rows = let b = last.bounded in omega arith in
          let here : covers_at (network_of (row_at rows (found - 1))) seen ≡ true = last.covering some in
          record {
            there = (found - 1, omega arith, at_entries rows values table (found - 1) entry fits ∙ ap₂ (λ m x. (m, x)) (sym n) (sym v));
            it_covers = ap₂ covers_at n (sym is) ∙ here;
            longest = λ k d h covers.
                let below : k < length rows = omega arith in
                let there : covers_at (network_of (row_at rows k)) seen ≡ true = ap₂ covers_at (sym (network_is k d below)) is ∙ covers in
                subst (λ m. (slice_index_or (entries_of rows values) k d).0.length ≤ m.length) (sym n)
                (subst (λ m. m.length ≤ (network_of (row_at rows (found - 1))).length) (sym (network_is k d below))
                (elim (cases_lt k (found - 1)) [
                  | inl before ↦
                      later_is_longer (network_of (row_at rows k)) (network_of (row_at rows (found - 1))) seen
                      (table.order.sorted k (found - 1) before fits) there here
                  | inr from ↦
                      elim (cases_lt k found) [
                        | inl at ↦
                            let e : found - 1 ≡ k = omega arith in
                            subst (λ m. (network_of (row_at rows m)).length ≤ (network_of (row_at rows (found - 1))).length) e (omega arith)
                        | inr later ↦ absurd (none_later k later below there)
                      ]
                ]));
          }

-- ---- values in the order of their rows

module _ {V : Type 0} (rows : List Row) (values arranged : List V) (table : IsTable rows values) (as_many : length values ≡ length rows)
    (moved : AreArranged (map place_of rows) values arranged) where
  pub arranged_table : IsOrderedTable (in_order rows) arranged
  arranged_table = record {
    table = record {
      order = still_in_order rows table.order;
      places = λ k h.
          let many = length-in_order rows in
          let place = in_order_place rows k (omega arith) in
          let same = moved.as_many in
          omega arith;
    };
    own = λ k h. let many = length-in_order rows in in_order_place rows k (omega arith);
  }

  value_is : (k : ℕ) (d : V) → k < length rows →
      slice_index_or arranged (row_at (in_order rows) k).place d ≡ slice_index_or values (row_at rows k).place d
  value_is k d h =
      let many = length-map rows place_of in
      ap (λ p. slice_index_or arranged p d) (in_order_place rows k h) ∙ moved.moved k d (omega arith)
      ∙ ap (λ p. slice_index_or values p d) (get_or-map place_of rows k no_row 0 h)

  -- the entries stay the same
  pub entries_arranged : entries_of rows values ≡ entries_of (in_order rows) arranged
  entries_arranged =
      let many = length-in_order rows in
      let here = length-entries rows values table in
      let there = length-entries (in_order rows) arranged arranged_table.table in
      same_lists (entries_of rows values) (entries_of (in_order rows) arranged) (omega arith)
      (λ k d h.
      let fits : k < length rows = omega arith in
      at_entries rows values table k d fits
      ∙ ap₂ (λ n v. (n, v)) (sym (in_order_network rows k fits)) (sym (value_is k d.1 fits))
      ∙ sym (at_entries (in_order rows) arranged arranged_table.table k d (omega arith)))

-- for searches in the proofs of functions
pub ruleset entry_facts = (at_entries, length-entries)
