-- Sorted rows are in order, and which two of them are the first with one network.
use Rattle.std.proofs.Common.{◌≡◌, ◌≢◌, ℕ, zero, suc, ◌+◌, ◌-◌, ◌<◌, ◌≤◌, ◌⊎◌, inl, inr, List, length, map, None, refl, ap, ap₂, sym, ◌∙◌, subst, arith, slice_index}
use Rattle.std.specs.List.{All, Contains, swap}
use Rattle.std.specs.List.Sorted.{IsPermutation}
use Rattle.std.proofs.lemmas.Bool.{cases_lt}
use Rattle.std.proofs.lemmas.List.{get_or-map, get_or_read, length-map, take_all}
use Rattle.std.proofs.lemmas.List.Edits.{length-swap, swapped_from_swap}
use Rattle.std.proofs.lemmas.List.Sorted.{All-permutation, Contains-permutation, IsPermutation-keeps, length_permutation}
use Rattle.prefix_table.specs.declared.network.Network.{Network}
use Rattle.prefix_table.specs.declared.rows.Row.{Row}
use Rattle.prefix_table.specs.Networks.{IsNetwork, Precedes}
use Rattle.prefix_table.specs.Rows.{AreInOrder, network_of, row_at}
use Rattle.prefix_table.specs.Sorting.{AreSame, AreSorted, IsFirstPair, IsFirstPairOf, IsUpToRow, in_order, numbered, place_of, row_with}
use Rattle.prefix_table.specs.Arranging.{AreIndexes}
use Rattle.prefix_table.specs.Entries.{IsRepeat, at_place}
use Rattle.prefix_table.proofs.RowLemmas.{no_row}
use Rattle.prefix_table.proofs.SortingLemmas.{at_numbered, length-numbered}

pub equal_or_not : (m n : ℕ) → (m ≡ n) ⊎ (m ≢ n)
equal_or_not m n =
    elim (cases_lt m n) [
      | inl less ↦ inr (λ e. omega arith)
      | inr le ↦ elim (cases_lt n m) [ inl more ↦ inr (λ e. omega arith) | inr ge ↦ inl (omega arith) ]
    ]

up_to_itself : (a : Row) → IsUpToRow a a
up_to_itself a = record { version = omega arith; number = λ _. omega arith; length = λ _ _. omega arith; place = λ _ _ _. omega arith }

up_to_further : (a b c : Row) → IsUpToRow a b → IsUpToRow b c → IsUpToRow a c
up_to_further a b c h k =
    let v = h.version in
    let w = k.version in
    let versions : a.version ≡ c.version → (a.version ≡ b.version) × (b.version ≡ c.version) = λ e. (omega arith, omega arith) in
    let numbers : a.version ≡ c.version → a.number ≡ c.number → (a.number ≡ b.number) × (b.number ≡ c.number) =
    λ e f. let s = versions e in let p = h.number s.0 in let q = k.number s.1 in (omega arith, omega arith) in
    let lengths : a.version ≡ c.version → a.number ≡ c.number → a.length ≡ c.length → (a.length ≡ b.length) × (b.length ≡ c.length) =
    λ e f g. let s = versions e in let t = numbers e f in let p = h.length s.0 t.0 in let q = k.length s.1 t.1 in (omega arith, omega arith) in
    record {
      version = omega arith;
      number = λ e. let s = versions e in let p = h.number s.0 in let q = k.number s.1 in omega arith;
      length = λ e f. let s = versions e in let t = numbers e f in let p = h.length s.0 t.0 in let q = k.length s.1 t.1 in omega arith;
      place = λ e f g.
          let s = versions e in
          let t = numbers e f in
          let u = lengths e f g in
          let p = h.place s.0 t.0 u.0 in
          let q = k.place s.1 t.1 u.1 in
          omega arith;
    }

-- no row of sorted ones is after a later one
far_up : (rows : List Row) → AreSorted rows → (j k : ℕ) → j ≤ k → k < length rows → IsUpToRow (row_at rows j) (row_at rows k)
far_up rows sorted j zero le fits = let e : zero ≡ j = omega arith in subst (λ n. IsUpToRow (row_at rows n) (row_at rows zero)) e (up_to_itself (row_at rows zero))
far_up rows sorted j (suc k) le fits =
    let next : k + 1 ≡ suc k = omega arith in
    elim (cases_lt k j) [
      | inl last ↦ let e : suc k ≡ j = omega arith in subst (λ n. IsUpToRow (row_at rows n) (row_at rows (suc k))) e (up_to_itself (row_at rows (suc k)))
      | inr before ↦
          up_to_further (row_at rows j) (row_at rows k) (row_at rows (suc k)) (far_up rows sorted j k before (omega arith))
          (subst (λ n. IsUpToRow (row_at rows k) (row_at rows n)) next (sorted k (omega arith)))
    ]

-- what is between two rows of one network is of it
between_same : (a b c : Row) → IsUpToRow a b → IsUpToRow b c → network_of a ≡ network_of c → network_of b ≡ network_of c
between_same a b c h k e =
    let version : a.version ≡ c.version = ap (λ n. n.version) e in
    let number : a.number ≡ c.number = ap (λ n. n.number) e in
    let long : a.length ≡ c.length = ap (λ n. n.length) e in
    let v : a.version ≡ b.version = let p = h.version in let q = k.version in omega arith in
    let w : b.version ≡ c.version = omega arith in
    let m : a.number ≡ b.number = let p = h.number v in let q = k.number w in omega arith in
    let n : b.number ≡ c.number = omega arith in
    let l : b.length ≡ c.length = let p = h.length v m in let q = k.length w n in omega arith in
    ap₂ (λ x y. record { number = x; version = y; length = b.length }) n w ∙ ap (λ x. record { number = c.number; version = c.version; length = x }) l

-- a row before one with another network
before_another : (a b : Row) → IsUpToRow a b → ¬ (network_of a ≡ network_of b) → Precedes (network_of a) (network_of b)
before_another a b up other = record {
  version = up.version;
  number = up.number;
  length = λ v n.
      elim (cases_lt a.length b.length) [
        | inl less ↦ less
        | inr more ↦
            let l : a.length ≡ b.length = let le = up.length v n in omega arith in
            absurd (other (ap₂ (λ m w. record { number = m; version = w; length = a.length }) n v
            ∙ ap (λ k. record { number = b.number; version = b.version; length = k }) l))
      ];
}

pub precedes_further : (a b c : Network) → Precedes a b → Precedes b c → Precedes a c
precedes_further a b c h k =
    let v = h.version in
    let w = k.version in
    let versions : a.version ≡ c.version → (a.version ≡ b.version) × (b.version ≡ c.version) = λ e. (omega arith, omega arith) in
    let numbers : a.version ≡ c.version → a.number ≡ c.number → (a.number ≡ b.number) × (b.number ≡ c.number) =
    λ e f. let s = versions e in let p = h.number s.0 in let q = k.number s.1 in (omega arith, omega arith) in
    record {
      version = omega arith;
      number = λ e. let s = versions e in let p = h.number s.0 in let q = k.number s.1 in omega arith;
      length = λ e f. let s = versions e in let t = numbers e f in let p = h.length s.0 t.0 in let q = k.length s.1 t.1 in omega arith;
    }

far_before : (rows : List Row) → ((k : ℕ) → k + 1 < length rows → Precedes (network_of (row_at rows k)) (network_of (row_at rows (k + 1)))) →
    (j k : ℕ) → j < k → k < length rows → Precedes (network_of (row_at rows j)) (network_of (row_at rows k))
far_before rows next j zero below fits = absurd (omega arith)
far_before rows next j (suc k) below fits =
    let one : k + 1 ≡ suc k = omega arith in
    let last : Precedes (network_of (row_at rows k)) (network_of (row_at rows (suc k))) =
    subst (λ n. Precedes (network_of (row_at rows k)) (network_of (row_at rows n))) one (next k (omega arith)) in
    elim (cases_lt j k) [
      | inl before ↦ precedes_further (network_of (row_at rows j)) (network_of (row_at rows k)) (network_of (row_at rows (suc k))) (far_before rows next j k before (omega arith)) last
      | inr same ↦ let e : k ≡ j = omega arith in subst (λ n. Precedes (network_of (row_at rows n)) (network_of (row_at rows (suc k)))) e last
    ]

abbrev pub no_network : Network
no_network = record { number = 0; version = 0; length = 0 }

-- rows with their indexes as places
module _ (rows : List Row) where
  pub length-in_order : length (in_order rows) ≡ length rows
  length-in_order = length-numbered 0 (map network_of rows) ∙ length-map rows network_of

  at_in_order : (k : ℕ) → k < length rows → row_at (in_order rows) k ≡ row_with (0 + k) (network_of (row_at rows k))
  at_in_order k h =
      let many = length-map rows network_of in
      at_numbered 0 (map network_of rows) k no_network no_row (omega arith)
      ∙ ap (row_with (0 + k)) (get_or-map network_of rows k no_row no_network h)

  pub in_order_network : (k : ℕ) → k < length rows → network_of (row_at (in_order rows) k) ≡ network_of (row_at rows k)
  in_order_network k h = ap network_of (at_in_order k h)

  pub in_order_place : (k : ℕ) → k < length rows → (row_at (in_order rows) k).place ≡ k
  in_order_place k h = ap (λ (row : Row). row.place) (at_in_order k h) ∙ (let none : 0 + k ≡ k = omega arith in none)

  pub still_in_order : AreInOrder rows → AreInOrder (in_order rows)
  still_in_order order = record {
    networks = λ k h.
        let many = length-in_order in
        subst IsNetwork (sym (in_order_network k (omega arith))) (order.networks k (omega arith));
    sorted = λ j k below h.
        let many = length-in_order in
        subst (λ n. Precedes n (network_of (row_at (in_order rows) k))) (sym (in_order_network j (omega arith)))
        (subst (Precedes (network_of (row_at rows j))) (sym (in_order_network k (omega arith))) (order.sorted j k below (omega arith)));
  }

-- no two rows have one place
abbrev HaveOwnPlaces : List Row → Type 0
HaveOwnPlaces xs = (i j : ℕ) → i < length xs → j < length xs → (row_at xs i).place ≡ (row_at xs j).place → i ≡ j

module _ (l : List Row) (i j : ℕ) (h : i < length l) (k : j < length l) where
  -- where the element at an index comes from if those at `i` and `j` are swapped
  abbrev ComesFrom : ℕ → ℕ → Type 0
  ComesFrom m n = ((m ≡ i) × (n ≡ j)) ⊎ (((m ≡ j) × (n ≡ i)) ⊎ ((m ≢ i) × (m ≢ j) × (n ≡ m)))

  same_source : (a b x y : ℕ) → ComesFrom a x → ComesFrom b y → x ≡ y → a ≡ b
  same_source a b x y (inl p) (inl q) e = omega (arith, p.0, p.1, q.0, q.1)
  same_source a b x y (inl p) (inr (inl q)) e = omega (arith, p.0, p.1, q.0, q.1)
  same_source a b x y (inl p) (inr (inr q)) e = absurd (q.1 (omega (arith, p.0, p.1, q.2)))
  same_source a b x y (inr (inl p)) (inl q) e = omega (arith, p.0, p.1, q.0, q.1)
  same_source a b x y (inr (inl p)) (inr (inl q)) e = omega (arith, p.0, p.1, q.0, q.1)
  same_source a b x y (inr (inl p)) (inr (inr q)) e = absurd (q.0 (omega (arith, p.0, p.1, q.2)))
  same_source a b x y (inr (inr p)) (inl q) e = absurd (p.1 (omega (arith, p.2, q.0, q.1)))
  same_source a b x y (inr (inr p)) (inr (inl q)) e = absurd (p.0 (omega (arith, p.2, q.0, q.1)))
  same_source a b x y (inr (inr p)) (inr (inr q)) e = omega (arith, p.2, q.2)

  abbrev HasSource : ℕ → Type 0
  HasSource m = (n : ℕ) × (n < length l) × ComesFrom m n × (row_at (swap l i j) m ≡ row_at l n)

  source_of : (m : ℕ) → m < length l → HasSource m
  source_of m fits =
      let moved = swapped_from_swap l (swap l i j) i j no_row h k refl in
      let others : m ≢ i → m ≢ j → HasSource m = λ a b. (m, fits, inr (inr (a, b, refl)), moved.2 m a b) in
      elim (equal_or_not m i) [
        | inl at ↦ (j, k, inl (at, refl), ap (row_at (swap l i j)) at ∙ moved.0)
        | inr not_i ↦
            elim (equal_or_not m j) [
              | inl at ↦ (i, h, inr (inl (at, refl)), ap (row_at (swap l i j)) at ∙ moved.1)
              | inr not_j ↦ others not_i not_j
            ]
      ]

  swapped_own : HaveOwnPlaces l → HaveOwnPlaces (swap l i j)
  swapped_own own a b below fits e =
      let many = length-swap l i j in
      let (x, xfits, xfrom, xis) = source_of a (omega arith) in
      let (y, yfits, yfrom, yis) = source_of b (omega arith) in
      same_source a b x y xfrom yfrom
      (own x y xfits yfits (ap (λ row. row.place) (sym xis) ∙ e ∙ ap (λ row. row.place) yis))

module _ (networks : List Network) (rows : List Row) (same : IsPermutation (numbered 0 networks) rows) where
  pub length_rows : length rows ≡ length networks
  length_rows = length_permutation (numbered 0 networks) rows same ∙ length-numbered 0 networks

  abbrev IsOwn : Row → Type 0
  IsOwn row = (row.place < length networks) × (network_of row ≡ at_place networks row.place)

  -- each row has the network of its place
  at_own_place : (k : ℕ) → k < length rows →
      ((row_at rows k).place < length networks) × (network_of (row_at rows k) ≡ at_place networks (row_at rows k).place)
  at_own_place k h = All-permutation IsOwn (numbered 0 networks) rows same each_own k no_row h
    where
      each_own : All IsOwn (numbered 0 networks)
      each_own i d fits =
          let many = length-numbered 0 networks in
          subst IsOwn (sym (at_numbered 0 networks i no_network d (omega arith)))
          (omega arith, ap (at_place networks) (let e : i ≡ 0 + i = omega arith in e))

  -- each place is that of one row
  row_of_place : (i : ℕ) → i < length networks → (k : ℕ) × (k < length rows) × (row_at rows k ≡ row_with i (at_place networks i))
  row_of_place i fits =
      let many = length-numbered 0 networks in
      let none : 0 + i ≡ i = omega arith in
      let row = row_with i (at_place networks i) in
      let there : Contains (numbered 0 networks) row =
      (i, omega arith, at_numbered 0 networks i no_network row fits ∙ ap (λ p. row_with p (at_place networks i)) none) in
      let (k, below, is) = Contains-permutation (numbered 0 networks) rows row same there in
      (k, below, sym (get_or_read rows k row below (sym is) no_row))

  own_places : HaveOwnPlaces rows
  own_places = IsPermutation-keeps (numbered 0 networks) HaveOwnPlaces numbered_own (λ l i j h k own. swapped_own l i j h k own) rows same
    where
      numbered_own : HaveOwnPlaces (numbered 0 networks)
      numbered_own i j h k e =
          let many = length-numbered 0 networks in
          let a = ap (λ row. row.place) (at_numbered 0 networks i no_network no_row (omega arith)) in
          let b = ap (λ row. row.place) (at_numbered 0 networks j no_network no_row (omega arith)) in
          omega (arith, a, b, e)

  pub first_is_repeat : AreSorted rows → (pair : ℕ × ℕ) → IsFirstPair rows (length rows) pair → IsRepeat networks pair.0 pair.1
  first_is_repeat sorted pair p = record {
    in_order =
        let up = sorted p.at p.fits in
        let le = up.place (ap (λ n. n.version) p.same) (ap (λ n. n.number) p.same) (ap (λ n. n.length) p.same) in
        elim (cases_lt pair.0 pair.1) [
          | inl less ↦ less
          | inr more ↦
              let e = own_places p.at (p.at + 1) (let f = p.fits in omega arith) p.fits (let a = p.first_is in let b = p.second_is in omega arith) in
              absurd (omega arith)
        ];
    fits = let own = at_own_place (p.at + 1) p.fits in let a = p.second_is in omega (arith, own.0);
    same =
        ap (at_place networks) (sym p.first_is) ∙ sym (at_own_place p.at (let f = p.fits in omega arith)).1 ∙ p.same
        ∙ (at_own_place (p.at + 1) p.fits).1 ∙ ap (at_place networks) p.second_is;
    none_before = λ i j below early e.
        let last = at_own_place (p.at + 1) p.fits in
        let (a, afits, ais) = row_of_place i (let s = p.second_is in omega (arith, last.0)) in
        let (b, bfits, bis) = row_of_place j (let s = p.second_is in omega (arith, last.0)) in
        let one : network_of (row_at rows a) ≡ network_of (row_at rows b) = ap network_of ais ∙ e ∙ sym (ap network_of bis) in
        let first : (row_at rows a).place ≡ i = ap (λ row. row.place) ais in
        let second : (row_at rows b).place ≡ j = ap (λ row. row.place) bis in
        elim (cases_lt a b) [
          | inl up ↦
              let here : b - 1 + 1 ≡ b = omega arith in
              let same : AreSame rows (b - 1) =
              between_same (row_at rows a) (row_at rows (b - 1)) (row_at rows (b - 1 + 1)) (far_up rows sorted a (b - 1) (omega arith) (omega arith))
              (far_up rows sorted (b - 1) (b - 1 + 1) (omega arith) (omega arith))
              (subst (λ n. network_of (row_at rows a) ≡ network_of (row_at rows n)) (sym here) one) in
              let least = p.least (b - 1) (omega arith) same in
              let place : (row_at rows (b - 1 + 1)).place ≡ j = ap (λ n. (row_at rows n).place) here ∙ second in
              omega arith
          | inr down ↦
              let up = far_up rows sorted b a down afits in
              let le = up.place (ap (λ n. n.version) (sym one)) (ap (λ n. n.number) (sym one)) (ap (λ n. n.length) (sym one)) in
              omega arith
        ];
  }

  pub are_in_order : All IsNetwork networks → AreSorted rows → IsFirstPairOf rows (length rows) None → AreInOrder rows
  are_in_order are sorted none = record {
    networks = λ k h. let own = at_own_place k h in subst IsNetwork (sym own.1) (are (row_at rows k).place _ own.0);
    sorted = far_before rows (λ k h. before_another (row_at rows k) (row_at rows (k + 1)) (sorted k h) (none k h));
  }

  pub places_fit : (k : ℕ) → k < length rows → (row_at rows k).place < length networks
  places_fit k h = (at_own_place k h).0

  place_at : (k : ℕ) → k < length rows → slice_index (map place_of rows) k ≡ (row_at rows k).place
  place_at k h = get_or-map place_of rows k no_row 0 h

  -- the places are those of all networks
  pub places_are : AreIndexes (map place_of rows)
  places_are =
      let many = length-map rows place_of in
      let all = length_rows in
      record {
        fits = λ k h. let at = place_at k (omega arith) in let fits = places_fit k (omega arith) in omega arith;
        own = λ i j h k e. own_places i j (omega arith) (omega arith) (sym (place_at i (omega arith)) ∙ e ∙ place_at j (omega arith));
      }

-- for searches in the proofs of functions
pub ruleset from_slice_facts = (length-in_order, take_all)

pub ruleset ordered_rows_facts = (are_in_order, length-numbered, length_permutation)
