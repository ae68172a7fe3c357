-- Rows in order, and the last one that covers an address.
use Rattle.std.proofs.Common.{◌≡◌, ℕ, zero, suc, ◌+◌, ◌-◌, ◌^◌, ◌<◌, ◌≤◌, ◌⊎◌, inl, inr, Bool, true, false, List, [], ◌∷◌, ◌++◌, length, length-append, take, refl, ap, ap₂, sym, ◌∙◌, subst, arith, cond, count_by}
use Rattle.std.proofs.Math.ListN.{get_or-append}
use Rattle.std.proofs.Math.Seq.{take-suc}
use Rattle.std.proofs.lemmas.List.{get_or_push, get_or-take, length-take-le}
use Rattle.std.proofs.lemmas.List.Sums.{count_by_more_yes, sum_by_more}
use Rattle.std.proofs.lemmas.Bool.{cases_lt, false≢true}
use Rattle.prefix_table.specs.declared.network.Address.{Address}
use Rattle.prefix_table.specs.declared.network.Network.{Network}
use Rattle.prefix_table.specs.declared.rests.Rest.{Rest}
use Rattle.prefix_table.specs.Networks.{IsNetwork, IsUpTo, Precedes, covers_at, start_of}
use Rattle.prefix_table.specs.declared.rows.Row.{Row}
use Rattle.prefix_table.specs.Starts.{AreUpwards, IsCount, start_at}
use Rattle.prefix_table.specs.Rows.{AreInOrder, IsLast, IsNestedIn, IsRowCount, network_of, row_at}
use Rattle.prefix_table.specs.Columns.{AreRows, IsLastOf, IsNested, network_at, rest_at, row_from, rows_from, rows_of}
use Rattle.prefix_table.proofs.CoverLemmas.{covers_between, covers_own_start, covers_through, later_is_longer}

is_false : (b : Bool) → (b ≡ true → ⊥) → b ≡ false
is_false true h = absurd (h refl)
is_false false h = refl

module _ (starts : List Address) (rests : List Rest) (rows : AreRows starts rests) where
  -- starts are upwards, since rows are in order
  pub rows_rise : AreUpwards starts
  rows_rise j k below fits =
      let order = rows.sorted j k below (subst (λ n. k < n) rows.lengths fits) in
      record { version = order.version; number = order.number }

  -- if a row doesn't cover an address, those that do are around it or before that
  pub none_between : (address : Address) (at k : ℕ) → at < length rests → IsUpTo (start_at starts at) address → k < at →
      (rest_at rests at).around ≤ k → covers_at (network_at starts rests k) address ≡ false
  none_between address at k fits up below after =
      is_false _ (λ h.
      let order = rows.sorted k at below fits in
      let around = rows.around k at below fits
      (covers_between (network_at starts rests k) (start_at starts at) address (record { version = order.version; number = order.number }) up h) in
      omega arith)

  pub one_outwards : (address : Address) (upto found : ℕ) → upto ≤ length rests → ((k : ℕ) → k < upto → IsUpTo (start_at starts k) address) →
      found ≤ upto → ((k : ℕ) → found ≤ k → k < upto → covers_at (network_at starts rests k) address ≡ false) → 0 < found →
      covers_at (network_at starts rests (found - 1)) address ≡ false →
      (k : ℕ) → (rest_at rests (found - 1)).around ≤ k → k < upto → covers_at (network_at starts rests k) address ≡ false
  one_outwards address upto found within started bounded none_after some not_here k after below =
      elim (cases_lt k found) [
        | inr later ↦ none_after k later below
        | inl before ↦
            elim (cases_lt k (found - 1)) [
              | inl between ↦ none_between address (found - 1) k (omega arith) (started (found - 1) (omega arith)) between after
              | inr last ↦
                  let e : found - 1 ≡ k = omega arith in
                  subst (λ n. covers_at (network_at starts rests n) address ≡ false) e not_here
            ]
      ]

-- ---- columns as rows

abbrev pub no_row : Row
no_row = record { number = 0; place = 0; version = 0; length = 0 }

abbrev pub no_start : Address
no_start = record { number = 0; version = 0 }

abbrev pub no_rest : Rest
no_rest = record { around = 0; length = 0 }

length-rows_from : (place : ℕ) (starts : List Address) (rests : List Rest) → length starts ≡ length rests →
    length (rows_from place starts rests) ≡ length rests
length-rows_from place [] rests e = e
length-rows_from place (s ∷ ss) [] e = absurd (omega (arith, e))
length-rows_from place (s ∷ ss) (r ∷ rs) e = let ih = length-rows_from (place + 1) ss rs (omega (arith, e)) in omega arith

pub length-rows : (starts : List Address) (rests : List Rest) → length starts ≡ length rests → length (rows_of starts rests) ≡ length rests
length-rows starts rests e = length-rows_from 0 starts rests e

at_rows_from : (place : ℕ) (starts : List Address) (rests : List Rest) (k : ℕ) → length starts ≡ length rests → k < length rests →
    row_at (rows_from place starts rests) k ≡ row_from (place + k) (start_at starts k) (rest_at rests k)
at_rows_from place [] [] k e h = absurd (omega arith)
at_rows_from place [] (r ∷ rs) k e h = absurd (omega (arith, e))
at_rows_from place (s ∷ ss) [] k e h = absurd (omega arith)
at_rows_from place (s ∷ ss) (r ∷ rs) zero e h = let same : place ≡ place + 0 = omega arith in ap (λ p. row_from p s r) same
at_rows_from place (s ∷ ss) (r ∷ rs) (suc k) e h =
    let same : place + 1 + k ≡ place + suc k = omega arith in
    at_rows_from (place + 1) ss rs k (omega (arith, e)) (omega arith) ∙ ap (λ p. row_from p (start_at ss k) (rest_at rs k)) same

pub at_rows : (starts : List Address) (rests : List Rest) (k : ℕ) → length starts ≡ length rests → k < length rests →
    row_at (rows_of starts rests) k ≡ row_from k (start_at starts k) (rest_at rests k)
at_rows starts rests k e h =
    let same : 0 + k ≡ k = omega arith in
    at_rows_from 0 starts rests k e h ∙ ap (λ p. row_from p (start_at starts k) (rest_at rests k)) same

rows_from-push : (place : ℕ) (starts : List Address) (rests : List Rest) (s : Address) (r : Rest) → length starts ≡ length rests →
    rows_from place (starts ++ s ∷ []) (rests ++ r ∷ []) ≡ rows_from place starts rests ++ row_from (place + length rests) s r ∷ []
rows_from-push place [] [] s r e = let same : place ≡ place + 0 = omega arith in ap (λ p. row_from p s r ∷ []) same
rows_from-push place [] (x ∷ rs) s r e = absurd (omega (arith, e))
rows_from-push place (x ∷ ss) [] s r e = absurd (omega (arith, e))
rows_from-push place (x ∷ ss) (y ∷ rs) s r e =
    let same : place + 1 + length rs ≡ place + length (y ∷ rs) = omega arith in
    ap (λ rows. row_from place x y ∷ rows)
    (rows_from-push (place + 1) ss rs s r (omega (arith, e)) ∙ ap (λ p. rows_from (place + 1) ss rs ++ row_from p s r ∷ []) same)

pub rows-push : (starts : List Address) (rests : List Rest) (s : Address) (r : Rest) → length starts ≡ length rests →
    rows_of (starts ++ s ∷ []) (rests ++ r ∷ []) ≡ rows_of starts rests ++ row_from (length rests) s r ∷ []
rows-push starts rests s r e =
    let same : 0 + length rests ≡ length rests = omega arith in
    rows_from-push 0 starts rests s r e ∙ ap (λ p. rows_of starts rests ++ row_from p s r ∷ []) same

module _ (starts : List Address) (rests : List Rest) (rows : AreRows starts rests) where
  pub network_at_rows : (k : ℕ) → k < length rests → network_of (row_at (rows_of starts rests) k) ≡ network_at starts rests k
  network_at_rows k h = ap network_of (at_rows starts rests k rows.lengths h)

  start_at_rows : (k : ℕ) → k < length rests → start_of (network_of (row_at (rows_of starts rests) k)) ≡ start_at starts k
  start_at_rows k h = ap start_of (network_at_rows k h)

  pub count_of_rows : (address : Address) (count : ℕ) → IsCount starts address count → IsRowCount (rows_of starts rests) address count
  count_of_rows address count h =
      let many = length-rows starts rests rows.lengths in
      let same = rows.lengths in
      let bounded = h.bounded in
      record {
        bounded = omega arith;
        first = λ k below. subst (λ s. IsUpTo s address) (sym (start_at_rows k (omega arith))) (h.first k below);
        others = λ k after fits up. h.others k after (omega arith) (subst (λ s. IsUpTo s address) (start_at_rows k (omega arith)) up);
      }

  pub all_started : (address : Address) (upto : ℕ) → upto ≤ length rests →
      ((k : ℕ) → k < upto → IsUpTo (start_of (network_of (row_at (rows_of starts rests) k))) address) →
      (k : ℕ) → k < upto → IsUpTo (start_at starts k) address
  all_started address upto within started k below = subst (λ s. IsUpTo s address) (start_at_rows k (omega arith)) (started k below)

  pub last_of_rows : (address : Address) (upto found : ℕ) → upto ≤ length rests → IsLastOf starts rests address upto found →
      IsLast (rows_of starts rests) address upto found
  last_of_rows address upto found within last =
      let bounded = last.bounded in
      record {
        bounded = bounded;
        covering = λ some. ap (λ n. covers_at n address) (network_at_rows (found - 1) (omega arith)) ∙ last.covering some;
        none_after = λ k after h. ap (λ n. covers_at n address) (network_at_rows k (omega arith)) ∙ last.none_after k after h;
      }

  -- ---- one row more
  module _ (s : Address) (r : Rest) where
    abbrev Starts : List Address
    Starts = starts ++ s ∷ []

    abbrev Rests : List Rest
    Rests = rests ++ r ∷ []

    many_more : length Rests ≡ length rests + 1
    many_more = length-append rests (r ∷ [])

    start_before : (k : ℕ) → k < length rests → start_at Starts k ≡ start_at starts k
    start_before k h = get_or-append starts (s ∷ []) no_start k (omega (arith, rows.lengths))

    start_last : start_at Starts (length rests) ≡ s
    start_last = get_or_push starts s no_start (length rests) rows.lengths

    rest_before : (k : ℕ) → k < length rests → rest_at Rests k ≡ rest_at rests k
    rest_before k h = get_or-append rests (r ∷ []) no_rest k h

    rest_last : rest_at Rests (length rests) ≡ r
    rest_last = get_or_push rests r no_rest (length rests) refl

    abbrev network_from : Address → Rest → Network
    network_from a x = record { number = a.number; version = a.version; length = x.length }

    before : (k : ℕ) → k < length rests → network_at Starts Rests k ≡ network_at starts rests k
    before k h = ap₂ network_from (start_before k h) (rest_before k h)

    last : network_at Starts Rests (length rests) ≡ network_from s r
    last = ap₂ network_from start_last rest_last

    -- an index is one of the earlier ones, or the last
    where_is : (k : ℕ) → k < length Rests → (k < length rests) ⊎ (length rests ≡ k)
    where_is k h =
        elim (cases_lt k (length rests)) [ inl below ↦ inl below | inr late ↦ let many = many_more in inr (omega arith) ]

    pub one_row_more : IsNetwork (network_from s r) → ((k : ℕ) → k < length rests → Precedes (network_at starts rests k) (network_from s r)) →
        IsLastOf starts rests s (length rests) r.around → length rests + 1 < 2 ^ 32 → AreRows Starts Rests
    one_row_more network order around few = record {
      lengths = let many = many_more in let other = length-append starts (s ∷ []) in omega (arith, rows.lengths);
      few = let many = many_more in omega arith;
      networks = λ k h.
          elim (where_is k h) [
            | inl below ↦ subst IsNetwork (sym (before k below)) (rows.networks k below)
            | inr at ↦ subst (λ n. IsNetwork (network_at Starts Rests n)) at (subst IsNetwork (sym last) network)
          ];
      sorted = λ j k below h.
          elim (where_is k h) [
            | inl early ↦
                subst (λ n. Precedes n (network_at Starts Rests k)) (sym (before j (omega arith)))
                (subst (Precedes (network_at starts rests j)) (sym (before k early)) (rows.sorted j k below early))
            | inr at ↦
                subst (λ n. Precedes n (network_at Starts Rests k)) (sym (before j (omega arith)))
                (subst (λ n. Precedes (network_at starts rests j) (network_at Starts Rests n)) at
                (subst (Precedes (network_at starts rests j)) (sym last) (order j (omega arith))))
          ];
      around = λ j k below h covers.
          elim (where_is k h) [
            | inl early ↦
                subst (λ x. j < x.around) (sym (rest_before k early))
                (rows.around j k below early (ap₂ covers_at (sym (before j (omega arith))) (sym (start_before k early)) ∙ covers))
            | inr at ↦
                subst (λ n. j < (rest_at Rests n).around) at
                (subst (λ x. j < x.around) (sym rest_last)
                (elim (cases_lt j r.around) [
                  | inl fits ↦ fits
                  | inr late ↦
                      let here : covers_at (network_at starts rests j) s ≡ true =
                      ap₂ covers_at (sym (before j (omega arith))) (sym start_last ∙ ap (start_at Starts) at) ∙ covers in
                      absurd (false≢true (sym (around.none_after j late (omega arith)) ∙ here))
                ]))
          ];
      tight = λ k h.
          elim (where_is k h) [
            | inl early ↦
                (λ some.
                let small = rows.back k early in
                let around_is = ap (λ x. x.around) (rest_before k early) in
                let old = rows.tight k early (omega arith) in
                subst (λ x. covers_at (network_at Starts Rests (x.around - 1)) (start_at Starts k) ≡ true) (sym (rest_before k early))
                (ap₂ covers_at (before ((rest_at rests k).around - 1) (omega arith)) (start_before k early) ∙ old))
            | inr at ↦
                subst (λ n. 0 < (rest_at Rests n).around → covers_at (network_at Starts Rests ((rest_at Rests n).around - 1)) (start_at Starts n) ≡ true) at
                (λ some.
                let bounded = around.bounded in
                let around_is = ap (λ x. x.around) rest_last in
                subst (λ x. covers_at (network_at Starts Rests (x.around - 1)) (start_at Starts (length rests)) ≡ true) (sym rest_last)
                (ap₂ covers_at (before (r.around - 1) (omega arith)) start_last ∙ around.covering (omega arith)))
          ];
      back = λ k h.
          elim (where_is k h) [
            | inl early ↦ subst (λ x. x.around ≤ k) (sym (rest_before k early)) (rows.back k early)
            | inr at ↦
                subst (λ n. (rest_at Rests n).around ≤ n) at (subst (λ x. x.around ≤ length rests) (sym rest_last) around.bounded)
          ];
    }

  -- ---- the first rows of a list
  module _ (all : List Row) (i : ℕ) (fits : i < length all) (made : rows_of starts rests ≡ take i all) where
    pub so_many : length rests ≡ i
    so_many =
        sym (length-rows starts rests rows.lengths) ∙ ap length made ∙ length-take-le i all (omega arith)

    pub in_order : AreInOrder all → (k : ℕ) → k < length rests → Precedes (network_at starts rests k) (network_of (row_at all i))
    in_order order k h =
        let many = so_many in
        subst (λ n. Precedes n (network_of (row_at all i)))
        (ap network_of (sym (get_or-take i all k no_row (omega arith)) ∙ ap (λ rows. row_at rows k) (sym made)) ∙ network_at_rows k h)
        (order.sorted k i (omega arith) fits)

    pub all_up_to : AreInOrder all → (k : ℕ) → k < length rests → IsUpTo (start_at starts k) (start_of (network_of (row_at all i)))
    all_up_to order k h = let p = in_order order k h in record { version = p.version; number = p.number }

    -- what the row at `i` has beside its start
    abbrev pub rest_with : ℕ → Rest
    rest_with around = record { around = around; length = (row_at all i).length }

    abbrev pub this_start : Address
    this_start = start_of (network_of (row_at all i))

    pub next_made : (row_at all i).place ≡ i → (around : ℕ) → rows_of (starts ++ this_start ∷ []) (rests ++ rest_with around ∷ []) ≡ take (i + 1) all
    next_made own around =
        let next : suc i ≡ i + 1 = omega arith in
        rows-push starts rests this_start (rest_with around) rows.lengths
        ∙ ap (λ p. rows_of starts rests ++ row_from p this_start (rest_with around) ∷ []) (so_many ∙ sym own)
        ∙ ap (λ xs. xs ++ row_at all i ∷ []) made
        ∙ sym (take-suc all i no_row fits)
        ∙ ap (λ n. take n all) next

    pub next_are : AreInOrder all → length all < 2 ^ 32 → (around : ℕ) → IsLastOf starts rests this_start (length rests) around →
        AreRows (starts ++ this_start ∷ []) (rests ++ rest_with around ∷ [])
    next_are order few around last =
        one_row_more this_start (rest_with around) (order.networks i fits) (in_order order) last
        (let many = so_many in omega arith)

    pub last_is : (start : Address) (seen : List Rest) (many around : ℕ) → start ≡ this_start → seen ≡ rests → many ≡ length rests →
        IsLastOf starts seen start many around → IsLastOf starts rests this_start (length rests) around
    last_is start seen many around s r m h =
        subst (λ n. IsLastOf starts rests this_start n around) m
        (subst (λ rs. IsLastOf starts rs this_start many around) r (subst (λ a. IsLastOf starts seen a many around) s h))

-- ---- how many rows are looked at

module _ {X : Type 0} (p : X → Bool) where
  count_less : (xs : List X) (few many : ℕ) (d : X) → few ≤ many → many ≤ length xs → count_by p (take few xs) ≤ count_by p (take many xs)
  count_less xs few zero d le fits = let e : few ≡ zero = omega arith in subst (λ n. count_by p (take n xs) ≤ count_by p (take zero xs)) (sym e) (omega arith)
  count_less xs few (suc t) d le fits =
      elim (cases_lt t few) [
        | inl same ↦ let e : few ≡ suc t = omega arith in subst (λ n. count_by p (take n xs) ≤ count_by p (take (suc t) xs)) (sym e) (omega arith)
        | inr below ↦
            let ih = count_less xs few t d below (omega arith) in
            let more = sum_by_more (λ x. cond (p x) 1 0) xs t d (omega arith) in
            let next : t + 1 ≡ suc t = omega arith in
            subst (λ n. count_by p (take few xs) ≤ count_by p (take n xs)) next (omega arith)
      ]

module _ (starts : List Address) (rests : List Rest) (rows : AreRows starts rests) (upto : ℕ) (within : upto ≤ length rests) where
  abbrev last_start : Address
  last_start = start_at starts (upto - 1)

  abbrev around_last : ℕ → ℕ
  around_last k = count_by (λ row. covers_at (network_of row) last_start) (take k (rows_of starts rests))

  pub own_at_first : 0 < upto → covers_at (network_at starts rests (upto - 1)) last_start ≡ true
  own_at_first some = covers_own_start (network_at starts rests (upto - 1)) (rows.networks (upto - 1) (omega arith))

  -- a row that covers the last start counts once
  one_less : (found : ℕ) → 0 < found → found ≤ upto → covers_at (network_at starts rests (found - 1)) last_start ≡ true →
      around_last found ≡ around_last (found - 1) + 1
  one_less found some le covers =
      let many = length-rows starts rests rows.lengths in
      let next : found - 1 + 1 ≡ found = omega arith in
      ap around_last (sym next)
      ∙ count_by_more_yes (λ row. covers_at (network_of row) last_start) (rows_of starts rests) (found - 1) no_row (omega arith)
      (ap (λ n. covers_at n last_start) (network_at_rows starts rests rows (found - 1) (omega arith)) ∙ covers)

  pub one_row_fewer : (found : ℕ) → 0 < found → found ≤ upto → covers_at (network_at starts rests (found - 1)) last_start ≡ true →
      around_last ((rest_at rests (found - 1)).around) + 1 ≤ around_last found
  one_row_fewer found some le covers =
      let many = length-rows starts rests rows.lengths in
      let back = rows.back (found - 1) (omega arith) in
      let one = one_less found some le covers in
      let less =
      count_less (λ row. covers_at (network_of row) last_start) (rows_of starts rests) ((rest_at rests (found - 1)).around) (found - 1) no_row back (omega arith) in
      omega arith

  pub counts_itself : (found : ℕ) → 0 < found → found ≤ upto → covers_at (network_at starts rests (found - 1)) last_start ≡ true → 1 ≤ around_last found
  counts_itself found some le covers = let one = one_less found some le covers in omega arith

  -- the row around one that covers the last start covers it too
  pub around_covers : (found : ℕ) → 0 < found → found ≤ upto → covers_at (network_at starts rests (found - 1)) last_start ≡ true →
      0 < (rest_at rests (found - 1)).around → covers_at (network_at starts rests ((rest_at rests (found - 1)).around - 1)) last_start ≡ true
  around_covers found some le covers more =
      let back = rows.back (found - 1) (omega arith) in
      let outer = network_at starts rests ((rest_at rests (found - 1)).around - 1) in
      let inner = network_at starts rests (found - 1) in
      let tight = rows.tight (found - 1) (omega arith) more in
      covers_through outer inner last_start tight covers
      (later_is_longer outer inner (start_at starts (found - 1)) (rows.sorted ((rest_at rests (found - 1)).around - 1) (found - 1) (omega arith) (omega arith))
      tight (covers_own_start inner (rows.networks (found - 1) (omega arith))))

  pub nested_in_rows : (looked : ℕ) → IsNested starts rests upto looked → IsNestedIn (rows_of starts rests) upto looked
  nested_in_rows looked h =
      elim (cases_lt 0 upto) [
        | inl some ↦
            record {
              few =
                  subst (λ s. looked ≤ count_by (λ row. covers_at (network_of row) s) (take upto (rows_of starts rests)))
                  (sym (start_at_rows starts rests rows (upto - 1) (omega arith))) h.few;
            }
        | inr none ↦
            let zero_rows : upto ≡ 0 = omega arith in
            let few : looked ≤ 0 =
            subst (λ n. looked ≤ n) (no_count (rows_of starts rests) last_start)
            (subst (λ n. looked ≤ count_by (λ row. covers_at (network_of row) last_start) (take n (rows_of starts rests))) zero_rows h.few) in
            record { few = omega arith }
      ]
    where
      no_count : (rs : List Row) (s : Address) → count_by (λ row. covers_at (network_of row) s) (take 0 rs) ≡ 0
      no_count [] s = refl
      no_count (r ∷ rs) s = refl

-- for searches in the proofs of functions
pub ruleset count_up_to_facts = (length-rows)

pub ruleset get_facts = (at_rows, length-rows)
