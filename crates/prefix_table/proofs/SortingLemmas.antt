-- Rows that are sorted, and networks that occur twice among them.
use Rattle.std.proofs.Common.{◌≡◌, ℕ, zero, suc, ◌+◌, ◌-◌, ◌<◌, ◌≤◌, inl, inr, Bool, true, false, ◌&&◌, eqb, eq-eqb, eqb-true, List, [], ◌∷◌, ◌++◌, length, Option, Some, None, refl, ap, ap₂, sym, ◌∙◌, subst, arith, take, slice_index_or, MatchOption, if◌then◌else◌, leb-true, leb-false}
use Rattle.std.specs.Prelude.{nat_le}
use Rattle.std.specs.Ordering.{is_lt, nat_cmp, ordering_then}
use Rattle.std.specs.declared.cmp.Ordering.{Ordering}
use Rattle.std.specs.declared.cmp.Ordering.TheVariants.{Less, Equal, Greater}
use Rattle.std.proofs.lemmas.Map.Keys.{ge_from_not_lt}
use Rattle.std.proofs.Math.Seq.{take-suc}
use Rattle.std.specs.List.Sorted.{IsSortedByKey}
use Rattle.std.proofs.lemmas.Bool.{and_from, and_parts, cases_lt, false≢true}
use Rattle.std.proofs.lemmas.Bool.Decides.{nat_tests}
use Rattle.prefix_table.specs.declared.network.Network.{Network}
use Rattle.prefix_table.specs.declared.rows.Row.{Row}
use Rattle.prefix_table.specs.Rows.{row_at}
use Rattle.prefix_table.specs.Sorting.{AreSame, AreSorted, IsFirstPairOf, IsUpToRow, nearer, numbered, row_with}
use Rattle.prefix_table.proofs.RowLemmas.{no_row}

-- what rows are sorted by
abbrev pub key_of : Row → ℕ × ℕ × ℕ × ℕ
key_of row = (row.version, row.number, row.length, row.place)

abbrev pub key_cmp : ℕ × ℕ × ℕ × ℕ → ℕ × ℕ × ℕ × ℕ → Ordering
key_cmp x y = ordering_then (ordering_then (ordering_then (nat_cmp x.0 y.0) (nat_cmp x.1 y.1)) (nat_cmp x.2 y.2)) (nat_cmp x.3 y.3)

-- where the first part of an order says equal, the second one decides
not_less : (p : Ordering) (a b : ℕ) → is_lt (ordering_then p (nat_cmp a b)) ≡ false → p ≡ Equal → b ≤ a
not_less Less a b h e = absurd cc
not_less Equal a b h e = ge_from_not_lt a b h
not_less Greater a b h e = absurd cc

first_not_less : (p q : Ordering) → is_lt (ordering_then p q) ≡ false → is_lt p ≡ false
first_not_less Less q h = h
first_not_less Equal q h = refl
first_not_less Greater q h = refl

same_is_equal : (a b : ℕ) → a ≡ b → nat_cmp a b ≡ Equal
same_is_equal a b e = grind (arith, nat_tests)

up_to_row : (a b : Row) → is_lt (key_cmp (key_of b) (key_of a)) ≡ false → IsUpToRow a b
up_to_row a b h =
    let v = nat_cmp b.version a.version in
    let n = nat_cmp b.number a.number in
    let l = nat_cmp b.length a.length in
    let to_length : is_lt (ordering_then (ordering_then v n) l) ≡ false = first_not_less _ (nat_cmp b.place a.place) h in
    let to_number : is_lt (ordering_then v n) ≡ false = first_not_less _ l to_length in
    record {
      version = ge_from_not_lt b.version a.version (first_not_less v n to_number);
      number = λ e. not_less v b.number a.number to_number (same_is_equal b.version a.version (sym e));
      length = λ e f.
          not_less (ordering_then v n) b.length a.length to_length
          (ap₂ ordering_then (same_is_equal b.version a.version (sym e)) (same_is_equal b.number a.number (sym f)));
      place = λ e f g.
          not_less (ordering_then (ordering_then v n) l) b.place a.place h
          (ap₂ ordering_then
          (ap₂ ordering_then (same_is_equal b.version a.version (sym e)) (same_is_equal b.number a.number (sym f)))
          (same_is_equal b.length a.length (sym g)));
    }

pub sorted_by_key : (rows : List Row) → IsSortedByKey key_of key_cmp rows → AreSorted rows
sorted_by_key rows h k fits = up_to_row (row_at rows k) (row_at rows (k + 1)) (h k no_row (omega arith) fits)

-- ---- networks with their places

pub length-numbered : (place : ℕ) (networks : List Network) → length (numbered place networks) ≡ length networks
length-numbered place [] = refl
length-numbered place (n ∷ ns) = let ih = length-numbered (place + 1) ns in omega arith

pub at_numbered : (place : ℕ) (networks : List Network) (k : ℕ) (d : Network) (e : Row) → k < length networks →
    slice_index_or (numbered place networks) k e ≡ row_with (place + k) (slice_index_or networks k d)
at_numbered place [] k d e h = absurd (omega arith)
at_numbered place (n ∷ ns) zero d e h = let same : place ≡ place + 0 = omega arith in ap (λ p. row_with p n) same
at_numbered place (n ∷ ns) (suc k) d e h =
    let same : place + 1 + k ≡ place + suc k = omega arith in
    at_numbered (place + 1) ns k d e (omega arith) ∙ ap (λ p. row_with p (slice_index_or ns k d)) same

-- one network more
pub next_numbered : (networks : List Network) (i : ℕ) (d : Network) → i < length networks →
    take i (numbered 0 networks) ++ row_with i (slice_index_or networks i d) ∷ [] ≡ take (i + 1) (numbered 0 networks)
next_numbered networks i d h =
    let many = length-numbered 0 networks in
    let next : suc i ≡ i + 1 = omega arith in
    let zero_more : 0 + i ≡ i = omega arith in
    ap (λ row. take i (numbered 0 networks) ++ row ∷ [])
    (ap (λ p. row_with p (slice_index_or networks i d)) (sym zero_more) ∙ sym (at_numbered 0 networks i d no_row h))
    ∙ sym (take-suc (numbered 0 networks) i no_row (omega arith))
    ∙ ap (λ n. take n (numbered 0 networks)) next

-- ---- a network that occurs twice

-- whether two networks are equal, as `==` tests it
abbrev pub is_same : Network → Network → Bool
is_same a b = eqb a.number b.number && (eqb a.version b.version && eqb a.length b.length)

pub same_networks : (a b : Network) → is_same a b ≡ true → a ≡ b
same_networks a b h =
    let first = and_parts (eqb a.number b.number) (eqb a.version b.version && eqb a.length b.length) h in
    let rest = and_parts (eqb a.version b.version) (eqb a.length b.length) first.1 in
    let number = eqb-true a.number b.number first.0 in
    let version = eqb-true a.version b.version rest.0 in
    let long = eqb-true a.length b.length rest.1 in
    ap₂ (λ m v. record { number = m; version = v; length = a.length }) number version
    ∙ ap (λ m. record { number = b.number; version = b.version; length = m }) long

pub other_networks : (a b : Network) → is_same a b ≡ false → ¬ (a ≡ b)
other_networks a b h e =
    false≢true (sym h ∙ and_from _ _ (eq-eqb _ _ (ap (λ n. n.number) e)) (and_from _ _ (eq-eqb _ _ (ap (λ n. n.version) e)) (eq-eqb _ _ (ap (λ n. n.length) e))))

-- the first of all indexes, and one more
one_index_more : (P : ℕ → Type 0) (at : ℕ) → P at → ((k : ℕ) → k + 1 < at + 1 → P k) → (k : ℕ) → k + 1 < at + 1 + 1 → P k
one_index_more P at here before k h =
    elim (cases_lt k at) [
      | inl early ↦ before k (omega arith)
      | inr late ↦ let e : at ≡ k = omega arith in subst P e here
    ]

module _ (rows : List Row) (at : ℕ) where
  abbrev Second : ℕ
  Second = (row_at rows (at + 1)).place

  pub pair_stays : (found : Option (ℕ × ℕ)) → IsFirstPairOf rows (at + 1) found → ¬ AreSame rows at → IsFirstPairOf rows (at + 1 + 1) found
  pair_stays None h differ = one_index_more (λ k. ¬ AreSame rows k) at differ h
  pair_stays (Some pair) h differ = record {
    at = h.at;
    fits = let f = h.fits in omega arith;
    same = h.same;
    first_is = h.first_is;
    second_is = h.second_is;
    least =
        one_index_more (λ k. AreSame rows k → pair.1 ≤ (row_at rows (k + 1)).place) at (λ same. absurd (differ same)) h.least;
  }

  pair_is_kept : (pair : ℕ × ℕ) → IsFirstPairOf rows (at + 1) (Some pair) → pair.1 ≤ Second → IsFirstPairOf rows (at + 1 + 1) (Some pair)
  pair_is_kept pair h after = record {
    at = h.at;
    fits = let f = h.fits in omega arith;
    same = h.same;
    first_is = h.first_is;
    second_is = h.second_is;
    least = one_index_more (λ k. AreSame rows k → pair.1 ≤ (row_at rows (k + 1)).place) at (λ _. after) h.least;
  }

  pair_is_taken : (found : Option (ℕ × ℕ)) → IsFirstPairOf rows (at + 1) found → AreSame rows at →
      MatchOption found (Unit {0}) (λ pair. Second < pair.1) → IsFirstPairOf rows (at + 1 + 1) (Some ((row_at rows at).place, Second))
  pair_is_taken found h same before = record {
    at = at;
    fits = omega arith;
    same = same;
    first_is = refl;
    second_is = refl;
    least = one_index_more (λ k. AreSame rows k → Second ≤ (row_at rows (k + 1)).place) at (λ _. omega arith) (earlier found h before);
  }
    where
      earlier : (found : Option (ℕ × ℕ)) → IsFirstPairOf rows (at + 1) found → MatchOption found (Unit {0}) (λ pair. Second < pair.1) →
          (k : ℕ) → k + 1 < at + 1 → AreSame rows k → Second ≤ (row_at rows (k + 1)).place
      earlier None h b k fits same = absurd (h k fits same)
      earlier (Some pair) h b k fits same = let least = h.least k fits same in omega arith

  pub pair_is_nearer : (found : Option (ℕ × ℕ)) → IsFirstPairOf rows (at + 1) found → AreSame rows at →
      IsFirstPairOf rows (at + 1 + 1) (nearer found (row_at rows at).place Second)
  pair_is_nearer None h same = pair_is_taken None h same tt
  pair_is_nearer (Some pair) h same = by_test (nat_le pair.1 Second) refl
    where
      by_test : (test : Bool) → nat_le pair.1 Second ≡ test →
          IsFirstPairOf rows (at + 1 + 1) (if test then Some pair else Some ((row_at rows at).place, Second))
      by_test true e = pair_is_kept pair h (leb-true _ _ e)
      by_test false e = pair_is_taken (Some pair) h same (leb-false _ _ e)

-- a list without rows has no pair either
pub pair_of_all : (rows : List Row) (many : ℕ) (found : Option (ℕ × ℕ)) → IsFirstPairOf rows (many - 1 + 1) found → IsFirstPairOf rows many found
pair_of_all rows many None h = λ k fits. h k (omega arith)
pair_of_all rows many (Some pair) h = record {
  at = h.at;
  fits = let f = h.fits in omega arith;
  same = h.same;
  first_is = h.first_is;
  second_is = h.second_is;
  least = λ k fits. h.least k (omega arith);
}
