-- Writing numbers, and the bytes that keys share.
use Rattle.std.proofs.Common.{◌≡◌, ◌≢◌, ℕ, zero, suc, ◌+◌, ◌-◌, ◌/◌, ◌%◌, ◌<◌, ◌≤◌, List, [], ◌∷◌, ◌++◌, length, length-append, drop, get_or, Option, refl, ap, sym, ◌∙◌, subst, append_assoc, append-nil, arith}
use Rattle.std.specs.List.{AllByRecursion as Each}
use Rattle.std.proofs.lemmas.Bool.{eq-eqb, ne_eqb}
use Rattle.std.proofs.lemmas.List.{drop_more, drop_all, nil_from_length}
use Rattle.snapshot_format.specs.Numbers.{number_within, FitsWithin}
use Rattle.std.specs.Io.KnownBytes.{Appends}
use Rattle.sha2.specs.declared.Sha256.{Sha256}
use Rattle.sha2.specs.Sha256.{sha256}
use Rattle.snapshot_format.specs.Snapshots.{Entry, FitsEntry, body_of, entries_bytes, entry_bytes, head_bytes, last_key, shared_len, snapshot_of}
use Rattle.snapshot_format.specs.Writing.{HasWritten, Writes}
use Rattle.snapshot_format.proofs.RestsOfBytes.{each_more, entries_more, last_more}
use Rattle.text_lines.proofs.Writing.{appends_none, appends_more}
use Rattle.snapshot_format.proofs.Numbers.{fits_last, fits_more, within_large}

-- a number that is not the last has bytes after the first
pub fits_large : (more n : ℕ) → FitsWithin more n → 128 ≤ n → 1 ≤ more
fits_large zero n fits large = let h = fits_last n fits in absurd (omega arith)
fits_large (suc more) n fits large = omega arith

pub fits_high : (more n : ℕ) → FitsWithin more n → 128 ≤ n → FitsWithin (more - 1) (n / 128)
fits_high more n fits large =
    let h = fits_large more n fits large in
    let one : more ≡ suc (more - 1) = omega arith in
    fits_more (more - 1) n (subst (λ m. FitsWithin m n) one fits)

pub large_is : (more n : ℕ) → FitsWithin more n → 128 ≤ n → number_within more n ≡ (128 + n % 128) ∷ number_within (more - 1) (n / 128)
large_is more n fits large =
    let h = fits_large more n fits large in
    let one : more ≡ suc (more - 1) = omega arith in
    ap (λ m. number_within m n) one ∙ within_large (more - 1) n large

pub shared_more : (key other : List ℕ) (s : ℕ) → s < length key → s < length other → get_or key s 0 ≡ get_or other s 0 →
    s + shared_len (drop s key) (drop s other) ≡ (s + 1) + shared_len (drop (s + 1) key) (drop (s + 1) other)
unfolding shared_len
shared_more key other s a b same = rw (drop_more key s 0 a, drop_more other s 0 b, eq-eqb (get_or key s 0) (get_or other s 0) same) (omega arith)

pub shared_stops : (key other : List ℕ) (s : ℕ) → s < length key → s < length other → get_or key s 0 ≢ get_or other s 0 → s + shared_len (drop s key) (drop s other) ≡ s
unfolding shared_len
shared_stops key other s a b same = rw (drop_more key s 0 a, drop_more other s 0 b, ne_eqb (get_or key s 0) (get_or other s 0) same) (omega arith)

none_shared : (key : List ℕ) → shared_len key [] ≡ 0
unfolding shared_len
none_shared [] = refl
none_shared (a ∷ key) = refl

pub first_ends : (key other : List ℕ) (s : ℕ) → length key ≤ s → s + shared_len (drop s key) (drop s other) ≡ s
unfolding shared_len
first_ends key other s e = rw (drop_all s key e) (omega arith)

pub second_ends : (key other : List ℕ) (s : ℕ) → length other ≤ s → s + shared_len (drop s key) (drop s other) ≡ s
second_ends key other s e = rw (drop_all s other e, none_shared (drop s key)) (omega arith)

-- ---- what a writer has written

module _ {W : Type 0} (contents : W → Option (List ℕ)) where
  writes_more : (a b c : W) (x y z : Sha256) (xs ys : List ℕ) → Writes contents a b x y xs → Writes contents b c y z ys → Writes contents a c x z (xs ++ ys)
  writes_more a b c x y z xs ys h k = record {
    appended = appends_more (contents a) (contents b) (contents c) xs ys h.appended k.appended;
    held = λ m of_m. rw (← append_assoc m xs ys) (k.held (m ++ xs) (h.held m of_m));
  }

  pub writing_begins : (a : W) (x : Sha256) (entries : List Entry) (key : List ℕ) → key ≡ [] → HasWritten contents a a x x entries entries key 0
  unfolding entries_bytes last_key
  writing_begins a x entries key none = record {
    done = [];
    are = refl;
    counted = refl;
    written = record { appended = appends_none (contents a); held = λ m of_m. rw append-nil of_m };
    fits = tt;
    last = none;
  }

  pub writing_goes_on : (a b c : W) (x y z : Sha256) (entries left others : List Entry) (key : List ℕ) (one : Entry) (count : ℕ) → HasWritten contents a b x y entries left key count →
      left ≡ one ∷ others → Writes contents b c y z (entry_bytes key one) → FitsEntry one → HasWritten contents a c x z entries others one.key (count + 1)
  writing_goes_on a b c x y z entries left others key one count h is more fits = record {
    done = h.done ++ one ∷ [];
    are = h.are ∙ ap (λ es. h.done ++ es) is ∙ sym (append_assoc h.done (one ∷ []) others);
    counted = let n = h.counted in omega (arith, length-append h.done (one ∷ []));
    written = rw (entries_more [] h.done one, ← h.last) (writes_more a b c x y z (entries_bytes [] h.done) (entry_bytes key one) h.written more);
    fits = each_more FitsEntry h.done one h.fits fits;
    last = sym (last_more [] h.done one);
  }

  -- as many as there are
  pub none_left : (a b : W) (x y : Sha256) (entries left : List Entry) (key : List ℕ) (count : ℕ) → length entries ≤ count → HasWritten contents a b x y entries left key count → left ≡ []
  none_left a b x y entries left key count all h =
      nil_from_length left (let are = ap length h.are in let n = h.counted in omega (arith, length-append h.done left))

  pub all_written : (a b : W) (x y : Sha256) (entries left : List Entry) (key : List ℕ) (count : ℕ) → HasWritten contents a b x y entries left key count → left ≡ [] →
      Writes contents a b x y (entries_bytes [] entries) × Each FitsEntry entries
  all_written a b x y entries left key count h none =
      let done : h.done ≡ entries = sym (append-nil h.done) ∙ ap (λ es. h.done ++ es) (sym none) ∙ sym h.are in
      (subst (λ es. Writes contents a b x y (entries_bytes [] es)) done h.written, subst (Each FitsEntry) done h.fits)

  -- the checksum is of all that was written
  pub body_written : (a b c : W) (x y z : Sha256) (entries : List Entry) (count : ℕ) → count ≡ length entries → Writes contents a b x y (head_bytes count) → Writes contents b c y z (entries_bytes [] entries) →
      Writes contents a c x z (body_of entries)
  unfolding body_of
  body_written a b c x y z entries count len head more =
      subst (Writes contents a c x z) (ap (λ n. head_bytes n ++ entries_bytes [] entries) len) (writes_more a b c x y z (head_bytes count) (entries_bytes [] entries) head more)

  pub snapshot_written : (a b c : W) (x y : Sha256) (entries : List Entry) → Writes contents a b x y (body_of entries) → Appends (contents b) (contents c) (sha256 (body_of entries)) → Appends (contents a) (contents c) (snapshot_of entries)
  unfolding snapshot_of
  snapshot_written a b c x y entries body tail = appends_more (contents a) (contents b) (contents c) (body_of entries) (sha256 (body_of entries)) body.appended tail
