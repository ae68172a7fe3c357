-- Numbers, bytes and entries that are wrong in a part.
use Rattle.std.proofs.Common.{◌≡◌, ◌≢◌, ◌⊎◌, inl, ℕ, zero, suc, ◌+◌, ◌-◌, ◌*◌, ◌/◌, ◌^◌, ◌<◌, ◌≤◌, Bool, true, false, List, [], ◌∷◌, ◌++◌, length, length-append, take, drop, replicate, get_or, Option, Some, refl, ap, ap₂, sym, ◌∙◌, subst, append_assoc, append-nil, arith}
use Rattle.std.proofs.lemmas.List.{append_cancel_left, drop_at, length-replicate, length-drop, length-take-le, take-append-drop, take_more}
use Rattle.std.specs.List.{slice_get}
use Rattle.std.specs.Io.KnownBytes.{Consumes, IsAtEnd}
use Rattle.snapshot_format.specs.declared.error.Fault.{Fault}
use Rattle.snapshot_format.specs.declared.error.Fault.TheVariants as faults
use Rattle.snapshot_format.specs.Numbers.{FitsWithin, number_bytes, number_within}
use Rattle.snapshot_format.specs.Reading.{is_above, is_next}
use Rattle.snapshot_format.specs.Snapshots.{key_bytes, shared_len, sized}
use Rattle.snapshot_format.specs.Faults.{EntryFault, FitsBelow, first, second, third, IsCutEntry, IsCutNumber, IsCutOf, IsCutSized, IsCutWithin, IsMisplaced, IsNot, IsOtherThan, NumberFault, SizedFault, WithinFault, parts}
use Rattle.snapshot_format.proofs.Known.{left_of}
use Rattle.snapshot_format.proofs.RestsOfBytes.{after_same}
use Rattle.snapshot_format.proofs.SharedKeys.{after_is_above, shared_within}
use Rattle.snapshot_format.proofs.Numbers.{fits_within, within_joined, within_small}
use Rattle.snapshot_format.proofs.NumberReads.{is_last, none_high, wrong_high}

-- more bytes are missing
pub cut_more : (whole read others : List ℕ) → IsCutOf whole read → IsCutOf (whole ++ others) read
cut_more whole read others h = record {
  missing = h.missing ++ others;
  some = λ none. h.some (first_none h.missing others none);
  is = ap (λ bytes. bytes ++ others) h.is ∙ append_assoc read h.missing others;
}
  where
    first_none : (xs ys : List ℕ) → xs ++ ys ≡ [] → xs ≡ []
    first_none [] ys e = refl
    first_none (x ∷ xs) ys e = absurd cc

-- others were read before
pub cut_after : (before whole read : List ℕ) → IsCutOf whole read → IsCutOf (before ++ whole) (before ++ read)
cut_after before whole read h = record {
  missing = h.missing;
  some = h.some;
  is = ap (λ bytes. before ++ bytes) h.is ∙ sym (append_assoc before read h.missing);
}

-- ---- bytes that are wanted

cut_at : (wanted : List ℕ) (i : ℕ) → i < length wanted → IsCutOf wanted (take i wanted)
cut_at wanted i within = record {
  missing = drop i wanted;
  some = λ none. let n : length (drop i wanted) ≡ 0 = ap length none in omega (arith, length-drop i wanted);
  is = sym (take-append-drop i wanted);
}

pub other_at : (wanted : List ℕ) (i byte : ℕ) → i < length wanted → byte ≢ get_or wanted i 0 → IsOtherThan wanted (take i wanted ++ byte ∷ [])
other_at wanted i byte within other = record {
  same = take i wanted;
  byte = byte;
  right = get_or wanted i 0;
  rest = drop (i + 1) wanted;
  other = other;
  wanted_is = sym (take-append-drop (i + 1) wanted) ∙ ap (λ bytes. bytes ++ drop (i + 1) wanted) (take_more wanted i 0 within)
      ∙ append_assoc (take i wanted) (get_or wanted i 0 ∷ []) (drop (i + 1) wanted);
  read_is = refl;
}

-- other bytes are there, or fewer
pub other_starts : (a b : Option (List ℕ)) (wanted read : List ℕ) → Consumes a b read → IsOtherThan wanted read → (rest : List ℕ) → a ≢ Some (wanted ++ rest)
other_starts a b wanted read taken h rest e =
    let l = left_of a b read (wanted ++ rest) taken e in
    let f = append_cancel_left h.same (h.right ∷ (h.rest ++ rest)) (h.byte ∷ l.0)
    (sym (ap (λ bs. bs ++ rest) h.wanted_is ∙ append_assoc h.same (h.right ∷ h.rest) rest) ∙ l.2 ∙ ap (λ bs. bs ++ l.0) h.read_is ∙ append_assoc h.same (h.byte ∷ []) l.0) in
    h.other cc

pub fewer_start : (a b : Option (List ℕ)) (wanted : List ℕ) (i : ℕ) → i < length wanted → Consumes a b (take i wanted) → IsAtEnd b → (rest : List ℕ) → a ≢ Some (wanted ++ rest)
fewer_start a b wanted i within taken end rest e =
    let h = cut_more wanted (take i wanted) rest (cut_at wanted i within) in
    h.some (subst IsAtEnd (after_same a b (take i wanted) h.missing taken (e ∙ ap (λ bs. Some bs) h.is)) end)

-- the input ends there
pub ended_at : (wanted : List ℕ) (fault : Fault) (i : ℕ) → i < length wanted → (found : Fault) (read : List ℕ) → (found ≡ faults.CutShort) × (read ≡ []) → IsNot wanted fault found (take i wanted ++ read)
ended_at wanted fault i within found read h =
    inl (h.0, subst (λ bytes. IsCutOf wanted (take i wanted ++ bytes)) (sym h.1) (subst (IsCutOf wanted) (sym (append-nil (take i wanted))) (cut_at wanted i within)))

-- ---- a number

below_none : (more : ℕ) → FitsBelow more 0
unfolding FitsBelow
below_none zero = omega arith
below_none (suc more) = below_none more

below_one : (more : ℕ) → FitsBelow more 1
unfolding FitsBelow
below_one zero = omega arith
below_one (suc more) = below_none more

below_more : (more n : ℕ) → FitsBelow more (n / 128) → FitsBelow (suc more) n
unfolding FitsBelow
below_more more n h = h

pub below_all : (n : ℕ) → FitsBelow 9 n → n < 2 ^ 64
unfolding FitsBelow
below_all n h = omega arith

pub cut_none : (more : ℕ) → IsCutWithin more []
cut_none more = record { number = 1; some = omega arith; fits = below_one more; is = within_small more 1 (omega arith) }

cut_byte : (more byte : ℕ) (read : List ℕ) → 128 ≤ byte → byte < 256 → IsCutWithin more read → IsCutWithin (suc more) (byte ∷ read)
cut_byte more byte read large small h =
    let e : (h.number * 128 + (byte - 128)) / 128 ≡ h.number = omega arith in
    let b : 128 + (byte - 128) ≡ byte = omega arith in
    record {
      number = h.number * 128 + (byte - 128);
      some = let some = h.some in omega arith;
      fits = below_more more _ (subst (FitsBelow more) (sym e) h.fits);
      is = within_joined more (byte - 128) h.number h.some (omega arith) ∙ ap₂ (λ x xs. x ∷ xs) b h.is;
    }

-- whatever bytes follow, no number comes first that has at most so many bytes after the first
abbrev pub IsNone : ℕ → List ℕ → Type 0
IsNone more read = (others : List ℕ) (n : ℕ) (rest : List ℕ) → FitsWithin more n → n < 2 ^ 64 → read ++ others ≢ number_within more n ++ rest

pub last_none : (more byte : ℕ) → more ≡ 0 → 128 ≤ byte → IsNone more (byte ∷ [])
last_none more byte none large others n rest fits small e = is_last (Some (byte ∷ others)) (Some others) more byte none large refl n rest fits small (ap (λ bs. Some bs) e)

high_none : (more byte : ℕ) (read : List ℕ) → 128 ≤ byte → IsNone more read → IsNone (suc more) (byte ∷ read)
high_none more byte read large none others n rest fits small e =
    none_high (Some (byte ∷ (read ++ others))) (Some (read ++ others)) more byte large refl
    (λ m left fits_m small_m f. none others m left fits_m small_m (some_same f)) n rest fits small (ap (λ bs. Some bs) e)
  where
    some_same : {xs ys : List ℕ} → Some xs ≡ Some ys → xs ≡ ys
    some_same f = cc

pub wrong_none : (more byte high : ℕ) → 128 ≤ byte → ((high ≡ 0) ⊎ (2 ^ 57 ≤ high)) → IsNone (suc more) (byte ∷ number_within more high)
wrong_none more byte high large wrong others n rest fits small e =
    wrong_high (Some (byte ∷ (number_within more high ++ others))) (Some (number_within more high ++ others)) (Some others) more byte high large refl refl wrong n rest fits small (ap (λ bs. Some bs) e)

pub within_more : (more byte : ℕ) → 128 ≤ byte → byte < 256 → (fault : Fault) (read : List ℕ) → WithinFault more fault read → WithinFault (suc more) fault (byte ∷ read)
within_more more byte large small faults.CutShort read h = cut_byte more byte read large small h
within_more more byte large small faults.BadNumber read h = high_none more byte read large h
within_more more byte large small faults.NotASnapshot read h = h
within_more more byte large small (faults.UnknownVersion v) read h = h
within_more more byte large small faults.OutOfOrder read h = h
within_more more byte large small faults.BadEntry read h = h
within_more more byte large small faults.WrongChecksum read h = h
within_more more byte large small faults.TrailingBytes read h = h

cut_number : (read : List ℕ) → IsCutWithin 9 read → IsCutNumber read
cut_number read h = record { number = h.number; fits = below_all h.number h.fits; cut = record { missing = 1 ∷ []; some = λ e. cc; is = h.is } }

pub within_number : (fault : Fault) (read : List ℕ) → WithinFault 9 fault read → NumberFault fault read
within_number faults.CutShort read h = cut_number read h
within_number faults.BadNumber read h = λ more n rest small e. h more n rest (fits_within n small) small e
within_number faults.NotASnapshot read h = h
within_number (faults.UnknownVersion v) read h = h
within_number faults.OutOfOrder read h = h
within_number faults.BadEntry read h = h
within_number faults.WrongChecksum read h = h
within_number faults.TrailingBytes read h = h

-- ---- bytes after their number

abbrev zeros : ℕ → List ℕ
zeros n = replicate n 0

length_zeros : (n : ℕ) → length (zeros n) ≡ n
length_zeros n = length-replicate {A = ℕ} n 0

-- a number is that of as many zeros
sized_zeros : (n : ℕ) → sized (zeros n) ≡ number_bytes n ++ zeros n
sized_zeros n = ap (λ len. number_bytes len ++ zeros n) (length_zeros n)

pub number_sized : (fault : Fault) (read : List ℕ) → NumberFault fault read → SizedFault fault read
number_sized faults.CutShort read h = record {
  bytes = zeros h.number;
  fits = let fits = h.fits in omega (arith, length_zeros h.number);
  cut = subst (λ whole. IsCutOf whole read) (sym (sized_zeros h.number)) (cut_more (number_bytes h.number) read (zeros h.number) h.cut);
}
number_sized faults.BadNumber read h = h
number_sized faults.NotASnapshot read h = h
number_sized (faults.UnknownVersion v) read h = h
number_sized faults.OutOfOrder read h = h
number_sized faults.BadEntry read h = h
number_sized faults.WrongChecksum read h = h
number_sized faults.TrailingBytes read h = h

-- fewer bytes than the number says
few_cut : (len : ℕ) (read : List ℕ) → len < 2 ^ 64 → length read < len → IsCutSized (number_bytes len ++ read)
few_cut len read small few =
    let all : length (read ++ zeros (len - length read)) ≡ len = omega (arith, length-append read (zeros (len - length read)), length_zeros (len - length read)) in
    record {
      bytes = read ++ zeros (len - length read);
      fits = omega arith;
      cut = record {
        missing = zeros (len - length read);
        some = λ none. let n : length (zeros (len - length read)) ≡ 0 = ap length none in omega (arith, length_zeros (len - length read));
        is = ap (λ n. number_bytes n ++ (read ++ zeros (len - length read))) all ∙ sym (append_assoc (number_bytes len) read (zeros (len - length read)));
      };
    }

pub few_sized : (len : ℕ) → len < 2 ^ 64 → (fault : Fault) (read : List ℕ) → (fault ≡ faults.CutShort) × (length read < len) → SizedFault fault (number_bytes len ++ read)
few_sized len small fault read h = subst (λ f. SizedFault f (number_bytes len ++ read)) (sym h.0) (few_cut len read small h.1)

-- ---- an entry

parts_then : (shared : ℕ) (others value : List ℕ) → (number_bytes shared ++ sized others) ++ sized value ≡ parts shared others value
parts_then shared others value = append_assoc (number_bytes shared) (sized others) (sized value)

pub number_entry : (is_first : Bool) (before : List ℕ) (fault : Fault) (read : List ℕ) → NumberFault fault read → EntryFault is_first before fault read
number_entry is_first before faults.CutShort read h = record {
  shared = h.number;
  others = [];
  value = [];
  fits = (h.fits, omega arith, omega arith);
  cut = cut_more (number_bytes h.number) read (sized [] ++ sized []) h.cut;
}
number_entry is_first before faults.BadNumber read h = record { before = []; bad = read; read_is = refl; at_number = first; none = h }
number_entry is_first before faults.NotASnapshot read h = h
number_entry is_first before (faults.UnknownVersion v) read h = h
number_entry is_first before faults.OutOfOrder read h = absurd h
number_entry is_first before faults.BadEntry read h = h
number_entry is_first before faults.WrongChecksum read h = h
number_entry is_first before faults.TrailingBytes read h = h

pub others_entry : (is_first : Bool) (before : List ℕ) (shared : ℕ) → shared < 2 ^ 64 → (fault : Fault) (read : List ℕ) → SizedFault fault read → EntryFault is_first before fault (number_bytes shared ++ read)
others_entry is_first before shared small faults.CutShort read h = record {
  shared = shared;
  others = h.bytes;
  value = [];
  fits = (small, h.fits, omega arith);
  cut = cut_after (number_bytes shared) (sized h.bytes ++ sized []) read (cut_more (sized h.bytes) read (sized []) h.cut);
}
others_entry is_first before shared small faults.BadNumber read h = record { before = number_bytes shared; bad = read; read_is = refl; at_number = second shared; none = h }
others_entry is_first before shared small faults.NotASnapshot read h = h
others_entry is_first before shared small (faults.UnknownVersion v) read h = h
others_entry is_first before shared small faults.OutOfOrder read h = absurd h
others_entry is_first before shared small faults.BadEntry read h = h
others_entry is_first before shared small faults.WrongChecksum read h = h
others_entry is_first before shared small faults.TrailingBytes read h = h

value_cut : (shared : ℕ) (others : List ℕ) → shared < 2 ^ 64 → length others < 2 ^ 64 → (read : List ℕ) → IsCutSized read → IsCutEntry ((number_bytes shared ++ sized others) ++ read)
value_cut shared others small fits read h = record {
  shared = shared;
  others = others;
  value = h.bytes;
  fits = (small, fits, h.fits);
  cut = subst (λ whole. IsCutOf whole ((number_bytes shared ++ sized others) ++ read)) (parts_then shared others h.bytes) (cut_after (number_bytes shared ++ sized others) (sized h.bytes) read h.cut);
}

pub value_entry : (is_first : Bool) (before last key : List ℕ) → length last < 2 ^ 64 → length key < 2 ^ 64 → (fault : Fault) (read : List ℕ) → SizedFault fault read →
    EntryFault is_first before fault (key_bytes last key ++ read)
value_entry is_first before last key small fits faults.CutShort read h =
    value_cut (shared_len last key) (drop (shared_len last key) key) (omega (arith, shared_within last key)) (omega (arith, length-drop (shared_len last key) key)) read h
value_entry is_first before last key small fits faults.BadNumber read h = record {
  before = key_bytes last key;
  bad = read;
  read_is = refl;
  at_number = third (shared_len last key) (drop (shared_len last key) key);
  none = h;
}
value_entry is_first before last key small fits faults.NotASnapshot read h = h
value_entry is_first before last key small fits (faults.UnknownVersion v) read h = h
value_entry is_first before last key small fits faults.OutOfOrder read h = absurd h
value_entry is_first before last key small fits faults.BadEntry read h = h
value_entry is_first before last key small fits faults.WrongChecksum read h = h
value_entry is_first before last key small fits faults.TrailingBytes read h = h

-- a key that is not after the one before it, or shares more
pub misplaced : (is_first : Bool) (before others : List ℕ) (shared : ℕ) → shared ≤ length before → is_next is_first (slice_get before shared) others ≡ false →
    IsMisplaced is_first before (number_bytes shared ++ sized others)
misplaced true before others shared within low = absurd cc
misplaced false before others shared within low = record {
  shared = shared;
  others = others;
  read_is = refl;
  wrong = λ after same.
      let key = take shared before ++ others in
      let up = after_is_above before key after in
      let rest : drop (shared_len before key) key ≡ others = ap (λ n. drop n key) same ∙ drop_at (take shared before) others shared (length-take-le shared before within) in
      let byte : slice_get before (shared_len before key) ≡ slice_get before shared = ap (slice_get before) same in
      let f : true ≡ false = sym up ∙ ap₂ is_above byte rest ∙ low in cc;
}
