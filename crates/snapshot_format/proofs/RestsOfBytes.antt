-- What is left of known bytes once a part of them was read.
use Rattle.std.proofs.Common.{◌≡◌, ◌≢◌, ℕ, ◌-◌, ◌<◌, ◌≤◌, ◌^◌, Bool, true, false, List, [], ◌∷◌, ◌++◌, length, length-append, take, drop, Option, Some, None, refl, ap, ap₂, sym, ◌∙◌, append_assoc, append-nil, arith}
use Rattle.std.proofs.lemmas.List.{append_cancel_left, drop_at, length-drop, length-take-le, take_all}
use Rattle.std.specs.List.{AllByRecursion as Each, slice_get}
use Rattle.std.specs.Io.KnownBytes.{Consumes, IsAtEnd}
use Rattle.snapshot_format.specs.Numbers.{number_bytes}
use Rattle.snapshot_format.specs.Snapshots.{Entry, FitsEntry, IsAfter, IsNext, IsRising, Rise, entries_bytes, entry_bytes, is_none, key_bytes, last_key, shared_len, sized}
use Rattle.snapshot_format.specs.Reading.{is_above, is_next}
use Rattle.snapshot_format.proofs.Known.{left_of}
use Rattle.snapshot_format.proofs.Numbers.{one_form, same_split}
use Rattle.snapshot_format.proofs.SharedKeys.{above_is_after, after_is_above, shared_rest, shared_within}

some_is : (a : Option (List ℕ)) (xs ys : List ℕ) → a ≡ Some xs → xs ≡ ys → a ≡ Some ys
some_is a xs ys e f = e ∙ ap (λ bs. Some bs) f

pub after_same : (a b : Option (List ℕ)) (xs tail : List ℕ) → Consumes a b xs → a ≡ Some (xs ++ tail) → b ≡ Some tail
after_same a b xs tail read e =
    let l = left_of a b xs (xs ++ tail) read e in
    some_is b l.0 tail l.1 (append_cancel_left xs l.0 tail (sym l.2))

pub after_first : (a b : Option (List ℕ)) (x y : ℕ) (tail : List ℕ) → Consumes a b (x ∷ []) → a ≡ Some (y ∷ tail) → (x ≡ y) × (b ≡ Some tail)
after_first a b x y tail read e =
    let l = left_of a b (x ∷ []) (y ∷ tail) read e in
    let f : y ∷ tail ≡ x ∷ l.0 = l.2 in
    let same : l.0 ≡ tail = cc in
    (cc, some_is b l.0 tail l.1 same)

pub not_at_end : (a : Option (List ℕ)) (x : ℕ) (tail : List ℕ) → IsAtEnd a → a ≢ Some (x ∷ tail)
not_at_end None x tail end e = cc
not_at_end (Some xs) x tail end e = let f : xs ≡ x ∷ tail = cc in let g : x ∷ tail ≡ [] = sym f ∙ end in cc

after_number : (a b : Option (List ℕ)) (m n : ℕ) (tail : List ℕ) → Consumes a b (number_bytes m) → a ≡ Some (number_bytes n ++ tail) → (n ≡ m) × (b ≡ Some tail)
after_number a b m n tail read e =
    let l = left_of a b (number_bytes m) (number_bytes n ++ tail) read e in
    let s = one_form 9 n m tail l.0 l.2 in
    (s.0, some_is b l.0 tail l.1 (sym s.1))

sized_split : (bytes other x y : List ℕ) → sized bytes ++ x ≡ sized other ++ y → (bytes ≡ other) × (x ≡ y)
sized_split bytes other x y e =
    let all : number_bytes (length bytes) ++ (bytes ++ x) ≡ number_bytes (length other) ++ (other ++ y) =
    sym (append_assoc (number_bytes (length bytes)) bytes x) ∙ e ∙ append_assoc (number_bytes (length other)) other y in
    let s = one_form 9 (length bytes) (length other) (bytes ++ x) (other ++ y) all in
    same_split bytes other x y s.0 s.1

after_sized : (a b : Option (List ℕ)) (bytes other tail : List ℕ) → Consumes a b (sized bytes) → a ≡ Some (sized other ++ tail) → (other ≡ bytes) × (b ≡ Some tail)
after_sized a b bytes other tail read e =
    let l = left_of a b (sized bytes) (sized other ++ tail) read e in
    let s = sized_split other bytes tail l.0 l.2 in
    (s.0, some_is b l.0 tail l.1 (sym s.1))

-- ---- a key

key_then : (before key tail : List ℕ) → key_bytes before key ++ tail ≡ number_bytes (shared_len before key) ++ (sized (drop (shared_len before key) key) ++ tail)
key_then before key tail = append_assoc (number_bytes (shared_len before key)) (sized (drop (shared_len before key) key)) tail

-- it has no number of bytes that it shares
pub no_number_key : (a : Option (List ℕ)) (before : List ℕ) → ((n : ℕ) (rest : List ℕ) → n < 2 ^ 64 → a ≢ Some (number_bytes n ++ rest)) → length before < 2 ^ 64 → (key tail : List ℕ) → a ≢ Some (key_bytes before key ++ tail)
no_number_key a before none small key tail e =
    none (shared_len before key) (sized (drop (shared_len before key) key) ++ tail) (omega (arith, shared_within before key)) (some_is a _ _ e (key_then before key tail))

-- it shares more than there is
pub shares_less : (a b : Option (List ℕ)) (before : List ℕ) (shared : ℕ) → Consumes a b (number_bytes shared) → length before < shared → (key tail : List ℕ) → a ≢ Some (key_bytes before key ++ tail)
shares_less a b before shared read more key tail e =
    let s = after_number a b shared (shared_len before key) (sized (drop (shared_len before key) key) ++ tail) read (some_is a _ _ e (key_then before key tail)) in
    let n = s.0 in
    let w = shared_within before key in
    omega arith

-- its other bytes are not there
pub no_rest : (a b : Option (List ℕ)) (before : List ℕ) (shared : ℕ) → Consumes a b (number_bytes shared) →
    ((bytes rest : List ℕ) → length bytes < 2 ^ 64 → b ≢ Some (sized bytes ++ rest)) → (key tail : List ℕ) → length key < 2 ^ 64 → a ≢ Some (key_bytes before key ++ tail)
no_rest a b before shared read none key tail small e =
    let s = after_number a b shared (shared_len before key) (sized (drop (shared_len before key) key) ++ tail) read (some_is a _ _ e (key_then before key tail)) in
    none (drop (shared_len before key) key) tail (omega (arith, length-drop (shared_len before key) key)) s.1

-- they don't put it after the key before it
pub not_above : (a b c : Option (List ℕ)) (before bytes : List ℕ) (is_first : Bool) (shared : ℕ) → Consumes a b (number_bytes shared) → Consumes b c (sized bytes) →
    is_next is_first (slice_get before shared) bytes ≡ false → (key tail : List ℕ) → IsAfter is_first before key → a ≢ Some (key_bytes before key ++ tail)
not_above a b c before bytes true shared read read_rest low key tail after e = cc
not_above a b c before bytes false shared read read_rest low key tail after e =
    let s = after_number a b shared (shared_len before key) (sized (drop (shared_len before key) key) ++ tail) read (some_is a _ _ e (key_then before key tail)) in
    let r = after_sized b c bytes (drop (shared_len before key) key) tail read_rest s.1 in
    let up = after_is_above before key after in
    let same : is_above (slice_get before (shared_len before key)) (drop (shared_len before key) key) ≡ is_above (slice_get before shared) bytes = rw (r.0, s.0) refl in
    let f : true ≡ false = sym up ∙ same ∙ low in
    cc

-- the other bytes of what was read
rest_is : (before bytes key : List ℕ) (shared : ℕ) → shared ≤ length before → key ≡ take shared before ++ bytes → take (length key - shared) (drop shared key) ≡ bytes
rest_is before bytes key shared within e =
    let l : length (take shared before) ≡ shared = length-take-le shared before within in
    let d : drop shared key ≡ bytes = ap (drop shared) e ∙ drop_at (take shared before) bytes shared l in
    let n : length key ≡ length (take shared before ++ bytes) = ap length e in
    rw d (take_all (length key - shared) bytes (omega (arith, length-append (take shared before) bytes)))

-- a key has the bytes that it shares
pub shares_within : (before bytes part key rest : List ℕ) (shared : ℕ) → shared ≤ length before → part ≡ take shared before → key ≡ part ++ bytes → rest ≡ key → shared ≤ length rest
shares_within before bytes part key rest shared within part_is key_is rest_is_key =
    omega (arith, ap length rest_is_key, ap length key_is, length-append part bytes, ap length part_is, length-take-le shared before within)

-- what was appended to a part of the key before it, and what the test of its order was of
pub tested : (is_first : Bool) (before bytes part key shown rest : List ℕ) (byte : Option ℕ) (shared : ℕ) (result answer : Bool) → shared ≤ length before →
    part ≡ take shared before → key ≡ part ++ bytes → shown ≡ before → byte ≡ slice_get shown shared → rest ≡ key →
    result ≡ is_next is_first byte (take (length rest - shared) (drop shared rest)) → result ≡ answer →
    (key ≡ take shared before ++ bytes) × (is_next is_first (slice_get before shared) bytes ≡ answer)
tested is_first before bytes part key shown rest byte shared result answer within part_is key_is shown_is byte_is rest_is_key result_is is =
    let whole : key ≡ take shared before ++ bytes = key_is ∙ ap (λ bs. bs ++ bytes) part_is in
    let others : take (length rest - shared) (drop shared rest) ≡ bytes =
    ap (λ bs. take (length bs - shared) (drop shared bs)) rest_is_key ∙ rest_is before bytes key shared within whole in
    (whole, sym (ap₂ (is_next is_first) (byte_is ∙ ap (λ bs. slice_get bs shared) shown_is) others) ∙ sym result_is ∙ is)

-- what was read is its bytes
pub key_is : (is_first : Bool) (before bytes : List ℕ) (shared : ℕ) → shared ≤ length before → (is_first ≡ true → before ≡ []) → is_next is_first (slice_get before shared) bytes ≡ true →
    (number_bytes shared ++ sized bytes ≡ key_bytes before (take shared before ++ bytes)) × IsAfter is_first before (take shared before ++ bytes)
unfolding shared_len
key_is true before bytes shared within none above =
    let e : before ≡ [] = none refl in
    let n : shared ≡ 0 = omega (arith, ap length e) in
    rw (n, e) (refl, tt)
key_is false before bytes shared within none above =
    let r = above_is_after shared before bytes within above in
    (rw (r.shares, r.rest_is) refl, r.after)

-- ---- an entry

entry_then : (before : List ℕ) (next : Entry) (tail : List ℕ) → entry_bytes before next ++ tail ≡ key_bytes before next.key ++ (sized next.value ++ tail)
entry_then before next tail = append_assoc (key_bytes before next.key) (sized next.value) tail

-- no key is there
pub no_key : (a : Option (List ℕ)) (before : List ℕ) (is_first : Bool) →
    ((key rest : List ℕ) → length key < 2 ^ 64 → IsAfter is_first before key → a ≢ Some (key_bytes before key ++ rest)) →
    (next : Entry) (tail : List ℕ) → FitsEntry next → IsAfter is_first before next.key → a ≢ Some (entry_bytes before next ++ tail)
no_key a before is_first none next tail fits after e = none next.key (sized next.value ++ tail) fits.key after (some_is a _ _ e (entry_then before next tail))

-- no key starts another one
key_split : (before key other x y : List ℕ) → key_bytes before key ++ x ≡ key_bytes before other ++ y → (key ≡ other) × (x ≡ y)
key_split before key other x y e =
    let all : number_bytes (shared_len before key) ++ (sized (drop (shared_len before key) key) ++ x) ≡ number_bytes (shared_len before other) ++ (sized (drop (shared_len before other) other) ++ y) =
    sym (key_then before key x) ∙ e ∙ key_then before other y in
    let s = one_form 9 (shared_len before key) (shared_len before other) (sized (drop (shared_len before key) key) ++ x) (sized (drop (shared_len before other) other) ++ y) all in
    let r = sized_split (drop (shared_len before key) key) (drop (shared_len before other) other) x y s.1 in
    (sym (shared_rest before key) ∙ ap₂ (λ n bytes. take n before ++ bytes) s.0 r.0 ∙ shared_rest before other, r.1)

-- what is left after a key
after_key : (a b : Option (List ℕ)) (before key other tail : List ℕ) → Consumes a b (key_bytes before key) → a ≡ Some (key_bytes before other ++ tail) → (other ≡ key) × (b ≡ Some tail)
after_key a b before key other tail read e =
    let l = left_of a b (key_bytes before key) (key_bytes before other ++ tail) read e in
    let s = key_split before other key tail l.0 l.2 in
    (s.0, some_is b l.0 tail l.1 (sym s.1))

-- no entry starts another one
entry_split : (before : List ℕ) (one other : Entry) (x y : List ℕ) → entry_bytes before one ++ x ≡ entry_bytes before other ++ y → (one ≡ other) × (x ≡ y)
entry_split before one other x y e =
    let s = key_split before one.key other.key (sized one.value ++ x) (sized other.value ++ y) (sym (entry_then before one x) ∙ e ∙ entry_then before other y) in
    let r = sized_split one.value other.value x y s.1 in
    (ap₂ (λ key value. record { key = key; value = value }) s.0 r.0, r.1)

-- no value is there
pub no_value : (a b : Option (List ℕ)) (before key : List ℕ) (is_first : Bool) → Consumes a b (key_bytes before key) →
    ((bytes rest : List ℕ) → length bytes < 2 ^ 64 → b ≢ Some (sized bytes ++ rest)) →
    (next : Entry) (tail : List ℕ) → FitsEntry next → IsAfter is_first before next.key → a ≢ Some (entry_bytes before next ++ tail)
no_value a b before key is_first read none next tail fits after e =
    none next.value tail fits.value (after_key a b before key next.key (sized next.value ++ tail) read (some_is a _ _ e (entry_then before next tail))).1

pub after_entry : (a b : Option (List ℕ)) (before : List ℕ) (one other : Entry) (tail : List ℕ) → Consumes a b (entry_bytes before one) → a ≡ Some (entry_bytes before other ++ tail) → (other ≡ one) × (b ≡ Some tail)
after_entry a b before one other tail read e =
    let l = left_of a b (entry_bytes before one) (entry_bytes before other ++ tail) read e in
    let r = entry_split before other one tail l.0 l.2 in
    (r.0, some_is b l.0 tail l.1 (sym r.1))

-- ---- entries

pub entries_more : (before : List ℕ) (done : List Entry) (one : Entry) → entries_bytes before (done ++ one ∷ []) ≡ entries_bytes before done ++ entry_bytes (last_key before done) one
unfolding entries_bytes last_key
entries_more before [] one = append-nil (entry_bytes before one)
entries_more before (z ∷ done) one = ap (λ bs. entry_bytes before z ++ bs) (entries_more z.key done one) ∙ sym (append_assoc (entry_bytes before z) (entries_bytes z.key done) (entry_bytes (last_key z.key done) one))

pub last_more : (before : List ℕ) (done : List Entry) (one : Entry) → last_key before (done ++ one ∷ []) ≡ one.key
unfolding last_key
last_more before [] one = refl
last_more before (z ∷ done) one = last_more z.key done one

rise_more : (before : List ℕ) (done : List Entry) (one : Entry) → Rise false before done → IsAfter false (last_key before done) one.key → Rise false before (done ++ one ∷ [])
unfolding Rise last_key
rise_more before [] one rise after = (after, tt)
rise_more before (z ∷ done) one rise after = (rise.0, rise_more z.key done one rise.1 after)

pub rising_more : (done : List Entry) (one : Entry) → IsRising done → IsNext done one.key → IsRising (done ++ one ∷ [])
unfolding Rise last_key is_none
rising_more [] one rise after = (tt, tt)
rising_more (z ∷ done) one rise after = (tt, rise_more z.key done one rise.1 after)

rise_next : (before : List ℕ) (done : List Entry) (one : Entry) (more : List Entry) → Rise false before (done ++ one ∷ more) → IsAfter false (last_key before done) one.key
unfolding Rise last_key
rise_next before [] one more rise = rise.0
rise_next before (z ∷ done) one more rise = rise_next z.key done one more rise.1

pub rising_next : (done : List Entry) (one : Entry) (more : List Entry) → IsRising (done ++ one ∷ more) → IsNext done one.key
unfolding Rise last_key is_none
rising_next [] one more rise = tt
rising_next (z ∷ done) one more rise = rise_next z.key done one more rise.1

pub each_middle : (P : Entry → Type 0) (done : List Entry) (one : Entry) (more : List Entry) → Each P (done ++ one ∷ more) → P one
each_middle P [] one more each = each.0
each_middle P (z ∷ done) one more each = each_middle P done one more each.1

pub each_more : (P : Entry → Type 0) (done : List Entry) (one : Entry) → Each P done → P one → Each P (done ++ one ∷ [])
each_more P [] one each last = (last, tt)
each_more P (z ∷ done) one each last = (each.0, each_more P done one each.1 last)

pub entries_split : (before : List ℕ) (done others : List Entry) (x y : List ℕ) → length done ≤ length others → entries_bytes before done ++ x ≡ entries_bytes before others ++ y →
    (more : List Entry) × (others ≡ done ++ more) × (x ≡ entries_bytes (last_key before done) more ++ y)
unfolding entries_bytes last_key
entries_split before [] others x y le e = (others, refl, e)
entries_split before (one ∷ done) [] x y le e = absurd (omega arith)
entries_split before (one ∷ done) (other ∷ others) x y le e =
    let f : entry_bytes before one ++ (entries_bytes one.key done ++ x) ≡ entry_bytes before other ++ (entries_bytes other.key others ++ y) =
    sym (append_assoc (entry_bytes before one) (entries_bytes one.key done) x) ∙ e ∙ append_assoc (entry_bytes before other) (entries_bytes other.key others) y in
    let s = entry_split before one other (entries_bytes one.key done ++ x) (entries_bytes other.key others ++ y) f in
    let t : entries_bytes one.key done ++ x ≡ entries_bytes one.key others ++ y = s.1 ∙ ap (λ (z : Entry). entries_bytes z.key others ++ y) (sym s.0) in
    let r = entries_split one.key done others x y (omega arith) t in
    (r.0, ap₂ (λ z zs. z ∷ zs) (sym s.0) r.1, r.2)

-- the next one of those that are left
pub next_of : (done entries : List Entry) (x y : List ℕ) → length done < length entries → entries_bytes [] done ++ x ≡ entries_bytes [] entries ++ y →
    (one : Entry) × (more : List Entry) × (entries ≡ done ++ one ∷ more) × (tail : List ℕ) × (x ≡ entry_bytes (last_key [] done) one ++ tail)
unfolding entries_bytes
next_of done entries x y lt e = by (entries_split [] done entries x y (omega arith) e)
  where
    by : (more : List Entry) × (entries ≡ done ++ more) × (x ≡ entries_bytes (last_key [] done) more ++ y) →
        (one : Entry) × (more : List Entry) × (entries ≡ done ++ one ∷ more) × (tail : List ℕ) × (x ≡ entry_bytes (last_key [] done) one ++ tail)
    by ([], is, left) = let l : length entries ≡ length (done ++ []) = ap length is in absurd (omega (arith, length-append {A = Entry} done []))
    by (one ∷ more, is, left) = (one, more, is, entries_bytes one.key more ++ y, left ∙ append_assoc (entry_bytes (last_key [] done) one) (entries_bytes one.key more) y)
