-- Bytes that are read one after another.
use Rattle.std.proofs.Common.{◌≡◌, ◌≢◌, ℕ, ◌+◌, ◌-◌, ◌<◌, ◌≤◌, ◌^◌, List, [], ◌++◌, length, length-append, Option, Some, None, IfSome, refl, ap, sym, ◌∙◌, subst, append_assoc, append-nil, arith}
use Rattle.std.specs.Io.KnownBytes.{Consumes}
use Rattle.std.specs.Io.Iter.{u64_saturate}
use Rattle.snapshot_format.specs.declared.source.Source.{Source}
use Rattle.snapshot_format.specs.Numbers.{number_bytes}
use Rattle.snapshot_format.specs.Snapshots.{entry, entry_bytes, key_bytes, sized}
use Rattle.snapshot_format.specs.Reading.{Appended, AppendedSized, Reads}
use Rattle.snapshot_format.proofs.Numbers.{one_form}

consumes_none : (a : Option (List ℕ)) → Consumes a a []
consumes_none None = tt
consumes_none (Some p) = refl

pub consumes_more : (a b c : Option (List ℕ)) (xs ys : List ℕ) → Consumes a b xs → Consumes b c ys → Consumes a c (xs ++ ys)
consumes_more None b c xs ys h k = tt
consumes_more (Some p) None c xs ys h k = absurd h
consumes_more (Some p) (Some q) None xs ys h k = absurd k
consumes_more (Some p) (Some q) (Some r) xs ys h k = h ∙ ap (λ bs. xs ++ bs) k ∙ sym (append_assoc xs ys r)

-- what is left of known bytes
pub left_of : (a b : Option (List ℕ)) (xs all : List ℕ) → Consumes a b xs → a ≡ Some all → (rest : List ℕ) × (b ≡ Some rest) × (all ≡ xs ++ rest)
left_of None b xs all h e = absurd cc
left_of (Some p) None xs all h e = absurd h
left_of (Some p) (Some q) xs all h e = let same : p ≡ all = cc in (q, refl, sym same ∙ h)

pub saturate_more : (at a b : ℕ) → u64_saturate (u64_saturate (at + a) + b) ≡ u64_saturate (at + (a + b))
saturate_more at a b = omega arith

module _ {R : Type 0} (left : R → Option (List ℕ)) where
  pub reads_more : (a b c : Source R) (xs ys : List ℕ) → Reads left a b xs → Reads left b c ys → Reads left a c (xs ++ ys)
  reads_more a b c xs ys h k = record {
    taken = consumes_more (left a.input) (left b.input) (left c.input) xs ys h.taken k.taken;
    held = λ m of_m. rw (← append_assoc m xs ys) (k.held (m ++ xs) (h.held m of_m));
    counted = k.counted ∙ ap (λ n. u64_saturate (n + length ys)) h.counted ∙ saturate_more a.at (length xs) (length ys)
        ∙ ap (λ n. u64_saturate (a.at + n)) (sym (length-append xs ys));
  }

  pub reads_none : (a : Source R) → a.at < 2 ^ 64 → Reads left a a []
  reads_none a small = record {
    taken = consumes_none (left a.input);
    held = λ m of_m. rw append-nil of_m;
    counted = omega arith;
  }

  -- bytes were read after their number
  pub sized_read : (a b c : Source R) (before after : List ℕ) (len : ℕ) → Reads left a b (number_bytes len) → Appended left b c before after len → AppendedSized left a c before after
  sized_read a b c before after len number h = record { bytes = h.bytes; items = h.items; reads = rw h.count (reads_more a b c (number_bytes len) h.bytes number h.reads) }

  -- some of the bytes were appended, and then more of them
  pub append_more : (a b c : Source R) (before now after bytes : List ℕ) (len rest n : ℕ) → rest ≤ len → n ≤ rest → length bytes ≡ n → after ≡ now ++ bytes →
      Appended left a b before now (len - rest) → Reads left b c bytes → (rest - n ≤ len) × Appended left a c before after (len - (rest - n))
  append_more a b c before now after bytes len rest n within part size is h more = (
    omega arith,
    record {
      bytes = h.bytes ++ bytes;
      count = let count = h.count in omega (arith, length-append h.bytes bytes);
      items = is ∙ ap (λ bs. bs ++ bytes) h.items ∙ append_assoc before h.bytes bytes;
      reads = reads_more a b c h.bytes bytes h.reads more;
    },
  )

  -- a key, and then a value in place of the one before it
  pub entry_read : (a b c : Source R) (before key none value : List ℕ) → none ≡ [] → Reads left a b (key_bytes before key) → AppendedSized left b c none value → Reads left a c (entry_bytes before (entry key value))
  entry_read a b c before key none value is read h =
      let same : value ≡ h.bytes = h.items ∙ ap (λ bs. bs ++ h.bytes) is in rw same (reads_more a b c (key_bytes before key) (sized h.bytes) read h.reads)

-- since no number comes first
pub no_sized : (a : Option (List ℕ)) → ((n : ℕ) (rest : List ℕ) → n < 2 ^ 64 → a ≢ Some (number_bytes n ++ rest)) → (bytes rest : List ℕ) → length bytes < 2 ^ 64 → a ≢ Some (sized bytes ++ rest)
no_sized a none bytes rest small e = none (length bytes) (bytes ++ rest) small (e ∙ ap (λ bs. Some bs) (append_assoc (number_bytes (length bytes)) bytes rest))

-- or since fewer bytes follow
pub few_sized : (a b : Option (List ℕ)) (len : ℕ) → Consumes a b (number_bytes len) → IfSome b (λ left. length left < len) → (bytes rest : List ℕ) → length bytes < 2 ^ 64 → a ≢ Some (sized bytes ++ rest)
few_sized a b len read few bytes rest small e =
    let l = left_of a b (number_bytes len) (number_bytes (length bytes) ++ (bytes ++ rest)) read (e ∙ ap (λ bs. Some bs) (append_assoc (number_bytes (length bytes)) bytes rest)) in
    let same = one_form 9 (length bytes) len (bytes ++ rest) l.0 l.2 in
    let n : length bytes ≡ len = same.0 in
    let r : length (bytes ++ rest) ≡ length l.0 = ap length same.1 in
    let f : length l.0 < len = subst (λ (o : Option (List ℕ)). IfSome o (λ left. length left < len)) l.1 few in
    omega (arith, length-append bytes rest)
