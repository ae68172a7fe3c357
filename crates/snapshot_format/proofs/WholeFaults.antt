-- Faults of a start, of entries and of a checksum, and of the whole.
use Rattle.std.proofs.Common.{◌≡◌, ◌⊎◌, inl, inr, ℕ, ◌+◌, ◌<◌, Bool, eqb, List, [], ◌∷◌, ◌++◌, length, Option, Some, None, IfSome, refl, ap, sym, subst, ◌∙◌, arith}
use Rattle.std.specs.List.{AllByRecursion as Each}
use Rattle.std.specs.Io.Iter.{u64_saturate}
use Rattle.std.specs.Io.KnownBytes.{Consumes, IsAtEnd}
use Rattle.sha2.specs.Sha256.{sha256}
use Rattle.snapshot_format.specs.declared.error.Fault.{Fault}
use Rattle.snapshot_format.specs.declared.error.Fault.TheVariants as faults
use Rattle.snapshot_format.specs.declared.error.Malformed.{Malformed}
use Rattle.snapshot_format.specs.declared.source.Source.{Source}
use Rattle.snapshot_format.specs.Numbers.{number_bytes}
use Rattle.snapshot_format.specs.Reading.{HasTaken, Reads}
use Rattle.snapshot_format.specs.Snapshots.{Entry, IsAfter, IsRising, body_of, entries_bytes, entry_bytes, head_bytes, is_none, last_key, magic}
use Rattle.snapshot_format.specs.Faults.{EntryFault, Finds, HasEntries, HasFault, in_entries, in_tail, HeadFault, IsCutHead, IsCutOf, IsExplained, IsMisplaced, IsNot, NextFault, NumberFault, SharesTooMany, TailFault}
use Rattle.snapshot_format.proofs.Causes.{finds_now}
use Rattle.snapshot_format.proofs.Known.{reads_more}
use Rattle.snapshot_format.proofs.PartFaults.{cut_after, cut_more}
use Rattle.snapshot_format.proofs.Taking.{is_first, is_next}
use Rattle.snapshot_format.proofs.Whole.{body_then}

-- ---- the start

magic_cut : (read : List ℕ) → IsCutOf magic read → IsCutHead read
unfolding head_bytes
magic_cut read h = record { count = 0; fits = omega arith; cut = cut_more magic read (1 ∷ number_bytes 0) h }

pub magic_fault : (fault : Fault) (read : List ℕ) → IsNot magic faults.NotASnapshot fault read → HeadFault fault read
magic_fault fault read (inl h) = subst (λ f. HeadFault f read) (sym h.0) (magic_cut read h.1)
magic_fault fault read (inr h) = subst (λ f. HeadFault f read) (sym h.0) h.1

version_cut : IsCutHead (magic ++ [])
unfolding head_bytes
version_cut = record { count = 0; fits = omega arith; cut = cut_after magic (1 ∷ number_bytes 0) [] (record { missing = 1 ∷ number_bytes 0; some = λ e. cc; is = refl }) }

pub version_fault : (fault : Fault) (read : List ℕ) → (fault ≡ faults.CutShort) × (read ≡ []) → HeadFault fault (magic ++ read)
version_fault fault read h = subst (λ f. HeadFault f (magic ++ read)) (sym h.0) (subst (λ bytes. IsCutHead (magic ++ bytes)) (sym h.1) version_cut)

pub count_fault : (fault : Fault) (read : List ℕ) → NumberFault fault read → HeadFault fault ((magic ++ 1 ∷ []) ++ read)
unfolding head_bytes
count_fault faults.CutShort read h = record { count = h.number; fits = h.fits; cut = cut_after (magic ++ 1 ∷ []) (number_bytes h.number) read h.cut }
count_fault faults.BadNumber read h = (read, refl, h)
count_fault faults.NotASnapshot read h = absurd h
count_fault (faults.UnknownVersion v) read h = absurd h
count_fault faults.OutOfOrder read h = h
count_fault faults.BadEntry read h = h
count_fault faults.WrongChecksum read h = h
count_fault faults.TrailingBytes read h = h

-- ---- entries

next_fault : (takes : Entry → Type 0) (taken : List Entry) (first : Bool) (key : List ℕ) → first ≡ is_none taken → key ≡ last_key [] taken → (fault : Fault) (read : List ℕ) → EntryFault first key fault read →
    NextFault takes fault taken read
next_fault takes taken first key same last faults.BadEntry read h = absurd h
next_fault takes taken first key same last faults.CutShort read h = h
next_fault takes taken first key same last faults.BadNumber read h = h
next_fault takes taken first key same last faults.OutOfOrder read h =
    subst (λ k. SharesTooMany k read ⊎ IsMisplaced (is_none taken) k read) last (subst (λ f. SharesTooMany key read ⊎ IsMisplaced f key read) same h)
next_fault takes taken first key same last faults.NotASnapshot read h = h
next_fault takes taken first key same last (faults.UnknownVersion v) read h = h
next_fault takes taken first key same last faults.WrongChecksum read h = h
next_fault takes taken first key same last faults.TrailingBytes read h = h

module _ {R : Type 0} (left : R → Option (List ℕ)) (takes : Entry → Type 0) where
  -- the entry after those that were taken has a fault
  pub entry_fault : (a b : Source R) (taken : List Entry) (key : List ℕ) (place count : ℕ) → HasTaken left a b takes taken key place → place < count → (fault : Fault) (read : List ℕ) →
      EntryFault (eqb place 0) key fault read → HasEntries takes (NextFault takes fault) count (entries_bytes [] taken ++ read)
  entry_fault a b taken key place count h lt fault read bad = record {
    taken = taken;
    bytes = read;
    fewer = let n = h.counted in omega arith;
    rising = h.rising;
    each = h.each;
    read_is = refl;
    next_is = next_fault takes taken (eqb place 0) key (is_first taken place h.counted) h.last fault read bad;
  }

  -- or can't be taken
  pub taking_fault : (a b c : Source R) (taken : List Entry) (key : List ℕ) (one : Entry) (place count : ℕ) → HasTaken left a b takes taken key place → place < count →
      Reads left b c (entry_bytes key one) → IsAfter (eqb place 0) key one.key → (takes one → ⊥) →
      Finds left a c (λ fault. HasEntries takes (NextFault takes fault) count) (record { at = c.at; fault = faults.BadEntry })
  taking_fault a b c taken key one place count h lt read after bad =
      finds_now left a c (λ fault. HasEntries takes (NextFault takes fault) count) faults.BadEntry (entries_bytes [] taken ++ entry_bytes key one)
      (reads_more left a b c (entries_bytes [] taken) (entry_bytes key one) h.reads read) (λ e. absurd cc) (record {
        taken = taken;
        bytes = entry_bytes key one;
        fewer = let n = h.counted in omega arith;
        rising = h.rising;
        each = h.each;
        read_is = refl;
        next_is = record {
          bad = one;
          read_is = ap (λ k. entry_bytes k one) h.last;
          next = is_next left takes a b taken key one.key place h after;
          not_taken = bad;
        };
      })

-- ---- the checksum

pub sum_fault : (sum : List ℕ) (fault : Fault) (read : List ℕ) → IsNot sum faults.WrongChecksum fault read → TailFault sum fault read
sum_fault sum fault read (inl h) = subst (λ f. TailFault sum f read) (sym h.0) h.1
sum_fault sum fault read (inr h) = subst (λ f. TailFault sum f read) (sym h.0) h.1

trailing : (sum read : List ℕ) → length read ≡ 1 → TailFault sum faults.TrailingBytes (sum ++ read)
trailing sum [] e = absurd (omega arith)
trailing sum (byte ∷ []) e = (byte, refl)
trailing sum (byte ∷ other ∷ read) e = absurd (omega arith)

pub trailing_fault : (sum : List ℕ) (fault : Fault) (read : List ℕ) → (fault ≡ faults.TrailingBytes) × (length read ≡ 1) → TailFault sum fault (sum ++ read)
trailing_fault sum fault read h = subst (λ f. TailFault sum f (sum ++ read)) (sym h.0) (trailing sum read h.1)

-- ---- the whole

explained_of : (takes : Entry → Type 0) (p q : Option (List ℕ)) (m : Malformed) (read : List ℕ) → Consumes p q read → m.at ≡ u64_saturate (length read) → (m.fault ≡ faults.CutShort → IsAtEnd q) →
    HasFault takes m.fault read → IfSome p (λ bytes. IsExplained takes bytes m)
explained_of takes None q m read taken counted ended has = tt
explained_of takes (Some xs) None m read taken counted ended has = absurd taken
explained_of takes (Some xs) (Some ys) m read taken counted ended has = record { read = read; left = ys; all = taken; counted = counted; ended = ended; has = has }

module _ (takes : Entry → Type 0) where
  pub of_entries : (count : ℕ) (fault : Fault) (read : List ℕ) → HasEntries takes (NextFault takes fault) count read → HasFault takes fault (head_bytes count ++ read)
  of_entries count fault read h = in_entries (record { count = count; bytes = read; read_is = refl; next_is = h })

  pub of_tail : (taken : List Entry) → IsRising taken → Each takes taken → (fault : Fault) (read : List ℕ) → TailFault (sha256 (body_of taken)) fault read → HasFault takes fault (body_of taken ++ read)
  of_tail taken rising each fault read h = in_tail (record { taken = taken; bytes = read; rising = rising; each = each; read_is = refl; next_is = h })

from_zero : (at n : ℕ) → at ≡ 0 → u64_saturate (at + n) ≡ u64_saturate n
from_zero at n start = omega arith

module _ {R : Type 0} (left : R → Option (List ℕ)) (takes : Entry → Type 0) where
  pub explained : (a b : Source R) (says : Fault → List ℕ → Type 0) → a.at ≡ 0 → ((fault : Fault) (read : List ℕ) → says fault read → HasFault takes fault read) → (m : Malformed) → Finds left a b says m →
      IfSome (left a.input) (λ bytes. IsExplained takes bytes m)
  explained a b says start more m f =
      explained_of takes (left a.input) (left b.input) m f.read f.taken (f.counted ∙ from_zero a.at (length f.read) start) f.ended (more m.fault f.read f.has)

-- the bytes up to the checksum
pub body_read : {R : Type 0} (left : R → Option (List ℕ)) (a b c : Source R) (taken : List Entry) (count : ℕ) → Reads left a b (head_bytes count) → Reads left b c (entries_bytes [] taken) → length taken ≡ count → Reads left a c (body_of taken)
body_read left a b c taken count head entries len = subst (Reads left a c) (body_then taken count len) (reads_more left a b c (head_bytes count) (entries_bytes [] taken) head entries)
