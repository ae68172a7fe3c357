-- The definitions, computed on rows whose bytes were worked out by hand.
use Rattle.std.proofs.Common.{◌≡◌, inl, inr, true, false, [], ◌∷◌, ◌++◌, length, drop, refl, arith}
use Rattle.std.specs.Prelude.{codes}
use Rattle.snapshot_format.specs.Numbers.{number_bytes, number_within}
use Rattle.snapshot_format.specs.Snapshots.{Entry, Rise, body_of, entries_bytes, entry, head_bytes, is_none, last_key, magic, shared_len}
use Rattle.snapshot_format.specs.declared.error.Fault.TheVariants as faults
use Rattle.snapshot_format.specs.Faults.{HasFault, in_entries, in_head}

numbers : (number_bytes 0 ≡ 0 ∷ []) × (number_bytes 127 ≡ 127 ∷ []) × (number_bytes 128 ≡ 128 ∷ 1 ∷ []) × (number_bytes 300 ≡ 172 ∷ 2 ∷ []) × (number_bytes 16383 ≡ 255 ∷ 127 ∷ [])
    × (number_bytes 624485 ≡ 229 ∷ 142 ∷ 38 ∷ [])
unfolding number_within
numbers = (refl, refl, refl, refl, refl, refl)

largest : number_bytes 0xffff_ffff_ffff_ffff ≡ 255 ∷ 255 ∷ 255 ∷ 255 ∷ 255 ∷ 255 ∷ 255 ∷ 255 ∷ 255 ∷ 1 ∷ []
unfolding number_within
largest = refl

-- "ab" and "abc" share two bytes, "abc" and "b" none
bodies : (body_of [] ≡ 65 ∷ 82 ∷ 84 ∷ 83 ∷ 78 ∷ 65 ∷ 80 ∷ 1 ∷ 0 ∷ [])
    × (body_of (entry (codes "ab") (codes "x") ∷ entry (codes "abc") [] ∷ entry (codes "b") (codes "yz") ∷ [])
    ≡ 65 ∷ 82 ∷ 84 ∷ 83 ∷ 78 ∷ 65 ∷ 80 ∷ 1 ∷ 3 ∷ 0 ∷ 2 ∷ 97 ∷ 98 ∷ 1 ∷ 120 ∷ 2 ∷ 1 ∷ 99 ∷ 0 ∷ 0 ∷ 1 ∷ 98 ∷ 2 ∷ 121 ∷ 122 ∷ [])
unfolding body_of head_bytes entries_bytes shared_len number_within
bodies = (refl, refl)

-- ---- faults, where keys of one byte can be taken

abbrev Taken : Entry → Type 0
Taken entry = length entry.key ≡ 1

-- another first byte, another version, a number of entries that is cut short
starts : HasFault Taken faults.NotASnapshot (66 ∷ []) × HasFault Taken (faults.UnknownVersion 2) (magic ++ 2 ∷ []) × HasFault Taken faults.CutShort (magic ++ 1 ∷ 128 ∷ [])
unfolding head_bytes number_within
starts = (
  in_head (record { same = []; byte = 66; right = 65; rest = drop 1 magic; other = λ e. omega arith; wanted_is = refl; read_is = refl }),
  in_head (refl, λ e. omega arith),
  in_head (record { count = 128; fits = omega arith; cut = record { missing = 1 ∷ []; some = λ e. cc; is = refl } }),
)

-- a first key that shares a byte, "a" after "b", and a key of two bytes
keys : HasFault Taken faults.OutOfOrder (head_bytes 1 ++ 1 ∷ []) × HasFault Taken faults.OutOfOrder (head_bytes 2 ++ 0 ∷ 1 ∷ 98 ∷ 0 ∷ 0 ∷ 1 ∷ 97 ∷ [])
    × HasFault Taken faults.BadEntry (head_bytes 1 ++ 0 ∷ 2 ∷ 99 ∷ 99 ∷ 0 ∷ [])
unfolding entries_bytes head_bytes is_none last_key number_within Rise shared_len
keys = (
  in_entries (record {
    count = 1;
    bytes = 1 ∷ [];
    read_is = refl;
    next_is = record { taken = []; bytes = 1 ∷ []; fewer = omega arith; rising = tt; each = tt; read_is = refl; next_is = inl (record { shared = 1; read_is = refl; more = omega arith }) };
  }),
  in_entries (record {
    count = 2;
    bytes = 0 ∷ 1 ∷ 98 ∷ 0 ∷ 0 ∷ 1 ∷ 97 ∷ [];
    read_is = refl;
    next_is = record {
      taken = entry (codes "b") [] ∷ [];
      bytes = 0 ∷ 1 ∷ 97 ∷ [];
      fewer = omega arith;
      rising = (tt, tt);
      each = (refl, tt);
      read_is = refl;
      next_is = inr (record { shared = 0; others = codes "a"; read_is = refl; wrong = λ after same. let f : false ≡ true = after in cc });
    };
  }),
  in_entries (record {
    count = 1;
    bytes = 0 ∷ 2 ∷ 99 ∷ 99 ∷ 0 ∷ [];
    read_is = refl;
    next_is = record {
      taken = [];
      bytes = 0 ∷ 2 ∷ 99 ∷ 99 ∷ 0 ∷ [];
      fewer = omega arith;
      rising = tt;
      each = tt;
      read_is = refl;
      next_is = record { bad = entry (codes "cc") []; read_is = refl; next = tt; not_taken = λ fits. omega arith };
    };
  }),
)
