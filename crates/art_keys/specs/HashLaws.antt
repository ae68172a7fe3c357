-- Keys that compare as equal have the same bytes, and so the same hash.
use Rattle.std.proofs.Common.{◌≡◌, ℕ, List, refl, ap}
use Rattle.std.specs.Prelude.{IsTrue}
use Rattle.std.proofs.lemmas.Bool.{false≢true}
use Rattle.std.proofs.lemmas.Map.Lookups.{exact_bytes}
use Rattle.std.specs.Cmp.Lexicographic.{slice_cmp}
use Rattle.std.specs.Hash as fed
use Rattle.std.specs.Ordering.{eq_by_cmp, is_eq, nat_cmp, on}
use Rattle.std.specs.declared.cmp.Ordering.{Ordering}
use Rattle.std.specs.declared.cmp.Ordering.TheVariants.{Less, Equal, Greater}

told_equal : (o : Ordering) → IsTrue (is_eq o) → o ≡ Equal
told_equal Less told = absurd (false≢true told)
told_equal Equal told = refl
told_equal Greater told = absurd (false≢true told)

same_bytes : (a b : List ℕ) → IsTrue (eq_by_cmp (slice_cmp nat_cmp) a b) → a ≡ b
same_bytes a b told = exact_bytes a b (told_equal (slice_cmp nat_cmp a b) told)

-- equal strings have the same bytes, and so the same hash
pub strings_hash : (bytes : List ℕ → List ℕ) (a b : List ℕ) → IsTrue (eq_by_cmp (slice_cmp nat_cmp) a b) →
    fed.slice fed.u8 (bytes a) ≡ fed.slice fed.u8 (bytes b)
strings_hash bytes a b told = ap (λ key. fed.slice fed.u8 (bytes key)) (same_bytes a b told)

-- keys with equal bytes have the same hash
pub bytes_hash : {K : Type 0} (bytes : K → List ℕ) (a b : K) → IsTrue (eq_by_cmp (on bytes (slice_cmp nat_cmp)) a b) →
    fed.slice fed.u8 (bytes a) ≡ fed.slice fed.u8 (bytes b)
bytes_hash bytes a b told = ap (λ key. fed.slice fed.u8 key) (same_bytes (bytes a) (bytes b) told)
