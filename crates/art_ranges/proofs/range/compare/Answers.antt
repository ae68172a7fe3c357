use Rattle.std.proofs.Common.{◌≡◌, ◌+◌, ℕ, List, [], ◌∷◌, length, refl, ap, ap₂, sym, ◌∙◌, arith, eqb, eqb-true, Bool, true, false, cond, ltb, Option, Some, None, slice_get, Ordering, Less, Equal, Greater}
use Rattle.std.specs.Cmp.Lexicographic.{slice_cmp}
use Rattle.std.specs.Ordering.{nat_cmp, ordering_then}
use Rattle.std.proofs.lemmas.Bool.{le-ltb}
use Rattle.std.proofs.lemmas.Option.{slice_get_past, slice_get_read}
use Rattle.art_reading.specs.Matching.{shared_len}
use Rattle.art_reading.proofs.Shared.{shared_short}
use Rattle.art_ranges.proofs.range.compare.Goals as goal

-- what the bytes after all that is shared say of two keys
abbrev told_by : Option ℕ → Option ℕ → Ordering
told_by None None = Equal
told_by None (Some y) = Less
told_by (Some x) None = Greater
told_by (Some x) (Some y) = nat_cmp x y

-- numbers that differ decide
differ_first : (x y : ℕ) (o : Ordering) → eqb x y ≡ false → nat_cmp x y ≡ ordering_then (cond (ltb x y) Less Greater) o
differ_first x y o e = go (ltb x y) (eqb x y) e
  where
    go : (t u : Bool) → u ≡ false → cond t Less (cond u Equal Greater) ≡ ordering_then (cond t Less Greater) o
    go true u e = refl
    go false u e = rw e refl

told_after : (a b : List ℕ) → told_by (slice_get a (shared_len a b)) (slice_get b (shared_len a b)) ≡ slice_cmp nat_cmp a b
told_after [] [] = refl
told_after [] (y ∷ b) = refl
told_after (x ∷ a) [] = refl
told_after (x ∷ a) (y ∷ b) = go (told_after a b) (eqb x y) refl
  where
    go : told_by (slice_get a (shared_len a b)) (slice_get b (shared_len a b)) ≡ slice_cmp nat_cmp a b → (t : Bool) → eqb x y ≡ t →
        told_by (slice_get (x ∷ a) (shared_len (x ∷ a) (y ∷ b))) (slice_get (y ∷ b) (shared_len (x ∷ a) (y ∷ b))) ≡ slice_cmp nat_cmp (x ∷ a) (y ∷ b)
    go ih true e = let same = eqb-true x y e in rw (e, le-ltb x y (omega arith)) ih
    go ih false e = rw e (differ_first x y (slice_cmp nat_cmp a b) e)

-- these bytes, as they are read
told_read : (slice : List ℕ) {key read : List ℕ} (n : ℕ) → n ≡ shared_len slice key → read ≡ key → {x y : Option ℕ} →
    slice_get slice n ≡ x → y ≡ slice_get read (n + 0) → told_by x y ≡ slice_cmp nat_cmp slice key
told_read slice {key} {read} n is same {x} {y} mine other =
    let place : n + 0 ≡ shared_len slice key = omega arith in
    ap₂ told_by (sym mine ∙ ap (slice_get slice) is) (other ∙ ap (λ k. slice_get k (n + 0)) same ∙ ap (slice_get key) place)
    ∙ told_after slice key

pub byte_after-requires : goal.byte_after-requires
byte_after-requires g c =
    let short = shared_short c.args.slice.now (g.B.KeyBytes.key c.args.bytes.now) in
    let shared = c.shared_after-shared.ensures.shared in
    let same = ap length c.shared_after-shared.ensures.same in
    omega arith

pub returns-in-None-None : goal.returns-in-None-None
returns-in-None-None g c =
    told_read c.args.slice.now _ c.shared_after-shared.ensures.shared c.shared_after-shared.ensures.same
    (slice_get_past c.args.slice.now _ c.in-None-None.ensures.lookup.3) c.in-None-None.ensures'.byte

pub returns-in-None-Some : goal.returns-in-None-Some
returns-in-None-Some g c =
    told_read c.args.slice.now _ c.shared_after-shared.ensures.shared c.shared_after-shared.ensures.same
    (slice_get_past c.args.slice.now _ c.in-None-Some.ensures.lookup.3) c.in-None-Some.ensures'.byte

pub returns-in-Some-None : goal.returns-in-Some-None
returns-in-Some-None g c =
    told_read c.args.slice.now _ c.shared_after-shared.ensures.shared c.shared_after-shared.ensures.same
    (slice_get_read c.args.slice.now _ _ c.in-Some-None.field-0-0.now refl c.in-Some-None.ensures.lookup.3.0 c.in-Some-None.ensures.lookup.1)
    c.in-Some-None.ensures'.byte

pub returns-in-Some-Some : goal.returns-in-Some-Some
returns-in-Some-Some g c =
    c.cmp.ensures
    ∙ told_read c.args.slice.now _ c.shared_after-shared.ensures.shared c.shared_after-shared.ensures.same
    (slice_get_read c.args.slice.now _ _ c.in-Some-Some.byte.now refl c.in-Some-Some.ensures.lookup.3.0 c.in-Some-Some.ensures.lookup.1)
    c.in-Some-Some.ensures'.byte
