use Rattle.std.proofs.Common.{◌≡◌, ◌+◌, ◌<◌, ◌≤◌, ℕ, zero, suc, List, [], ◌∷◌, length, take, drop, min, arith, eq-eqb, ◌⊎◌, inl, inr}
use Rattle.std.proofs.lemmas.Bool.{cases_lt}
use Rattle.art_model.specs.Prelude.{common_front}
use Rattle.art_model.proofs.keys.Fronts.{shared_end}
use Rattle.art_reading.proofs.lookup.matching.shared_len.Goals as goal

-- at the end of the shorter key all that is shared was counted
counted : (a b : List ℕ) (i : ℕ) → min (length a) (length b) ≤ i →
    length (common_front a b) ≡ i + length (common_front (drop i a) (drop i b)) → length (common_front a b) ≡ i
counted a b i end inv = go (cases_lt i (length a))
  where
    go : (i < length a) ⊎ (length a ≤ i) → length (common_front a b) ≡ i
    go (inl l) = let none = shared_end i a b (inr (omega arith)) in omega arith
    go (inr l) = let none = shared_end i a b (inl l) in omega arith

-- first bytes that are the same are shared
shared_after : (n : ℕ) (a b : List ℕ) → n ≤ length a → n ≤ length b → take n a ≡ take n b →
    length (common_front a b) ≡ n + length (common_front (drop n a) (drop n b))
shared_after zero a b l m e = omega arith
shared_after (suc n) [] b l m e = absurd (omega arith)
shared_after (suc n) (x ∷ a) [] l m e = absurd (omega arith)
shared_after (suc n) (x ∷ a) (y ∷ b) l m e =
    let h : x ≡ y = cc in
    let t : take n a ≡ take n b = cc in
    let i = shared_after n a b (omega arith) (omega arith) t in
    rw (eq-eqb x y h) (omega (arith, i))

pub loop-i-init : goal.loop-i-init
loop-i-init c = shared_after c.same_blocks-i.result c.args.a.now c.args.b.now (omega (arith, c.same_blocks-i.ensures.within))
    (omega (arith, c.same_blocks-i.ensures.within)) c.same_blocks-i.ensures.same

pub returns : goal.returns
returns c = let e = counted c.args.a.now c.args.b.now c.loop-i.i (omega arith) c.loop-i.invariant in omega arith
