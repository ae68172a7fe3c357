-- What a write does to a sorted table.
use Rattle.std.proofs.Common.{◌≡◌, ◌≢◌, ℕ, zero, suc, ◌+◌, ◌-◌, ◌<◌, ◌≤◌, true, cond, List, [], ◌∷◌, ◌++◌, length, get_or, set, take, drop, Some, None, IsSome, is_some, refl, sym, ap, ◌∙◌, inl, inr, arith, eqb, subst, add-one}
use Rattle.std.proofs.lemmas.Grind.{common_steps}
use Rattle.std.proofs.lemmas.Bool.{ne_eqb, eq-eqb, lt-ltb, le-ltb}
use Rattle.std.proofs.lemmas.List.{take_all, length-take-le, take-append-le}
use Rattle.art_inner.specs.Inner.{Children, IsBelow, IsRising, child_at, put_child, count_below}
use Rattle.art_parts.specs.declared.names.NodeType.TheVariants.{Leaf}
use Rattle.art_parts.specs.declared.names.OpaqueNodePtr.{OpaqueNodePtr}
use Rattle.art_parts.proofs.Comparisons.{by_order}

abbrev pub Entry : Type 0
Entry = ℕ × OpaqueNodePtr

-- an entry to read past the end of a list
abbrev pub nobody : Entry
nobody = (0, record { kind = Leaf; slot = 0 })

-- how `put_child` proceeds at an entry
pub front : (c : Entry) (cs : Children) (b : ℕ) (n : OpaqueNodePtr) → c.0 < b → put_child (c ∷ cs) b n ≡ c ∷ put_child cs b n
front c cs b n h = ap (λ t. cond t (c ∷ put_child cs b n) (cond (eqb c.0 b) ((b, n) ∷ cs) ((b, n) ∷ c ∷ cs))) (lt-ltb c.0 b h)

pub here : (c : Entry) (cs : Children) (b : ℕ) (n : OpaqueNodePtr) → c.0 ≡ b → put_child (c ∷ cs) b n ≡ (b, n) ∷ cs
here c cs b n e =
    ap (λ t. cond t (c ∷ put_child cs b n) (cond (eqb c.0 b) ((b, n) ∷ cs) ((b, n) ∷ c ∷ cs))) (le-ltb c.0 b (omega arith))
    ∙ ap (λ t. cond t ((b, n) ∷ cs) ((b, n) ∷ c ∷ cs)) (eq-eqb c.0 b e)

pub before : (c : Entry) (cs : Children) (b : ℕ) (n : OpaqueNodePtr) → b < c.0 → put_child (c ∷ cs) b n ≡ (b, n) ∷ c ∷ cs
before c cs b n h =
    ap (λ t. cond t (c ∷ put_child cs b n) (cond (eqb c.0 b) ((b, n) ∷ cs) ((b, n) ∷ c ∷ cs))) (le-ltb c.0 b (omega arith)) ∙
    ap (λ t. cond t ((b, n) ∷ cs) ((b, n) ∷ c ∷ cs)) (ne_eqb c.0 b (λ e. omega arith))

pub counted_front : (c : Entry) (cs : Children) (b : ℕ) → c.0 < b → count_below (c ∷ cs) b ≡ suc (count_below cs b)
counted_front c cs b h = ap (λ t. cond t (suc (count_below cs b)) 0) (lt-ltb c.0 b h)

pub counted_here : (c : Entry) (cs : Children) (b : ℕ) → b ≤ c.0 → count_below (c ∷ cs) b ≡ 0
counted_here c cs b h = ap (λ t. cond t (suc (count_below cs b)) 0) (le-ltb c.0 b h)

-- the entry at the place has the byte: it is set
pub put_child_set : (cs : Children) (b : ℕ) (n : OpaqueNodePtr) (d : Entry) (at : ℕ) → at ≡ count_below cs b → at < length cs →
    (get_or cs at d).0 ≡ b → set cs at (b, n) ≡ put_child cs b n
put_child_set [] b n d at k within same = absurd (omega arith)
put_child_set (c ∷ cs) b n d zero k within same = sym (here c cs b n same)
put_child_set (c ∷ cs) b n d (suc at) k within same = elim (by_order c.0 b) [
  | inl h ↦ ap (λ xs. c ∷ xs) (put_child_set cs b n d at (omega (arith, k ∙ counted_front c cs b h)) (omega arith) same) ∙ sym (front c cs b n h)
  | inr h ↦ absurd (omega (arith, k ∙ counted_here c cs b (elim h [ inl e ↦ omega arith | inr g ↦ omega arith ])))
]

-- no entry has the byte: the new one is inserted in between
pub put_child_between : (cs : Children) (b : ℕ) (n : OpaqueNodePtr) (d : Entry) (at : ℕ) → at ≡ count_below cs b →
    (at < length cs → (get_or cs at d).0 ≢ b) → take at cs ++ (b, n) ∷ drop at cs ≡ put_child cs b n
put_child_between [] b n d at k other = rw k refl
put_child_between (c ∷ cs) b n d zero k other = elim (by_order c.0 b) [
  | inl h ↦ absurd (omega (arith, k ∙ counted_front c cs b h))
  | inr h ↦ elim h [ inl e ↦ absurd (other (omega arith) e) | inr g ↦ sym (before c cs b n g) ]
]
put_child_between (c ∷ cs) b n d (suc at) k other = elim (by_order c.0 b) [
  | inl h ↦
      ap (λ xs. c ∷ xs) (put_child_between cs b n d at (omega (arith, k ∙ counted_front c cs b h)) (λ within. other (omega arith)))
      ∙ sym (front c cs b n h)
  | inr h ↦ absurd (omega (arith, k ∙ counted_here c cs b (elim h [ inl e ↦ omega arith | inr g ↦ omega arith ])))
]

-- the bytes are still sorted
IsBelow-lower : (x y : ℕ) (cs : Children) → x < y → IsBelow y cs → IsBelow x cs
IsBelow-lower x y [] h below = tt
IsBelow-lower x y (c ∷ cs) h below = (omega (arith, below.0), IsBelow-lower x y cs h below.1)

IsBelow-put_child : (x : ℕ) (cs : Children) (b : ℕ) (n : OpaqueNodePtr) → x < b → IsBelow x cs → IsBelow x (put_child cs b n)
IsBelow-put_child x [] b n h below = (h, tt)
IsBelow-put_child x (c ∷ cs) b n h below = elim (by_order c.0 b) [
  | inl l ↦ subst (IsBelow x) (sym (front c cs b n l)) (below.0, IsBelow-put_child x cs b n h below.1)
  | inr g ↦ elim g [ inl e ↦ subst (IsBelow x) (sym (here c cs b n e)) (h, below.1) | inr l ↦ subst (IsBelow x) (sym (before c cs b n l)) (h, below) ]
]

pub IsRising-put_child : (cs : Children) (b : ℕ) (n : OpaqueNodePtr) → IsRising cs → IsRising (put_child cs b n)
IsRising-put_child [] b n rising = (tt, tt)
IsRising-put_child (c ∷ cs) b n rising = elim (by_order c.0 b) [
  | inl l ↦ subst IsRising (sym (front c cs b n l)) (IsBelow-put_child c.0 cs b n l rising.0, IsRising-put_child cs b n rising.1)
  | inr g ↦ elim g [
    | inl e ↦ subst IsRising (sym (here c cs b n e)) (subst (λ k. IsBelow k cs) e rising.0, rising.1)
    | inr l ↦ subst IsRising (sym (before c cs b n l)) ((l, IsBelow-lower b c.0 cs l rising.0), rising)
  ]
]

pub none_is_not : is_some {T = OpaqueNodePtr} None ≡ true → ⊥
none_is_not e = cc

pub later_above : (x : ℕ) (cs : Children) (b : ℕ) → IsBelow x cs → IsSome (child_at cs b) → x < b
later_above x [] b below there = absurd (none_is_not there)
later_above x (c ∷ cs) b below there = elim (by_order c.0 b) [
  | inl l ↦ omega (arith, below.0)
  | inr g ↦ elim g [
    | inl e ↦ omega (arith, below.0)
    | inr l ↦ later_above x cs b below.1 (ap (λ t. is_some (cond t (Some c.1) (child_at cs b))) (sym (ne_eqb c.0 b (λ e. omega arith))) ∙ there)
  ]
]

-- where a child is under the byte, the place is its own
pub place_of_child : (cs : Children) (b : ℕ) (d : Entry) → IsRising cs → IsSome (child_at cs b) →
    (count_below cs b < length cs) × ((get_or cs (count_below cs b) d).0 ≡ b)
place_of_child [] b d rising there = absurd (none_is_not there)
place_of_child (c ∷ cs) b d rising there = elim (by_order c.0 b) [
  | inl l ↦
      let rest : IsSome (child_at cs b) = ap (λ t. is_some (cond t (Some c.1) (child_at cs b))) (sym (ne_eqb c.0 b (λ e. omega arith))) ∙ there in
      let found = place_of_child cs b d rising.1 rest in
      subst (λ i. (i < length (c ∷ cs)) × ((get_or (c ∷ cs) i d).0 ≡ b)) (sym (counted_front c cs b l)) (omega (arith, found.0), found.1)
  | inr g ↦ elim g [
    | inl e ↦ subst (λ i. (i < length (c ∷ cs)) × ((get_or (c ∷ cs) i d).0 ≡ b)) (sym (counted_here c cs b (omega arith))) (omega arith, e)
    | inr l ↦
        let rest : IsSome (child_at cs b) = ap (λ t. is_some (cond t (Some c.1) (child_at cs b))) (sym (ne_eqb c.0 b (λ e. omega arith))) ∙ there in
        absurd (omega (arith, later_above c.0 cs b rising.0 rest))
  ]
]

-- what is read behind the free place
read_front : {X : Type 0} (old rest : List X) (p : ℕ) (d : X) → suc p < length old → get_or (take (suc (suc p)) old ++ rest) p d ≡ get_or old p d
read_front [] rest p d within = absurd (omega (arith, within))
read_front (a ∷ old) rest zero d within = refl
read_front (a ∷ old) rest (suc p) d within = read_front old rest p d (omega (arith, within))

move_back : {X : Type 0} (old : List X) (p m n : ℕ) (d : X) → suc p < length old → n ≡ suc m →
    set (take (suc (suc p)) old ++ take m (drop (suc p) old)) (suc p) (get_or old p d) ≡ take (suc p) old ++ take n (drop p old)
move_back [] p m n d within e = absurd (omega (arith, within))
move_back (a ∷ []) zero m n d within e = absurd (omega (arith, within))
move_back (a ∷ b ∷ old) zero m n d within e = ap (λ (k : ℕ). a ∷ take k (a ∷ b ∷ old)) (sym e)
move_back (a ∷ old) (suc p) m n d within e = ap (λ xs. a ∷ xs) (move_back old p m n d (omega (arith, within)) e)

-- those from a place on moved one place to the back, and the last one dropped
abbrev pub moved_to : {X : Type 0} → ℕ → List X → List X
moved_to place old = take (suc place) old ++ take (length old - 1 - place) (drop place old)

-- a value moves one place to the back
pub moved_back : {X : Type 0} (old part : List X) (at place : ℕ) (d x : X) → at < place → place < length old →
    part ≡ take (suc place) old ++ take (length old - 1 - place) (drop place old) → x ≡ get_or part (place - 1) d →
    set part place x ≡ take (suc (place - 1)) old ++ take (length old - 1 - (place - 1)) (drop (place - 1) old)
moved_back old part at zero d x before within is read = absurd (omega (arith, before))
moved_back {X} old part at (suc p) d x before within is read =
    let back : suc p - 1 ≡ p = omega arith in
    let count : length old - 1 - p ≡ suc (length old - 1 - suc p) = omega (arith, within) in
    let rest = take (length old - 1 - suc p) (drop (suc p) old) in
    ap (set part (suc p)) (read ∙ ap (λ (k : ℕ). get_or part k d) back ∙ ap (λ (xs : List X). get_or xs p d) is ∙ read_front old rest p d within)
    ∙ ap (λ (xs : List X). set xs (suc p) (get_or old p d)) is
    ∙ move_back old p (length old - 1 - suc p) (length old - 1 - p) d within count
    ∙ ap (λ (k : ℕ). take (suc k) old ++ take (length old - 1 - k) (drop k old)) (sym back)

-- a value is written to the free place
pub put_at_place : {X : Type 0} (old : List X) (at m : ℕ) (x : X) → at < length old →
    set (take (suc at) old ++ take m (drop at old)) at x ≡ take at old ++ x ∷ take m (drop at old)
put_at_place [] at m x within = absurd (omega (arith, within))
put_at_place (a ∷ old) zero m x within = refl
put_at_place (a ∷ old) (suc at) m x within = ap (λ xs. a ∷ xs) (put_at_place old at m x (omega (arith, within)))

front_step : {X : Type 0} (after es : List X) (len at m : ℕ) (x : X) → at + m ≡ len → len < length es →
    take (suc len) ((take at (take (suc len) es) ++ x ∷ take m (drop at (take (suc len) es))) ++ after) ≡ take at (take len es) ++ x ∷ drop at (take len es)
front_step {X = X} after es len zero m x e k =
    let same : m ≡ len = omega arith in
    let long : length (take len es) ≡ len = length-take-le len es (omega arith) in
    let short : take m (take (suc len) es) ≡ take len es = ap (λ i. take i (take (suc len) es)) same ∙ take_take len es in
    ap (λ t. x ∷ take len (t ++ after)) short
    ∙ ap (λ t. x ∷ t) (take-append-le len (take len es) after (omega arith) ∙ take_all len (take len es) (omega arith))
  where
    take_take : (n : ℕ) (xs : List X) → take n (take (suc n) xs) ≡ take n xs
    take_take n xs = grind (arith, common_steps)
front_step after [] len (suc at) m x e k = absurd (omega arith)
front_step after (y ∷ es) zero (suc at) m x e k = absurd (omega arith)
front_step after (y ∷ es) (suc len) (suc at) m x e k = ap (λ t. y ∷ t) (front_step after es len at m x (omega arith) (omega arith))

-- the first entries after a new one is inserted in between
pub front_after : {X : Type 0} (es new : List X) (len at : ℕ) (x : X) → at ≤ len → len < length es →
    new ≡ take at (take (len + 1) es) ++ x ∷ take (length (take (len + 1) es) - 1 - at) (drop at (take (len + 1) es)) →
    take (len + 1) (new ++ drop (len + 1) es) ≡ take at (take len es) ++ x ∷ drop at (take len es)
front_after {X} es new len at x h k written =
    let long : length (take (suc len) es) ≡ suc len = length-take-le (suc len) es (omega arith) in
    let m : length (take (suc len) es) - 1 - at ≡ len - at = omega arith in
    let plus : len + 1 ≡ suc len = add-one len in
    let as_suc : new ≡ take at (take (suc len) es) ++ x ∷ take (len - at) (drop at (take (suc len) es)) =
    written ∙ ap (λ (i : ℕ). take at (take i es) ++ x ∷ take (length (take i es) - 1 - at) (drop at (take i es))) plus ∙
    ap (λ (i : ℕ). take at (take (suc len) es) ++ x ∷ take i (drop at (take (suc len) es))) m in
    ap (λ (i : ℕ). take i (new ++ drop (len + 1) es)) plus
    ∙ ap (λ (t : List X). take (suc len) (t ++ drop (len + 1) es)) as_suc
    ∙ front_step (drop (len + 1) es) es len at (len - at) x (omega arith) k

-- what a table of `len` entries shows after the entry at a place is set
pub shown_set : {X : Type 0} (es : List X) (len at : ℕ) (x : X) → at < len → take len (set es at x) ≡ set (take len es) at x
shown_set [] zero at x h = absurd (omega arith)
shown_set [] (suc len) at x h = refl
shown_set (e ∷ es) zero at x h = absurd (omega arith)
shown_set (e ∷ es) (suc len) zero x h = refl
shown_set (e ∷ es) (suc len) (suc at) x h = ap (λ t. e ∷ t) (shown_set es len at x (omega arith))
