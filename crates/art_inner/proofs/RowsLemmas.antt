-- Three lists in parallel: a change of each is a change of the children.
use Rattle.std.proofs.Common.{◌≡◌, ℕ, zero, suc, ◌+◌, ◌<◌, ◌≤◌, Bool, true, false, cond, ltb, eqb, eq-eqb, not, List, [], ◌∷◌, ◌++◌, length}
use Rattle.std.proofs.Common.{get_or, set, take, drop, remove, slice_get, Option, Some, None, is_some, ◌≢◌, refl, sym, ap, ◌∙◌, inl, inr}
use Rattle.std.proofs.Common.{arith}
use Rattle.std.specs.List.{prefix_len}
use Rattle.std.specs.Option.{option_map}
use Rattle.art_parts.specs.declared.names.NodeType.TheVariants.{Leaf}
use Rattle.art_inner.specs.Inner.{Children, IsBelow, IsRising, bytes_below, child_at, count_below}
use Rattle.art_inner.specs.Rows.{rows}
use Rattle.art_parts.specs.declared.names.NodeType.{NodeType}
use Rattle.art_parts.specs.declared.names.OpaqueNodePtr.{OpaqueNodePtr}
use Rattle.art_inner.proofs.TableLemmas.{Entry, nobody, none_is_not, counted_front, counted_here}
use Rattle.art_parts.proofs.Comparisons.{by_order}
use Rattle.art_inner.proofs.RemovalLemmas.{nothing_at}
use Rattle.art_inner.proofs.ChildrenLaws.{at_here, at_later}

pub length-rows : (bs : List ℕ) (ks : List NodeType) (ss : List ℕ) → length ks ≡ length bs → length ss ≡ length bs → length (rows bs ks ss) ≡ length bs
length-rows [] ks ss e f = refl
length-rows (b ∷ bs) [] ss e f = absurd (omega (arith, e))
length-rows (b ∷ bs) (k ∷ ks) [] e f = absurd (omega (arith, f))
length-rows (b ∷ bs) (k ∷ ks) (s ∷ ss) e f = omega (arith, length-rows bs ks ss (omega (arith, e)) (omega (arith, f)))

pub rows-take : (n : ℕ) (bs : List ℕ) (ks : List NodeType) (ss : List ℕ) → take n (rows bs ks ss) ≡ rows (take n bs) (take n ks) (take n ss)
rows-take zero bs ks ss = refl
rows-take (suc n) [] ks ss = refl
rows-take (suc n) (b ∷ bs) [] ss = refl
rows-take (suc n) (b ∷ bs) (k ∷ ks) [] = refl
rows-take (suc n) (b ∷ bs) (k ∷ ks) (s ∷ ss) = ap (λ (t : Children). (b, record { kind = k; slot = s }) ∷ t) (rows-take n bs ks ss)

pub rows-drop : (n : ℕ) (bs : List ℕ) (ks : List NodeType) (ss : List ℕ) → length ks ≡ length bs → length ss ≡ length bs →
    drop n (rows bs ks ss) ≡ rows (drop n bs) (drop n ks) (drop n ss)
rows-drop zero bs ks ss e f = refl
rows-drop (suc n) [] ks ss e f = refl
rows-drop (suc n) (b ∷ bs) [] ss e f = absurd (omega (arith, e))
rows-drop (suc n) (b ∷ bs) (k ∷ ks) [] e f = absurd (omega (arith, f))
rows-drop (suc n) (b ∷ bs) (k ∷ ks) (s ∷ ss) e f = rows-drop n bs ks ss (omega (arith, e)) (omega (arith, f))

pub rows-set : (at : ℕ) (bs : List ℕ) (ks : List NodeType) (ss : List ℕ) (b : ℕ) (n : OpaqueNodePtr) → length ks ≡ length bs → length ss ≡ length bs →
    set (rows bs ks ss) at (b, n) ≡ rows (set bs at b) (set ks at n.kind) (set ss at n.slot)
rows-set at [] ks ss b n e f = refl
rows-set at (x ∷ bs) [] ss b n e f = absurd (omega (arith, e))
rows-set at (x ∷ bs) (k ∷ ks) [] b n e f = absurd (omega (arith, f))
rows-set zero (x ∷ bs) (k ∷ ks) (s ∷ ss) b n e f = refl
rows-set (suc at) (x ∷ bs) (k ∷ ks) (s ∷ ss) b n e f =
    ap (λ (t : Children). (x, record { kind = k; slot = s }) ∷ t) (rows-set at bs ks ss b n (omega (arith, e)) (omega (arith, f)))

pub rows-read : (at : ℕ) (bs : List ℕ) (ks : List NodeType) (ss : List ℕ) (d : ℕ) (l : NodeType) (t : ℕ) → length ks ≡ length bs →
    length ss ≡ length bs → at < length bs →
    get_or (rows bs ks ss) at (d, record { kind = l; slot = t }) ≡ (get_or bs at d, record { kind = get_or ks at l; slot = get_or ss at t })
rows-read at [] ks ss d l t e f h = absurd (omega (arith, h))
rows-read at (x ∷ bs) [] ss d l t e f h = absurd (omega (arith, e))
rows-read at (x ∷ bs) (k ∷ ks) [] d l t e f h = absurd (omega (arith, f))
rows-read zero (x ∷ bs) (k ∷ ks) (s ∷ ss) d l t e f h = refl
rows-read (suc at) (x ∷ bs) (k ∷ ks) (s ∷ ss) d l t e f h = rows-read at bs ks ss d l t (omega (arith, e)) (omega (arith, f)) (omega (arith, h))

-- a place is found by the bytes alone
pub rows-below : (bs : List ℕ) (ks : List NodeType) (ss : List ℕ) (b : ℕ) → length ks ≡ length bs → length ss ≡ length bs →
    count_below (rows bs ks ss) b ≡ bytes_below bs b
rows-below [] ks ss b e f = refl
rows-below (x ∷ bs) [] ss b e f = absurd (omega (arith, e))
rows-below (x ∷ bs) (k ∷ ks) [] b e f = absurd (omega (arith, f))
rows-below (x ∷ bs) (k ∷ ks) (s ∷ ss) b e f = ap (λ (n : ℕ). cond (ltb x b) (suc n) 0) (rows-below bs ks ss b (omega (arith, e)) (omega (arith, f)))

-- a later byte is above
byte_above : (x : ℕ) (cs : Children) (k : ℕ) (c : Entry) → IsBelow x cs → slice_get cs k ≡ Some c → x < c.0
byte_above x [] k c below there = absurd (none_is_not (ap is_some (ap (λ (o : Option Entry). option_map (λ (e : Entry). e.1) o) there)))
byte_above x (d ∷ cs) zero c below there = let is : d ≡ c = cc in omega (arith, below.0, ap (λ (e : Entry). e.0) is)
byte_above x (d ∷ cs) (suc k) c below there = byte_above x cs k c below.1 there

pub rows-get : (at : ℕ) (bs : List ℕ) (ks : List NodeType) (ss : List ℕ) (d : ℕ) (l : NodeType) (t : ℕ) → length ks ≡ length bs → length ss ≡ length bs →
    at < length bs → slice_get (rows bs ks ss) at ≡ Some (get_or bs at d, record { kind = get_or ks at l; slot = get_or ss at t })
rows-get at [] ks ss d l t e f h = absurd (omega (arith, h))
rows-get at (x ∷ bs) [] ss d l t e f h = absurd (omega (arith, e))
rows-get at (x ∷ bs) (k ∷ ks) [] d l t e f h = absurd (omega (arith, f))
rows-get zero (x ∷ bs) (k ∷ ks) (s ∷ ss) d l t e f h = refl
rows-get (suc at) (x ∷ bs) (k ∷ ks) (s ∷ ss) d l t e f h = rows-get at bs ks ss d l t (omega (arith, e)) (omega (arith, f)) (omega (arith, h))

-- the name under a byte that is at a place
pub child_in_place : (cs : Children) (k b : ℕ) (c : Entry) → IsRising cs → slice_get cs k ≡ Some c → c.0 ≡ b → child_at cs b ≡ Some c.1
child_in_place [] k b c rising there same = absurd (none_is_not (ap is_some (ap (λ (o : Option Entry). option_map (λ (e : Entry). e.1) o) there)))
child_in_place (d ∷ cs) zero b c rising there same = let is : d ≡ c = cc in at_here d cs b (ap (λ (e : Entry). e.0) is ∙ same) ∙ ap (λ (e : Entry). Some e.1) is
child_in_place (d ∷ cs) (suc k) b c rising there same =
    at_later d cs b (λ e. omega (arith, e, same, byte_above d.0 cs k c rising.0 there)) ∙ child_in_place cs k b c rising.1 there same

name_behind : (same : Bool) (c : Entry) (cs : Children) (place : ℕ) (rest : Option OpaqueNodePtr) →
    option_map (λ (e : Entry). e.1) (slice_get cs place) ≡ rest →
    option_map (λ (e : Entry). e.1) (slice_get (c ∷ cs) (cond (not same) (1 + place) 0)) ≡ cond same (Some c.1) rest
name_behind true c cs place rest is = refl
name_behind false c cs place rest is =
    let next : 1 + place ≡ suc place = omega arith in
    ap (λ (k : ℕ). option_map (λ (e : Entry). e.1) (slice_get (c ∷ cs) k)) next ∙ is

-- the name at the first place of a byte is the one under it
first_name : (n : ℕ) (bs : List ℕ) (ks : List NodeType) (ss : List ℕ) (b : ℕ) →
    option_map (λ (e : Entry). e.1) (slice_get (take n (rows bs ks ss)) (prefix_len (λ x. not (eqb x b)) bs)) ≡ child_at (take n (rows bs ks ss)) b
first_name zero bs ks ss b = refl
first_name (suc n) [] ks ss b = refl
first_name (suc n) (x ∷ bs) [] ss b = refl
first_name (suc n) (x ∷ bs) (k ∷ ks) [] b = refl
first_name (suc n) (x ∷ bs) (k ∷ ks) (s ∷ ss) b =
    name_behind (eqb x b) (x, record { kind = k; slot = s }) (take n (rows bs ks ss)) (prefix_len (λ y. not (eqb y b)) bs) _
    (first_name n bs ks ss b)

-- where the rows show these children
pub rows-first : (n : ℕ) (bs : List ℕ) (ks : List NodeType) (ss : List ℕ) (cs : Children) (b place : ℕ) → take n (rows bs ks ss) ≡ cs →
    place ≡ prefix_len (λ x. not (eqb x b)) bs →
    option_map (λ (e : Entry). e.1) (slice_get cs place) ≡ child_at cs b
rows-first n bs ks ss cs b place shows first =
    (λ i. option_map (λ (e : Entry). e.1) (slice_get (sym shows i) (first i))) ∙ first_name n bs ks ss b ∙ ap (λ (xs : Children). child_at xs b) shows

-- a byte below those of children has no name
none_under : (x : ℕ) (cs : Children) (b : ℕ) → IsBelow x cs → b ≤ x → child_at cs b ≡ None
none_under x [] b below low = refl
none_under x (c ∷ cs) b below low = at_later c cs b (λ e. omega (arith, below.0, e, low)) ∙ none_under x cs b below.1 low

-- a byte below the first has no name
pub rows-none_below : (n : ℕ) (bs : List ℕ) (ks : List NodeType) (ss : List ℕ) (b : ℕ) → IsRising (take n (rows bs ks ss)) →
    b < get_or bs 0 0 → child_at (take n (rows bs ks ss)) b ≡ None
rows-none_below zero bs ks ss b rising low = refl
rows-none_below (suc n) [] ks ss b rising low = refl
rows-none_below (suc n) (x ∷ bs) [] ss b rising low = refl
rows-none_below (suc n) (x ∷ bs) (k ∷ ks) [] b rising low = refl
rows-none_below (suc n) (x ∷ bs) (k ∷ ks) (s ∷ ss) b rising low =
    at_later _ _ b (λ e. omega (arith, low, e)) ∙ none_under x (take n (rows bs ks ss)) b rising.0 (omega (arith, low))

-- the first byte is at the place 0
pub place-first : (bs : List ℕ) (b : ℕ) → b ≡ get_or bs 0 0 → 0 ≡ prefix_len (λ x. not (eqb x b)) bs
place-first [] b is = refl
place-first (x ∷ bs) b is = rw (eq-eqb x b (sym is)) refl

-- a byte that is not at its place has no name
pub rows-not_at : (bs : List ℕ) (ks : List NodeType) (ss : List ℕ) (at b : ℕ) → length ks ≡ length bs → length ss ≡ length bs → IsRising (rows bs ks ss) →
    at ≡ bytes_below bs b → (at < length bs → get_or bs at 0 ≢ b) → child_at (rows bs ks ss) b ≡ None
rows-not_at bs ks ss at b e f rising place other =
    nothing_at (rows bs ks ss) b nobody at rising (place ∙ sym (rows-below bs ks ss b e f))
    (λ within same. let near : at < length bs = omega (arith, within, length-rows bs ks ss e f) in
    other near (ap (λ (x : Entry). x.0) (sym (rows-read at bs ks ss 0 Leaf 0 e f near)) ∙ same))

-- a list is its prefix and its last
pub last_apart : (cs : Children) (k : ℕ) (c : Entry) → slice_get cs k ≡ Some c → length cs ≡ suc k → cs ≡ take k cs ++ c ∷ []
last_apart [] k c there long = absurd (omega (arith, long))
last_apart (d ∷ []) zero c there long = cc
last_apart (d ∷ e ∷ cs) zero c there long = absurd (omega (arith, long))
last_apart (d ∷ cs) (suc k) c there long = ap (λ (t : Children). d ∷ t) (last_apart cs k c there (omega (arith, long)))

-- as a list's first part and one item more
pub take_set_end : {X : Type 0} (es : List X) (len : ℕ) (x : X) → len < length es → take (suc len) (set es len x) ≡ take len es ++ x ∷ []
take_set_end [] len x within = absurd (omega (arith, within))
take_set_end (e ∷ es) zero x within = refl
take_set_end (e ∷ es) (suc len) x within = ap (λ t. e ∷ t) (take_set_end es len x (omega (arith, within)))

-- kind and slot are set where the byte is
pub rows-renamed : (at : ℕ) (bs : List ℕ) (ks : List NodeType) (ss : List ℕ) (b : ℕ) (n : OpaqueNodePtr) → length ks ≡ length bs → length ss ≡ length bs →
    at < length bs → get_or bs at 0 ≡ b → rows bs (set ks at n.kind) (set ss at n.slot) ≡ set (rows bs ks ss) at (b, n)
rows-renamed at [] ks ss b n e f h same = absurd (omega (arith, h))
rows-renamed at (x ∷ bs) [] ss b n e f h same = absurd (omega (arith, e))
rows-renamed at (x ∷ bs) (k ∷ ks) [] b n e f h same = absurd (omega (arith, f))
rows-renamed zero (x ∷ bs) (k ∷ ks) (s ∷ ss) b n e f h same = ap (λ (y : ℕ). (y, n) ∷ rows bs ks ss) same
rows-renamed (suc at) (x ∷ bs) (k ∷ ks) (s ∷ ss) b n e f h same =
    ap (λ (t : Children). (x, record { kind = k; slot = s }) ∷ t) (rows-renamed at bs ks ss b n (omega (arith, e)) (omega (arith, f)) (omega (arith, h)) same)

-- a byte, a kind and a slot are inserted in between
pub rows-between : (at : ℕ) (bs : List ℕ) (ks : List NodeType) (ss : List ℕ) (b : ℕ) (n : OpaqueNodePtr) → length ks ≡ length bs →
    length ss ≡ length bs → at ≤ length bs →
    rows (take at bs ++ b ∷ drop at bs) (take at ks ++ n.kind ∷ drop at ks) (take at ss ++ n.slot ∷ drop at ss)
    ≡ take at (rows bs ks ss) ++ (b, n) ∷ drop at (rows bs ks ss)
rows-between zero bs ks ss b n e f h = refl
rows-between (suc at) [] ks ss b n e f h = absurd (omega (arith, h))
rows-between (suc at) (x ∷ bs) [] ss b n e f h = absurd (omega (arith, e))
rows-between (suc at) (x ∷ bs) (k ∷ ks) [] b n e f h = absurd (omega (arith, f))
rows-between (suc at) (x ∷ bs) (k ∷ ks) (s ∷ ss) b n e f h =
    ap (λ (t : Children). (x, record { kind = k; slot = s }) ∷ t) (rows-between at bs ks ss b n (omega (arith, e)) (omega (arith, f)) (omega (arith, h)))

-- those at a place are removed
pub rows-remove : (at : ℕ) (bs : List ℕ) (ks : List NodeType) (ss : List ℕ) → length ks ≡ length bs → length ss ≡ length bs →
    rows (remove bs at) (remove ks at) (remove ss at) ≡ remove (rows bs ks ss) at
rows-remove zero [] ks ss e f = refl
rows-remove (suc at) [] ks ss e f = refl
rows-remove at (x ∷ bs) [] ss e f = absurd (omega (arith, e))
rows-remove at (x ∷ bs) (k ∷ ks) [] e f = absurd (omega (arith, f))
rows-remove zero (x ∷ bs) (k ∷ ks) (s ∷ ss) e f = refl
rows-remove (suc at) (x ∷ bs) (k ∷ ks) (s ∷ ss) e f =
    ap (λ (t : Children). (x, record { kind = k; slot = s }) ∷ t) (rows-remove at bs ks ss (omega (arith, e)) (omega (arith, f)))

-- no more are below a byte than there are
pub count_below-bound : (cs : Children) (b : ℕ) → count_below cs b ≤ length cs
count_below-bound [] b = omega arith
count_below-bound (c ∷ cs) b = elim (by_order c.0 b) [
  | inl h ↦ omega (arith, counted_front c cs b h, count_below-bound cs b)
  | inr h ↦ omega (arith, counted_here c cs b (elim h [ inl e ↦ omega (arith, e) | inr g ↦ omega (arith, g) ]))
]
