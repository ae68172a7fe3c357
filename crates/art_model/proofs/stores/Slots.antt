-- A layout's children as a store writes them: a child set under a byte, and the kind by their number.
use Rattle.std.proofs.Common.{◌≡◌, ◌≢◌, ℕ, suc, ◌<◌, ◌≤◌, List, [], ◌∷◌, ◌++◌, length, Some, false, refl, ap, sym, arith, leb, eq-eqb, subst, inl, inr}
use Rattle.std.specs.List.{AllByRecursion as Each}
use Rattle.std.proofs.lemmas.Bool.{cases_Bool, cases_order, le-ltb, lt-ltb, ne_eqb, le-leb, leb-true, leb-false}
use Rattle.art_model.specs.Prelude.{put_child, child_at, kind_capacity, kind_least, NodeType, Node4, Node16, Node48, Node256, Leaf, OpaqueNodePtr, Tree, Subtrees, child, no_child, kind_of, bytes_of, join, slots_of, name_of}
use Rattle.art_model.proofs.changes.Changes.{two_children}

module _ {N A : Type 0} where
  -- as many slots as bytes
  pub length-slots_of : (cs : Subtrees N A) → length (slots_of cs) ≡ length (bytes_of cs)
  length-slots_of no_child = refl
  length-slots_of (child b t cs) = ap suc (length-slots_of cs)

module _ {A : Type 0} where
  -- a byte that has a child has another one
  pub put_child-there : (left : Subtrees OpaqueNodePtr A) (b : ℕ) (old new : OpaqueNodePtr) (rest : List (ℕ × OpaqueNodePtr)) →
      Each (λ c. c < b) (bytes_of left) → put_child (slots_of left ++ (b, old) ∷ rest) b new ≡ slots_of left ++ (b, new) ∷ rest
  put_child-there no_child b old new rest h = rw (le-ltb b b (omega arith), eq-eqb b b refl) refl
  put_child-there (child c t cs) b old new rest h = rw (lt-ltb c b h.0) (ap (λ l. (c, name_of t) ∷ l) (put_child-there cs b old new rest h.1))

  -- the child of a byte among others
  pub child_at-there : (left : Subtrees OpaqueNodePtr A) (b : ℕ) (name : OpaqueNodePtr) (rest : List (ℕ × OpaqueNodePtr)) →
      Each (λ c. c < b) (bytes_of left) → child_at (slots_of left ++ (b, name) ∷ rest) b ≡ Some name
  child_at-there no_child b name rest h = rw (eq-eqb b b refl) refl
  child_at-there (child c t cs) b name rest h = rw (ne_eqb c b (λ e. let l = h.0 in omega arith)) (child_at-there cs b name rest h.1)

  put_child-first : (cs : Subtrees OpaqueNodePtr A) (b : ℕ) (t : Tree OpaqueNodePtr A) → Each (λ c. b < c) (bytes_of cs) →
      put_child (slots_of cs) b (name_of t) ≡ (b, name_of t) ∷ slots_of cs
  put_child-first no_child b t h = refl
  put_child-first (child c u cs) b t h = rw (le-ltb c b (let l = h.0 in omega arith), ne_eqb c b (λ e. let l = h.0 in omega arith)) refl

  -- a child between the others, under a byte that had none
  pub put_child-new : (l r : Subtrees OpaqueNodePtr A) (b : ℕ) (t : Tree OpaqueNodePtr A) → Each (λ c. c < b) (bytes_of l) →
      Each (λ c. b < c) (bytes_of r) → put_child (slots_of (join l r)) b (name_of t) ≡ slots_of (join l (child b t r))
  put_child-new no_child r b t low high = put_child-first r b t high
  put_child-new (child c u l) r b t low high = rw (lt-ltb c b low.0) (ap (λ z. (c, name_of u) ∷ z) (put_child-new l r b t low.1 high))

  -- two children added to a node without one
  pub put_child-two : (b c : ℕ) (t u : Tree OpaqueNodePtr A) → b ≢ c → put_child (put_child [] b (name_of t)) c (name_of u) ≡ slots_of (two_children b t c u)
  put_child-two b c t u off = elim (cases_order b c) [
    | inl e ↦ absurd (off e)
    | inr (inl l) ↦ rw (lt-ltb b c l) refl
    | inr (inr l) ↦ rw (le-ltb b c (omega arith), ne_eqb b c off) refl
  ]

-- ---- the kind by the number of children

not_leb : (m n : ℕ) → m < n → leb n m ≡ false
not_leb m n h = elim (cases_Bool (leb n m)) [ inl e ↦ let l = leb-true n m e in absurd (omega arith) | inr e ↦ e ]

-- so many children are in the range of the kind
abbrev pub IsInRange : NodeType → ℕ → Type 0
IsInRange Node4 n = n ≤ 4
IsInRange Node16 n = (4 < n) × (n ≤ 16)
IsInRange Node48 n = (16 < n) × (n ≤ 48)
IsInRange Node256 n = 48 < n
IsInRange Leaf n = ⊥

-- the kind is the one in whose range the number is
pub kind_of-range : (kind : NodeType) (n : ℕ) → IsInRange kind n → kind_of n ≡ kind
kind_of-range Node4 n h = rw (le-leb n 4 h) refl
kind_of-range Node16 n h = rw (not_leb 4 n h.0, le-leb n 16 h.1) refl
kind_of-range Node48 n h = rw (not_leb 4 n (let l = h.0 in omega arith), not_leb 16 n h.0, le-leb n 48 h.1) refl
kind_of-range Node256 n h = rw (not_leb 4 n (omega arith), not_leb 16 n (omega arith), not_leb 48 n h) refl
kind_of-range Leaf n h = absurd h

-- the number is in the range of its kind
pub range_of_kind : (n : ℕ) → IsInRange (kind_of n) n
range_of_kind n = elim (cases_Bool (leb n 4)) [
  | inl e ↦ rw e (leb-true n 4 e)
  | inr e ↦
      let four = leb-false n 4 e in
      elim (cases_Bool (leb n 16)) [
        | inl f ↦ rw (e, f) (four, leb-true n 16 f)
        | inr f ↦
            let sixteen = leb-false n 16 f in
            elim (cases_Bool (leb n 48)) [ inl g ↦ rw (e, f, g) (sixteen, leb-true n 48 g) | inr g ↦ rw (e, f, g) (leb-false n 48 g) ]
      ]
]

-- a node with room keeps its kind when it has one more child
pub kind_of-room : (kind : NodeType) (n : ℕ) → kind ≡ kind_of n → n < kind_capacity kind → kind ≡ kind_of (suc n)
kind_of-room kind n e room = sym (kind_of-range kind (suc n) (more kind (subst (λ k. IsInRange k n) (sym e) (range_of_kind n)) room))
  where
    more : (k : NodeType) → IsInRange k n → n < kind_capacity k → IsInRange k (suc n)
    more Node4 h l = omega arith
    more Node16 h l = (let a = h.0 in omega arith, omega arith)
    more Node48 h l = (let a = h.0 in omega arith, omega arith)
    more Node256 h l = omega arith
    more Leaf h l = absurd h

-- a full node changes its kind when it has one more child; a Node256 is never full of fewer than 256 children
pub kind_of-full : (kind : NodeType) (n : ℕ) → kind ≢ Node256 → kind_capacity kind ≤ n → kind ≢ kind_of (suc n)
kind_of-full kind n not_last full e = over kind not_last full (subst (λ k. IsInRange k (suc n)) (sym e) (range_of_kind (suc n)))
  where
    over : (k : NodeType) → k ≢ Node256 → kind_capacity k ≤ n → IsInRange k (suc n) → ⊥
    over Node4 off f h = omega arith
    over Node16 off f h = let a = h.1 in omega arith
    over Node48 off f h = let a = h.1 in omega arith
    over Node256 off f h = off refl
    over Leaf off f h = h

-- a node with more children than its kind's minimum keeps its kind when it has one less
pub kind_of-spare : (kind : NodeType) (n : ℕ) → kind ≡ kind_of (suc n) → kind_least kind ≤ n → kind ≡ kind_of n
kind_of-spare kind n e spare = sym (kind_of-range kind n (less kind (subst (λ k. IsInRange k (suc n)) (sym e) (range_of_kind (suc n))) spare))
  where
    less : (k : NodeType) → IsInRange k (suc n) → kind_least k ≤ n → IsInRange k n
    less Node4 h l = omega arith
    less Node16 h l = (omega arith, let a = h.1 in omega arith)
    less Node48 h l = (omega arith, let a = h.1 in omega arith)
    less Node256 h l = omega arith
    less Leaf h l = absurd h

-- a node with its kind's minimum of children changes its kind when it has one less; a Node4 then has one child left
pub kind_of-least : (kind : NodeType) (n : ℕ) → kind ≢ Node4 → n < kind_least kind → kind ≢ kind_of n
kind_of-least kind n not_first least e = under kind not_first least (subst (λ k. IsInRange k n) (sym e) (range_of_kind n))
  where
    under : (k : NodeType) → k ≢ Node4 → n < kind_least k → IsInRange k n → ⊥
    under Node4 off l h = off refl
    under Node16 off l h = let a = h.0 in omega arith
    under Node48 off l h = let a = h.0 in omega arith
    under Node256 off l h = omega arith
    under Leaf off l h = h
