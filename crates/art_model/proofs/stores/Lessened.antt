-- Promises of which ever less is left.
use Rattle.std.proofs.Common.{◌≡◌, ℕ, zero, suc, Bool, true, false, ◌&&◌, cond, leb, eqb, eqb-true, eq-eqb, Option, Some, None, refl, ◌∙◌, arith}
use Rattle.std.proofs.lemmas.Bool.{le-leb, leb-true}
use Rattle.art_model.specs.Prelude.{Promise, covers, promises, no_promise, take_leaf, take_inner, kind_index, NodeType, IsLessened}

both : (a b : Bool) → (a && b) ≡ true → (a ≡ true) × (b ≡ true)
both true true e = (refl, refl)
both true false e = absurd cc
both false b e = absurd cc

-- no promise is less than any
lessened_none : (p : Promise) → IsLessened p no_promise
lessened_none p = le-leb 0 p.leaves (omega arith)

pub lessened_same : (p : Promise) → IsLessened p p
lessened_same p = go p.inner
  where
    go : (o : Option NodeType) → covers (record { leaves = p.leaves; inner = o }) p.leaves o ≡ true
    go None = le-leb p.leaves p.leaves (omega arith)
    go (Some kind) = rw (le-leb p.leaves p.leaves (omega arith)) (eq-eqb (kind_index kind) (kind_index kind) refl)

pub lessened_twice : (p q r : Promise) → IsLessened p q → IsLessened q r → IsLessened p r
lessened_twice p q r h k = go p.inner q.inner r.inner h k
  where
    go : (a b c : Option NodeType) → covers (record { leaves = p.leaves; inner = a }) q.leaves b ≡ true →
        covers (record { leaves = q.leaves; inner = b }) r.leaves c ≡ true → covers (record { leaves = p.leaves; inner = a }) r.leaves c ≡ true
    go a None None h k = let l = leb-true q.leaves p.leaves h in let m = leb-true r.leaves q.leaves k in le-leb r.leaves p.leaves (omega arith)
    go a None (Some c) h k = absurd (let e = (both (leb r.leaves q.leaves) false k).1 in cc)
    go None (Some b) None h k = absurd (let e = (both (leb q.leaves p.leaves) false h).1 in cc)
    go (Some a) (Some b) None h k =
        let l = leb-true q.leaves p.leaves (both (leb q.leaves p.leaves) (eqb (kind_index a) (kind_index b)) h).0 in let m =
        leb-true r.leaves q.leaves k in le-leb r.leaves p.leaves (omega arith)
    go None (Some b) (Some c) h k = absurd (let e = (both (leb q.leaves p.leaves) false h).1 in cc)
    go (Some a) (Some b) (Some c) h k =
        let (l, e) = both (leb q.leaves p.leaves) (eqb (kind_index a) (kind_index b)) h in
        let (m, f) = both (leb r.leaves q.leaves) (eqb (kind_index b) (kind_index c)) k in
        let first = leb-true q.leaves p.leaves l in
        let second = leb-true r.leaves q.leaves m in
        rw (le-leb r.leaves p.leaves (omega arith))
        (eq-eqb (kind_index a) (kind_index c) (eqb-true (kind_index a) (kind_index b) e ∙ eqb-true (kind_index b) (kind_index c) f))

-- what a placement leaves of a promise
pub lessened_leaf : (p : Promise) → IsLessened p (take_leaf p)
lessened_leaf p = go p.leaves
  where
    go : (n : ℕ) → IsLessened (record p { leaves = n }) (take_leaf (record p { leaves = n }))
    go zero = lessened_none (record p { leaves = 0 })
    go (suc n) = go_inner n p.inner
      where
        go_inner : (n : ℕ) (o : Option NodeType) → covers (record { leaves = suc n; inner = o }) n o ≡ true
        go_inner n None = le-leb n (suc n) (omega arith)
        go_inner n (Some kind) = rw (le-leb n (suc n) (omega arith)) (eq-eqb (kind_index kind) (kind_index kind) refl)

pub lessened_inner : (kind : NodeType) (p : Promise) → IsLessened p (take_inner kind p)
lessened_inner kind p = go (promises p.inner kind)
  where
    go : (t : Bool) → IsLessened p (cond t (record p { inner = None }) no_promise)
    go true = le-leb p.leaves p.leaves (omega arith)
    go false = lessened_none p
