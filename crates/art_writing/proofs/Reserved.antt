-- what is reserved for a leaf and an inner node, and what is left of it
use Rattle.std.proofs.Common.{◌≡◌, ℕ, zero, suc, ◌<◌, Bool, true, false, cond, ◌&&◌, IsTrue, IsFalse, Option, Some, None, Result, Ok, Err}
use Rattle.std.proofs.Common.{OnOk, OnErr, IsOk, is_err, is_some, refl, ap, ◌∙◌, subst, leb, arith, eq-eqb}
use Rattle.std.proofs.lemmas.Bool.{le-leb, leb-true}
use Rattle.std.proofs.lemmas.Grind.{common_steps}
use Rattle.art_model.specs.Prelude.{Nodes, Promise, covers, no_promise, promises, take_inner, take_leaf, kind_index, NodeType, promise_after}
use Rattle.art_model.specs.Promises.{inner_taken}

module _ (promise : Promise) where
  -- a leaf is promised
  pub leaf_promised : (o : Option NodeType) → IsTrue (covers promise 1 o) → 0 < promise.leaves
  leaf_promised None h = let l = leb-true 1 promise.leaves h in omega arith
  leaf_promised (Some kind) h = go (leb 1 promise.leaves) (promises promise.inner kind) refl h
    where
      go : (t u : Bool) → leb 1 promise.leaves ≡ t → IsTrue (t && u) → 0 < promise.leaves
      go true u e h = let l = leb-true 1 promise.leaves e in omega arith
      go false u e h = absurd cc

  -- an inner node that is covered is promised
  covered_inner : (leaves : ℕ) (kind : NodeType) → IsTrue (covers promise leaves (Some kind)) → IsTrue (promises promise.inner kind)
  covered_inner leaves kind h = both (leb leaves promise.leaves) (promises promise.inner kind) h
    where
      both : (t u : Bool) → IsTrue (t && u) → IsTrue u
      both true u h = h
      both false u h = absurd cc

  -- and it still is when the leaf is placed
  pub inner_promised : (kind : NodeType) → IsTrue (covers promise 1 (Some kind)) → IsTrue (promises (take_leaf promise).inner kind)
  inner_promised kind h = go promise.leaves refl
    where
      go : (n : ℕ) → promise.leaves ≡ n → IsTrue (promises (take_leaf promise).inner kind)
      go zero e = let l = leaf_promised (Some kind) h in absurd (omega arith)
      go (suc n) e = rw e (covered_inner 1 kind h)

-- nothing was requested
pub is_none : {X : Type 0} (o : Option X) → is_some o ≡ false → o ≡ None
is_none None e = refl
is_none (Some x) e = absurd cc

-- where nothing is placed the promise stays
pub nothing_after : (promise : Promise) → promise_after (record { leaves = 0; inner = None }) promise ≡ promise
nothing_after promise = grind (arith, common_steps)

-- an inner node placed without a request is taken from the promise, or voids it
pub taken_unasked : (kind : NodeType) (promise : Promise) → take_inner kind promise ≡ promise_after (record { leaves = 0; inner = Some kind }) promise
taken_unasked kind promise = by_promise (leb 0 promise.leaves) (promises promise.inner kind) (le-leb 0 promise.leaves (omega arith))
  where
    by_promise : (t u : Bool) → t ≡ true → cond u (record promise { inner = None }) no_promise
        ≡ cond (t && u) (cond u (record promise { inner = None }) no_promise) no_promise
    by_promise true true e = refl
    by_promise true false e = refl
    by_promise false u e = absurd cc

-- what holds where a call did not fail
pub not_refused : {X E Q : Type 0} (r : Result X E) → is_err r ≡ false → OnOk r Q → Q
not_refused (Ok x) e h = h
not_refused (Err y) e h = absurd cc

-- and where it failed
pub was_refused : {X E Q : Type 0} (r : Result X E) → is_err r ≡ true → OnErr r Q → Q
was_refused (Ok x) e h = absurd cc
was_refused (Err y) e h = h

-- a call that failed did not succeed
pub not_granted : {X E Q : Type 0} (r : Result X E) → is_err r ≡ true → (Q → IsOk r) → Q → false ≡ true
not_granted (Ok x) e h q = absurd cc
not_granted (Err y) e h q = h q

-- what is left of a promise when the reserved leaf and inner node are placed
pub after_reserve : {K V Y E : Type 0} (s r : Nodes K V) (o : Option NodeType) {placed : Promise} (reserved : Result Y E) →
    is_err reserved ≡ false → (IsTrue (covers s.promise 1 o) → r ≡ s) →
    (IsFalse (covers s.promise 1 o) → OnOk reserved (r.promise ≡ record { leaves = 1; inner = o })) → record { leaves = 1; inner = o } ≡ placed →
    inner_taken o (take_leaf r.promise) ≡ promise_after placed s.promise
after_reserve s r o reserved ok kept granted placed_is =
    subst (λ p. inner_taken o (take_leaf r.promise) ≡ promise_after p s.promise) placed_is (go (covers s.promise 1 o) refl)
  where
    all_taken : (p : Option NodeType) → inner_taken p (take_leaf (record { leaves = 1; inner = p })) ≡ record { leaves = 0; inner = None }
    all_taken None = refl
    all_taken (Some kind) = rw (eq-eqb (kind_index kind) (kind_index kind) refl) refl

    go : (t : Bool) → covers s.promise 1 o ≡ t → inner_taken o (take_leaf r.promise) ≡ promise_after (record { leaves = 1; inner = o }) s.promise
    go true e = rw e (ap (λ (z : Nodes _ _). inner_taken o (take_leaf z.promise)) (kept e))
    go false e = rw e (ap (λ z. inner_taken o (take_leaf z)) (not_refused reserved ok (granted e)) ∙ all_taken o)
