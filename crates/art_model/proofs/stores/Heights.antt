-- heights read off a store, and why the store's count of inner nodes is enough steps
use Rattle.std.proofs.Common.{◌≡◌, ◌≢◌, ℕ, suc, zero, ◌-◌, ◌≤◌, max, List, [], ◌∷◌, length, refl, ap, ap₂, sym, ◌∙◌, arith, length-append, Option, true, cond, is_some, Ordering}
use Rattle.std.specs.List.{AllByRecursion as Each}
use Rattle.std.specs.Cmp.{IsTotalOrder}
use Rattle.std.specs.FinMap as map
use Rattle.std.proofs.lemmas.Bool.{false≢true}
use Rattle.art_model.specs.Prelude.{Inner, Nodes, inner_cmp, OpaqueNodePtr, Tree, leaf, inner, Subtrees, child, no_child, Node, name_of, slots_of, names_of, inner_names, inner_names_below, Holds, HoldsBelow, AreDistinct, height, tree_height, height_below, node_at, as_inner}
use Rattle.art_parts.proofs.NameLemmas.{inner_cmp_total, inner_cmp-IsAntisymmetric}
use Rattle.art_nodes.proofs.StoreChanges.{gone_elsewhere}
use Rattle.art_model.specs.Heights.{highest}
use Rattle.art_model.proofs.stores.Views.{inner_is_used}
use Rattle.art_model.proofs.lists.Lists.{Each-append, Each-weaker}
use Rattle.art_model.proofs.stores.Names.{taken_distinct, takes_inners}

-- the height read off the store is that of the layout
module _ {N A : Type 0} (at : N → Option (Node N A)) where
  mutual
    unfolding height

    -- of a name
    pub height_is : (t : Tree N A) (steps : ℕ) → Holds at t → tree_height t ≤ steps → height at steps (name_of t) ≡ tree_height t
    height_is (leaf n x) zero h enough = refl
    height_is (leaf n x) (suc steps) h enough = rw h refl
    height_is (inner n h cs) zero holds enough = absurd (omega arith)
    height_is (inner n h cs) (suc steps) holds enough = rw holds.0 (ap suc (highest_is cs steps holds.1 (omega arith)))

    highest_is : (cs : Subtrees N A) (steps : ℕ) → HoldsBelow at cs → height_below cs ≤ steps → highest (height at steps) (slots_of cs) ≡ height_below cs
    highest_is no_child steps h enough = refl
    highest_is (child b t cs) steps h enough = ap₂ max (height_is t steps h.0 (omega arith)) (highest_is cs steps h.1 (omega arith))

module _ {N A : Type 0} where
  mutual
    -- a tree is no higher than it has inner nodes
    pub height_long : (t : Tree N A) → tree_height t ≤ length (inner_names t)
    height_long (leaf n x) = omega arith
    height_long (inner n h cs) = let l = height_below_long cs in omega arith

    height_below_long : (cs : Subtrees N A) → height_below cs ≤ length (inner_names_below cs)
    height_below_long no_child = omega arith
    height_below_long (child b t cs) = let l = height_long t in let k = height_below_long cs in rw length-append (omega arith)

-- distinct names that a store has are at most as many as it has
same_name : (n k : OpaqueNodePtr) → as_inner n ≡ as_inner k → n ≡ k
same_name n k e = ap (λ p. let r : OpaqueNodePtr = record { kind = p.kind; slot = p.slot } in r) e

-- a map is one longer than without a key that it has
pub one_less : {Key X : Type 0} {cmp : Key → Key → Ordering} → IsTotalOrder cmp → (m : map.FinMap cmp X) (p : Key) →
    is_some (map.get m p) ≡ true → suc (map.len (map.remove m p)) ≡ map.len m
one_less {cmp = cmp} total m p there =
    let e : map.len (map.remove m p) ≡ map.len m - 1 = map.len-remove total m p ∙ ap (λ b. cond b (map.len m - 1) (map.len m)) there in
    let some : map.len m ≢ 0 =
    λ z. false≢true (sym (ap is_some (map.get-empty cmp p)) ∙ ap (λ n. is_some (map.get n p)) (sym (map.empty_of_len m z)) ∙ there) in
    omega arith

-- so a map has at least as many keys as there are distinct names that have keys of their own in it
enough_keys : {Key X : Type 0} {cmp : Key → Key → Ordering} → IsTotalOrder cmp → map.IsAntisymmetric cmp →
    (key : OpaqueNodePtr → Key) (IsProper : OpaqueNodePtr → Type 0) →
    ((n k : OpaqueNodePtr) → IsProper n → IsProper k → key n ≡ key k → n ≡ k) → (ns : List OpaqueNodePtr) (m : map.FinMap cmp X) → AreDistinct ns →
    Each (λ n. IsProper n × (is_some (map.get m (key n)) ≡ true)) ns → length ns ≤ map.len m
enough_keys total same key IsProper own [] m d h = omega arith
enough_keys {X = X} {cmp = cmp} total same key IsProper own (n ∷ ns) m d h =
    let less = one_less total m (key n) h.0.1 in
    let kept = go ns d.0 h.1 in
    let ih = enough_keys total same key IsProper own ns (map.remove m (key n)) d.1 kept in
    omega arith
  where
    go : (ks : List OpaqueNodePtr) → Each (λ k. n ≢ k) ks → Each (λ k. IsProper k × (is_some (map.get m (key k)) ≡ true)) ks →
        Each (λ k. IsProper k × (is_some (map.get (map.remove m (key n)) (key k)) ≡ true)) ks
    go [] o is = tt
    go (k ∷ ks) o is = ((is.0.0, ap is_some (gone_elsewhere total same m (key n) (key k) (λ e. o.0 (own n k h.0.0 is.0.0 (sym e)))) ∙ is.0.1), go ks o.1 is.1)

-- and a map of inner nodes at least as many as a layout
pub enough_inners : (ns : List OpaqueNodePtr) (m : map.FinMap inner_cmp Inner) → AreDistinct ns →
    Each (λ n. is_some (map.get m (as_inner n)) ≡ true) ns → length ns ≤ map.len m
enough_inners ns m d h =
    enough_keys inner_cmp_total inner_cmp-IsAntisymmetric as_inner (λ n. Unit {0}) (λ n k _ _ e. same_name n k e) ns m d
    (Each-weaker (λ n. is_some (map.get m (as_inner n)) ≡ true) (λ n. Unit {0} × (is_some (map.get m (as_inner n)) ≡ true)) (λ n there. (tt, there)) ns h)

module _ {K V : Type 0} (s : Nodes K V) where
  mutual
    inners_held : (t : Tree OpaqueNodePtr (K × V)) → Holds (node_at s) t → Each (λ n. is_some (map.get s.inners (as_inner n)) ≡ true) (inner_names t)
    inners_held (leaf n x) h = tt
    inners_held (inner n h cs) holds = (inner_is_used s n h (slots_of cs) holds.0, inners_held_below cs holds.1)

    inners_held_below : (cs : Subtrees OpaqueNodePtr (K × V)) → HoldsBelow (node_at s) cs →
        Each (λ n. is_some (map.get s.inners (as_inner n)) ≡ true) (inner_names_below cs)
    inners_held_below no_child h = tt
    inners_held_below (child b t cs) h =
        Each-append (λ n. is_some (map.get s.inners (as_inner n)) ≡ true) (inner_names t) (inner_names_below cs) (inners_held t h.0)
        (inners_held_below cs h.1)

  -- the steps that a store's count of inner nodes gives are enough
  pub enough_steps : (t : Tree OpaqueNodePtr (K × V)) → Holds (node_at s) t → AreDistinct (names_of t) → tree_height t ≤ map.len s.inners
  enough_steps t h d =
      let l = height_long t in
      let k = enough_inners (inner_names t) s.inners (taken_distinct takes_inners t d) (inners_held t h) in
      omega arith
