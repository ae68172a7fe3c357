-- a path from a root is read in one manner, so that other places have other paths
use Rattle.std.proofs.Common.{◌≡◌, ◌≢◌, ℕ, List, [], ◌∷◌, ◌++◌, length, take, drop, ap, ap₂, sym, ◌∙◌, arith, subst, Option, Some, inl, inr}
use Rattle.art_model.specs.Prelude.{child_at, OpaqueNodePtr, Node, leaf_node, bottom_of, IsDescent, IsPrefix, HasPrefix, IsTrail, IsReadAs}
use Rattle.art_model.specs.Trails.{way_of, IsReached}

module _ {A : Type 0} (at : OpaqueNodePtr → Option (Node OpaqueNodePtr A)) where
  -- descents from a name end at one leaf
  same_leaf : (name : OpaqueNodePtr) (ns ms : List OpaqueNodePtr) (x y : A) → IsDescent at name ns → at (bottom_of name ns) ≡ Some (leaf_node x) →
      IsDescent at name ms → at (bottom_of name ms) ≡ Some (leaf_node y) → x ≡ y
  same_leaf name [] [] x y d e f g = cc
  same_leaf name [] (m ∷ ms) x y d e f g = let h = f.0.3 in absurd cc
  same_leaf name (n ∷ ns) [] x y d e f g = let h = d.0.3 in absurd cc
  same_leaf name (n ∷ ns) (m ∷ ms) x y d e f g =
      let first = d.0.3 in
      let second = f.0.3 in
      let both : ◌≡◌ {A = ℕ × OpaqueNodePtr} (f.0.1, m) (d.0.1, n) = cc in
      let same : m ≡ n = ap (λ c. c.1) both in
      same_leaf n ns ms x y d.1 e (subst (λ k. IsDescent at k ms) same f.1) (subst (λ k. at (bottom_of k ms) ≡ Some (leaf_node y)) same g)

  module _ (bytes : A → List ℕ) (P : ℕ) where
    -- a node has one prefix
    same_prefix : (d : ℕ) (name : OpaqueNodePtr) (p q : List ℕ) → HasPrefix at bytes P d name p → HasPrefix at bytes P d name q → p ≡ q
    same_prefix d name p q (h, slots, there, is) (k, others, here, is_too) =
        let header : k ≡ h = cc in
        go is (subst (λ z. IsPrefix at bytes P d name z q) header is_too)
      where
        go : IsPrefix at bytes P d name h p → IsPrefix at bytes P d name h q → p ≡ q
        go (inl (l, e)) (inl (m, f)) = e ∙ sym f
        go (inl (l, e)) (inr (m, f)) = absurd (omega arith)
        go (inr (l, e)) (inl (m, f)) = absurd (omega arith)
        go (inr (l, (x, (ns, d1, e1), long, e))) (inr (m, (y, (ms, d2, e2), long2, f))) =
            e ∙ ap (λ z. take h.length_of (drop d (bytes z))) (same_leaf name ns ms x y d1 e1 d2 e2) ∙ sym f

    -- a path is read in one manner
    same_read : (front : List ℕ) (name : OpaqueNodePtr) (steps others : List (ℕ × OpaqueNodePtr)) (p q : List ℕ) → IsTrail at name steps →
        IsReadAs at bytes P front name steps p → IsTrail at name others → IsReadAs at bytes P front name others q → way_of steps ≡ way_of others → p ≡ q
    same_read front name [] [] p q t r u v e = r ∙ sym v
    same_read front name [] (o ∷ os) p q t r u v e = absurd cc
    same_read front name (s ∷ ss) [] p q t r u v e = absurd cc
    same_read front name (s ∷ ss) (o ∷ os) p q ((h, slots, there, child), trail) (part, has, read) ((k, more, here, child_too), trail_too)
        (part_too, has_too, read_too) e =
        let byte : o.0 ≡ s.0 = cc in
        let rest : way_of ss ≡ way_of os = cc in
        let slots_are : more ≡ slots = cc in
        let name_is : o.1 ≡ s.1 = let c = sym child_too ∙ ap₂ child_at slots_are byte ∙ child in cc in
        let part_is : part_too ≡ part = same_prefix (length front) name part_too part has_too has in
        same_read (front ++ part ++ s.0 ∷ []) s.1 ss os p q trail read (subst (λ n. IsTrail at n os) name_is trail_too)
        (subst (λ n. IsReadAs at bytes P (front ++ part ++ s.0 ∷ []) n os q) name_is
        (subst (λ f. IsReadAs at bytes P f o.1 os q) (ap₂ (λ z b. front ++ z ++ b ∷ []) part_is byte) read_too)) rest

    -- where the places differ the paths do
    pub other_way : (root n m : OpaqueNodePtr) (p q : List ℕ) (one : IsReached at bytes P root p n)
        (other : IsReached at bytes P root q m) → p ≢ q → way_of one.steps ≢ way_of other.steps
    other_way root n m p q one other off e = off (same_read [] root one.steps other.steps p q one.is_trail one.is_read other.is_trail other.is_read e)
