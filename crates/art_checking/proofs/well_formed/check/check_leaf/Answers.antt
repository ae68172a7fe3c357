use Rattle.std.proofs.Common.{ap, sym, ◌≡◌, ◌∙◌, List, ℕ, refl, subst, inl, inr, Option, Some, None, Result, Ok, Err, IfErr, IfSome, option_map, option_and_then, Ordering, Less, Greater}
use Rattle.std.proofs.lemmas.Bool.{false≢true}
use Rattle.std.proofs.lemmas.Result.{on_ok_weaker}
use Rattle.std.specs.FinMap as map
use Rattle.art_model.specs.Prelude.{leaf_name, LeafNode, LeafPtr, OpaqueNodePtr, Nodes, HasSibling, IsTrueOf, Links, of_key, IsFront, held_leaf, links_at, links_of, pair_of}
use Rattle.art_model.specs.Faults.{ReachesLeaf}
use Rattle.art_checking.specs.Checked.{IsBetween, IsInOrder, IsTrueAt}
use Rattle.art_checking.specs.Checks.{between, fault_of}
use Rattle.art_checking.specs.declared.well_formed.fault.MalformedTreeError.{MalformedTreeError}
use Rattle.art_checking.proofs.LeastDescents.{leaf_at}
use Rattle.art_checking.proofs.Faulty.{passed_on, said}
use Rattle.art_checking.proofs.well_formed.check.check_leaf.Goals as goal

module _ {K V : Type 0} (bytes : K × V → List ℕ) (P : ℕ) (s : Nodes K V) (p : LeafPtr) (node : LeafNode K V) (there : map.get s.leaves p ≡ Some node) where
  -- its siblings are those that it names
  named : (links : Links OpaqueNodePtr) → links ≡ between node.previous node.next → links_at s (leaf_name p) ≡ Some links
  named links is = ap (λ o. option_and_then links_of (option_map held_leaf o)) there ∙ ap Some (sym is)

  previous_named : (root : OpaqueNodePtr) → IfSome node.previous (λ l. HasSibling bytes P s root (leaf_name p) Less (leaf_name l))
  previous_named root = go node.previous refl
    where
      go : (o : Option LeafPtr) → node.previous ≡ o → IfSome o (λ l. HasSibling bytes P s root (leaf_name p) Less (leaf_name l))
      go None e = tt
      go (Some l) e = (between node.previous node.next, named (between node.previous node.next) refl, inl (refl, ap (option_map leaf_name) e))

  next_named : (root : OpaqueNodePtr) → IfSome node.next (λ l. HasSibling bytes P s root (leaf_name p) Greater (leaf_name l))
  next_named root = go node.next refl
    where
      go : (o : Option LeafPtr) → node.next ≡ o → IfSome o (λ l. HasSibling bytes P s root (leaf_name p) Greater (leaf_name l))
      go None e = tt
      go (Some l) e = (between node.previous node.next, named (between node.previous node.next) refl, inr (refl, ap (option_map leaf_name) e))

  -- what is reported of a sibling is true at the leaf
  at_leaf : {T : Type 0} (r : Result T MalformedTreeError) (place : List ℕ) (link : Option LeafPtr) (order : Ordering) {key : List ℕ} →
      bytes (pair_of node) ≡ key →
      ((root : OpaqueNodePtr) → IfSome link (λ l. HasSibling bytes P s root (leaf_name p) order (leaf_name l))) →
      IfErr r (λ error. (root leaf : OpaqueNodePtr) (x : K × V) → ReachesLeaf bytes P s root place leaf x → bytes x ≡ key →
      IfSome link (λ l. HasSibling bytes P s root leaf order (leaf_name l)) → IsTrueOf bytes P s root (fault_of error)) →
      IfErr r (IsTrueAt bytes P s place (leaf_name p))
  at_leaf (Ok x) place link order is names h = tt
  at_leaf (Err error) place link order is names h = λ root reach. h root (leaf_name p) (pair_of node) (reach, leaf_at s p node there) is (names root)

one_node : {X : Type 0} {x y : X} {o : Option X} → Some x ≡ o → o ≡ Some y → x ≡ y
one_node e f = cc

pub returns-clause-leaf : goal.returns-clause-leaf
returns-clause-leaf g c =
    let begun = subst (IsFront c.args.place.now) c.as_bytes-key.ensures (c.begins_with.ensures.0 c.if-not-begins_with.false) in
    on_ok_weaker c.check_order-2.result (λ after. (
      pair_of c.leaf_at-node.result.now,
      leaf_at c.args.store.now c.args.leaf c.leaf_at-node.result.now c.leaf_at-node.ensures,
      begun,
    ))
    c.check_order-2.ensures.sibling

pub returns-in_err-check_order-clause-fault : goal.returns-in_err-check_order-clause-fault
returns-in_err-check_order-clause-fault g c =
    passed_on _ _ _ c.from_residual.ensures.1
    (λ root reach. c.in_err-check_order.ensures.fault root (leaf_name c.args.leaf) (pair_of c.leaf_at-node.result.now)
    (reach, leaf_at c.args.store.now c.args.leaf c.leaf_at-node.result.now c.leaf_at-node.ensures) (sym c.as_bytes-key.ensures)
    (previous_named (of_key g.K.AsBytes.bytes) g.row.P c.args.store.now c.args.leaf c.leaf_at-node.result.now c.leaf_at-node.ensures root))

pub returns-clause-fault : goal.returns-clause-fault
returns-clause-fault g c =
    let there = c.leaf_at-node.ensures in
    at_leaf (of_key g.K.AsBytes.bytes) g.row.P c.args.store.now c.args.leaf c.leaf_at-node.result.now there c.check_order-2.result
    c.args.place.now c.leaf_at-node.result.now.next Greater
    (sym c.as_bytes-key.ensures) (next_named
    (of_key g.K.AsBytes.bytes) g.row.P c.args.store.now c.args.leaf c.leaf_at-node.result.now there) c.check_order-2.ensures.fault

pub returns-then-not-begins_with-clause-fault : goal.returns-then-not-begins_with-clause-fault
returns-then-not-begins_with-clause-fault g c root reach =
    said (of_key g.K.AsBytes.bytes) g.row.P c.args.store.now root c.prefix_mismatch.result c.prefix_mismatch.ensures (
      leaf_name c.args.leaf,
      pair_of c.leaf_at-node.result.now,
      (reach, leaf_at c.args.store.now c.args.leaf c.leaf_at-node.result.now c.leaf_at-node.ensures),
      sym c.as_bytes-key.ensures,
      λ front. false≢true (sym c.if-not-begins_with.true ∙ c.begins_with.ensures.1 front),
    )

pub returns-clause-siblings : goal.returns-clause-siblings
returns-clause-siblings g c =
    let s = c.args.store.now in
    let bytes = of_key {V = g.row.V.Denot} g.K.AsBytes.bytes in
    let own = c.leaf_at-node.result.now in
    let Stand = λ (k : List ℕ). IfSome own.previous (λ l. IsInOrder bytes g.row.P s l Less k) × IfSome own.next (λ l. IsInOrder bytes g.row.P s l Greater k) in
    on_ok_weaker c.check_order-2.result
    (λ (after : IfSome own.next (λ l. IsInOrder bytes g.row.P s l Greater c.as_bytes-key.result.now))
    (node : LeafNode g.row.K.Denot g.row.V.Denot) (is : map.get s.leaves c.args.leaf ≡ Some node).
    subst (IsBetween bytes g.row.P s) (one_node (sym c.leaf_at-node.ensures) is)
    (subst Stand c.as_bytes-key.ensures (c.in_ok-check_order.ensures.sibling, after))) c.check_order-2.ensures.sibling
