use Rattle.std.proofs.Common.{refl, ap, sym, ◌∙◌, inr, subst, ◌≡◌, ℕ, zero, suc, None, IfSome, eq-eqb, Ordering, Less, Equal, Greater}
use Rattle.std.proofs.lemmas.Bool.{false≢true, eqb-true}
use Rattle.std.specs.Cmp.Lexicographic.{slice_cmp}
use Rattle.std.specs.Ordering.{nat_cmp, ordering_index}
use Rattle.art_model.specs.Prelude.{leaf_name, HasSibling, of_key, node_at, pair_of}
use Rattle.art_checking.specs.Checked.{IsInOrder}
use Rattle.art_checking.proofs.LeastDescents.{leaf_at, none_at_leaf}
use Rattle.art_checking.proofs.Faulty.{said}
use Rattle.art_checking.proofs.well_formed.check.check_order.Goals as goal

-- the order that has an index
abbrev order_at : ℕ → Ordering
order_at zero = Less
order_at (suc zero) = Equal
order_at (suc (suc n)) = Greater

order_at-index : (order : Ordering) → order_at (ordering_index order) ≡ order
order_at-index Less = refl
order_at-index Equal = refl
order_at-index Greater = refl

pub returns-in_default-leaf-clause-fault : goal.returns-in_default-leaf-clause-fault
returns-in_default-leaf-clause-fault g c root leaf x reach is has =
    let bytes = of_key g.K.AsBytes.bytes in
    let named = sym c.to_opaque.ensures in
    let own = subst (λ o. IfSome o (λ l. HasSibling bytes g.row.P c.args.store.now root leaf c.args.expected (leaf_name l))) c.in-Some.is has in
    said bytes g.row.P c.args.store.now root c.dead_name.result c.dead_name.ensures (
      subst (λ n. node_at c.args.store.now n ≡ None) named (none_at_leaf c.args.store.now c.in-Some.sibling (sym c.in_default-leaf.ensures)),
      inr (leaf, x, c.args.expected, reach, subst (HasSibling bytes g.row.P c.args.store.now root leaf c.args.expected) named own),
    )

pub returns-clause-fault : goal.returns-clause-fault
returns-clause-fault g c root leaf x reach is has =
    let bytes = of_key g.K.AsBytes.bytes in
    let own = subst (λ o. IfSome o (λ l. HasSibling bytes g.row.P c.args.store.now root leaf c.args.expected (leaf_name l))) c.in-Some.is has in
    said bytes g.row.P c.args.store.now root c.leaf_sibling_wrong_order.result c.leaf_sibling_wrong_order.ensures (
      c.args.place.now,
      leaf,
      leaf_name c.in-Some.sibling,
      x,
      pair_of c.in-Some-leaf.node.now,
      reach,
      own,
      leaf_at c.args.store.now c.in-Some.sibling c.in-Some-leaf.node.now (sym c.in-Some-leaf.ensures),
      sym c.as_bytes-sibling_key.ensures,
      is,
      sym c.order_of-actual.ensures,
      λ e. false≢true (sym c.if-eq.false ∙ c.eq.ensures
          ∙ eq-eqb (ordering_index c.order_of-actual.result) (ordering_index c.args.expected) (ap ordering_index e)),
    )

pub returns-then-eq-clause-sibling : goal.returns-then-eq-clause-sibling
returns-then-eq-clause-sibling g c =
    let index = eqb-true (ordering_index c.order_of-actual.result) (ordering_index c.args.expected) (sym c.eq.ensures ∙ c.if-eq.true) in
    let same = sym (order_at-index c.order_of-actual.result) ∙ ap order_at index ∙ order_at-index c.args.expected in
    let bytes = of_key g.K.AsBytes.bytes in
    subst (λ o. IfSome o (λ l. IsInOrder bytes g.row.P c.args.store.now l c.args.expected c.args.key.now)) (sym c.in-Some.is) (
      c.in-Some-leaf.node.now,
      sym c.in-Some-leaf.ensures,
      ap (λ key. slice_cmp nat_cmp key c.args.key.now) (sym c.as_bytes-sibling_key.ensures) ∙ sym c.order_of-actual.ensures ∙ same,
    )

-- a sibling that is not in the store is never passed
pub returns-in_default-leaf-clause-sibling : goal.returns-in_default-leaf-clause-sibling
returns-in_default-leaf-clause-sibling g c = tt
