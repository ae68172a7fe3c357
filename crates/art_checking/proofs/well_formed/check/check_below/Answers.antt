use Rattle.std.proofs.Common.{◌≡◌, ◌∙◌, ◌≤◌, true, [], ◌∷◌, length, reverse, is_some, Some, IfSome, ap, sym, refl, subst, rules, arith}
use Rattle.std.specs.FinMap as map
use Rattle.art_model.specs.Prelude.{kind_least, inner_name, Reaches, is_before, of_key, IsUsed}
use Rattle.art_checking.specs.Checked.{IsEntered, IsFirstLeast, IsFirstMet, IsLeafAt, IsLeastLeaf}
use Rattle.art_checking.specs.Meetings.{place_in}
use Rattle.art_checking.specs.declared.well_formed.check.Above.{Above}
use Rattle.art_model.proofs.lists.Lists.{reverse-empty, reverse-last, some_of}
use Rattle.art_checking.proofs.Traversals.{AreAbove, IsAt, all_reached, capacity_most, child_is_free, child_is_reached, cut_off, entered}
use Rattle.art_checking.proofs.Traversals.{falls_by, falls_in, falls_out, few_left, leaf_over, one_more_above, own_reached, parent_above}
use Rattle.art_checking.proofs.Traversals.{parent_goes_on, root_passed, started}
use Rattle.art_checking.proofs.Faulty.{passed_on}
use Rattle.art_checking.proofs.Passed.{inner_is_there, less_to_try, no_more_to_try, one_met}
use Rattle.art_checking.proofs.Walked.{least_known, reach_root}
use Rattle.art_checking.proofs.well_formed.check.check_below.Goals as goal
use Rattle.art_checking.proofs.well_formed.check.check_below.Invariants.{left_to_meet}

pub returns-in_err-children-clause-fault : goal.returns-in_err-children-clause-fault
returns-in_err-children-clause-fault g c =
    let bytes = of_key g.K.AsBytes.bytes in
    let root = inner_name c.args.root in
    passed_on _ _ _ c.from_residual.ensures.1
    (c.in_err-children.ensures.fault root (subst (λ p. Reaches bytes g.row.P c.args.store.now root p root) (sym c.requires.place)
    (reach_root bytes g.row.P c.args.store.now root)))

pub below-init : goal.below-init
below-init g c =
    let (start, starts, first) = c.requires.met in
    let (node, there) = some_of (map.get c.args.store.now.inners c.args.root) c.requires.there in
    let enters = subst (λ o. IfSome o (λ node. IsEntered
    (of_key g.K.AsBytes.bytes) g.row.P c.args.store.now c.args.place.now.items c.enter.new.place.items c.args.root node
    c.in_ok-children.children)) there
    c.in_ok-children.ensures.entered in
    record { at = started starts first c.requires.proper there c.requires.place c.new-above.ensures.items enters; least = c.in_ok-children.ensures.least }

-- ---- a node is done

pub returns-in_err-leave-clause-fault : goal.returns-in_err-leave-clause-fault
returns-in_err-leave-clause-fault g c =
    let at = c.below.invariant.at in
    let root = inner_name c.args.root in
    passed_on _ _ _ c.from_residual-in_err-leave.ensures.1
    (c.in_err-leave.ensures.fault root (subst
    (λ p. Reaches (of_key g.K.AsBytes.bytes) g.row.P c.args.store.now root p (inner_name c.below.name))
    (sym (cut_off at)) (own_reached at)))

pub returns-in_default-pop-clause-met : goal.returns-in_default-pop-clause-met
returns-in_default-pop-clause-met g c =
    let at = c.below.invariant.at in
    let enough = subst (λ o. IfSome o (λ node. kind_least c.below.name.kind ≤ length node.children)) at.met.there c.in_ok-leave.ensures.enough in
    root_passed at c.in_default.ensures.steps.0 enough (reverse-empty c.below.above.items c.below.above.len c.below.above.ok.0 c.in_default-pop.ensures.cases.0)

pub below-preserved-in_default : goal.below-preserved-in_default
below-preserved-in_default g c =
    let at = c.below.invariant.at in
    let enough = subst (λ o. IfSome o (λ node. kind_least c.below.name.kind ≤ length node.children)) at.met.there c.in_ok-leave.ensures.enough in
    record {
      at = parent_goes_on at c.in_default.ensures.steps.0 enough c.in-Some-pop.parent (reverse c.pop.new.self.items)
          (reverse-last c.below.above.items c.pop.new.self.items c.in-Some-pop.parent c.in-Some-pop.ensures.items)
          (c.in_ok-leave.ensures.place ∙ cut_off at) (sym c.leave.new.place.ok.0) c.pop-in_default.ensures.rest;
      least = tt;
    }

pub below-smaller-in_default : goal.below-smaller-in_default
below-smaller-in_default g c =
    let at = c.below.invariant.at in
    let enough = subst (λ o. IfSome o (λ node. kind_least c.below.name.kind ≤ length node.children)) at.met.there c.in_ok-leave.ensures.enough in
    let next = parent_goes_on at c.in_default.ensures.steps.0 enough c.in-Some-pop.parent (reverse c.pop.new.self.items)
    (reverse-last c.below.above.items c.pop.new.self.items c.in-Some-pop.parent c.in-Some-pop.ensures.items)
    (c.in_ok-leave.ensures.place ∙ cut_off at) (sym c.leave.new.place.ok.0) c.pop-in_default.ensures.rest in
    let few = few_left next in
    let most = capacity_most c.in-Some-pop.parent.name.kind in
    let one = one_more_above c.below.above.items c.pop.new.self.items c.in-Some-pop.parent c.in-Some-pop.ensures.items in
    falls_out (left_to_meet c.args.store.now.inners c.below.seen) (left_to_meet c.args.store.now.inners c.below.seen)
    (length c.below.above.items) (length c.pop.new.self.items)
    (length c.below.children) (length c.in-Some-pop.parent.children) refl one (omega (arith, few, most))

-- ---- a child is next

pub returns-in_err-meet-clause-fault : goal.returns-in_err-meet-clause-fault
returns-in_err-meet-clause-fault g c =
    let at = c.below.invariant.at in
    let root = inner_name c.args.root in
    let child = c.in-Some.child in
    passed_on _ _ _ c.from_residual-in_err-meet.ensures.1
    (c.in_err-meet.ensures.fault root (all_reached at)
    (subst (λ p. Reaches (of_key g.K.AsBytes.bytes) g.row.P c.args.store.now root p child) (sym c.deref.ensures.value)
    (child_is_reached at c.in-Some.ensures.steps c.in_ok-push.ensures.items))
    (λ other e. subst (λ p. is_before other p ≡ true) (sym c.deref.ensures.value)
    (child_is_free at c.in-Some.ensures.steps c.in_ok-push.ensures.items child other e)))

pub returns-in_err-check_leaf-in-Leaf-clause-fault : goal.returns-in_err-check_leaf-in-Leaf-clause-fault
returns-in_err-check_leaf-in-Leaf-clause-fault g c =
    let bytes = of_key g.K.AsBytes.bytes in
    let s = c.args.store.now in
    let root = inner_name c.args.root in
    let reach = child_is_reached c.below.invariant.at c.in-Some.ensures.steps c.in_ok-push.ensures.items in
    passed_on _ _ _ c.from_residual-in_err-check_leaf-in-Leaf.ensures.1
    (c.in_err-check_leaf-in-Leaf.ensures.fault root (subst (λ n. Reaches bytes g.row.P s root c.deref-in-Leaf.result.now n) (sym c.in-Leaf.ensures.name)
    (subst (λ p. Reaches bytes g.row.P s root p c.in-Some.child) (sym c.deref-in-Leaf.ensures.value) reach)))

pub below-preserved-in-Leaf : goal.below-preserved-in-Leaf
below-preserved-in-Leaf g c =
    let first = subst (IsFirstMet c.below.seen c.meet.new.seen c.in-Some.child) c.deref.ensures.value c.in_ok-meet.ensures.met in
    let stands = subst (IsLeafAt (of_key g.K.AsBytes.bytes) g.row.P c.args.store.now c.in-Leaf.leaf)
    c.deref-in-Leaf.ensures.value c.in_ok-check_leaf-in-Leaf.ensures.leaf in
    record {
      at = leaf_over c.below.invariant.at c.in-Some.ensures.steps c.in_ok-push.ensures.items c.in-Leaf.leaf first
          c.in-Leaf.ensures.name stands (sym c.push.new.self.ok.0) c.pop-in-Leaf.ensures.rest;
      least = tt;
    }

pub below-smaller-in-Leaf : goal.below-smaller-in-Leaf
below-smaller-in-Leaf g c =
    let first = subst (IsFirstMet c.below.seen c.meet.new.seen c.in-Some.child) c.deref.ensures.value c.in_ok-meet.ensures.met in
    falls_by (left_to_meet c.args.store.now.inners c.below.seen) (left_to_meet c.args.store.now.inners c.meet.new.seen)
    (length c.below.above.items) (length c.below.above.items)
    (length c.below.children) (length c.next.new.self)
    (no_more_to_try c.args.store.now.inners (place_in c.below.seen) (place_in c.meet.new.seen) (c.in-Some.child ∷ []) (one_met first)) refl
    (ap length c.in-Some.ensures.steps)

pub enter-requires-in-below : goal.enter-requires-in-below
enter-requires-in-below g c =
    let bytes = of_key g.K.AsBytes.bytes in
    let s = c.args.store.now in
    let same = c.in-Inner.ensures.name in
    let (node, there) = inner_is_there s c.in-Inner.inner c.in-Inner.ensures.proper (subst (IsUsed s) (sym same) c.in_ok-meet.ensures.there) in
    let first = subst (IsFirstLeast bytes g.row.P s c.below.least) c.in-Some.ensures.steps c.below.invariant.least in
    let least = least_known bytes g.row.P s c.below.least c.in-Some.byte c.in-Some.child c.next.new.self first in (
      search rules,
      (
        ap is_some there,
        (
          c.in-Inner.ensures.proper,
          subst (λ n. IfSome c.below.least (λ leaf. IsLeastLeaf bytes g.row.P s n (Some leaf))) (sym same) least,
        ),
      ),
    )

pub returns-in_err-entered-clause-fault : goal.returns-in_err-entered-clause-fault
returns-in_err-entered-clause-fault g c =
    let bytes = of_key g.K.AsBytes.bytes in
    let s = c.args.store.now in
    let root = inner_name c.args.root in
    let reach = child_is_reached c.below.invariant.at c.in-Some.ensures.steps c.in_ok-push.ensures.items in
    passed_on _ _ _ c.from_residual-in_err-entered.ensures.1
    (c.in_err-entered.ensures.fault root (subst (λ n. Reaches bytes g.row.P s root c.push.new.self.items n) (sym c.in-Inner.ensures.name) reach))

pub below-preserved : goal.below-preserved
below-preserved g c =
    let bytes = of_key g.K.AsBytes.bytes in
    let s = c.args.store.now in
    let root = inner_name c.args.root in
    let same = c.in-Inner.ensures.name in
    let at = c.below.invariant.at in
    let met = subst (IsFirstMet c.below.seen c.meet.new.seen c.in-Some.child) c.deref.ensures.value c.in_ok-meet.ensures.met in
    let first = subst (λ n. IsFirstMet c.below.seen c.meet.new.seen n c.push.new.self.items) (sym same) met in
    let (node, there) = inner_is_there s c.in-Inner.inner c.in-Inner.ensures.proper (subst (IsUsed s) (sym same) c.in_ok-meet.ensures.there) in
    let parent : Above = record { name = c.below.name; depth = c.below.depth; children = c.next.new.self } in
    let outer = subst (λ n. AreAbove bytes g.row.P s root (parent ∷ reverse c.below.above.items) c.below.seen c.push.new.self.items n)
    (sym same) (parent_above at c.in-Some.ensures.steps c.in_ok-push.ensures.items) in
    let enters = subst (λ o. IfSome o (λ node. IsEntered bytes g.row.P s c.push.new.self.items c.enter-in-below.new.place.items
    c.in-Inner.inner node c.in_ok-entered.entered.0)) there c.in_ok-entered.ensures.entered in
    record {
      at = subst (λ l. IsAt bytes g.row.P s root l c.meet.new.seen c.enter-in-below.new.place.items c.in-Inner.inner c.len-depth.result
          c.in_ok-entered.entered.0)
          (sym (reverse-last c.push-in-below.new.self.items c.below.above.items parent c.in_ok-push-2.ensures.items))
          (entered outer (child_is_free at c.in-Some.ensures.steps c.in_ok-push.ensures.items) first c.in-Inner.ensures.proper there
          (c.len-depth.ensures ∙ c.push.new.self.ok.0) enters);
      least = c.in_ok-entered.ensures.least;
    }

pub below-smaller : goal.below-smaller
below-smaller g c =
    let s = c.args.store.now in
    let same = c.in-Inner.ensures.name in
    let met = subst (IsFirstMet c.below.seen c.meet.new.seen c.in-Some.child) c.deref.ensures.value c.in_ok-meet.ensures.met in
    let first = subst (λ n. IsFirstMet c.below.seen c.meet.new.seen n c.push.new.self.items) (sym same) met in
    let (node, there) = inner_is_there s c.in-Inner.inner c.in-Inner.ensures.proper (subst (IsUsed s) (sym same) c.in_ok-meet.ensures.there) in
    let parent : Above = record { name = c.below.name; depth = c.below.depth; children = c.next.new.self } in
    let enters = subst (λ o. IfSome o (λ node. IsEntered
    (of_key g.K.AsBytes.bytes) g.row.P s c.push.new.self.items c.enter-in-below.new.place.items c.in-Inner.inner node
    c.in_ok-entered.entered.0)) there
    c.in_ok-entered.ensures.entered in
    let all = ap length enters.all in
    let bound = enters.bound in
    let most = capacity_most c.in-Inner.inner.kind in
    falls_in (left_to_meet s.inners c.below.seen) (left_to_meet s.inners c.meet.new.seen) (length c.below.above.items)
    (length c.push-in-below.new.self.items) (length c.below.children) (length c.in_ok-entered.entered.0)
    (less_to_try s.inners (place_in c.below.seen) (place_in c.meet.new.seen) c.in-Inner.inner node c.push.new.self.items there first.fresh first.met)
    (one_more_above c.push-in-below.new.self.items c.below.above.items parent c.in_ok-push-2.ensures.items) (omega (arith, all, bound, most))
