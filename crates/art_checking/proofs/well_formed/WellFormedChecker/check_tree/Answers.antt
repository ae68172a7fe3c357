use Rattle.std.proofs.Common.{rules, sym, ◌∙◌, ap, subst, arith, None, IsSome}
use Rattle.std.specs.FinMap as map
use Rattle.std.specs.List.{AllByRecursion as Each}
use Rattle.art_model.specs.Prelude.{AreLinked, links_at, IsTrueOf, of_key}
use Rattle.art_checking.specs.Checked.{names_of_leaves}
use Rattle.art_checking.specs.Checks.{fault_of}
use Rattle.art_checking.proofs.Faulty.{canonical_error, passed_on}
use Rattle.art_checking.proofs.Passed.{met_layout, met_leaves_there, fewer_leaves, well_formed}
use Rattle.art_checking.proofs.well_formed.WellFormedChecker.check_tree.Given.{Over}
use Rattle.art_checking.proofs.well_formed.WellFormedChecker.check_tree.Goals as goal
use Rattle.art_checking.proofs.well_formed.WellFormedChecker.check_tree.Goals.{In_err-check_links}

pub check_links-requires : goal.check_links-requires
check_links-requires g c = (
  search rules,
  subst (Each (λ leaf. IsSome (map.get c.args.store.now.leaves leaf))) (sym c.deref.ensures.value)
      (met_leaves_there c.in_ok-seen.ensures.met),
)

pub overflow_sub-result : goal.overflow_sub-result
overflow_sub-result g c =
    let few = fewer_leaves c.in_ok-seen.ensures.met in
    let leaves = c.len-leaves.ensures ∙ c.in_ok-seen.seen.leaves.ok.0 in
    let all = c.count.ensures in
    omega arith

pub returns-clause-fits : goal.returns-clause-fits
returns-clause-fits g c =
    let few = fewer_leaves c.in_ok-seen.ensures.met in
    let leaves = c.len-leaves.ensures ∙ c.in_ok-seen.seen.leaves.ok.0 in
    let all = c.count.ensures in
    let fits = c.count.type_inv in
    omega arith

pub returns-clause-well_formed : goal.returns-clause-well_formed
returns-clause-well_formed g c =
    well_formed c.in_ok-seen.ensures.met c.len-leaves.result c.count.result
    (subst (λ ls. AreLinked (links_at c.args.store.now) None (names_of_leaves ls) None) c.deref.ensures.value c.in_ok-check_links.ensures.linked)
    (c.len-leaves.ensures ∙ c.in_ok-seen.seen.leaves.ok.0) c.count.ensures

pub returns-in_err-seen-clause-canonical : goal.returns-in_err-seen-clause-canonical
returns-in_err-seen-clause-canonical g c canonical =
    passed_on _ _ _ c.from_residual.ensures.1 (canonical_error c.in_err-seen.field-0.0 canonical c.in_err-seen.ensures.fault)

-- a fault of the links is one of the tree that was met
links_fault : (g : Over) (c : In_err-check_links g) →
    IsTrueOf (of_key g.K.AsBytes.bytes) g.row.P c.args.store.now c.args.root (fault_of c.in_err-check_links.field-0.0)
links_fault g c =
    let met = c.in_ok-seen.ensures.met in
    c.in_err-check_links.ensures.fault c.args.root met.layout (met_layout met) (sym met.leaves ∙ ap names_of_leaves (sym c.deref.ensures.value))

pub returns-in_err-check_links-clause-fault : goal.returns-in_err-check_links-clause-fault
returns-in_err-check_links-clause-fault g c =
    passed_on _ _ _ c.from_residual-in_err-check_links.ensures.1 (links_fault g (goal.at.returns-in_err-check_links-clause-fault g c).In_err-check_links)

pub returns-in_err-check_links-clause-canonical : goal.returns-in_err-check_links-clause-canonical
returns-in_err-check_links-clause-canonical g c canonical =
    let fault = links_fault g (goal.at.returns-in_err-check_links-clause-canonical g c).In_err-check_links in
    passed_on _ _ _ c.from_residual-in_err-check_links.ensures.1 (canonical_error c.in_err-check_links.field-0.0 canonical fault)
