use Rattle.std.proofs.Common.{◌∙◌, [], ap, is_some, sym, subst, rules}
use Rattle.std.proofs.lemmas.Result.{IfErr-weaker, on_ok_weaker}
use Rattle.art_model.specs.Prelude.{leaf_name, IsTrueOf, Reaches, of_key, IsUsed}
use Rattle.art_checking.specs.Checked.{IsFirstMet, IsTrueAt}
use Rattle.art_checking.specs.Checks.{fault_of}
use Rattle.art_checking.proofs.Faulty.{passed_on}
use Rattle.art_checking.proofs.Passed.{inner_is_there, met_tree, passed_leaf}
use Rattle.art_checking.proofs.Walked.{reach_root}
use Rattle.art_checking.proofs.well_formed.check.check_root.Goals as goal

pub returns-in_err-meet-clause-fault : goal.returns-in_err-meet-clause-fault
returns-in_err-meet-clause-fault g c =
    let bytes = of_key g.K.AsBytes.bytes in
    let s = c.args.store.now in
    let root = c.args.root in
    passed_on _ _ _ c.from_residual.ensures.1
    (c.in_err-meet.ensures.fault root (λ n place e. let h = c.requires.start.none n in absurd cc)
    (subst (λ p. Reaches bytes g.row.P s root p root) (sym (c.deref.ensures.value ∙ c.requires.place)) (reach_root bytes g.row.P s root))
    (λ other e. let h = c.requires.start.none root in absurd cc))

pub check_below-requires : goal.check_below-requires
check_below-requires g c =
    let s = c.args.store.now in
    let same = c.in-Inner.ensures.name in
    let (node, there) = inner_is_there s c.in-Inner.inner c.in-Inner.ensures.proper (subst (IsUsed s) (sym same) c.in_ok-meet.ensures.there) in
    let met = subst (IsFirstMet c.args.seen.now c.meet.new.seen c.args.root) (c.deref.ensures.value ∙ c.requires.place) c.in_ok-meet.ensures.met in
    let first = subst (λ n. IsFirstMet c.args.seen.now c.meet.new.seen n []) (sym same) met in
    (search rules, (ap is_some there, (c.in-Inner.ensures.proper, ((c.args.seen.now, c.requires.start, first), c.requires.place))))

pub returns-in-Leaf-clause-met : goal.returns-in-Leaf-clause-met
returns-in-Leaf-clause-met g c =
    let met = subst (IsFirstMet c.args.seen.now c.meet.new.seen c.args.root) (c.deref.ensures.value ∙ c.requires.place) c.in_ok-meet.ensures.met in
    on_ok_weaker c.check_leaf.result
    (λ stands. met_tree c.requires.start.leaves c.requires.start.count
    (passed_leaf met c.in-Leaf.leaf c.in-Leaf.ensures.name (c.deref-in-Leaf.ensures.value ∙ c.requires.place) stands))
    c.check_leaf.ensures.leaf

pub returns-in-Leaf-clause-fault : goal.returns-in-Leaf-clause-fault
returns-in-Leaf-clause-fault g c =
    let bytes = of_key g.K.AsBytes.bytes in
    let s = c.args.store.now in
    let root = c.args.root in
    IfErr-weaker c.check_leaf.result (IsTrueAt bytes g.row.P s c.deref-in-Leaf.result.now (leaf_name c.in-Leaf.leaf))
    (λ error. IsTrueOf bytes g.row.P s root (fault_of error))
    (λ error true. true root (subst (λ n. Reaches bytes g.row.P s root c.deref-in-Leaf.result.now n) (sym c.in-Leaf.ensures.name)
    (subst (λ p. Reaches bytes g.row.P s root p root) (sym (c.deref-in-Leaf.ensures.value ∙ c.requires.place)) (reach_root bytes g.row.P s root))))
    c.check_leaf.ensures.fault
