use Rattle.std.proofs.Common.{◌≡◌, rules, sym, ◌∙◌}
use Rattle.std.proofs.lemmas.Bool.{ltb-true}
use Rattle.art_model.specs.Prelude.{ref_kind}
use Rattle.art_writing.specs.Deleted.{parent_change, keeps}
use Rattle.art_writing.proofs.RemovedLeaves.{is_below, let_go, child_deleted, change_seen, change-keeps}
use Rattle.art_writing.proofs.Deletions.{parent_at, taken_out_of}
use Rattle.art_writing.proofs.delete.DeletePoint.take_from_parent.Goals as goal

pub inner_at-node-requires : goal.inner_at-node-requires
inner_at-node-requires g c =
    let (pairs, layout, x, by, leads) = c.requires.answers in
    (search rules, (search rules, parent_at by leads c.requires.parent))

-- ---- a parent that keeps its kind

pub returns-then-has_spare_child : goal.returns-then-has_spare_child
returns-then-has_spare_child g c =
    let (pairs, layout, x, by, leads) = c.requires.answers in
    let at = is_below by leads c.requires.parent in
    let is : parent_change c.args.store.now c.args.self.path ≡ keeps =
    change_seen c.args.store.now c.args.self.path c.requires.parent c.inner_at-node.ensures.view c.inner_at-node.ensures.kind
    ∙ change-keeps (ref_kind c.inner_at-node.result) _ (ltb-true _ _ (sym c.has_spare_child.ensures ∙ c.if-has_spare_child.true)) in
    let_go at c.remove_child.ensures.leaves (λ t done leaf. taken_out_of c.requires.answers
    (child_deleted at c.remove_child.ensures.leaves c.remove_child.ensures.inners leaf c.requires.parent is)
    keeps is (λ kind e. absurd cc) (leaf.promise ∙ c.remove_child.ensures.promise))

-- ---- a parent that shrinks

pub returns-in-Some : goal.returns-in-Some
returns-in-Some g c = c.shrink_parent.ensures

-- ---- a parent that is compressed

pub returns-in-None : goal.returns-in-None
returns-in-None g c = c.compress_parent.ensures
