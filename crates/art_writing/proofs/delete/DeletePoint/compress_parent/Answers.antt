use Rattle.std.proofs.Common.{rules, ◌∙◌}
use Rattle.art_model.specs.Prelude.{of_key}
use Rattle.art_writing.specs.Deleted.{is_compressed}
use Rattle.art_writing.proofs.RemovedLeaves.{is_below, let_go}
use Rattle.art_writing.proofs.Deletions.{taken_out_of}
use Rattle.art_writing.proofs.Removals.{IsOneOfTwo, IsOtherTaken, is_one_of_two, one_left, other_is, beside_ready, may_lengthen, lengthened_is, above_ready, two_deleted}
use Rattle.art_writing.proofs.delete.DeletePoint.compress_parent.Goals as goal
use Rattle.art_writing.proofs.delete.DeletePoint.compress_parent.Goals.{After-take_other-header}
use Rattle.art_writing.proofs.delete.DeletePoint.compress_parent.Given.{Over}

pub take_other-header-requires : goal.take_other-header-requires
take_other-header-requires g c =
    let (pairs, layout, x, by, leads) = c.requires.answers in
    (search rules, (search rules, one_left (is_one_of_two by leads c.requires.parent c.requires.compressed)))

-- ---- when the parent is removed

module _ (g : Over) (c : After-take_other-header g) where
  two : IsOneOfTwo (of_key g.K.AsBytes.bytes)
      g.row.P c.args.store.now c.args.root c.requires.answers.0 c.requires.answers.1 c.requires.answers.2 c.args.self
      c.args.parent c.args.byte
  two = is_one_of_two c.requires.answers.3 c.requires.answers.4 c.requires.parent c.requires.compressed

  taken : IsOtherTaken two c.take_other-header.new.self c.take_other-header.result.0 c.take_other-header.result.1 c.take_other-header.result.2
  taken = record { leaves = c.take_other-header.ensures.leaves; inners = c.take_other-header.ensures.inners; answered = c.take_other-header.ensures.other }

pub leaf_beside-beside-requires : goal.leaf_beside-beside-requires
leaf_beside-beside-requires g c =
    let o = (goal.at.leaf_beside-beside-requires g c).After-take_other-header in
    (search rules, beside_ready (two g o) (taken g o))

pub lengthen_prefix-requires : goal.lengthen_prefix-requires
lengthen_prefix-requires g c =
    let o = (goal.at.lengthen_prefix-requires g c).After-take_other-header in
    (search rules, (search rules, may_lengthen (two g o) (taken g o) c.leaf_beside-beside.result c.leaf_beside-beside.ensures))

pub replace_at-requires : goal.replace_at-requires
replace_at-requires g c =
    let o = (goal.at.replace_at-requires g c).After-take_other-header in
    let lengthened = lengthened_is (two g o) (taken g o) c.lengthen_prefix.new.store.inners c.lengthen_prefix.ensures.leaf c.lengthen_prefix.ensures.inner in
    (search rules, above_ready (two g o) c.lengthen_prefix.new.store.inners c.up.result lengthened c.up.ensures)

pub returns : goal.returns
returns g c =
    let o = (goal.at.returns g c).After-take_other-header in
    let (pairs, layout, x, by, leads) = c.requires.answers in
    let leaves = c.replace_at.ensures.leaves ∙ c.lengthen_prefix.ensures.leaves ∙ c.take_other-header.ensures.leaves in
    let lengthened = lengthened_is (two g o) (taken g o) c.lengthen_prefix.new.store.inners c.lengthen_prefix.ensures.leaf c.lengthen_prefix.ensures.inner in
    let_go (is_below by leads c.requires.parent) leaves (λ t done leaf. taken_out_of c.requires.answers
    (two_deleted (two g o) leaves c.up.ensures
    (other_is (two g o) (taken g o)) lengthened c.replace_at.ensures.inners leaf c.requires.compressed c.replace_at.ensures.root)
    is_compressed c.requires.compressed (λ kind e. absurd cc)
    (leaf.promise ∙ c.replace_at.ensures.promise ∙ c.lengthen_prefix.ensures.promise ∙ c.take_other-header.ensures.promise))
