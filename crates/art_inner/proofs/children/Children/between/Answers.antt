use Rattle.std.proofs.Common.{sym, ap, subst, ◌∙◌}
use Rattle.art_inner.specs.Inner.{children_between}
use Rattle.art_inner.specs.Rests.{IsRest, rest_list}
use Rattle.art_inner.proofs.Extent.{part_between}
use Rattle.art_inner.proofs.children.Children.between.Goals as goal

pub returns-in-Indexed : goal.returns-in-Indexed
returns-in-Indexed c =
    part_between c.in-Indexed.table.now (subst IsRest c.in-Indexed.is c.self.invariant).0 c.in-Indexed.span.from c.in-Indexed.span.to
    c.args.first c.args.last c.between_in.result.from c.between_in.result.to c.between_in.ensures.from c.between_in.ensures.to
    ∙ ap (children_between c.args.first c.args.last) (sym (ap rest_list c.in-Indexed.is) ∙ c.self.view_is)

pub returns-in-Direct : goal.returns-in-Direct
returns-in-Direct c =
    part_between c.in-Direct.table.now (subst IsRest c.in-Direct.is c.self.invariant).0 c.in-Direct.span.from c.in-Direct.span.to
    c.args.first c.args.last c.between_in-in-Direct.result.from c.between_in-in-Direct.result.to c.between_in-in-Direct.ensures.from
    c.between_in-in-Direct.ensures.to
    ∙ ap (children_between c.args.first c.args.last) (sym (ap rest_list c.in-Direct.is) ∙ c.self.view_is)
