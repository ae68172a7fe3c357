use Rattle.std.proofs.Common.{sym, ap, subst, ◌∙◌, slice_get}
use Rattle.std.specs.List.{cons_option}
use Rattle.art_inner.specs.Inner.{IsRising}
use Rattle.art_inner.specs.Spans.{part_left}
use Rattle.art_inner.specs.Rests.{rest_list}
use Rattle.art_inner.proofs.Extent.{least_of, rest_rises}
use Rattle.art_inner.proofs.children.Children.least.Goals as goal

pub returns-in-Sorted-clause-least : goal.returns-in-Sorted-clause-least
returns-in-Sorted-clause-least c =
    let same = sym (ap rest_list c.in-Sorted.is) ∙ c.self.view_is in
    least_of c.args.self.now c.entry.result (subst IsRising c.self.view_is (rest_rises c.self.inside.rest c.self.invariant))
    (ap (λ cs. slice_get cs 0) (sym same) ∙ c.entry.ensures.entry)

pub returns-in-Some-clause-least : goal.returns-in-Some-clause-least
returns-in-Some-clause-least c =
    let same = sym (ap rest_list c.in-Indexed.is) ∙ c.self.view_is in
    let gives = c.next_in.ensures.gives ∙ ap (λ o. cons_option o (part_left c.in-Indexed.table.now c.next_in.new.span)) c.in-Some.is in
    least_of c.args.self.now c.in-Some.first (subst IsRising c.self.view_is (rest_rises c.self.inside.rest c.self.invariant))
    (ap (λ cs. slice_get cs 0) (sym same ∙ gives))

pub returns-in-Some-next_in-clause-least : goal.returns-in-Some-next_in-clause-least
returns-in-Some-next_in-clause-least c =
    let same = sym (ap rest_list c.in-Direct.is) ∙ c.self.view_is in
    let gives =
    c.next_in-in-Direct.ensures.gives ∙ ap (λ o. cons_option o (part_left c.in-Direct.table.now c.next_in-in-Direct.new.span))
    c.in-Some-next_in.is in
    least_of c.args.self.now c.in-Some-next_in.first (subst IsRising c.self.view_is (rest_rises c.self.inside.rest c.self.invariant))
    (ap (λ cs. slice_get cs 0) (sym same ∙ gives))
