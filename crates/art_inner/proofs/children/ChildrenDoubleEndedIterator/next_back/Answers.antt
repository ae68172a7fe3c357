use Rattle.std.proofs.Common.{sym, ap, subst}
use Rattle.art_inner.specs.Inner.{IsRising}
use Rattle.art_inner.specs.Rests.{IsRest}
use Rattle.art_inner.specs.declared.children.Children.TheInside.{Inside}
use Rattle.art_inner.proofs.ChildrenLemmas.{IsRising-front}
use Rattle.art_inner.proofs.children.ChildrenDoubleEndedIterator.next_back.Goals.{in-Sorted, in-Indexed, in-Direct}
use Rattle.art_inner.proofs.children.ChildrenDoubleEndedIterator.next_back.Goals as goal

pub invariant_of-self : goal.invariant_of-self
invariant_of-self c = elim c.match-self.branch [
  | in-Sorted w ↦
      let sound = subst IsRest w.in-Sorted.is c.self.invariant in
      subst IsRest (sym (ap (λ (s : Inside). s.rest) w.self-inside-is))
      (IsRising-front _ _ (subst IsRising w.take_last.ensures.gives sound.0), w.take_last.ensures.aligned)
  | in-Indexed w ↦
      subst IsRest (sym (ap (λ (s : Inside). s.rest) w.self-inside-is))
      ((subst IsRest w.in-Indexed.is c.self.invariant).0, w.next_back_in.ensures.within)
  | in-Direct w ↦ subst IsRest (sym (ap (λ (s : Inside). s.rest) w.self-inside-is))
      ((subst IsRest w.in-Direct.is c.self.invariant).0, w.next_back_in-in-Direct.ensures.within)
]
