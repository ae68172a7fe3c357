use Rattle.std.proofs.Common.{None, Some, subst, sym, ◌∙◌}
use Rattle.uses.proofs.Agree.{Sets, moved}
use Rattle.uses.proofs.sessions.Sessions.touch.Goals as goal

pub invariant_of-self-2 : goal.invariant_of-self-2
invariant_of-self-2 c =
    moved c.in_ok-key.key c.self.inside.by_token c.insert_both.new.self c.self.inside.by_end c.self.invariant c.in-Some.before
    (sym (sym c.in-Some.is ∙ c.copied.ensures ∙ c.get.ensures.value))
    c.args.end c.insert_both.new.other c.remove.new.self c.if-before-end.false c.ranges.end.fits
    (c.in-Ok.ensures.found, λ other off. c.in-Ok.ensures.other_keys other tt off)
    (subst (λ key. Sets key (Some tt) c.self.inside.by_end c.insert_both.new.other) c.in_ok-end_key.ensures
    (c.in-Ok.ensures.second_found, c.in-Ok.ensures.second_other_keys))
    (subst (λ key. Sets key None c.insert_both.new.other c.remove.new.self) c.in_ok-old_key.ensures (c.remove.ensures.gone, c.remove.ensures.other_keys))
