use Rattle.std.proofs.Common.{Some, subst, sym, ◌∙◌}
use Rattle.uses.proofs.Agree.{Sets, opened}
use Rattle.uses.proofs.sessions.Sessions.open.Goals as goal

pub invariant_of-self-2 : goal.invariant_of-self-2
invariant_of-self-2 c =
    opened c.in_ok-key.key c.self.inside.by_token c.insert_both.new.self c.self.inside.by_end c.self.invariant c.args.end c.insert_both.new.other
    (sym (sym c.in_default.is ∙ c.copied.ensures ∙ c.get.ensures.value)) c.ranges.end.fits
    (c.in-Ok.ensures.found, λ other off. c.in-Ok.ensures.other_keys other tt off)
    (subst (λ key. Sets key (Some tt) c.self.inside.by_end c.insert_both.new.other) c.in_ok-end_key.ensures
    (c.in-Ok.ensures.second_found, c.in-Ok.ensures.second_other_keys))
