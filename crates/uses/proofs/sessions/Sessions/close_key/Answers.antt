use Rattle.std.proofs.Common.{None, subst, sym, ◌∙◌}
use Rattle.uses.proofs.Agree.{Sets, closed}
use Rattle.uses.proofs.sessions.Sessions.close_key.Goals as goal

pub invariant_of-self : goal.invariant_of-self
invariant_of-self c =
    closed c.args.key.now c.self.inside.by_token c.remove.new.self c.self.inside.by_end c.self.invariant c.in-Some.end
    (sym (sym c.in-Some.is ∙ c.copied.ensures ∙ c.get.ensures.value))
    c.remove-2.new.self (c.remove.ensures.gone, λ other off. c.remove.ensures.other_keys other tt off)
    (subst (λ key. Sets key None c.self.inside.by_end c.remove-2.new.self) c.in_ok-end_key.ensures (c.remove-2.ensures.gone, c.remove-2.ensures.other_keys))
