use Rattle.std.proofs.Common.{Some, ap, sym, ◌∙◌}
use Rattle.uses.proofs.Agree.{none_is_first, one_is_first}
use Rattle.uses.proofs.sessions.Sessions.first.Goals as goal

pub returns-in_default : goal.returns-in_default
returns-in_default c =
    rw (← c.self.view_is) (none_is_first _ _ c.self.invariant c.first_key_value.ensures.known c.rises.ensures (sym c.in_default.ensures.pair))

pub returns : goal.returns
returns c =
    let first = sym c.in-Some.ensures.pair ∙ ap (λ key. Some (key, tt)) (sym c.in_ok-end.ensures.keys ∙ ap (λ n. (n, c.in_ok-end.token)) (sym c.get.ensures)) in
    rw (← c.self.view_is) (one_is_first _ _ c.self.invariant c.first_key_value.ensures.known c.rises.ensures _ _ first)
