use Rattle.std.proofs.Common.{◌++◌, arith, subst, sym}
use Rattle.prefix_table.specs.Entries.{IsLongestMatch}
use Rattle.uses.proofs.LongerOfTwo.{first_alone, longest_is_first, longest_is_second, second_alone, shorter_are}
use Rattle.uses.proofs.networks.longer.Goals as goal

pub returns-in-None-default : goal.returns-in-None-default
returns-in-None-default c before after address of_a of_b =
    second_alone before after address c.args.b (subst (IsLongestMatch before address) c.in-None-default.is-0 of_a) of_b

pub returns-in_default-None : goal.returns-in_default-None
returns-in_default-None c before after address of_a of_b =
    first_alone before after address c.args.a of_a (subst (IsLongestMatch after address) c.in_default-None.is-1 of_b)

pub returns-then-first-second : goal.returns-then-first-second
returns-then-first-second c before after address of_a of_b =
    let in_a = subst (IsLongestMatch before address) c.in-Some-Some.is-0 of_a in
    let in_b = subst (IsLongestMatch after address) c.in-Some-Some.is-1 of_b in
    let more = c.if-first-second.true in
    subst (IsLongestMatch (before ++ after) address) (sym c.in-Some-Some.is-1)
    (longest_is_second before after address c.in-Some-Some.second in_b
    (shorter_are address c.in-Some-Some.second.0.length before c.in-Some-Some.first in_a (omega (arith, more))))

pub returns-else-first-second : goal.returns-else-first-second
returns-else-first-second c before after address of_a of_b =
    let in_a = subst (IsLongestMatch before address) c.in-Some-Some.is-0 of_a in
    let in_b = subst (IsLongestMatch after address) c.in-Some-Some.is-1 of_b in
    let up = c.if-first-second.false in
    subst (IsLongestMatch (before ++ after) address) (sym c.in-Some-Some.is-0)
    (longest_is_first before after address c.in-Some-Some.first in_a
    (shorter_are address c.in-Some-Some.first.0.length after c.in-Some-Some.second in_b (omega (arith, up))))
