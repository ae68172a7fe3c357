use Rattle.std.proofs.Common.{ap, length, filter, arith, take}
use Rattle.std.proofs.lemmas.List.{length-reverse, length-take-le}
use Rattle.prefix_table.specs.Networks.{covers_at}
use Rattle.prefix_table.proofs.FilterLemmas.{filter_is_short}
use Rattle.prefix_table.proofs.iteration.MatchesIterator.size_hint.Goals as goal

pub returns-clause-upper : goal.returns-clause-upper
returns-clause-upper g c =
    let m = c.self.inside in
    let some = take m.upto m.table.now in
    let seen = ap length c.self.view_is in
    let turned = length-reverse (filter (λ entry. covers_at entry.0 m.address) some) in
    let short = filter_is_short (λ entry. covers_at entry.0 m.address) some in
    let all = length-take-le m.upto m.table.now c.self.invariant.within in
    (tt, omega arith)
