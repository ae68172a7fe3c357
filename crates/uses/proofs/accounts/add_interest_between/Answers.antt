use Rattle.std.proofs.Common.{◌≡◌, map, refl, ap, rules}
use Rattle.uses.specs.Accounts.{with_interest}
use Rattle.uses.proofs.Gathered.{after_calls, one_more}
use Rattle.uses.proofs.accounts.add_interest_between.Goals as goal

pub returns-clause-grown : goal.returns-clause-grown
returns-clause-grown c =
    after_calls _ _ _ _ _ c.for_each_mut_in.ensures.pairs (λ first seen done f. done ≡ map with_interest seen) refl
    (λ first seen done f x left w known a. let called = a.called in
    one_more with_interest seen done x w known (ap (λ n. (x.0, n)) (search (rules, a.shows.1, a.leaves))))
