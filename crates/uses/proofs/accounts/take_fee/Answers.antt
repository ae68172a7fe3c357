use Rattle.std.proofs.Common.{◌≡◌, ◌-◌, ◌^◌, map, min, sum_by, refl, ap, rules}
use Rattle.uses.specs.Accounts.{after_fee, paid}
use Rattle.uses.proofs.Gathered.{after_calls, one_more, sum_more}
use Rattle.uses.proofs.accounts.take_fee.Goals as goal

pub returns-clause-accounts : goal.returns-clause-accounts
returns-clause-accounts c =
    let known = after_calls _ _ _ _ _ c.for_each_mut_by_ref.ensures.pairs
    (λ first seen done f. (done ≡ map (after_fee c.args.fee) seen) × (f.0.now ≡ c.args.fee)) (refl, refl)
    (λ first seen done f x left w known a.
    let called = a.called in
    (one_more (after_fee c.args.fee) seen done x w known.0 (ap (λ n. (x.0, n)) (search (rules, a.shows.1, a.leaves, known.1))), search (rules, known.1))) in
    known.0

pub returns-clause-sum : goal.returns-clause-sum
returns-clause-sum c =
    let known = after_calls _ _ _ _ _ c.for_each_mut_by_ref.ensures.pairs
    (λ first seen done f. (f.1.now ≡ min (sum_by (paid c.args.fee) seen) (2 ^ 64 - 1)) × (f.0.now ≡ c.args.fee) ×
    (first.1.ghost_name ≡ f.1.ghost_name)) (refl, refl, refl)
    (λ first seen done f x left w known a.
    let called = a.called in
    let (sum, fee, name) = known in
    (sum_more c.args.fee seen x f.1.now left.1.now sum (search (rules, a.shows.1, fee)), search (rules, fee), search (rules, name))) in
    search (rules, known.0, known.2)
