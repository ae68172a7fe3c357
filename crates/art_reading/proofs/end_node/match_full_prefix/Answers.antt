use Rattle.std.proofs.Common.{arith, refl, rules}
use Rattle.art_reading.proofs.EndNodes.{inside, part_there}
use Rattle.art_reading.proofs.Levels.{costs_none}
use Rattle.art_reading.proofs.Prefixes.{matches_empty, matches_stored}
use Rattle.art_reading.proofs.end_node.match_full_prefix.Goals as goal

pub returns-then-len-eq0-clause-compared : goal.returns-then-len-eq0-clause-compared
returns-then-len-eq0-clause-compared g c path pairs layout by at =
    matches_empty (part_there by at refl) c.requires.inner c.requires.node (g.B.KeyBytes.key c.args.key.now) refl c.prefix_len-len.ensures c.if-len-eq0.true refl

pub match_prefix-requires : goal.match_prefix-requires
match_prefix-requires g c =
    let (pairs, layout, by) = c.requires.root in
    inside by (c.requires.at.1 pairs layout by)

pub returns-then-len-clause-compared : goal.returns-then-len-clause-compared
returns-then-len-clause-compared g c path pairs layout by at =
    matches_stored (part_there by at refl) c.requires.inner c.requires.node (g.B.KeyBytes.key c.args.key.now) c.match_prefix.result refl
    c.prefix_len-len.ensures c.if-len.true c.read_prefix.ensures.stored refl
    c.match_prefix.ensures.len c.match_prefix.ensures.front c.match_prefix.ensures.shared c.match_prefix.ensures.byte c.match_prefix.ensures.leaf

pub match_long_prefix-result-requires : goal.match_long_prefix-result-requires
match_long_prefix-result-requires g c = rw c.again-again.ensures (search rules)

pub returns-clause-compared : goal.returns-clause-compared
returns-clause-compared g c = rw c.again-again.ensures at c.match_long_prefix-result.ensures.compared

pub returns-clause-guide : goal.returns-clause-guide
returns-clause-guide g c = rw c.again-again.ensures at c.match_long_prefix-result.ensures.guide

-- ---- the counter
pub returns-then-len-eq0-clause-visits : goal.returns-then-len-eq0-clause-visits
returns-then-len-eq0-clause-visits g c = record { number = 0; counted = omega arith; is_number = (omega arith, λ few. refl) }

pub returns-then-len-clause-visits : goal.returns-then-len-clause-visits
returns-then-len-clause-visits g c =
    record {
      number = 0;
      counted = omega arith;
      is_number = (costs_none c.args.store.now c.args.root _ _ c.match_prefix.result, λ few. refl);
    }

pub returns-clause-visits : goal.returns-clause-visits
returns-clause-visits g c =
    let long = c.if-len.false in
    let len = c.prefix_len-len.ensures in
    record {
      number = c.match_long_prefix-result.result.1;
      counted = c.add.ensures;
      is_number = (c.match_long_prefix-result.ensures.visits, λ few. omega arith);
    }
