use Rattle.art_reading.proofs.Outcomes.{begins_parts}
use Rattle.art_reading.proofs.lookup.matching.PrefixMatchBehavior.parts_from.Goals as goal

pub returns-in-Pessimistic-clause-compared : goal.returns-in-Pessimistic-clause-compared
returns-in-Pessimistic-clause-compared c is = begins_parts c.args.stored.now c.args.rest_of_key.now c.begins_with.result c.begins_with.ensures
