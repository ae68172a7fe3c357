use Rattle.std.proofs.Common.{subst}
use Rattle.ip_routes.specs.Faults.{IsRefusal}
use Rattle.ip_routes.proofs.RouteEntries.{refused_entry}
use Rattle.ip_routes.proofs.answers.TableLineTable.finish.Goals as goal

pub returns-in-Err-clause-fault : goal.returns-in-Err-clause-fault
returns-in-Err-clause-fault c =
    refused_entry c.args.self.now.lines c.in-Err.refused.0 c.in-Err.refused.1
    (subst (λ routes. IsRefusal routes c.in-Err.refused.0 c.in-Err.refused.1) c.replace-lines.ensures.value c.in-Err.ensures.fault)
