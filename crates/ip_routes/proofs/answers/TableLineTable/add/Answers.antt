use Rattle.ip_routes.proofs.ResultLemmas.{if_err, on_err, on_ok}
use Rattle.ip_routes.proofs.RouteEntries.{one_route_more, route_fault, routes_kept}
use Rattle.ip_routes.proofs.answers.TableLineTable.add.Goals as goal

pub returns-clause-added : goal.returns-clause-added
returns-clause-added c =
    on_ok c.add.result (one_route_more c.args.self.now.lines c.add.new.self c.args.line.now c.args.number) c.add.ensures.added

pub returns-clause-fault : goal.returns-clause-fault
returns-clause-fault c = if_err c.add.result (route_fault c.args.self.now.lines c.args.line.now) c.add.ensures.fault

pub returns-clause-kept : goal.returns-clause-kept
returns-clause-kept c = on_err c.add.result (routes_kept c.args.self.now.lines c.add.new.self) c.add.ensures.kept
