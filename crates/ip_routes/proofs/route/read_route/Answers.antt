use Rattle.ip_routes.proofs.ResultLemmas.{if_none, if_some}
use Rattle.ip_routes.proofs.WrittenLemmas.{no_network}
use Rattle.ip_routes.proofs.route.read_route.Goals as goal

pub returns-clause-written : goal.returns-clause-written
returns-clause-written c =
    if_some c.read_network.result
    (λ read (length, is, cut). (length, (c.network_text.result.now, c.network_text.ensures.starts, is), cut))
    c.read_network.ensures.written

pub returns-clause-none : goal.returns-clause-none
returns-clause-none c =
    if_none c.read_network.result
    (no_network c.args.line.now c.network_text.result.now c.network_text.ensures.starts c.network_text.ensures.word)
    c.read_network.ensures.none
