use Rattle.std.proofs.Common.{arith, inr, refl}
use Rattle.prefix_table.specs.Networks.{version_of, width}
use Rattle.ip_routes.proofs.ResultLemmas.{if_none, if_some}
use Rattle.ip_routes.proofs.WrittenLemmas.{no_host, no_prefix, small_width}
use Rattle.ip_routes.proofs.route.read_network.Goals as goal

pub returns-in-Some-clause-none : goal.returns-in-Some-clause-none
returns-in-Some-clause-none c =
    if_none c.read_prefix.result
    (no_prefix c.args.text.now c.in-Some.start.now c.in-Some.digits.now c.in-Some.ensures.parts c.in-Some.ensures.first)
    c.read_prefix.ensures.none

pub returns-in-None-clause-written : goal.returns-in-None-clause-written
returns-in-None-clause-written c =
    if_some c.read_host.result
    (λ read h. (width (version_of read.0), inr (h.0, refl), (let small = small_width (version_of read.0) in let is = h.1 in omega arith)))
    c.read_host.ensures.written

pub returns-in-None-clause-none : goal.returns-in-None-clause-none
returns-in-None-clause-none c =
    if_none c.read_host.result (no_host c.args.text.now c.in-None.ensures.none) c.read_host.ensures.none
