use Rattle.std.proofs.Common.{subst, sym}
use Rattle.prefix_table.specs.Entries.{IsLongestMatch}
use Rattle.uses.proofs.networks.target.Goals as goal

pub returns : goal.returns
returns c =
    c.longer.ensures c.args.routes.now c.args.table.now c.args.address.now
    (subst (IsLongestMatch c.args.routes.now c.args.address.now) (sym c.route_of.ensures) c.longest_match-route.ensures.longest)
    (subst (IsLongestMatch c.args.table.now c.args.address.now) (sym c.route_of-2.ensures) c.longest_match-other.ensures)
