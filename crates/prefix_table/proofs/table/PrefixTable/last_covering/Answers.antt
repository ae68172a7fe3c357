use Rattle.std.proofs.Common.{sym, subst}
use Rattle.prefix_table.specs.Parts.{AreStarted, IsLastEntry}
use Rattle.prefix_table.proofs.PartLemmas.{last_entry, started_rows}
use Rattle.prefix_table.proofs.table.PrefixTable.last_covering.Goals as goal

pub last_covering-requires : goal.last_covering-requires
last_covering-requires g c =
    let h =
    started_rows c.self.inside.rows c.self.inside.values.items c.self.invariant.table c.args.address c.args.upto
    (subst (λ entries. AreStarted entries c.args.address c.args.upto) (sym c.self.view_is) c.requires) in
    record { within = h.0; started = h.1 }

pub returns : goal.returns
returns g c =
    let h =
    started_rows c.self.inside.rows c.self.inside.values.items c.self.invariant.table c.args.address c.args.upto
    (subst (λ entries. AreStarted entries c.args.address c.args.upto) (sym c.self.view_is) c.requires) in
    subst (λ entries. IsLastEntry entries c.args.address c.args.upto c.last_covering.result.upto) c.self.view_is
    (last_entry c.self.inside.rows c.self.inside.values.items c.self.invariant.table c.args.address c.args.upto c.last_covering.result.upto h.0
    c.last_covering.ensures.last)
