use Rattle.std.proofs.Common.{◌-◌, ◌∙◌, ap, refl, sym, subst, arith, slice_index_or}
use Rattle.prefix_table.specs.Rows.{IsRowCount, network_of, row_at}
use Rattle.prefix_table.proofs.NetworkTables.{longest_is, none_covers}
use Rattle.prefix_table.proofs.values.value_for.Goals as goal

pub returns-then-found-eq0 : goal.returns-then-found-eq0
returns-then-found-eq0 g c =
    none_covers c.args.rows.now c.args.values.now c.requires.table.table c.args.address.now c.address_of.result c.args.count
    c.last_covering-found.result.upto c.address_of.ensures.address
    (subst (λ address. IsRowCount c.args.rows.now address c.args.count) (sym c.address_of.ensures.address) c.requires.count)
    c.last_covering-found.ensures.last c.if-found-eq0.true

pub returns : goal.returns
returns g c =
    let count = subst (λ address. IsRowCount c.args.rows.now address c.args.count) (sym c.address_of.ensures.address) c.requires.count in
    let network = network_of (row_at c.args.rows.now (c.last_covering-found.result.upto - 1)) in (
      network,
      longest_is c.args.rows.now c.args.values.now c.requires.table.table c.args.address.now c.address_of.result c.args.count
          c.last_covering-found.result.upto c.address_of.ensures.address count c.last_covering-found.ensures.last (omega arith)
          (network, c.index-values-found.result) refl
          (c.index-values-found.is
          ∙ ap (λ p. slice_index_or c.args.values.now p c.index-values-found.result)
          (sym (c.requires.table.own (c.last_covering-found.result.upto - 1)
          (let bounded = c.last_covering-found.ensures.last.bounded in let within = count.bounded in omega arith)))),
    )
