use Rattle.std.proofs.Common.{subst, arith}
use Rattle.prefix_table.specs.Rows.{IsCountFor, IsRowCount}
use Rattle.prefix_table.proofs.ZipLemmas.{all_done, one_more}
use Rattle.prefix_table.proofs.values.counts_for.Goals as goal

pub loop-index-preserved : goal.loop-index-preserved
loop-index-preserved c =
    one_more (IsCountFor c.args.rows.now) c.args.addresses.now c.loop-index.index _ c.loop-index.counts.items c.push.new.self.items
    c.count_near.result.count c.loop-index-test.true c.loop-index.invariant
    (subst (λ address. IsRowCount c.args.rows.now address c.count_near.result.count) c.address_of.ensures.address c.count_near.ensures.count)
    c.in_ok-push.ensures.items

pub returns : goal.returns
returns c =
    all_done (IsCountFor c.args.rows.now) c.args.addresses.now c.loop-index.index c.loop-index.counts.items (omega (arith, c.loop-index.auto.index-end))
    c.loop-index.invariant
