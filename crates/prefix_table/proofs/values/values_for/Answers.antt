use Rattle.std.proofs.Common.{arith}
use Rattle.prefix_table.specs.Entries.{IsLongestValue}
use Rattle.prefix_table.specs.Rows.{IsCountFor}
use Rattle.prefix_table.specs.Tables.{entries_of}
use Rattle.prefix_table.proofs.ZipLemmas.{all_done, as_many, item_is, one_more}
use Rattle.prefix_table.proofs.values.values_for.Goals as goal

pub bounds-counts-index : goal.bounds-counts-index
bounds-counts-index g c =
    let many = as_many (IsCountFor c.args.rows.now) c.args.addresses.now c.args.counts.now c.requires.counts in
    omega arith

pub value_for-requires-clause-count : goal.value_for-requires-clause-count
value_for-requires-clause-count g c =
    item_is (IsCountFor c.args.rows.now) c.args.addresses.now c.args.counts.now c.loop-index.index _ 0 c.loop-index-test.true c.requires.counts

pub loop-index-preserved : goal.loop-index-preserved
loop-index-preserved g c =
    one_more (IsLongestValue (entries_of c.args.rows.now c.args.values.now)) c.args.addresses.now c.loop-index.index _ c.loop-index.found.items
    c.push.new.self.items c.value_for.result c.loop-index-test.true c.loop-index.invariant c.value_for.ensures c.in_ok-push.ensures.items

pub returns : goal.returns
returns g c =
    all_done (IsLongestValue (entries_of c.args.rows.now c.args.values.now)) c.args.addresses.now c.loop-index.index c.loop-index.found.items
    (omega (arith, c.loop-index.auto.index-end)) c.loop-index.invariant
