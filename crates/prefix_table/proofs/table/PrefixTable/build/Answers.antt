use Rattle.std.proofs.Common.{◌≡◌, arith, length, subst}
use Rattle.std.specs.List.{zip}
use Rattle.std.specs.List.Sorted.{IsPermutation}
use Rattle.prefix_table.specs.Sorting.{in_order}
use Rattle.prefix_table.proofs.ArrangeLemmas.{all_written}
use Rattle.prefix_table.proofs.OrderLemmas.{length_rows}
use Rattle.prefix_table.proofs.NetworkTables.{arranged_table, entries_arranged, entries_in_order, has_all_entries, is_table}
use Rattle.prefix_table.proofs.table.PrefixTable.build.Goals as goal

pub invariant_of-result : goal.invariant_of-result
invariant_of-result g c =
    let sorted = c.in-Ok.sorted.items in
    let values = c.args.values.items in
    let many = length_rows c.args.networks.now sorted c.in-Ok.ensures.rows in
    let given : length values ≡ length c.args.networks.now = omega (arith, c.requires.values, c.args.values.ok.0) in
    let moved = rw (c.deref.ensures.value, c.deref_mut.ensures.value) at c.in-Ok-arranged_rows.ensures.arranged in
    let written = all_written c.arranged_rows.new.values values c.args.values.len moved.as_many (omega (arith, c.args.values.ok.0)) in
    rw (written, c.in-Ok-arranged_rows.ensures.rows, c.deref.ensures.value)
    (arranged_table sorted values c.arranged_rows.new.values
    (is_table c.args.networks.now values sorted given c.in-Ok.ensures.rows c.in-Ok.ensures.order) (omega arith) moved)

pub returns-in-Ok-arranged_rows-clause-entries : goal.returns-in-Ok-arranged_rows-clause-entries
returns-in-Ok-arranged_rows-clause-entries g c =
    let sorted = c.in-Ok.sorted.items in
    let values = c.args.values.items in
    let many = length_rows c.args.networks.now sorted c.in-Ok.ensures.rows in
    let given : length values ≡ length c.args.networks.now = omega (arith, c.requires.values, c.args.values.ok.0) in
    let moved = rw (c.deref.ensures.value, c.deref_mut.ensures.value) at c.in-Ok-arranged_rows.ensures.arranged in
    let written = all_written c.arranged_rows.new.values values c.args.values.len moved.as_many (omega (arith, c.args.values.ok.0)) in
    let table = is_table c.args.networks.now values sorted given c.in-Ok.ensures.rows c.in-Ok.ensures.order in
    rw (written, c.in-Ok-arranged_rows.ensures.rows, c.deref.ensures.value)
    (subst (IsPermutation (zip c.args.networks.now values)) (entries_arranged sorted values c.arranged_rows.new.values table (omega arith) moved)
    (has_all_entries c.args.networks.now values sorted given c.in-Ok.ensures.rows))

pub returns-in-Ok-arranged_rows-clause-order : goal.returns-in-Ok-arranged_rows-clause-order
returns-in-Ok-arranged_rows-clause-order g c =
    let sorted = c.in-Ok.sorted.items in
    let values = c.args.values.items in
    let many = length_rows c.args.networks.now sorted c.in-Ok.ensures.rows in
    let given : length values ≡ length c.args.networks.now = omega (arith, c.requires.values, c.args.values.ok.0) in
    let moved = rw (c.deref.ensures.value, c.deref_mut.ensures.value) at c.in-Ok-arranged_rows.ensures.arranged in
    let written = all_written c.arranged_rows.new.values values c.args.values.len moved.as_many (omega (arith, c.args.values.ok.0)) in
    let table = is_table c.args.networks.now values sorted given c.in-Ok.ensures.rows c.in-Ok.ensures.order in
    rw (written, c.in-Ok-arranged_rows.ensures.rows, c.deref.ensures.value)
    (entries_in_order (in_order sorted) c.arranged_rows.new.values
    (arranged_table sorted values c.arranged_rows.new.values table (omega arith) moved).table)
