use Rattle.std.proofs.Common.{ℕ, ◌≤◌, ◌<◌, ◌≡◌, ◌+◌, ◌-◌, ◌^◌, length, ap, sym, ◌∙◌, subst, arith, false, slice_index_or}
use Rattle.std.specs.List.{All}
use Rattle.prefix_table.specs.Networks.{covers}
use Rattle.prefix_table.specs.Rows.{network_of}
use Rattle.prefix_table.specs.Entries.{IsLongest, nesting}
use Rattle.prefix_table.proofs.PartLemmas.{looked_fits, within_nesting}
use Rattle.prefix_table.proofs.NetworkTables.{length-entries, longest_is, none_covers}
use Rattle.prefix_table.proofs.table.PrefixTable.longest_match_counted.Goals as goal

pub returns-then-found-eq0-clause-found : goal.returns-then-found-eq0-clause-found
returns-then-found-eq0-clause-found g c =
    subst (All (λ entry. covers entry.0 c.args.address.now ≡ false)) c.self.view_is
    (none_covers c.self.inside.rows c.self.inside.values.items c.self.invariant.table c.args.address.now c.address_of-address.result
    c.count_up_to-started.result.count c.last_covering-found.result.upto c.address_of-address.ensures.address c.count_up_to-started.ensures.count
    c.last_covering-found.ensures.last c.if-found-eq0.true)

pub returns-clause-found : goal.returns-clause-found
returns-clause-found g c =
    subst (λ entries. IsLongest entries c.args.address.now (c.network_of.result, c.index.result.now)) c.self.view_is
    (longest_is c.self.inside.rows c.self.inside.values.items c.self.invariant.table c.args.address.now c.address_of-address.result
    c.count_up_to-started.result.count c.last_covering-found.result.upto c.address_of-address.ensures.address c.count_up_to-started.ensures.count
    c.last_covering-found.ensures.last (omega arith) (c.network_of.result, c.index.result.now) (c.network_of.ensures ∙ ap network_of c.get-row.ensures)
    (c.index.ensures
    ∙ ap (λ p. slice_index_or c.self.inside.values.items p c.index.result.now)
    (sym (c.self.invariant.own (c.last_covering-found.result.upto - 1)
    (let bounded = c.last_covering-found.ensures.last.bounded in let within = c.count_up_to-started.ensures.count.bounded in omega arith)))))

pub overflow_add-looked : goal.overflow_add-looked
overflow_add-looked g c =
    let first = c.count_up_to-started.ensures.looked 32 c.count_up_to-started.ensures.few in
    let few = c.count_up_to-started.ensures.few in
    let second =
    looked_fits c.self.inside.rows c.count_up_to-started.result.count c.last_covering-found.result.looked
    c.last_covering-found.ensures.nested in
    omega arith

pub returns-then-found-eq0-clause-looked : goal.returns-then-found-eq0-clause-looked
returns-then-found-eq0-clause-looked g c =
    let rows = c.self.inside.rows in
    let values = c.self.inside.values.items in
    let started = c.count_up_to-started in
    let found = c.last_covering-found in
    let many = length-entries rows values c.self.invariant.table in
    subst (λ entries. (k : ℕ) → length entries < 2 ^ k → started.result.looked + found.result.looked ≤ k + 2 + nesting entries) c.self.view_is
    (λ k h.
    let first = started.ensures.looked k (omega (arith, many, h)) in
    let nested =
    within_nesting rows values started.result.count found.result.looked c.self.invariant.table started.ensures.count.bounded
    found.ensures.nested in
    omega arith)

pub returns-clause-looked : goal.returns-clause-looked
returns-clause-looked g c =
    let rows = c.self.inside.rows in
    let values = c.self.inside.values.items in
    let started = c.count_up_to-started in
    let found = c.last_covering-found in
    let many = length-entries rows values c.self.invariant.table in
    subst (λ entries. (k : ℕ) → length entries < 2 ^ k → started.result.looked + found.result.looked ≤ k + 2 + nesting entries) c.self.view_is
    (λ k h.
    let first = started.ensures.looked k (omega (arith, many, h)) in
    let nested =
    within_nesting rows values started.result.count found.result.looked c.self.invariant.table started.ensures.count.bounded
    found.ensures.nested in
    omega arith)
