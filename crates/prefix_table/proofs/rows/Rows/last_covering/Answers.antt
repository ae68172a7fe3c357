use Rattle.std.proofs.Common.{ℕ, ◌<◌, List, length, ap, sym, subst, arith, ◌≤◌}
use Rattle.prefix_table.specs.declared.rows.Row.{Row}
use Rattle.prefix_table.specs.Networks.{IsUpTo, start_of}
use Rattle.prefix_table.specs.Rows.{IsLast, IsNestedIn, network_of, row_at}
use Rattle.prefix_table.proofs.RowLemmas.{all_started, last_of_rows, length-rows, nested_in_rows}
use Rattle.prefix_table.proofs.rows.Rows.last_covering.Goals as goal

pub last_covering-requires-clause-within : goal.last_covering-requires-clause-within
last_covering-requires-clause-within c =
    let many = length-rows c.self.inside.starts c.self.inside.rests c.self.invariant.lengths in
    omega (arith, many, ap length c.self.view_is, c.requires.within)

pub last_covering-requires-clause-started : goal.last_covering-requires-clause-started
last_covering-requires-clause-started c =
    let many = length-rows c.self.inside.starts c.self.inside.rests c.self.invariant.lengths in
    all_started c.self.inside.starts c.self.inside.rests c.self.invariant c.args.address c.args.upto
    (omega (arith, many, ap length c.self.view_is, c.requires.within))
    (subst (λ (rows : List Row). (k : ℕ) → k < c.args.upto → IsUpTo (start_of (network_of (row_at rows k))) c.args.address) (sym c.self.view_is)
    c.requires.started)

pub returns : goal.returns
returns c =
    let many = length-rows c.self.inside.starts c.self.inside.rests c.self.invariant.lengths in
    let within : c.args.upto ≤ length c.self.inside.rests = omega (arith, many, ap length c.self.view_is, c.requires.within) in
    record {
      last =
          subst (λ rows. IsLast rows c.args.address c.args.upto c.last_covering.result.upto) c.self.view_is
          (last_of_rows c.self.inside.starts c.self.inside.rests c.self.invariant c.args.address c.args.upto c.last_covering.result.upto
          within
          c.last_covering.ensures.last);
      nested =
          subst (λ rows. IsNestedIn rows c.args.upto c.last_covering.result.looked) c.self.view_is
          (nested_in_rows c.self.inside.starts c.self.inside.rests c.self.invariant c.args.upto within c.last_covering.result.looked
          c.last_covering.ensures.nested);
    }
