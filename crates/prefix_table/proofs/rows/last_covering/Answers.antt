use Rattle.std.proofs.Common.{◌≡◌, ℕ, ◌-◌, ◌<◌, ◌≤◌, ◌∙◌, ap, sym, subst, arith, true, false, count_by, take}
use Rattle.prefix_table.specs.Columns.{network_at, rows_of}
use Rattle.prefix_table.specs.Networks.{covers_at}
use Rattle.prefix_table.specs.Rows.{network_of}
use Rattle.prefix_table.specs.Starts.{start_at}
use Rattle.prefix_table.proofs.RowLemmas.{around_covers, counts_itself, one_outwards, one_row_fewer, own_at_first}
use Rattle.prefix_table.proofs.rows.last_covering.Goals as goal

pub loop-found-init : goal.loop-found-init
loop-found-init c = record {
  bounded = omega arith;
  none_after = λ k a b. absurd (omega arith);
  own = own_at_first c.args.starts.now c.args.rests.now c.requires.rows c.args.upto c.requires.within;
  few = omega arith;
}

pub loop-found-preserved : goal.loop-found-preserved
loop-found-preserved c =
    let back = c.requires.rows.back (c.loop-found.found - 1) (omega (arith, c.requires.within)) in
    let l = c.loop-found.invariant in
    let own = l.own c.loop-found-test.true in
    let around = c.around-found.ensures in
    record {
      bounded = omega arith;
      none_after =
          subst (λ n. (k : ℕ) → n ≤ k → k < c.args.upto → covers_at (network_at c.args.starts.now c.args.rests.now k) c.args.address ≡ false) (sym around)
          (one_outwards c.args.starts.now c.args.rests.now c.requires.rows c.args.address c.args.upto c.loop-found.found c.requires.within
          c.requires.started l.bounded l.none_after c.loop-found-test.true
          (ap (λ n. covers_at n c.args.address) (sym c.network_at.ensures) ∙ sym c.covers.ensures ∙ c.if-covers.false));
      own =
          subst (λ n. 0 < n → covers_at (network_at c.args.starts.now c.args.rests.now (n - 1)) (start_at c.args.starts.now (c.args.upto - 1)) ≡ true)
          (sym around)
          (around_covers c.args.starts.now c.args.rests.now c.requires.rows c.args.upto c.requires.within c.loop-found.found c.loop-found-test.true
          l.bounded own);
      few =
          let fewer =
          one_row_fewer c.args.starts.now c.args.rests.now c.requires.rows c.args.upto c.requires.within c.loop-found.found c.loop-found-test.true
          l.bounded own in
          let few = l.few in
          let same =
          ap (λ n. count_by (λ row. covers_at (network_of row) (start_at c.args.starts.now (c.args.upto - 1))) (take n (rows_of c.args.starts.now c.args.rests.now)))
          around in
          omega arith;
    }

pub returns-then-covers-clause-nested : goal.returns-then-covers-clause-nested
returns-then-covers-clause-nested c =
    let l = c.loop-found.invariant in
    let itself =
    counts_itself c.args.starts.now c.args.rests.now c.requires.rows c.args.upto c.requires.within c.loop-found.found c.loop-found-test.true
    l.bounded (l.own c.loop-found-test.true) in
    let few = l.few in
    record { few = omega arith }
