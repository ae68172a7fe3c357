use Rattle.std.proofs.Common.{◌≡◌, length, ap, subst, sym, arith, rules}
use Rattle.std.specs.Int.{bytes_high_first}
use Rattle.art_keys.specs.NumberLaws.{length-bytes}
use Rattle.art_keys.specs.Numbers.{HasBytes}
use Rattle.art_snapshots.proofs.Digits.{of_unsigned, unsigned_bytes}
use Rattle.art_snapshots.proofs.fixed.UnsignedSnapshotKey.from_snapshot.Goals as goal

pub returns-then-bytes-clause-none : goal.returns-then-bytes-clause-none
returns-then-bytes-clause-none g c = λ key of_key same. omega (arith, ap length same, length-bytes g.row.N key, c.if-bytes.true)

pub from_fixed_bytes-requires : goal.from_fixed_bytes-requires
from_fixed_bytes-requires g c =
    let all : length c.args.bytes.now ≡ g.row.N = omega (arith, c.if-bytes.false) in
    (search rules, of_unsigned g.row.N c.args.bytes.now all (λ i. omega (arith, c.type_inv.bytes i)))

pub returns-clause-key : goal.returns-clause-key
returns-clause-key g c =
    let all : length c.args.bytes.now ≡ g.row.N = omega (arith, c.if-bytes.false) in
    subst (λ n. HasBytes g.row.N n × (bytes_high_first g.row.N n ≡ c.args.bytes.now)) (sym c.from_fixed_bytes.ensures)
    (unsigned_bytes g.row.N c.args.bytes.now all (λ i. omega (arith, c.type_inv.bytes i)))
