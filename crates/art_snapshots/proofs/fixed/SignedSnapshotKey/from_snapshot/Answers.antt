use Rattle.std.proofs.Common.{◌≡◌, ◌≢◌, ◌<◌, ◌==◌, true, false, length, ap, subst, sym, ◌∙◌, arith, rules}
use Rattle.std.proofs.lemmas.Bool.{eqb-false, eqb-true}
use Rattle.art_keys.specs.NumberLaws.{length-bytes}
use Rattle.art_keys.specs.Numbers.{HasSignedBytes, lifted, signed_bytes}
use Rattle.art_snapshots.proofs.Digits.{are_signed, has_some_bytes, of_signed}
use Rattle.art_snapshots.proofs.fixed.SignedSnapshotKey.from_snapshot.Goals as goal

pub returns-then-is_empty-clause-none : goal.returns-then-is_empty-clause-none
returns-then-is_empty-clause-none g c = λ key of_key same.
    let is : c.is_empty.result ≡ (length c.args.bytes.now == 0) = c.is_empty.ensures in
    let test : (length c.args.bytes.now == 0) ≡ true = sym is ∙ c.if-is_empty.true in
    let none : length c.args.bytes.now ≡ 0 = eqb-true (length c.args.bytes.now) 0 test in
    omega (arith, ap length same, none, length-bytes g.row.N (lifted g.row.N key), has_some_bytes g.row.N key of_key)

pub returns-then-bytes-clause-none : goal.returns-then-bytes-clause-none
returns-then-bytes-clause-none g c = λ key of_key same.
    omega (arith, ap length same, length-bytes g.row.N (lifted g.row.N key), c.if-bytes.true)

pub from_fixed_bytes-requires : goal.from_fixed_bytes-requires
from_fixed_bytes-requires g c =
    let all : length c.args.bytes.now ≡ g.row.N = omega (arith, c.if-bytes.false) in
    let is : c.is_empty.result ≡ (length c.args.bytes.now == 0) = c.is_empty.ensures in
    let test : (length c.args.bytes.now == 0) ≡ false = sym is ∙ c.if-is_empty.false in
    let not_none : length c.args.bytes.now ≢ 0 = eqb-false (length c.args.bytes.now) 0 test in
    let some : 0 < g.row.N = omega (arith, all, not_none) in
    (search rules, of_signed g.row.N c.args.bytes.now some all (λ i. omega (arith, c.type_inv.bytes i)))

pub returns-clause-key : goal.returns-clause-key
returns-clause-key g c =
    let all : length c.args.bytes.now ≡ g.row.N = omega (arith, c.if-bytes.false) in
    let is : c.is_empty.result ≡ (length c.args.bytes.now == 0) = c.is_empty.ensures in
    let test : (length c.args.bytes.now == 0) ≡ false = sym is ∙ c.if-is_empty.false in
    let not_none : length c.args.bytes.now ≢ 0 = eqb-false (length c.args.bytes.now) 0 test in
    let some : 0 < g.row.N = omega (arith, all, not_none) in
    subst (λ z. HasSignedBytes g.row.N z × (signed_bytes g.row.N z ≡ c.args.bytes.now)) (sym c.from_fixed_bytes.ensures)
    (are_signed g.row.N c.args.bytes.now some all (λ i. omega (arith, c.type_inv.bytes i)))
