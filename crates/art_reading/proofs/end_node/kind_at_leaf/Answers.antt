use Rattle.std.proofs.Common.{ap, arith, inl, inr, length, refl}
use Rattle.art_reading.proofs.Endings.{byte_within, past}
use Rattle.art_reading.proofs.Partings.{both_end, both_go_on, one_ends}
use Rattle.art_reading.proofs.Shared.{shared_short}
use Rattle.art_reading.proofs.end_node.kind_at_leaf.Goals as goal

pub byte_after-requires : goal.byte_after-requires
byte_after-requires g c =
    let short = shared_short c.as_bytes-leaf_bytes.result.now (g.B.KeyBytes.key c.args.key.now) in
    let shared = c.shared_after-shared.ensures.shared in
    let same = ap length c.shared_after-shared.ensures.same in
    omega arith

pub returns-in-Some-true-clause-kind : goal.returns-in-Some-true-clause-kind
returns-in-Some-true-clause-kind g c =
    let within = byte_within c.shared_after-shared.ensures.same _ c.byte_after.ensures.byte c.in-Some-true.is-0 in (
      refl,
      both_go_on (g.B.KeyBytes.key c.args.key.now) c.shared_after-shared.ensures.shared c.as_bytes-leaf_bytes.ensures (omega arith) c.in-Some-true.is-1,
    )

pub returns-in-None-false-clause-kind : goal.returns-in-None-false-clause-kind
returns-in-None-false-clause-kind g c =
    let ended = past c.shared_after-shared.ensures.same _ c.byte_after.ensures.byte c.in-None-false.is-0 in (
      refl,
      both_end (g.B.KeyBytes.key c.args.key.now) c.shared_after-shared.ensures.shared c.as_bytes-leaf_bytes.ensures (omega arith) c.in-None-false.is-1,
    )

pub returns-in_default-clause-kind : goal.returns-in_default-clause-kind
returns-in_default-clause-kind g c =
    let within = byte_within c.shared_after-shared.ensures.same _ c.byte_after.ensures.byte c.in_default.is-0 in
    one_ends (g.B.KeyBytes.key c.args.key.now) c.shared_after-shared.ensures.shared c.as_bytes-leaf_bytes.ensures (inl (omega arith, c.in_default.is-1))

pub returns-in_default-2-clause-kind : goal.returns-in_default-2-clause-kind
returns-in_default-2-clause-kind g c =
    let ended = past c.shared_after-shared.ensures.same _ c.byte_after.ensures.byte c.in_default.is-0 in
    one_ends (g.B.KeyBytes.key c.args.key.now) c.shared_after-shared.ensures.shared c.as_bytes-leaf_bytes.ensures (inr (omega arith, c.in_default.is-1))
