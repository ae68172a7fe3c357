use Rattle.std.proofs.Common.{arith, drop}
use Rattle.art_keys.specs.Escapes.{escape}
use Rattle.art_reading.proofs.Shared.{shared_within}
use Rattle.art_keyed.proofs.EscapedFronts.{inside_shorter, others_shared, same_inside, zero_shared}
use Rattle.art_keyed.proofs.escaped_front.EscapedFrontKeyBytes.shared_after.Goals as goal
use Rattle.art_keyed.proofs.escaped_front.EscapedFrontKeyBytes.shared_after.Goals.{else-shared-gt0-via-then-shared-gt0+else-bytes-shared-eq0, else-shared-gt0-via-else-shared-gt0}

pub shared_after-shared-requires : goal.shared_after-shared-requires
shared_after-shared-requires c = let len = inside_shorter c.args.self.now.bytes in let within = c.requires in omega arith

pub bounds-bytes-shared : goal.bounds-bytes-shared
bounds-bytes-shared c =
    let within = shared_within c.args.bytes.now (drop c.args.place (escape c.args.self.now.bytes)) in
    let some = c.if-shared-gt0.true in
    let is = c.shared_after-shared.ensures.shared in
    omega arith

pub returns-then-bytes-shared-eq0-clause-shared : goal.returns-then-bytes-shared-eq0-clause-shared
returns-then-bytes-shared-eq0-clause-shared c =
    zero_shared c.args.self.now.bytes c.args.bytes.now c.args.place c.shared_after-shared.result c.requires c.shared_after-shared.ensures.shared
    c.if-shared-gt0.true c.if-bytes-shared-eq0.true

pub returns-then-bytes-shared-eq0-clause-same : goal.returns-then-bytes-shared-eq0-clause-same
returns-then-bytes-shared-eq0-clause-same c =
    same_inside c.shared_after-shared.new.self c.args.self.now.bytes c.shared_after-shared.ensures.same

pub returns-else-shared-gt0-clause-shared : goal.returns-else-shared-gt0-clause-shared
returns-else-shared-gt0-clause-shared c =
    others_shared c.args.self.now.bytes c.args.bytes.now c.args.place c.shared_after-shared.result c.requires c.shared_after-shared.ensures.shared
    (λ some is_zero. elim c.else-shared-gt0.branch [
      | else-shared-gt0-via-then-shared-gt0+else-bytes-shared-eq0 w ↦ w.if-bytes-shared-eq0.false is_zero
      | else-shared-gt0-via-else-shared-gt0 w ↦ let none = w.if-shared-gt0.false in absurd (omega arith)
    ])

pub returns-else-shared-gt0-clause-same : goal.returns-else-shared-gt0-clause-same
returns-else-shared-gt0-clause-same c =
    same_inside c.shared_after-shared.new.self c.args.self.now.bytes c.shared_after-shared.ensures.same
