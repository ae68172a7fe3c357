use Rattle.std.proofs.Common.{◌≡◌, ◌+◌, ◌-◌, drop, length}
use Rattle.art_keys.specs.Escapes.{escape}
use Rattle.art_reading.specs.Matching.{shared_len}
use Rattle.art_keyed.proofs.escaped_bytes.EscapedBytes.escaped_shared_after.Given as goal

abbrev pub invariant-loop-shared : goal.invariant-loop-shared
invariant-loop-shared l = record {
  same : l.self ≡ l.fn.self;
  all : shared_len l.bytes (drop l.place (escape l.fn.self)) ≡ l.shared + shared_len (drop l.shared l.bytes) (drop (l.place + l.shared) (escape l.fn.self));
}

abbrev pub decreases-loop-shared : goal.decreases-loop-shared
decreases-loop-shared l = length l.bytes - l.shared
