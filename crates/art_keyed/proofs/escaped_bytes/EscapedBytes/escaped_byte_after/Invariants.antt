use Rattle.std.proofs.Common.{◌≡◌, ◌-◌, ◌≤◌, drop}
use Rattle.art_keys.specs.Escapes.{escape}
use Rattle.art_keyed.specs.EscapedBytes.{left_of}
use Rattle.art_keyed.proofs.escaped_bytes.EscapedBytes.escaped_byte_after.Given as goal

abbrev pub invariant-loop-at : goal.invariant-loop-at
invariant-loop-at l = record {
  within : l.at ≤ l.place;
  left : left_of l.left ≡ drop l.at (escape l.self-inside.text.now);
}

abbrev pub decreases-loop-at : goal.decreases-loop-at
decreases-loop-at l = l.place - l.at
