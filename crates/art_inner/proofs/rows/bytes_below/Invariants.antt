use Rattle.std.proofs.Common.{◌≡◌, ◌+◌, drop}
use Rattle.art_inner.specs.Inner.{bytes_below}
use Rattle.art_inner.proofs.rows.bytes_below.Given as goal

abbrev pub invariant-loop-b : goal.invariant-loop-b
invariant-loop-b l = (l.count ≡ l.b-index) × (bytes_below l.bytes l.byte ≡ l.count + bytes_below (drop l.b-index l.bytes) l.byte)
