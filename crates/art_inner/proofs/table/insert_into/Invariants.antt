use Rattle.std.proofs.Common.{◌≡◌, ◌<◌, ◌≤◌, length}
use Rattle.art_inner.proofs.TableLemmas.{moved_to}
use Rattle.art_inner.proofs.table.insert_into.Given as goal

abbrev pub invariant-loop-place : goal.invariant-loop-place
invariant-loop-place l =
    (l.place < length l.fn.bytes) × (l.at ≤ l.place)
    × (l.bytes ≡ moved_to l.place l.fn.bytes) × (l.kinds ≡ moved_to l.place l.fn.kinds) × (l.slots ≡ moved_to l.place l.fn.slots)

abbrev pub decreases-loop-place : goal.decreases-loop-place
decreases-loop-place l = l.place
