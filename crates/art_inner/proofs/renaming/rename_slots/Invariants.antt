use Rattle.std.proofs.Common.{◌≡◌, ℕ, length, ◌<◌, ◌≤◌, get_or}
use Rattle.art_inner.specs.NewNames.{new_slot}
use Rattle.art_parts.specs.declared.names.NodeType.TheVariants.{Node4}
use Rattle.art_inner.proofs.renaming.rename_slots.Given as goal

abbrev pub invariant-loop-at : goal.invariant-loop-at
invariant-loop-at l = record {
  count : length l.slots ≡ length l.fn.slots;
  before : (k : ℕ) → k < l.at → get_or l.slots k 0 ≡ new_slot l.table (get_or l.kinds k Node4) (get_or l.fn.slots k 0);
  after : (k : ℕ) → l.at ≤ k → get_or l.slots k 0 ≡ get_or l.fn.slots k 0;
}
