use Rattle.std.proofs.Common.{◌≡◌, ℕ, length, ◌<◌, ◌≤◌, get_or}
use Rattle.std.specs.Option.{option_map}
use Rattle.art_inner.specs.Direct.{direct_at}
use Rattle.art_inner.specs.InnerRenamed.{child_renamed}
use Rattle.art_inner.specs.NewNames.{new_name}
use Rattle.art_inner.proofs.direct.rename_places.Given as goal

abbrev pub invariant-loop-at : goal.invariant-loop-at
invariant-loop-at l = record {
  count : length l.slots ≡ length l.fn.slots;
  before : (b : ℕ) → b < l.at → direct_at l.slots l.places b ≡ option_map (child_renamed (new_name l.table)) (direct_at l.fn.slots l.places b);
  after : (b : ℕ) → l.at ≤ b → get_or l.slots b 0 ≡ get_or l.fn.slots b 0;
}
