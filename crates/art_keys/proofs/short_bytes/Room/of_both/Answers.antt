use Rattle.art_keys.proofs.Rooms.{copied_both}
use Rattle.art_keys.proofs.short_bytes.Room.of_both.Goals as goal

pub returns : goal.returns
returns c =
    copied_both c.args.first.now c.args.second.now c.copy_from_slice.new.self c.copy_from_slice-2.new.self _ _
    c.copy_from_slice.ensures.after c.copy_from_slice-2.ensures.after
