use Rattle.art_sets.specs.SetAlgebra.{byte_order}
use Rattle.art_sets.proofs.SetSides.{first_alone}
use Rattle.art_sets.proofs.set.algebra.next_merged.Goals as goal

pub returns-in_default-peek : goal.returns-in_default-peek
returns-in_default-peek g c =
    first_alone (byte_order g.K.AsBytes.bytes) c.args.keeps_equal _ c.loop-x.left c.next-in_default-peek.new.self c.loop-x.right c.next-in_default-peek.result
    c.loop-x.invariant c.in_default-peek.ensures.0 c.next-in_default-peek.ensures
