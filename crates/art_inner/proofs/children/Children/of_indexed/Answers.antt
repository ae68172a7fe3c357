use Rattle.std.proofs.Common.{length, sym, ap, ◌∙◌, arith}
use Rattle.art_inner.proofs.Extent.{whole_part}
use Rattle.art_inner.proofs.children.Children.of_indexed.Goals as goal

pub invariant_of-result : goal.invariant_of-result
invariant_of-result c = (
  c.requires.rising,
  (
    omega arith,
    c.requires.count
        ∙ ap length (sym (whole_part c.args.table.now c.requires.rising 256 c.requires.bytes)),
  ),
)

pub returns : goal.returns
returns c = whole_part c.args.table.now c.requires.rising 256 c.requires.bytes
