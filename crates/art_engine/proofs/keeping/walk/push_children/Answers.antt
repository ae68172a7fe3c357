use Rattle.std.proofs.Common.{ap, ◌∙◌, arith, length, length-append, ◌++◌}
use Rattle.art_engine.specs.NodeWalks.{reversed_children}
use Rattle.art_engine.proofs.Walks.{pushed}
use Rattle.art_engine.proofs.keeping.walk.push_children.Goals as goal

pub loop-byte-preserved : goal.loop-byte-preserved
loop-byte-preserved c =
    let items = c.push_reserved.ensures.items in
    let steps = c.in-Some.ensures.steps in
    let depth = c.args.depth in (
      ap (λ l. l ++ reversed_children depth c.next.new.self.iter) items
          ∙ pushed depth c.loop-byte.pending.items
          (c.in-Some.byte, c.in-Some.name) c.loop-byte.byte-iterator.iter c.next.new.self.iter _ steps c.loop-byte.invariant.0,
      omega (
        arith,
        ap length items,
        length-append c.loop-byte.pending.items,
        ap length steps,
        length-append c.next.new.self.iter,
        c.loop-byte.invariant.1,
        c.push_reserved.ensures.capacity,
      ),
      c.push_reserved.ensures.capacity ∙ c.loop-byte.invariant.2,
    )
