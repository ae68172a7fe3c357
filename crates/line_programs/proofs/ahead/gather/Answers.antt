use Rattle.std.proofs.Common.{refl, arith}
use Rattle.line_programs.proofs.AheadLemmas.{none_gathered, one_more_gathered}
use Rattle.line_programs.proofs.ahead.gather.Goals as goal

pub loop-reply-init : goal.loop-reply-init
loop-reply-init c = record {
  gathered = none_gathered c.args.replies.now c.clear.new.self.items c.clear.ensures.items;
  few = omega arith;
}

pub loop-reply-preserved : goal.loop-reply-preserved
loop-reply-preserved c =
    let l = c.loop-reply in
    record {
      gathered =
          one_more_gathered c.args.replies.now l.reply-index l.count _ _ l.worst c.outcome.result c.worse-worst.result l.buffer.items
          c.append.new.buffer.items c.loop-reply-test.true refl l.invariant.gathered c.in-Ok.ensures c.outcome.ensures c.worse-worst.ensures;
      few = let few = l.invariant.few in omega arith;
    }
