use Rattle.std.proofs.Common.{refl}
use Rattle.art_engine.proofs.Replied.{no_memory_replied, run_replied}
use Rattle.art_engine.proofs.engine.answer.Goals as goal

pub returns-in-Err-clause-replied : goal.returns-in-Err-clause-replied
returns-in-Err-clause-replied g c =
    no_memory_replied _ c.args.request c.args.tree.now c.args.tree.now (g.W.Write.contents c.args.output.now) (g.W.Write.contents c.write_no_memory.new.output)
    c.write_no_memory.result c.in-Err.ensures.refused refl c.write_no_memory.ensures

pub returns-in-Ok-clause-replied : goal.returns-in-Ok-clause-replied
returns-in-Ok-clause-replied g c =
    run_replied _ c.args.request c.args.tree.now c.answer.new.self (g.W.Write.contents c.args.output.now) (g.W.Write.contents c.write_reply.new.output)
    c.in-Ok-Some.command c.in-Ok.reply c.write_reply.result
    (rw c.in-Ok-Some.field-0-is at c.in-Ok-Some.ensures.command) c.in-Ok.ensures.run c.write_reply.ensures
