use Rattle.ip_routes.proofs.AnswerLemmas.{reply_written}
use Rattle.ip_routes.specs.Replies.{HasAnswer, IsNoAddress, IsRouteReply}
use Rattle.ip_routes.proofs.answers.TableLineTable.answer.Goals as goal

pub returns-in-Some : goal.returns-in-Some
returns-in-Some g c =
    reply_written (IsRouteReply c.args.self.now.routes) (HasAnswer c.args.self.now.routes) IsNoAddress c.args.line.now c.in-Some.reply c.write.result
    (g.W.Write.contents c.args.output.now) (g.W.Write.contents c.write.new.output)
    c.in-Some.ensures.reply c.write.ensures.written c.write.ensures.outcome
