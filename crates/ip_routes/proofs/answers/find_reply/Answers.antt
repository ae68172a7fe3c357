use Rattle.ip_routes.proofs.answers.find_reply.Goals as goal

pub returns-clause-reply : goal.returns-clause-reply
returns-clause-reply c = c.reply_to.ensures c.args.line.now c.in-Ok.ensures
