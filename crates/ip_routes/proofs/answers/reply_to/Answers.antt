use Rattle.std.proofs.Common.{Some, None, ◌++◌, codes, refl, ap, sym, ◌∙◌}
use Rattle.std.proofs.lemmas.Bool.{false≢true}
use Rattle.ip_routes.proofs.AnswerLemmas.{no_answer}
use Rattle.ip_routes.proofs.answers.reply_to.Goals as goal

pub returns-in-Some : goal.returns-in-Some
returns-in-Some c = λ line is. (
  (c.args.address.now, Some c.in-Some.text.now, is, c.in-Some.ensures, refl),
  ((λ found. (c.args.address.now, c.in-Some.text.now, is, c.in-Some.ensures)), (λ has. refl)),
)

pub returns-in-None : goal.returns-in-None
returns-in-None c = λ line is. (
  (c.args.address.now, None, is, c.in-None.ensures, ap (λ bs. bs ++ codes "\n") c.no_route.ensures.text),
  (
    (λ found. absurd (false≢true (sym c.no_route.ensures.found ∙ found))),
    (λ has. absurd (no_answer c.args.routes.now line c.args.address.now is c.in-None.ensures has)),
  ),
)
