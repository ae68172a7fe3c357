use Rattle.std.proofs.Common.{◌≡◌, ◌∙◌, ap, subst, false}
use Rattle.std.specs.List.{All}
use Rattle.prefix_table.specs.Networks.{covers}
use Rattle.prefix_table.specs.Entries.{IsLongest}
use Rattle.ip_routes.specs.Sources.{line_at}
use Rattle.ip_routes.proofs.AnswerLemmas.{line_is_longest, no_line}
use Rattle.ip_routes.proofs.routes.Routes.find.Goals as goal

pub returns-in-Some : goal.returns-in-Some
returns-in-Some c = (
  c.in-Some._network,
  subst (λ answers. IsLongest answers c.args.address.now (c.in-Some._network, c.line_at.result.now)) c.self.view_is
      (line_is_longest c.self.inside.text.items c.self.inside.networks c.args.address.now c.in-Some._network c.in-Some.place.now c.line_at.result.now
      (c.line_at.ensures ∙ ap (λ text. line_at text c.in-Some.place.now) c.deref.ensures.value) c.in-Some.ensures),
)

pub returns-in-None : goal.returns-in-None
returns-in-None c =
    subst (All (λ answer. covers answer.0 c.args.address.now ≡ false)) c.self.view_is
    (no_line c.self.inside.text.items c.self.inside.networks c.args.address.now c.in-None.ensures)
