use Rattle.std.proofs.Common.{sym, subst}
use Rattle.std.specs.List.{AllZip}
use Rattle.line_programs.specs.LineTables.{AreLookedUp, AreOf}
use Rattle.prefix_table.specs.Entries.{IsLongestValue}
use Rattle.ip_routes.specs.LookUps.{HasLineAt}
use Rattle.ip_routes.specs.Replies.{HasAnswer, IsRouteReply}
use Rattle.ip_routes.specs.Sources.{ArePlaced}
use Rattle.ip_routes.proofs.AnswerLemmas.{are_replies, place_is_in}
use Rattle.ip_routes.proofs.answers.replies_to.Goals as goal

pub replies_at-requires : goal.replies_at-requires
replies_at-requires c =
    place_is_in c.deref.result.now c.routes.inside.networks c.args.addresses.now c.deref-2.result.now
    (subst (λ text. ArePlaced text c.routes.inside.networks) (sym c.deref.ensures.value) c.routes.invariant)
    (subst (AllZip (IsLongestValue c.routes.inside.networks) c.args.addresses.now) (sym c.deref-2.ensures.value) c.in-Ok.ensures)

pub returns : goal.returns
returns c = λ asked is.
    subst (λ answers. AreLookedUp (IsRouteReply answers) (HasAnswer answers) c.replies_at.result.items asked) c.routes.view_is
    (are_replies c.routes.inside.text.items c.routes.inside.networks c.args.addresses.now c.deref-2.result.now c.replies_at.result.items
    (subst (AllZip (IsLongestValue c.routes.inside.networks) c.args.addresses.now) (sym c.deref-2.ensures.value) c.in-Ok.ensures)
    (subst (λ text. AreOf (HasLineAt text) c.replies_at.result.items c.deref-2.result.now) c.deref.ensures.value c.replies_at.ensures)
    asked is)
