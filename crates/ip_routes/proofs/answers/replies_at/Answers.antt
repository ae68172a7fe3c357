use Rattle.std.proofs.Common.{drop, refl}
use Rattle.ip_routes.specs.LookUps.{HasLineAt}
use Rattle.ip_routes.proofs.LookUpLemmas.{are_begun, are_items, one_more_at}
use Rattle.ip_routes.proofs.answers.replies_at.Goals as goal

pub loop-place-init : goal.loop-place-init
loop-place-init c = are_begun (HasLineAt c.args.text.now) c.args.places.now c.in-Ok.replies.items c.in-Ok.ensures.items

pub loop-place-preserved : goal.loop-place-preserved
loop-place-preserved c =
    one_more_at (HasLineAt c.args.text.now) c.args.places.now c.loop-place.place-index _ c.loop-place.replies.items
    c.push.new.self.items c.reply_at.result c.loop-place-test.true c.loop-place.invariant c.reply_at.ensures c.in-Ok-push.ensures.items

pub returns-in_default-push : goal.returns-in_default-push
returns-in_default-push c =
    are_items (HasLineAt c.args.text.now) c.args.places.now (drop c.loop-place.place-index c.args.places.now)
    c.loop-place.replies.items c.push.new.self.items c.loop-place.invariant c.in_default-push.ensures.items

pub returns : goal.returns
returns c =
    are_items (HasLineAt c.args.text.now) c.args.places.now (drop c.loop-place.place-index c.args.places.now)
    c.loop-place.replies.items c.loop-place.replies.items c.loop-place.invariant refl
