use Rattle.std.proofs.Common.{◌++◌, refl}
use Rattle.std.specs.Net.Grammar.{IsIpText}
use Rattle.text_lines.specs.Lines.{lines}
use Rattle.ip_routes.proofs.LookUpLemmas.{are_begun, are_items, one_more_item}
use Rattle.ip_routes.proofs.answers.first_addresses.Goals as goal

pub loop-line-init : goal.loop-line-init
loop-line-init c = λ more. are_begun IsIpText (lines (c.args.text.now ++ more)) c.new-addresses.result.items c.new-addresses.ensures.items

pub loop-line-preserved : goal.loop-line-preserved
loop-line-preserved c = λ more.
    one_more_item IsIpText (lines (c.args.text.now ++ more)) (lines (c.loop-line.left.now ++ more)) (lines (c.in-Some.others.now ++ more))
    c.in-Some.line.now c.loop-line.addresses.items c.push.new.self.items c.in-Ok.address (c.loop-line.invariant more) (c.in-Some.ensures.line more)
    c.in-Ok.ensures c.in-Ok-push.ensures.items

pub returns-in_default-parse_ascii : goal.returns-in_default-parse_ascii
returns-in_default-parse_ascii c = λ more.
    are_items IsIpText (lines (c.args.text.now ++ more)) (lines (c.loop-line.left.now ++ more)) c.loop-line.addresses.items
    c.loop-line.addresses.items (c.loop-line.invariant more) refl

pub returns-in_default-push : goal.returns-in_default-push
returns-in_default-push c = λ more.
    are_items IsIpText (lines (c.args.text.now ++ more)) (lines (c.loop-line.left.now ++ more)) c.loop-line.addresses.items
    c.push.new.self.items (c.loop-line.invariant more) c.in_default-push.ensures.items

pub returns : goal.returns
returns c = λ more.
    are_items IsIpText (lines (c.args.text.now ++ more)) (lines (c.loop-line.left.now ++ more)) c.loop-line.addresses.items
    c.loop-line.addresses.items (c.loop-line.invariant more) refl
