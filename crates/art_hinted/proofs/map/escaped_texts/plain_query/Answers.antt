use Rattle.std.proofs.Common.{sym}
use Rattle.art_keys.specs.EscapeLaws.{escape-plain}
use Rattle.art_hinted.proofs.map.escaped_texts.plain_query.Goals as goal

pub returns-then-is_plain : goal.returns-then-is_plain
returns-then-is_plain c = sym (escape-plain c.args.text.now c.if-is_plain.ensures.yes)
