use Rattle.std.proofs.Common.{sym, ◌∙◌}
use Rattle.art_map.proofs.map.position.has_bytes_at.Goals as goal

pub returns-clause-key : goal.returns-clause-key
returns-clause-key g c same = (c.in-Some.node.now, sym c.in-Some.ensures, sym c.as_bytes.ensures ∙ c.is_same.ensures.is_same same)
