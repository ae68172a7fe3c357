use Rattle.std.proofs.Common.{rules}
use Rattle.art_writing.proofs.Overwrites.{end_full}
use Rattle.art_writing.proofs.insert.OverwritePoint.links_around.Goals as goal

pub links_beside-previous-requires : goal.links_beside-previous-requires
links_beside-previous-requires g c = (search rules, end_full c.requires.answers.1 c.requires.inner)

pub links_beside-next-requires : goal.links_beside-next-requires
links_beside-next-requires g c = (search rules, end_full c.requires.answers.1 c.requires.inner)

pub returns-clause-previous : goal.returns-clause-previous
returns-clause-previous g c tree full = (_, c.links_beside-previous.ensures tree full)

pub returns-clause-next : goal.returns-clause-next
returns-clause-next g c tree full = (_, c.links_beside-next.ensures tree full)
