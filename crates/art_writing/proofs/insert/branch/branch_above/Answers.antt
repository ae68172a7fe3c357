use Rattle.std.proofs.Common.{refl}
use Rattle.art_parts.proofs.HeaderLaws.{new_header}
use Rattle.art_writing.proofs.insert.branch.branch_above.Goals as goal

pub returns-clause-header : goal.returns-clause-header
returns-clause-header g c = new_header g.row.P c.args.part.now c.args.part.now c.new.result refl c.new.ensures

pub returns-clause-beside : goal.returns-clause-beside
returns-clause-beside g c = rw c.of.ensures at c.links_beside-previous.ensures
