use Rattle.art_operations.specs.MapItems.{keys_of}
use Rattle.text_programs.proofs.PathReplyLemmas.{last_request}
use Rattle.text_programs.proofs.path_indexes.answers.answer.Goals as goal

pub returns-in-Last-clause-found : goal.returns-in-Last-clause-found
returns-in-Last-clause-found g c =
    last_request (keys_of c.args.index.now) c.args.request c.last.result c.write_found-in-Last.result c.in-Last.is c.last.ensures
    c.write_found-in-Last.ensures.found
