use Rattle.std.proofs.Common.{◌∙◌, refl, sym}
use Rattle.art_operations.specs.MapItems.{keys_of}
use Rattle.text_programs.specs.PathReplies.{reply_to}
use Rattle.text_programs.proofs.PathReplyLemmas.{finds_none}
use Rattle.text_programs.proofs.path_indexes.answers.PathIndexLineTable.answer.Goals as goal

pub returns-else-branch : goal.returns-else-branch
returns-else-branch g c = (
  finds_none (keys_of c.args.self.now.paths) c.args.line.now c.in-Some.request c.in-Some.ensures.is c.in-Some.ensures.line
      (sym c.in_ok-answer.ensures.found ∙ c.if-branch.false),
  (
    reply_to (keys_of c.args.self.now.paths) c.in-Some.request,
    (c.in-Some.request, c.in-Some.ensures.is, c.in-Some.ensures.line, refl),
    c.in_ok-answer.ensures.written,
  ),
)
