use Rattle.std.proofs.Common.{subst}
use Rattle.std.specs.Io.KnownBytes.{Appends}
use Rattle.text_lines.proofs.Writing.{writing_begins, writing_ends, writing_goes_on}
use Rattle.text_programs.specs.PathReplies.{path_line}
use Rattle.text_programs.proofs.PathReplyLemmas.{all_found, key_lines, none_found, one_found}
use Rattle.text_programs.proofs.path_indexes.answers.write_paths.Goals as goal

pub loop-path-init : goal.loop-path-init
loop-path-init g c = (
  writing_begins (λ x. path_line x.0) c.args.part c.into_iter-path-iterator.result
      (g.W.Write.contents c.args.output.now) c.into_iter-path-iterator.ensures.into_iter_gives,
  none_found c.args.part c.into_iter-path-iterator.result c.into_iter-path-iterator.ensures.into_iter_gives,
)

pub loop-path-preserved : goal.loop-path-preserved
loop-path-preserved g c = (
  writing_goes_on (λ x. path_line x.0) c.args.part c.loop-path.path-iterator c.next.new.self (c.in-Some.path.now, tt)
      (g.W.Write.contents c.args.output.now) (g.W.Write.contents c.loop-path.output) (g.W.Write.contents c.write_path.new.output) c.loop-path.invariant.0
      c.in-Some.ensures.steps c.in_ok-write_path.ensures,
  one_found c.args.part c.loop-path.path-iterator c.next.new.self (c.in-Some.path.now, tt) c.loop-path.is_found c.loop-path.invariant.1
      c.in-Some.ensures.steps,
)

pub returns-clause-written : goal.returns-clause-written
returns-clause-written g c =
    subst (Appends (g.W.Write.contents c.args.output.now) (g.W.Write.contents c.loop-path.output)) (key_lines c.args.part)
    (writing_ends (λ x. path_line x.0) c.args.part c.loop-path.path-iterator (g.W.Write.contents c.args.output.now) (g.W.Write.contents c.loop-path.output)
    c.loop-path.invariant.0 c.in-None.ensures.steps.0)

pub returns-clause-found : goal.returns-clause-found
returns-clause-found g c = all_found c.args.part c.loop-path.path-iterator c.loop-path.is_found c.loop-path.invariant.1 c.in-None.ensures.steps.0
