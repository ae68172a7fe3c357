use Rattle.std.proofs.Common.{◌≡◌, rules, ap₂, option_map}
use Rattle.std.proofs.lemmas.Bool.{false≢true}
use Rattle.art_model.specs.Prelude.{pairs_of, pair_of}
use Rattle.art_running.proofs.Moves.{from_root}
use Rattle.art_running.proofs.PrefixSteps.{prefix_step, prefix_refused}
use Rattle.art_writing.proofs.Standing.{prefix_at}
use Rattle.art_running.proofs.run.insert_prefix.Goals as goal

pub returns-in-Ok : goal.returns-in-Ok
returns-in-Ok g c side second =
    let reply : c.map.result ≡ option_map pair_of c.in-Ok.done.insert_result.existing_leaf = search rules in
    rw reply (from_root g.K.AsBytes.bytes g.row.P side second (λ layout by.
    let at = rw c.as_bytes.ensures at (c.search_for_prefix_insert_point-at.ensures.point (pairs_of layout) layout by) in
    let here = prefix_at (g.K.AsBytes.bytes c.args.key) by c.search_for_prefix_insert_point-at.result at in
    prefix_step g.K.AsBytes.bytes g.row.P by c.search_for_prefix_insert_point-at.result second at (record {
      canonical = c.in-Ok.ensures.applied.canonical (pairs_of layout) layout here;
      replaced = c.in-Ok.ensures.applied.replaced (pairs_of layout) layout here;
      removed = c.in-Ok.ensures.applied.removed (pairs_of layout) layout here;
      kept = c.in-Ok.ensures.applied.kept (pairs_of layout) layout here;
      touches = c.in-Ok.ensures.applied.touches (pairs_of layout) layout here;
      promise = c.in-Ok.ensures.memory.promise;
    })))

pub returns-in-Err : goal.returns-in-Err
returns-in-Err g c side second =
    rw c.requires.root (from_root g.K.AsBytes.bytes g.row.P side second (λ layout by.
    let at = rw c.as_bytes.ensures at (c.search_for_prefix_insert_point-at.ensures.point (pairs_of layout) layout by) in
    prefix_refused g.K.AsBytes.bytes g.row.P by c.search_for_prefix_insert_point-at.result second at
    (ap₂ (λ a b. (a, b)) c.in-Err.ensures.memory.handed_back.0 c.in-Err.ensures.memory.handed_back.1) (record {
      same = (c.in-Err.ensures.memory.leaves, c.in-Err.ensures.memory.inners);
      void = c.in-Err.ensures.memory.void;
      uncovered = λ covered. absurd (false≢true (c.in-Err.ensures.memory.succeeds covered));
    })))
