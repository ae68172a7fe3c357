use Rattle.std.proofs.Common.{◌≡◌, rules, ap₂, refl, ◌∙◌, option_map}
use Rattle.std.proofs.lemmas.Bool.{false≢true}
use Rattle.art_model.specs.Prelude.{pairs_of, pair_of}
use Rattle.art_running.proofs.Moves.{from_root}
use Rattle.art_running.proofs.Stepped.{inserted_step, refused_step, conflict_step, no_bytes_step, at_root}
use Rattle.art_running.proofs.run.insert.Goals as goal

pub search_for_insert_point-requires : goal.search_for_insert_point-requires
search_for_insert_point-requires g c = (search rules, c.requires.canonical)

pub apply-requires : goal.apply-requires
apply-requires g c = (search rules, rw c.as_bytes.ensures at c.in-Ok.ensures.applies)

pub returns-in-Err-Prefix : goal.returns-in-Err-Prefix
returns-in-Err-Prefix g c side second =
    rw c.requires.root (from_root g.K.AsBytes.bytes g.row.P side second (λ layout by.
    let accepted = rw c.as_bytes.ensures at (c.in-Err-Prefix.ensures.accepted (pairs_of layout) layout by) in
    conflict_step g.K.AsBytes.bytes g.row.P by second (λ free. false≢true (accepted.1 free))
    c.in-Err-Prefix.error ((rw c.in-Err-Prefix.field-0-is at c.in-Err-Prefix.ensures.refused) ∙ c.as_bytes.ensures)))

pub returns-in-Err-Memory : goal.returns-in-Err-Memory
returns-in-Err-Memory g c side second =
    rw c.requires.root (from_root g.K.AsBytes.bytes g.row.P side second (λ layout by.
    let accepted = rw c.as_bytes.ensures at (c.in-Err-Memory.ensures.accepted (pairs_of layout) layout by) in
    no_bytes_step g.K.AsBytes.bytes g.row.P by second (λ free. false≢true (accepted.1 free))))

pub returns-in-Ok-apply : goal.returns-in-Ok-apply
returns-in-Ok-apply g c side second =
    let reply : c.map.result ≡ option_map pair_of c.in-Ok-apply.done.existing_leaf = search rules in
    rw reply (from_root g.K.AsBytes.bytes g.row.P side second (λ layout by.
    let at = rw c.as_bytes.ensures at (c.in-Ok.ensures.point (pairs_of layout) layout by) in
    let accepted = rw c.as_bytes.ensures at (c.in-Ok.ensures.accepted (pairs_of layout) layout by) in
    let here = at_root g.K.AsBytes.bytes g.row.P by at.root_is in
    inserted_step g.K.AsBytes.bytes g.row.P by second (accepted.0 refl) at (record {
      canonical = c.in-Ok-apply.ensures.applied.canonical (pairs_of layout) layout here;
      replaced = c.in-Ok-apply.ensures.applied.replaced (pairs_of layout) layout here;
      kept = c.in-Ok-apply.ensures.applied.kept (pairs_of layout) layout here;
      touches = c.in-Ok-apply.ensures.applied.touches;
      promise = c.in-Ok-apply.ensures.memory.promise;
    })))

pub returns-in-Err : goal.returns-in-Err
returns-in-Err g c side second =
    rw c.requires.root (from_root g.K.AsBytes.bytes g.row.P side second (λ layout by.
    let at = rw c.as_bytes.ensures at (c.in-Ok.ensures.point (pairs_of layout) layout by) in
    let accepted = rw c.as_bytes.ensures at (c.in-Ok.ensures.accepted (pairs_of layout) layout by) in
    refused_step g.K.AsBytes.bytes g.row.P by second (accepted.0 refl) at
    (ap₂ (λ a b. (a, b)) c.in-Err.ensures.memory.handed_back.0 c.in-Err.ensures.memory.handed_back.1) (record {
      same = (c.in-Err.ensures.memory.leaves, c.in-Err.ensures.memory.inners);
      void = c.in-Err.ensures.memory.void;
      uncovered = λ covered. absurd (false≢true (c.in-Err.ensures.memory.succeeds covered));
    })))
