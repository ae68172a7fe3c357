use Rattle.std.proofs.Common.{◌++◌, [], subst, ◌∙◌, ap}
use Rattle.std.proofs.lemmas.Result.{on_ok_weaker}
use Rattle.std.specs.Io.KnownBytes.{Appends}
use Rattle.snapshot_format.specs.Snapshots.{body_of, head_bytes}
use Rattle.snapshot_format.specs.Writing.{Writes}
use Rattle.snapshot_format.proofs.WrittenNumbers.{body_written, snapshot_written}
use Rattle.snapshot_format.proofs.writing.write_snapshot.Goals as goal

pub returns-clause-written : goal.returns-clause-written
returns-clause-written g c =
    let contents = g.W.Write.contents in
    let entries = g.G.GiveEntries.entries c.args.entries.now in
    let head = subst (Writes contents c.args.output.now c.write_part.new.output c.new-digest.result c.write_part.new.digest) (c.deref.ensures.value ∙ c.in_ok-push_head.ensures ∙ ap (λ bs. bs ++ head_bytes c.count-count.result) c.new-head.ensures.items) c.in_ok-write_part.ensures in
    let body = body_written contents c.args.output.now c.write_part.new.output c.write_entries.new.output c.new-digest.result c.write_part.new.digest c.write_entries.new.digest entries c.count-count.result
    c.count-count.ensures head c.in_ok-write_entries.ensures.written in
    on_ok_weaker c.write_all.result (λ tail. snapshot_written contents c.args.output.now c.write_entries.new.output c.write_all.new.self c.new-digest.result c.write_entries.new.digest entries body
    (subst (Appends (contents c.write_entries.new.output) (contents c.write_all.new.self)) (c.finalize.ensures (body_of entries) (body.held [] c.new-digest.ensures)) tail)) c.write_all.ensures.bytes
