use Rattle.std.proofs.Common.{[], ◌++◌, take, length-take, append-nil, ap, ◌∙◌, sym, arith}
use Rattle.std.proofs.lemmas.List.{length-take-le, take-append-le}
use Rattle.snapshot_format.proofs.Known.{append_more, reads_none}
use Rattle.snapshot_format.proofs.source.Source.append.Goals as goal

pub loop-left-init : goal.loop-left-init
loop-left-init g c = (omega arith, record { bytes = []; count = omega arith; items = sym (append-nil c.args.into.now.items); reads = reads_none g.R.Read.remaining c.args.self.now (omega arith) })

pub loop-left-preserved : goal.loop-left-preserved
loop-left-preserved g c =
    let n = c.in_ok-n.n in
    let now = c.loop-left.into.items in
    append_more g.R.Read.remaining c.args.self.now c.loop-left.self c.read.new.self c.args.into.now.items now _ (take n c.read.new.buffer) c.args.len c.loop-left.left n
    c.loop-left.invariant.0 (search (arith, length-take)) (length-take-le n c.read.new.buffer c.in_ok-n.ensures.bound)
    (c.in_ok-extend_from_slice.ensures.items ∙ ap (λ bytes. now ++ bytes) (take-append-le n c.read.new.buffer _ c.in_ok-n.ensures.bound)) c.loop-left.invariant.1 c.in_ok-n.ensures.read
