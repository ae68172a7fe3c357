use Rattle.std.proofs.Common.{◌≡◌, ◌<◌, ◌^◌, ℕ, List, length, ap₂, subst, arith}
use Rattle.snapshot_format.specs.Entries.{IsGiven}
use Rattle.snapshot_format.specs.Snapshots.{entry, entry_bytes}
use Rattle.snapshot_format.specs.Writing.{Writes}
use Rattle.snapshot_format.proofs.WrittenNumbers.{all_written, none_left, writing_begins, writing_goes_on}
use Rattle.snapshot_format.proofs.writing.write_entries.Goals as goal

-- the length of the same bytes
small : {a b : List ℕ} → a ≡ b → length a < 2 ^ 64 → length b < 2 ^ 64
small e h = subst (λ bs. length bs < 2 ^ 64) e h

pub loop-init : goal.loop-init
loop-init g c = writing_begins g.W.Write.contents c.args.output.now c.args.digest.now (g.G.GiveEntries.entries c.args.entries.now) _ c.new-before.ensures.items

pub loop-preserved : goal.loop-preserved
loop-preserved g c =
    let contents = g.W.Write.contents in
    let entries = g.G.GiveEntries.entries in
    let one = entry c.give_entry.new.key.items c.give_entry.new.value.items in
    let bytes : entry_bytes c.deref.result.now (entry c.deref-in-loop.result.now c.deref-in-loop-2.result.now) ≡ entry_bytes c.loop.before.items one =
    ap₂ entry_bytes c.deref.ensures.value (ap₂ entry c.deref-in-loop.ensures.value c.deref-in-loop-2.ensures.value) in
    let wrote = subst (Writes contents c.loop.output c.write_entry.new.output c.loop.digest c.write_entry.new.digest) bytes c.in_ok-write_entry.ensures.written in
    let given = subst (λ more. IsGiven more one (entries c.loop.entries) (entries c.give_entry.new.self)) c.if-not-branch.false c.in_ok-give_entry.ensures in
    rw c.swap.ensures.x_after (writing_goes_on contents c.args.output.now c.loop.output c.write_entry.new.output c.args.digest.now c.loop.digest c.write_entry.new.digest
    (entries c.args.entries.now) (entries c.loop.entries) (entries c.give_entry.new.self) c.loop.before.items one c.loop.counter c.loop.invariant given wrote
    (record { key = small c.deref-in-loop.ensures.value c.write_entry.ensures.key; value = small c.deref-in-loop-2.ensures.value c.write_entry.ensures.value }))

pub returns-then-not-branch : goal.returns-then-not-branch
returns-then-not-branch g c =
    let entries = g.G.GiveEntries.entries in
    let one = entry c.give_entry.new.key.items c.give_entry.new.value.items in
    let none = subst (λ more. IsGiven more one (entries c.loop.entries) (entries c.give_entry.new.self)) c.if-not-branch.true c.in_ok-give_entry.ensures in
    let all = all_written g.W.Write.contents c.args.output.now c.loop.output c.args.digest.now c.loop.digest (entries c.args.entries.now) (entries c.loop.entries) c.loop.before.items c.loop.counter c.loop.invariant none in
    record { written = all.0; fits = all.1 }

pub returns : goal.returns
returns g c =
    let entries = g.G.GiveEntries.entries in
    let none = none_left g.W.Write.contents c.args.output.now c.loop.output c.args.digest.now c.loop.digest (entries c.args.entries.now) (entries c.loop.entries) c.loop.before.items c.loop.counter (omega arith) c.loop.invariant in
    let all = all_written g.W.Write.contents c.args.output.now c.loop.output c.args.digest.now c.loop.digest (entries c.args.entries.now) (entries c.loop.entries) c.loop.before.items c.loop.counter c.loop.invariant none in
    record { written = all.0; fits = all.1 }
