use Rattle.art_snapshots.proofs.EscapedKeys.{is_escaped}
use Rattle.art_snapshots.proofs.strings.EscapedSnapshotKey.from_snapshot.Goals as goal

pub returns-then-not-is_escape-clause-none : goal.returns-then-not-is_escape-clause-none
returns-then-not-is_escape-clause-none c = λ key of_key same. c.if-not-is_escape.ensures.no (is_escaped key c.args.bytes.now same)
