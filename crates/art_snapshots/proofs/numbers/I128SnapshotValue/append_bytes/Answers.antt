use Rattle.std.proofs.Common.{ap, rules, ◌∙◌}
use Rattle.std.proofs.lemmas.Int.{to_z-of_z}
use Rattle.std.specs.Int.{w128}
use Rattle.std.specs.Prelude.{FitsSigned}
use Rattle.art_snapshots.specs.ValueBytes.{twos_complement}
use Rattle.art_snapshots.proofs.ArrayBytes.{appended}
use Rattle.art_snapshots.proofs.numbers.I128SnapshotValue.append_bytes.Goals as goal

pub returns : goal.returns
returns c =
    let value = c.args.self.now in
    let fits : FitsSigned w128 value = search rules in
    appended c.args.out.now.items c.extend_from_slice.new.self.items c.to_be_bytes.result (twos_complement w128 value) c.extend_from_slice.result
    (c.to_be_bytes.ensures ∙ ap (twos_complement w128) (to_z-of_z w128 value fits)) c.extend_from_slice.ensures.items
