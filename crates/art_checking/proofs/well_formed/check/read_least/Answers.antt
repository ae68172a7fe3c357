use Rattle.std.proofs.Common.{◌≡◌, sym, ◌∙◌, subst, Some, IfSome}
use Rattle.art_model.specs.Prelude.{inner_name, of_key}
use Rattle.art_checking.specs.Checked.{IsLeastLeaf, IsReadFrom}
use Rattle.art_checking.proofs.PrefixReadings.{read_none, read_part}
use Rattle.art_checking.proofs.well_formed.check.read_least.Goals as goal
use Rattle.art_checking.proofs.well_formed.check.read_least.Goals.{in-Some, in-None+in_ok-found-in-None, in-Some-found, in-None-found}

pub returns : goal.returns
returns g c =
    let bytes = of_key g.K.AsBytes.bytes in
    let s = c.args.store.now in
    let name = inner_name c.args.name in
    let least : IsLeastLeaf bytes g.row.P s name c.match-least.found = elim c.match-least.branch [
      | in-Some w ↦ subst (IsLeastLeaf bytes g.row.P s name) (sym w.found-is)
          (subst (λ o. IfSome o (λ leaf. IsLeastLeaf bytes g.row.P s name (Some leaf))) w.in-Some.is c.requires)
      | in-None+in_ok-found-in-None w ↦ subst (IsLeastLeaf bytes g.row.P s name) (sym w.found-is)
          (subst (λ n. IsLeastLeaf bytes g.row.P s n w.in_ok-found-in-None.found) w.to_opaque.ensures w.in_ok-found-in-None.ensures)
    ] in
    let part : IsReadFrom bytes g.row.P s name c.args.depth c.args.len c.match-found.part = elim c.match-found.branch [
      | in-Some-found w ↦
          subst (IsReadFrom bytes g.row.P s name c.args.depth c.args.len) (sym w.part-is)
          (read_part bytes g.row.P s c.args.depth c.args.len w.in-Some-found.leaf w.part_of-part.result
          (subst (IsLeastLeaf bytes g.row.P s name) w.in-Some-found.is least) w.part_of-part.ensures)
      | in-None-found w ↦ subst (IsReadFrom bytes g.row.P s name c.args.depth c.args.len) (sym w.part-is)
          (read_none bytes g.row.P s c.args.depth c.args.len (subst (IsLeastLeaf bytes g.row.P s name) w.in-None-found.is least))
    ] in
    let same : c.match-found.found ≡ c.match-least.found =
    elim c.match-found.branch [ in-Some-found w ↦ w.found-is ∙ sym w.in-Some-found.is | in-None-found w ↦ w.found-is ] in
    record { least = subst (IsLeastLeaf bytes g.row.P s name) (sym same) least; part = part }
