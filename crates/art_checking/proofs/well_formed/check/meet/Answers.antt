use Rattle.std.proofs.Common.{sym, ◌≡◌, Some}
use Rattle.art_model.specs.Prelude.{of_key, node_at}
use Rattle.art_model.proofs.places.Trails.{other_way}
use Rattle.art_checking.specs.Meetings.{place_in}
use Rattle.art_checking.proofs.Faulty.{said}
use Rattle.art_checking.proofs.Walked.{before_differs}
use Rattle.art_checking.proofs.well_formed.check.meet.Goals as goal

-- the ways differ since the places do
pub returns-in-Some-clause-fault : goal.returns-in-Some-clause-fault
returns-in-Some-clause-fault g c root reached reach before =
    let bytes = of_key g.K.AsBytes.bytes in
    let s = c.args.store.now in
    let name = c.args.name in
    let first = c.in-Some.first.now in
    let at : place_in c.args.seen.now name ≡ Some first = sym c.in-Some.ensures in
    let one = reached name first at in
    said bytes g.row.P s root c.loop_found.result c.loop_found.ensures (
      one,
      reach,
      other_way (node_at s) bytes g.row.P root name name first c.args.place.now one reach
          (before_differs first c.args.place.now (before first at)),
      before first at,
    )
