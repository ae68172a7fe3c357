use Rattle.std.proofs.Common.{sym, refl}
use Rattle.art_keyed.proofs.map.entry.TreeEntryOf+K+TreeMap+K+V+P.and_modify.Goals as goal
use Rattle.art_keyed.proofs.map.entry.TreeEntryOf+K+TreeMap+K+V+P.and_modify.Goals.{in-Some, in_default}

pub returns-clause-pairs : goal.returns-clause-pairs
returns-clause-pairs g c = elim c.match-get_mut.branch [
  | in-Some w ↦ (
      let found = w.in-Some.ensures.value in
      rw (sym found, w.map-is) (w.f.new.arg2, record { shown = w.in-Some.value; shows = refl; left = _; met = w.f.ensures; leaves = refl }, refl)
      )
  | in_default w ↦ (
      let found = w.in_default.ensures.value in
      rw (sym found) w.map-is
      )
]
