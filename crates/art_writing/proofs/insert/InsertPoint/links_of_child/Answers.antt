use Rattle.std.proofs.Common.{rules, refl, sym}
use Rattle.art_writing.proofs.Entered.{entry, entry_gap, entry_inner, entry_met}
use Rattle.art_writing.proofs.Gaps.{gap_some, gap_absent, beside_full, beside_between}
use Rattle.art_writing.proofs.insert.InsertPoint.links_of_child.Goals as goal

pub inner_at-node-requires : goal.inner_at-node-requires
inner_at-node-requires g c =
    let (pairs, layout, by, own) = c.requires.answers in
    (search rules, (search rules, entry_met by (entry c.requires.answers c.requires.point refl by)))

pub beside-other-requires : goal.beside-other-requires
beside-other-requires g c =
    let (pairs, layout, by, own) = c.requires.answers in
    let e = entry c.requires.answers c.requires.point refl by in
    let some = gap_some (entry_inner by e) (entry_gap by e) (sym c.inner_at-node.ensures.view) in
    let absent = gap_absent (entry_inner by e) (entry_gap by e) (sym c.inner_at-node.ensures.view) in
    (search rules, (some, absent))

pub links_beside-requires : goal.links_beside-requires
links_beside-requires g c =
    let (pairs, layout, by, own) = c.requires.answers in
    let e = entry c.requires.answers c.requires.point refl by in
    (search rules, beside_full (entry_inner by e) (entry_gap by e) (sym c.inner_at-node.ensures.view) c.beside-other.ensures.beside)

pub returns-clause-beside : goal.returns-clause-beside
returns-clause-beside g c left right gap =
    let (pairs, layout, by, own) = c.requires.answers in
    let e = entry c.requires.answers c.requires.point refl by in
    beside_between (entry_inner by e) gap (sym c.inner_at-node.ensures.view) c.beside-other.ensures.beside _ _
    (rw c.of.ensures at c.links_beside.ensures)
