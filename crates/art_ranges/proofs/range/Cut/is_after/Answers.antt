use Rattle.std.proofs.Common.{◌≡◌, refl, ap, ◌∙◌, not, Ordering, Less, Equal, Greater}
use Rattle.std.specs.Cmp.Lexicographic.{slice_cmp}
use Rattle.std.specs.Ordering.{nat_cmp, ordering_reverse, is_le, is_lt}
use Rattle.std.proofs.lemmas.Cmp.{nat_list_cmp_total}
use Rattle.art_ranges.proofs.range.Cut.is_after.Goals as goal

turned_le : (o : Ordering) → is_le (ordering_reverse o) ≡ not (is_lt o)
turned_le Less = refl
turned_le Equal = refl
turned_le Greater = refl

pub returns-in-After : goal.returns-in-After
returns-in-After g c =
    let key = g.B.KeyBytes.key c.args.bytes.now in
    let turned = nat_list_cmp_total.antisymm c.args.other.now key in
    rw c.in-After.is (c.is_le.ensures ∙ ap is_le (c.compare-order.ensures ∙ turned) ∙ turned_le (slice_cmp nat_cmp key c.args.other.now))
