use Rattle.std.proofs.Common.{rules, refl, ◌∙◌, arith}
use Rattle.art_loading.proofs.Edges.{bare_edge, cut_full, cut_len, cut_met, edge_cut, edge_kept, far_edge, into_edge, mismatch_edge}
use Rattle.art_loading.proofs.append.point_after.Goals as goal

pub returns-in_default : goal.returns-in_default
returns-in_default g c pairs edge key byte next = bare_edge edge c.split_at.result next c.in_default.ensures c.split_at.ensures

pub inner_at-requires : goal.inner_at-requires
inner_at-requires g c = let (pairs, e) = c.requires in (search rules, (search rules, cut_met e (edge_cut e c.in-Some.ensures)))

pub returns-then-matched-len : goal.returns-then-matched-len
returns-then-matched-len g c pairs edge key byte next =
    let reach = c.in-Some.ensures in
    let cut = edge_cut edge reach in
    let within = reach.within in
    let more = c.if-matched-len.true in
    far_edge edge cut next c.split_at-point.result c.path_down.result c.prefix_len-len.result
    (c.prefix_len-len.ensures ∙ cut_len edge cut c.inner_at.ensures.view) (omega arith) c.path_down.ensures c.split_at-point.ensures

pub returns-then-matched-len-2 : goal.returns-then-matched-len-2
returns-then-matched-len-2 g c pairs edge key byte next =
    let reach = c.in-Some.ensures in
    let cut = edge_cut edge reach in
    let within = reach.within in
    let len = c.prefix_len-len.ensures ∙ cut_len edge cut c.inner_at.ensures.view in
    let same = c.if-matched-len-2.true in
    into_edge edge cut next within c.path_down-path.result _ _ (edge_kept edge reach) (omega arith) c.path_down-path.ensures refl

pub least_if_long-requires : goal.least_if_long-requires
least_if_long-requires g c = let (pairs, e) = c.requires in let cut = edge_cut e c.in-Some.ensures in (search rules, (_, cut_full e cut))

pub returns : goal.returns
returns g c pairs edge key byte next =
    let reach = c.in-Some.ensures in
    let cut = edge_cut edge reach in
    let within = reach.within in
    let len = c.prefix_len-len.ensures ∙ cut_len edge cut c.inner_at.ensures.view in
    let less = c.if-matched-len.false in
    let other = c.if-matched-len-2.false in
    mismatch_edge edge cut next within c.path_down-path.result _ _ (edge_kept edge reach) _ c.prefix_len-len.result len (omega arith) (omega arith) refl
    (c.least_if_long.ensures _ (cut_full edge cut)) c.path_down-path.ensures refl
