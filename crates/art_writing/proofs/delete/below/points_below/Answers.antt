use Rattle.std.proofs.Common.{rules, ◌≡◌, ap, sym, ◌∙◌, subst}
use Rattle.art_model.specs.Prelude.{is_front, of_key}
use Rattle.art_reading.specs.PartEnds.{EndsBelow}
use Rattle.art_reading.proofs.PartNodes.{first_is, leaf_is_there, node_full, node_holds}
use Rattle.art_writing.proofs.PointsBelow.{points_there}
use Rattle.art_writing.proofs.SubtreePointLemmas.{none_go}
use Rattle.art_writing.specs.SubtreePoints.{joined}
use Rattle.art_writing.proofs.delete.below.points_below.Goals as goal

pub returns-in_err-end : goal.returns-in_err-end
returns-in_err-end g c pairs layout by =
    let B = of_key g.K.AsBytes.bytes in
    let key = g.B.KeyBytes.key c.args.prefix in
    rw c.from_residual.ensures (subst (EndsBelow B key layout) c.in_err-end.was (c.walk_below.ensures.end pairs layout by))

pub walk_to_end-path-requires : goal.walk_to_end-path-requires
walk_to_end-path-requires g c =
    let B = of_key g.K.AsBytes.bytes in
    let key = g.B.KeyBytes.key c.args.prefix in
    let (pairs, layout, by) = c.requires in
    let at = subst (EndsBelow B key layout) c.in_ok-end.was (c.walk_below.ensures.end pairs layout by) in
    (search rules, (at.0.at.node, node_full by at.0.at))

pub leaf_at-leaf-requires : goal.leaf_at-leaf-requires
leaf_at-leaf-requires g c =
    let B = of_key g.K.AsBytes.bytes in
    let key = g.B.KeyBytes.key c.args.prefix in
    let (pairs, layout, by) = c.requires in
    let at = subst (EndsBelow B key layout) c.in_ok-end.was (c.walk_below.ensures.end pairs layout by) in (
      search rules,
      leaf_is_there c.args.store.now (node_holds by at.0.at) (c.walk_to_end-path.ensures at.0.at.node (node_full by at.0.at)).0.has,
    )

pub returns-then-not-starts_with : goal.returns-then-not-starts_with
returns-then-not-starts_with g c pairs layout by =
    let B = of_key g.K.AsBytes.bytes in
    let key = g.B.KeyBytes.key c.args.prefix in
    let at = subst (EndsBelow B key layout) c.in_ok-end.was (c.walk_below.ensures.end pairs layout by) in
    let first = c.walk_to_end-path.ensures at.0.at.node (node_full by at.0.at) in
    let told = first_is by at.0.at first.0 (λ x. is_front key (g.K.AsBytes.bytes x.0) ≡ at.0.begin) at.0.alike _ (sym c.leaf_at-leaf.ensures) in
    none_go B key layout c.in_ok-end.end at.0
    (sym told ∙ ap (is_front key) (sym c.as_bytes.ensures) ∙ ap (λ k. is_front k c.as_bytes.result.now) (sym c.walk_below.ensures.same)
    ∙ sym c.starts_with.ensures.starts ∙ c.if-not-starts_with.true)

pub returns : goal.returns
returns g c pairs layout by =
    let B = of_key g.K.AsBytes.bytes in
    let key = g.B.KeyBytes.key c.args.prefix in
    let at = subst (EndsBelow B key layout) c.in_ok-end.was (c.walk_below.ensures.end pairs layout by) in
    let first = c.walk_to_end-path.ensures at.0.at.node (node_full by at.0.at) in
    let told = first_is by at.0.at first.0 (λ x. is_front key (g.K.AsBytes.bytes x.0) ≡ at.0.begin) at.0.alike _ (sym c.leaf_at-leaf.ensures) in
    points_there B key layout c.in_ok-end.end at.0 at.1
    (sym told ∙ ap (is_front key) (sym c.as_bytes.ensures) ∙ ap (λ k. is_front k c.as_bytes.result.now) (sym c.walk_below.ensures.same)
    ∙ sym c.starts_with.ensures.starts ∙ c.if-not-starts_with.false)
    _ first.0 (c.joined.ensures ∙ ap (joined c.in_ok-end.end.path) first.1)
