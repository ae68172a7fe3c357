use Rattle.std.proofs.Common.{rules, ap, get_or, sym, subst, ◌<◌, ◌∙◌}
use Rattle.art_loading.proofs.Edges.{edge_point}
use Rattle.art_loading.proofs.Last.{few_children, last_between}
use Rattle.art_loading.proofs.append.apply_last.Goals as goal

pub add_child_between-requires : goal.add_child_between-requires
add_child_between-requires g c =
    let (steps, pairs, e, above, depth, p) = c.requires in
    let used = c.args.point.key_bytes_used in
    let byte = ap (λ l. get_or l used 0) (sym c.as_bytes.ensures) ∙ sym c.byte_at-byte.ensures.byte in (
      search rules,
      (
        c.in-IntoExisting.is,
        (edge_point e p, (last_between e p c.in-IntoExisting.is, few_children e p c.in-IntoExisting.is (subst (λ b. b < 256) (sym byte) c.byte_at-byte.ensures.bound))),
      ),
    )

pub apply-requires : goal.apply-requires
apply-requires g c = let (steps, pairs, e, above, depth, p) = c.requires in (search rules, edge_point e p)
