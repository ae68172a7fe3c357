use Rattle.std.proofs.Common.{None, refl, sym, ap, subst, ◌∙◌}
use Rattle.std.specs.Option.{option_map}
use Rattle.std.specs.FinMap as map
use Rattle.art_inner.specs.InnerRenamed.{inner_renamed}
use Rattle.art_inner.specs.NewNames.{new_name}
use Rattle.art_nodes.specs.Renamed.{IsRow}
use Rattle.art_parts.specs.declared.names.InnerPtr.{InnerPtr}
use Rattle.art_nodes.proofs.SortLemmas.{are_renamed}
use Rattle.art_nodes.proofs.store.NodeStore.sort_leaves.Goals as goal

pub returns-clause-renamed : goal.returns-clause-renamed
returns-clause-renamed g c row is first =
    let table = c.move_row.new.table in
    let was = ap (λ s. s.leaves) c.self.view_is in
    let moved = c.move_row.ensures row (subst (λ leaves. IsRow leaves None row) (sym was) is) first in
    let inners = λ (name : InnerPtr).
    c.rename_leaves.ensures.nodes name
    ∙ ap (λ s. option_map (inner_renamed (new_name table)) (map.get s.inners name)) c.self.view_is in (
      new_name table,
      are_renamed table row c.args.self.now _ c.self.inside.leaves c.move_row.new.to c.rename_links.new.leaves was refl moved
          c.rename_links.ensures inners,
    )
