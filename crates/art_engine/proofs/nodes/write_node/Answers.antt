use Rattle.std.proofs.Common.{rules, sym}
use Rattle.std.proofs.lemmas.Grind.{common_steps}
use Rattle.art_inner.specs.Views.{ref_view}
use Rattle.art_model.specs.Layouts.{inner_node}
use Rattle.art_model.specs.Stores.{header_at}
use Rattle.art_engine.proofs.NodeRows.{inner_seen_at, line_written}
use Rattle.art_engine.proofs.nodes.write_node.Goals as goal

pub returns-in-Inner : goal.returns-in-Inner
returns-in-Inner g c =
    let node = ref_view c.inner_at-node.result in
    let at = inner_seen_at c.args.store.now c.in-Inner.name c.args.node.name node c.in-Inner.ensures.name c.in-Inner.ensures.proper
    (sym c.inner_at-node.ensures.view) in
    line_written c.args.store.now c.args.node.name (inner_node (header_at c.in-Inner.name.kind node) node.children) c.args.node.depth c.args.node.byte _ _ _
    c.writeln-in-Inner.result at (search (common_steps, rules)) c.writeln-in-Inner.ensures.bytes
