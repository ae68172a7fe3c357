use Rattle.std.proofs.Common.{sym, ◌∙◌}
use Rattle.art_parts.specs.declared.names.NodeType.TheVariants.{Leaf, Node4, Node16, Node48, Node256}
use Rattle.art_nodes.proofs.CountLemmas.{len-of_kind}
use Rattle.art_nodes.proofs.store.InnerSlabs.count.Goals as goal

pub returns-in-Node4 : goal.returns-in-Node4
returns-in-Node4 g c = c.len.ensures ∙ sym (len-of_kind c.args.self.now c.args.kind Node4 c.in-Node4.is)

pub returns-in-Node16 : goal.returns-in-Node16
returns-in-Node16 g c = c.len-in-Node16.ensures ∙ sym (len-of_kind c.args.self.now c.args.kind Node16 c.in-Node16.is)

pub returns-in-Node48 : goal.returns-in-Node48
returns-in-Node48 g c = c.len-in-Node48.ensures ∙ sym (len-of_kind c.args.self.now c.args.kind Node48 c.in-Node48.is)

pub returns-in-Node256 : goal.returns-in-Node256
returns-in-Node256 g c = c.len-in-Node256.ensures ∙ sym (len-of_kind c.args.self.now c.args.kind Node256 c.in-Node256.is)

pub returns-in-Leaf : goal.returns-in-Leaf
returns-in-Leaf g c = sym (len-of_kind c.args.self.now c.args.kind Leaf c.in-Leaf.is)
