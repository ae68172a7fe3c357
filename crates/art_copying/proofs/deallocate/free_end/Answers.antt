use Rattle.std.proofs.Common.{◌∙◌, sym, ap, rules, arith}
use Rattle.std.specs.FinMap as map
use Rattle.art_nodes.proofs.StoreChanges.{inner_gone_elsewhere}
use Rattle.art_copying.proofs.Freed.{leaf_less}
use Rattle.art_copying.proofs.FreedTrees.{inner_is_there, inner_goes, leaf_goes, leaf_is_there}
use Rattle.art_copying.proofs.deallocate.free_end.Goals as goal

pub free_leaf-requires : goal.free_leaf-requires
free_leaf-requires g c =
    let (shape, ends, can) = c.requires in
    (search rules, leaf_is_there c.in-Leaf.ensures.name c.if-leaves_too.true shape can)

pub returns-then-leaves_too-clause-freed : goal.returns-then-leaves_too-clause-freed
returns-then-leaves_too-clause-freed g c shape ends can =
    (leaf_goes c.in-Leaf.ensures.name c.if-leaves_too.true {t = c.free_leaf.new.self} c.free_leaf.ensures.leaves c.free_leaf.ensures.inners shape can).0

pub returns-then-leaves_too-clause-count : goal.returns-then-leaves_too-clause-count
returns-then-leaves_too-clause-count g c shape ends can =
    (leaf_goes c.in-Leaf.ensures.name c.if-leaves_too.true {t = c.free_leaf.new.self} c.free_leaf.ensures.leaves c.free_leaf.ensures.inners shape can).1

pub returns-then-leaves_too-clause-total : goal.returns-then-leaves_too-clause-total
returns-then-leaves_too-clause-total g c =
    let (shape, ends, can) = c.requires in
    let less = leaf_less c.args.store.now.leaves c.in-Leaf.leaf (leaf_is_there c.in-Leaf.ensures.name c.if-leaves_too.true shape can) in
    let now = ap map.len c.free_leaf.ensures.leaves in
    omega (arith, less, now)

pub free_node-requires : goal.free_node-requires
free_node-requires g c =
    let (shape, ends, can) = c.requires in
    (search rules, inner_is_there c.in-Inner.ensures.proper c.in-Inner.ensures.name shape can)

pub returns-in-Inner-clause-freed : goal.returns-in-Inner-clause-freed
returns-in-Inner-clause-freed g c shape ends can =
    (inner_goes c.in-Inner.ensures.proper c.in-Inner.ensures.name {t = c.free_node.new.store} c.free_node.ensures.inners
    c.free_node.ensures.leaves shape ends can).0

pub returns-in-Inner-clause-count : goal.returns-in-Inner-clause-count
returns-in-Inner-clause-count g c shape ends can =
    (inner_goes c.in-Inner.ensures.proper c.in-Inner.ensures.name {t = c.free_node.new.store} c.free_node.ensures.inners
    c.free_node.ensures.leaves shape ends can).1

pub returns-in-Inner-clause-improper : goal.returns-in-Inner-clause-improper
returns-in-Inner-clause-improper g c name leaf =
    ap (λ m. map.get m name) c.free_node.ensures.inners
    ∙ inner_gone_elsewhere c.args.store.now.inners c.in-Inner.inner name (λ e. c.in-Inner.ensures.proper (sym (ap (λ z. z.kind) e) ∙ leaf))
