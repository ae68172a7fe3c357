use Rattle.std.proofs.Common.{rules, ap, sym, ◌∙◌}
use Rattle.art_model.specs.Prelude.{promise_after}
use Rattle.art_writing.specs.Overwritten.{placed_for_overwrite}
use Rattle.art_writing.proofs.Applied.{granted, overwritten}
use Rattle.art_writing.proofs.Overwrites.{related_leaf_there, leaf_pair_overwritten}
use Rattle.art_writing.proofs.Reserved.{nothing_after}
use Rattle.art_writing.proofs.insert.OverwritePoint.apply.Goals as goal

pub swap_pair-key-requires : goal.swap_pair-key-requires
swap_pair-key-requires g c = (search rules, related_leaf_there (c.args.key, c.args.value) c.requires c.in-Leaf.ensures.name)

pub returns-in-Leaf-clause-applied : goal.returns-in-Leaf-clause-applied
returns-in-Leaf-clause-applied g c =
    overwritten c.requires
    (leaf_pair_overwritten (c.args.key, c.args.value) c.requires c.in-Leaf.ensures.name c.swap_pair-key.new.self c.swap_pair-key.ensures.leaves
    c.swap_pair-key.ensures.inners c.swap_pair-key.result c.with_no_siblings.result c.swap_pair-key.ensures.pair c.with_no_siblings.ensures)

pub returns-in-Leaf-clause-memory : goal.returns-in-Leaf-clause-memory
returns-in-Leaf-clause-memory g c =
    granted
    (c.swap_pair-key.ensures.promise ∙ sym (nothing_after c.args.store.now.promise)
    ∙ ap (λ name. promise_after (placed_for_overwrite name.kind) c.args.store.now.promise) c.in-Leaf.ensures.name)
