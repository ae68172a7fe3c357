use Rattle.std.proofs.Common.{rules, refl, ap, sym, ◌∙◌}
use Rattle.art_model.specs.Prelude.{promise_after}
use Rattle.art_writing.specs.Inserted.{placed_for}
use Rattle.art_writing.proofs.Applied.{applied, granted}
use Rattle.art_writing.proofs.ReplacedValues.{own_leaf_there, value_replaced}
use Rattle.art_writing.proofs.Reserved.{nothing_after}
use Rattle.art_writing.proofs.insert.InsertPoint.apply.Goals as goal

pub swap_value-old-requires : goal.swap_value-old-requires
swap_value-old-requires g c = (search rules, own_leaf_there (c.args.key, c.args.value) c.requires c.in-Exact.is)

pub returns-in-Exact-clause-applied : goal.returns-in-Exact-clause-applied
returns-in-Exact-clause-applied g c =
    applied g.K.AsBytes.bytes c.requires
    (value_replaced (c.args.key, c.args.value) c.requires c.in-Exact.is (λ k v w. refl) c.swap_value-old.new.self c.swap_value-old.ensures.leaves
    c.swap_value-old.ensures.inners c.swap_value-old.result c.with_no_siblings.result c.swap_value-old.ensures.value c.with_no_siblings.ensures)

pub returns-in-Exact-clause-memory : goal.returns-in-Exact-clause-memory
returns-in-Exact-clause-memory g c =
    granted
    (c.swap_value-old.ensures.promise ∙ sym (nothing_after c.args.store.now.promise)
    ∙ ap (λ kind. promise_after (placed_for c.args.store.now kind) c.args.store.now.promise) (sym c.in-Exact.is))
