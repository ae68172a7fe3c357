use Rattle.std.proofs.Common.{ap, sym, ◌∙◌}
use Rattle.std.specs.Option.{option_map}
use Rattle.art_model.specs.Stores.{pair_of}
use Rattle.uses.proofs.get.Goals as goal

pub returns-in_err-leaf : goal.returns-in_err-leaf
returns-in_err-leaf g c pairs layout by = rw c.from_residual.ensures (ap (option_map (λ x. x.1)) (c.in_err-leaf.ensures.pair pairs layout by))

pub returns : goal.returns
returns g c pairs layout by = ap (option_map (λ x. x.1)) (ap (option_map pair_of) (sym c.leaf_at.ensures) ∙ c.in_ok-leaf.ensures.pair pairs layout by)
