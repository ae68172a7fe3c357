use Rattle.std.proofs.Common.{ap₂, subst, sym, ◌∙◌}
use Rattle.std.specs.List.{All, zip}
use Rattle.std.specs.List.Sorted.{IsPermutation}
use Rattle.std.proofs.lemmas.List.Elements.{All-map}
use Rattle.prefix_table.specs.Networks.{IsNetwork}
use Rattle.uses.proofs.LongerOfTwo.{zip_routes}
use Rattle.uses.proofs.networks.build.Goals as goal

pub build-requires-clause-networks : goal.build-requires-clause-networks
build-requires-clause-networks c =
    subst (All IsNetwork) (sym (c.deref.ensures.value ∙ c.in-Ok.ensures)) (All-map IsNetwork (λ route. route.0) c.args.routes.now c.requires)

pub returns-in-Ok-build : goal.returns-in-Ok-build
returns-in-Ok-build c =
    subst (λ routes. IsPermutation routes c.in-Ok-build.table)
    (ap₂ zip (c.deref.ensures.value ∙ c.in-Ok.ensures) c.in-Ok-targets_of.ensures ∙ zip_routes c.args.routes.now)
    c.in-Ok-build.ensures.entries
