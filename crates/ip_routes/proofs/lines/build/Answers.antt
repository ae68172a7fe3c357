use Rattle.std.proofs.Common.{◌∙◌, ap₂, subst, sym}
use Rattle.std.specs.List.{All, zip}
use Rattle.std.specs.List.Sorted.{IsPermutation}
use Rattle.std.proofs.lemmas.List.Elements.{All-map}
use Rattle.prefix_table.specs.Networks.{IsNetwork}
use Rattle.ip_routes.specs.Sources.{network_of}
use Rattle.ip_routes.proofs.SourceLemmas.{zip_sources}
use Rattle.ip_routes.proofs.lines.build.Goals as goal

pub build-requires-clause-networks : goal.build-requires-clause-networks
build-requires-clause-networks c =
    subst (All IsNetwork) (sym (c.deref.ensures.value ∙ c.in-Ok.ensures)) (All-map IsNetwork network_of c.args.sources.now c.requires)

pub returns-in-Ok-build-clause-entries : goal.returns-in-Ok-build-clause-entries
returns-in-Ok-build-clause-entries c =
    subst (λ es. IsPermutation es c.in-Ok-build.table)
    (ap₂ zip (c.deref.ensures.value ∙ c.in-Ok.ensures) c.in-Ok-places_of.ensures ∙ zip_sources c.args.sources.now)
    c.in-Ok-build.ensures.entries
