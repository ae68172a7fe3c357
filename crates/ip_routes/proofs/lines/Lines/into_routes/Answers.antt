use Rattle.std.proofs.Common.{subst, sym, map}
use Rattle.std.specs.List.Sorted.{IsPermutation}
use Rattle.prefix_table.specs.Entries.{IsBuildFault}
use Rattle.ip_routes.specs.Faults.{IsRefusal}
use Rattle.ip_routes.specs.Routes.{AreAnswersOf}
use Rattle.ip_routes.specs.Sources.{ArePlaced, answers_of, entry_of, network_of, refusal_of, routes_of}
use Rattle.ip_routes.proofs.SourceLemmas.{are_answers, are_placed, refused}
use Rattle.ip_routes.proofs.lines.Lines.into_routes.Goals as goal

pub returns-in-Err-clause-fault : goal.returns-in-Err-clause-fault
returns-in-Err-clause-fault c =
    rw (c.refusal.ensures, c.deref-in-Err.ensures.value)
    (subst (λ routes. IsRefusal routes (refusal_of c.self.inside.sources.items c.in-Err.fault).0 (refusal_of c.self.inside.sources.items c.in-Err.fault).1)
    c.self.view_is
    (refused c.self.inside.text.items c.self.inside.sources.items c.in-Err.fault
    (subst (λ sources. IsBuildFault (map network_of sources) c.in-Err.fault) c.deref.ensures.value c.in-Err.ensures.fault)))

pub invariant_of-result : goal.invariant_of-result
invariant_of-result c =
    subst (λ text. ArePlaced text c.in-Ok.networks) (sym c.shrink_to_fit.ensures.items)
    (are_placed c.self.inside.text.items c.self.inside.sources.items c.in-Ok.networks
    (subst (λ sources. IsPermutation (map entry_of sources) c.in-Ok.networks) c.deref.ensures.value c.in-Ok.ensures.entries) c.self.invariant.places)

pub returns-clause-routes : goal.returns-clause-routes
returns-clause-routes c =
    subst (λ routes. AreAnswersOf routes (answers_of c.shrink_to_fit.new.self.items c.in-Ok.networks)) c.self.view_is
    (subst (λ text. AreAnswersOf (routes_of c.self.inside.text.items c.self.inside.sources.items) (answers_of text c.in-Ok.networks)) (sym c.shrink_to_fit.ensures.items)
    (are_answers c.self.inside.text.items c.self.inside.sources.items c.in-Ok.networks
    (subst (λ sources. IsPermutation (map entry_of sources) c.in-Ok.networks) c.deref.ensures.value c.in-Ok.ensures.entries) c.in-Ok.ensures.order))
