use Rattle.std.proofs.Common.{◌≡◌, ◌-◌, ◌∷◌, ap, sym, ◌∙◌, refl, length, arith, rules, take}
use Rattle.prefix_table.specs.Entries.{shown}
use Rattle.prefix_table.specs.Parts.{covering}
use Rattle.prefix_table.proofs.PartLemmas.{next_match, no_match}
use Rattle.prefix_table.proofs.iteration.MatchesIterator.next.Goals as goal

pub returns-then-found-eq0-clause-steps : goal.returns-then-found-eq0-clause-steps
returns-then-found-eq0-clause-steps g c =
    let m = c.self.inside in (
      sym c.self.view_is
          ∙ no_match m.table.now m.address m.upto c.last_covering-found.result c.self.invariant.within c.last_covering-found.ensures
          c.if-found-eq0.true,
      refl,
    )

pub returns-clause-steps : goal.returns-clause-steps
returns-clause-steps g c =
    let m = c.self.inside in
    sym c.self.view_is
    ∙ next_match m.table.now m.address m.upto c.last_covering-found.result c.self.invariant.within c.last_covering-found.ensures
    (omega arith) (shown c.entry.result) c.entry.ensures

pub returns-clause-goes : goal.returns-clause-goes
returns-clause-goes g c =
    let m = c.self.inside in
    let step : c.args.self.now ≡ shown c.entry.result ∷ covering m.address (take (c.last_covering-found.result - 1) m.table.now) =
    sym c.self.view_is
    ∙ next_match m.table.now m.address m.upto c.last_covering-found.result c.self.invariant.within c.last_covering-found.ensures
    (omega arith) (shown c.entry.result) c.entry.ensures in
    let shorter = ap length step in
    search rules
