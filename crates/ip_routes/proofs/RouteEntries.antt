-- A table of routes that is read entry by entry.
use Rattle.std.proofs.Common.{◌≡◌, ℕ, ◌+◌, List, [], ◌∷◌, ◌++◌, length, map, refl, ap, sym, ◌∙◌, subst, arith}
use Rattle.std.specs.List.{All}
use Rattle.std.proofs.lemmas.List.{get_or-append-add, get_or_append_left, length-append, map-append}
use Rattle.std.proofs.lemmas.List.Elements.{All-append, All-cons, All-nil}
use Rattle.line_programs.specs.LineTables.{IsFaultIn}
use Rattle.ip_routes.specs.declared.lines.LineError.{LineError}
use Rattle.ip_routes.specs.declared.lines.LineError.TheVariants as Why
use Rattle.ip_routes.specs.Faults.{Adds, IsFaultBeside, IsOutOfMemory, IsRefusal}
use Rattle.ip_routes.specs.Routes.{Route}
use Rattle.ip_routes.specs.RouteTables.{AreRoutesOf, IsRoute, IsRouteFault, numbered_line}

-- with the route of one more line
pub one_route_more : (old new : List Route) (line : List ℕ) (number : ℕ) → Adds line number old new →
    (before : List (ℕ × List ℕ)) → AreRoutesOf before old → AreRoutesOf (before ++ (number, line) ∷ []) new
one_route_more old new line number adds before h =
    let route : Route = record { network = adds.network; line = line; number = number } in
    record {
      entries_are =
          ap (λ es. es ++ (number, line) ∷ []) h.entries_are ∙ sym (map-append numbered_line old (route ∷ [])) ∙ ap (map numbered_line) (sym adds.added);
      are =
          subst (All IsRoute) (sym adds.added)
          (All-append IsRoute old (route ∷ []) h.are
          (All-cons IsRoute route [] (record { written = adds.written; network_is = adds.network_is }) (All-nil IsRoute)));
    }

-- a fault beside the routes of a table is one of the next entry
pub route_fault : (routes : List Route) (line : List ℕ) (fault : LineError) → IsFaultBeside routes line fault →
    (before : List (ℕ × List ℕ)) → AreRoutesOf before routes → IsRouteFault before line fault
route_fault routes line fault is before h = (routes, h, is)

pub routes_kept : (old new : List Route) → new ≡ old → (before : List (ℕ × List ℕ)) → AreRoutesOf before old → AreRoutesOf before new
routes_kept old new same before h = subst (AreRoutesOf before) (sym same) h

-- the parts of a list of routes
module _ (before : List Route) (route : Route) (after : List Route) (are : All IsRoute (before ++ route ∷ after)) where
  earlier_are : All IsRoute before
  earlier_are k d h =
      subst IsRoute (get_or_append_left before (route ∷ after) d k h)
      (are k d (let many = length-append before (route ∷ after) in omega arith))

  this_is : IsRoute route
  this_is =
      let none : length before + 0 ≡ length before = omega arith in
      subst IsRoute (get_or-append-add before (route ∷ after) 0 route)
      (are (length before + 0) route (let many = length-append before (route ∷ after) in omega arith))

-- why routes are no table is a fault of an entry
pub refused_entry : (routes : List Route) (number : ℕ) (fault : LineError) → IsRefusal routes number fault →
    (added : List (ℕ × List ℕ)) → AreRoutesOf added routes → IsFaultIn IsRouteFault IsOutOfMemory added (number, fault)
refused_entry routes number (Why.Twice earlier) h added has memory =
    let are = subst (All IsRoute) h.routes_are has.are in
    record {
      before = map numbered_line h.before;
      entry = h.route.line;
      after = map numbered_line h.after;
      entries_are =
          has.entries_are ∙ ap (map numbered_line) h.routes_are ∙ map-append numbered_line h.before (h.route ∷ h.after)
          ∙ ap (λ n. map numbered_line h.before ++ (n, h.route.line) ∷ map numbered_line h.after) h.number_is;
      is = (
        h.before,
        record { entries_are = refl; are = earlier_are h.before h.route h.after are },
        record { network = h.route.network; written = (this_is h.before h.route h.after are).written; same = h.same; first = h.first },
      );
    }
refused_entry routes number Why.NoMemory h added has memory = absurd (memory tt)
refused_entry routes number (Why.Route error) h added has memory = absurd h
refused_entry routes number Why.TooLong h added has memory = absurd h
