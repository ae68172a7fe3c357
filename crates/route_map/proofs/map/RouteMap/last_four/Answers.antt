use Rattle.std.proofs.Common.{ap, nat_cmp, None, Some, subst, sym, ◌∙◌}
use Rattle.std.specs.List.{All}
use Rattle.std.specs.declared.ops.Bound.TheVariants.{Included, Unbounded}
use Rattle.art_keyed.specs.KeyedPairs.{keys_between}
use Rattle.art_keys.specs.Joins.{pair_cmp}
use Rattle.art_model.specs.Pairs.{last_of}
use Rattle.prefix_table.specs.Steps.{IsUpToNetwork}
use Rattle.route_map.specs.Routes.{IsLastEntryUpTo, entries_of}
use Rattle.route_map.proofs.LongestLemmas.{last_of_four}
use Rattle.route_map.proofs.map.RouteMap.last_four.Goals as goal

pub returns-in_err-found : goal.returns-in_err-found
returns-in_err-found g c =
    rw c.from_residual.ensures
    (subst (All (λ entry. ¬ IsUpToNetwork entry.0 c.args.network)) c.self.view_is
    (last_of_four c.self.inside.four c.self.inside.six c.args.network c.rises.ensures c.requires.version None
    (c.in_err-found.ensures
    ∙ ap (λ key. last_of (keys_between (pair_cmp nat_cmp nat_cmp) Unbounded (Included key) c.self.inside.four)) c.four_key-key.ensures)))

pub returns : goal.returns
returns g c =
    subst (λ entries. IsLastEntryUpTo entries c.args.network (c.network_of_four.result, c.in_ok-found.value.now)) c.self.view_is
    (subst (λ n. IsLastEntryUpTo (entries_of c.self.inside.four c.self.inside.six) c.args.network (n, c.in_ok-found.value.now))
    (sym c.network_of_four.ensures)
    (last_of_four c.self.inside.four c.self.inside.six c.args.network c.rises.ensures c.requires.version
    (Some (c.in_ok-found.found.now, c.in_ok-found.value.now))
    (c.in_ok-found.ensures
    ∙ ap (λ key. last_of (keys_between (pair_cmp nat_cmp nat_cmp) Unbounded (Included key) c.self.inside.four)) c.four_key-key.ensures)))
