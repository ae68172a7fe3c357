use Rattle.std.proofs.Common.{◌≡◌, arith, None, false, sym, subst, ◌∙◌}
use Rattle.std.specs.List.{All}
use Rattle.prefix_table.specs.Networks.{IsNetwork, covers_at}
use Rattle.prefix_table.specs.Steps.{IsUpToNetwork}
use Rattle.route_map.specs.Routes.{IsLastEntryUpTo, IsLastUpTo}
use Rattle.route_map.proofs.LongestLemmas.{AreUpToLength, all_fit, all_networks, is_longest, next_short, no_next, none_covers, stored_network}
use Rattle.route_map.proofs.map.RouteMap.longest_match.Goals as goal

pub outwards-init : goal.outwards-init
outwards-init g c =
    let wide = c.width-length.ensures.width in
    record {
      fits = omega (arith, wide);
      short =
          subst (AreUpToLength c.args.self.now c.address_of-address.result) (sym wide)
          (all_fit c.args.self.now c.address_of-address.result
          (subst (All (λ entry. IsNetwork entry.0)) c.self.view_is (all_networks c.self.inside.four c.self.inside.six c.self.invariant)));
    }

pub covers-requires : goal.covers-requires
covers-requires g c =
    (stored_network c.self.inside.four c.self.inside.six c.self.invariant c.args.self.now c.self.view_is (c.in_ok-found.found, c.in_ok-found.value.now)
    c.in_ok-found.ensures.there).length_fits

pub next_length-requires-clause-last : goal.next_length-requires-clause-last
next_length-requires-clause-last g c = subst (IsUpToNetwork c.in_ok-found.found) c.cut.ensures.network c.in_ok-found.ensures.up

pub outwards-preserved : goal.outwards-preserved
outwards-preserved g c =
    let l = c.outwards in
    let less = c.in_ok-shorter.ensures.less in
    record {
      fits = omega (arith, l.invariant.fits, less);
      short =
          next_short c.args.self.now c.address_of-address.result l.length l.invariant.short (c.in_ok-found.found, c.in_ok-found.value.now)
          (subst (λ n. IsLastEntryUpTo c.args.self.now n (c.in_ok-found.found, c.in_ok-found.value.now)) c.cut.ensures.network c.in_ok-found.ensures) c.in_ok-shorter.shorter
          c.in_ok-shorter.ensures.bound;
    }

pub returns-in_err-found-clause-longest : goal.returns-in_err-found-clause-longest
returns-in_err-found-clause-longest g c =
    rw c.from_residual.ensures
    (subst (λ a. All (λ entry. covers_at entry.0 a ≡ false) c.args.self.now) c.address_of-address.ensures.address
    (none_covers c.args.self.now c.address_of-address.result c.outwards.length c.outwards.invariant.short
    (subst (λ n. IsLastUpTo c.args.self.now n None) c.cut.ensures.network c.in_err-found.ensures)))

pub returns-then-covers-clause-longest : goal.returns-then-covers-clause-longest
returns-then-covers-clause-longest g c =
    is_longest c.args.self.now c.address_of-address.result c.outwards.length c.outwards.invariant.short (c.in_ok-found.found, c.in_ok-found.value.now)
    (subst (λ n. IsLastEntryUpTo c.args.self.now n (c.in_ok-found.found, c.in_ok-found.value.now)) c.cut.ensures.network c.in_ok-found.ensures) c.args.address.now
    c.address_of-address.ensures.address (sym c.covers.ensures ∙ c.if-covers.true)

pub returns-then-covers-clause-network : goal.returns-then-covers-clause-network
returns-then-covers-clause-network g c =
    stored_network c.self.inside.four c.self.inside.six c.self.invariant c.args.self.now c.self.view_is (c.in_ok-found.found, c.in_ok-found.value.now)
    c.in_ok-found.ensures.there

pub returns-in_err-shorter-clause-longest : goal.returns-in_err-shorter-clause-longest
returns-in_err-shorter-clause-longest g c =
    rw c.from_residual-in_err-shorter.ensures
    (subst (λ a. All (λ entry. covers_at entry.0 a ≡ false) c.args.self.now) c.address_of-address.ensures.address
    (no_next c.args.self.now c.address_of-address.result c.outwards.length c.outwards.invariant.short (c.in_ok-found.found, c.in_ok-found.value.now)
    (subst (λ n. IsLastEntryUpTo c.args.self.now n (c.in_ok-found.found, c.in_ok-found.value.now)) c.cut.ensures.network c.in_ok-found.ensures) c.in_err-shorter.ensures.bound))
