use Rattle.std.proofs.Common.{ap, sym, subst, Some, None}
use Rattle.art_model.specs.Prelude.{of_key}
use Rattle.art_changing.specs.MapPairs.{HoldsPairs, pairs_at}
use Rattle.art_map.specs.MapRetain.{CallsUpTo}
use Rattle.art_changing.proofs.Items.{no_pairs}
use Rattle.art_changing.proofs.MapPuts.{at_root}
use Rattle.art_map.proofs.Refusing.{none_refused, refused_taken}
use Rattle.art_map.proofs.map.retain.take_refused.Goals as goal

pub returns-in_default-clause-taken : goal.returns-in_default-clause-taken
returns-in_default-clause-taken g c =
    let B = of_key g.K.AsBytes.bytes in
    let pairs = pairs_at c.args.store.now c.args.root.now in (
      pairs,
      c.requires.holds,
      none_refused g.F.FnMut g.K.AsBytes.bytes g.row.P c.args.last.now c.args.f.now pairs
          (no_pairs B g.row.P c.args.store.now c.in_default.is c.requires.holds),
    )

pub returns-in_default-find_refused-clause-taken : goal.returns-in_default-find_refused-clause-taken
returns-in_default-find_refused-clause-taken g c =
    let bytes = g.K.AsBytes.bytes in
    let new = c.find_refused.new in
    let after = pairs_at new.store (Some c.in-Some.name) in
    let (held, up_to) = c.in_default-find_refused.ensures.found in (
      after,
      subst (λ root. HoldsPairs (of_key bytes) g.row.P new.store root c.args.len.now after) (sym c.in-Some.is) held,
      subst (λ all. CallsUpTo g.F.FnMut bytes c.args.last.now c.args.f.now all None new.f after) (ap (pairs_at c.args.store.now) (sym c.in-Some.is)) up_to,
    )

pub returns-clause-taken : goal.returns-clause-taken
returns-clause-taken g c =
    let bytes = g.K.AsBytes.bytes in
    let new = c.find_refused.new in
    let (x, held, up_to, leads, applies) = c.in-Some-find_refused.ensures.found in
    let has = at_root (of_key bytes) g.row.P held in
    let told = subst (λ all. CallsUpTo g.F.FnMut bytes c.args.last.now c.args.f.now all (Some x) new.f (pairs_at new.store (Some c.in-Some.name)))
    (ap (pairs_at c.args.store.now) (sym c.in-Some.is)) up_to in
    refused_taken g.F.FnMut bytes g.row.P c.args.last.now c.args.f.now (pairs_at c.args.store.now c.args.root.now)
    new.f c.take_pair.new.store c.take_pair.new.root c.take_pair.new.len told c.take_pair.result
    (c.take_pair.ensures _ has.layout has.by x (leads _ has.layout has.by))
