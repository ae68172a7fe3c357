use Rattle.std.proofs.Common.{ap, ◌∙◌}
use Rattle.std.specs.FinMap as map
use Rattle.art_model.specs.Prelude.{childless, take_inner}
use Rattle.art_model.proofs.stores.Lessened.{lessened_inner, lessened_same}
use Rattle.art_copying.proofs.clone.place_one_like.Goals as goal

pub returns : goal.returns
returns g c =
    let copied = c.into_any.ensures.view ∙ g.met.N.InnerNode.starts_childless _ _ c.from_header-copy.ensures ∙ ap childless c.header.ensures in
    let kind = c.into_any.ensures.kind in
    record {
      placed = c.in-Ok.ensures.placed ∙ ap (map.insert c.args.into.now.inners c.in-Ok.name) copied;
      kind = c.in-Ok.ensures.kind ∙ kind;
      fresh = c.in-Ok.ensures.fresh;
      leaves = c.in-Ok.ensures.leaves;
      promise = c.in-Ok.ensures.promise ∙ ap (λ k. take_inner k c.args.into.now.promise) kind;
      lessened = rw c.in-Ok.ensures.promise (lessened_inner _ c.args.into.now.promise);
      refused = tt;
    }

pub returns-in_default-clause-lessened : goal.returns-in_default-clause-lessened
returns-in_default-clause-lessened g c = rw c.in_default.ensures.refused (lessened_same c.args.into.now.promise)
