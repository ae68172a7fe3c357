use Rattle.std.proofs.Common.{ap, sym, ◌∙◌}
use Rattle.std.specs.Range.Bound.{bound_map}
use Rattle.art_model.specs.Prelude.{first_of, of_key, between}
use Rattle.art_map.specs.MapParts.{without}
use Rattle.art_map.proofs.Results.{taken_holds, tells_taken}
use Rattle.art_changing.proofs.ViewsOfPairs.{view_sorted}
use Rattle.art_map.proofs.map.ByteMap.take_first_in.Goals as goal

pub invariant_of-self : goal.invariant_of-self
invariant_of-self g c =
    let B = of_key g.K.AsBytes.bytes in
    let part = between B (bound_map (λ b. b.now) c.args.from) (bound_map (λ b. b.now) c.args.to) in
    taken_holds g.K.AsBytes.bytes g.row.P _ _ _ _ (λ pairs. first_of (part pairs))
    (λ pairs. without B (first_of (part pairs)) pairs) c.take_between.result c.take_between.ensures

pub returns : goal.returns
returns g c =
    let B = of_key g.K.AsBytes.bytes in
    let part = between B (bound_map (λ b. b.now) c.args.from) (bound_map (λ b. b.now) c.args.to) in
    let (left, removed) =
    tells_taken g.K.AsBytes.bytes g.row.P _ _ _ _ (λ pairs. first_of (part pairs))
    (λ pairs. without B (first_of (part pairs)) pairs) c.take_between.result c.take_between.ensures c.self.view_is in
    record {
      removed = removed;
      pairs = left ∙ ap (λ o. without B o c.args.self.now) (sym removed);
      sorted = view_sorted B g.row.P c.self.inside.store c.self.invariant c.self.view_is;
    }
