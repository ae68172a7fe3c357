use Rattle.std.proofs.Common.{ap, sym, ◌∙◌, subst, [], Some, None}
use Rattle.art_model.specs.Prelude.{AreClones, of_key}
use Rattle.art_changing.specs.MapPairs.{pairs_at}
use Rattle.art_changing.proofs.Items.{no_pairs}
use Rattle.art_changing.proofs.ViewsOfPairs.{holds, new_holds, view_of}
use Rattle.art_map.proofs.map.ByteMap.clone_tree.Goals as goal

pub invariant_of-result : goal.invariant_of-result
invariant_of-result g c =
    let B = of_key g.K.AsBytes.bytes in
    holds B g.row.P c.new.result (new_holds c.new.result c.new.ensures.leaves c.new.ensures.inners B g.row.P)

pub returns-in_default : goal.returns-in_default
returns-in_default g c =
    let B = of_key g.K.AsBytes.bytes in
    let Are = AreClones g.K.Clone.is_clone g.V.Clone.is_clone in
    let none = sym (no_pairs B g.row.P c.self.inside.store c.in_default.is c.self.invariant) ∙ c.self.view_is in
    let new = view_of B g.row.P c.new.result (new_holds c.new.result c.new.ensures.leaves c.new.ensures.inners B g.row.P) in
    subst (λ before. Are before (pairs_at c.new.result None)) none (subst (λ after. Are [] after) (sym new) tt)

pub invariant_of-result-2 : goal.invariant_of-result-2
invariant_of-result-2 g c = let (copies, are, held) = c.in_ok-root.ensures in holds (of_key g.K.AsBytes.bytes) g.row.P c.copy_tree.new.into held

pub returns : goal.returns
returns g c =
    let (copies, are, held) = c.in_ok-root.ensures in
    let Are = AreClones g.K.Clone.is_clone g.V.Clone.is_clone in
    let before = sym (ap (pairs_at c.self.inside.store) c.in-Some.is) ∙ c.self.view_is in
    subst (λ pairs. Are pairs (pairs_at c.copy_tree.new.into (Some c.in_ok-root.root))) before
    (subst (λ after. Are (pairs_at c.self.inside.store (Some c.in-Some.root)) after)
    (sym (view_of (of_key g.K.AsBytes.bytes) g.row.P c.copy_tree.new.into held)) are)
