use Rattle.std.proofs.Common.{◌∙◌, Some}
use Rattle.std.proofs.lemmas.List.Elements.{length_all_zip}
use Rattle.art_parts.specs.LeafClones.{IsPairClone}
use Rattle.art_model.specs.Pairs.{of_key}
use Rattle.art_changing.proofs.MapPuts.{at_root}
use Rattle.art_changing.proofs.ViewsOfPairs.{none_held, none_other}
use Rattle.art_map.proofs.map.clone.copy_tree.Goals as goal

pub returns : goal.returns
returns g c =
    let has = at_root (of_key g.K.AsBytes.bytes) g.row.P c.requires.holds in
    let (copies, are, canonical) = c.in_ok-copy.ensures.canonical _ has.layout has.by in
    let empty = none_held c.args.into.now c.requires.no_leaves c.requires.no_inners in (
      copies,
      are,
      record {
        tree = Some canonical.0;
        canonical = canonical.1;
        no_other = none_other (c.in_ok-copy.ensures.gained copies canonical.0 canonical.1) (λ name out. empty name);
        len_is = has.len_is ∙ length_all_zip (IsPairClone g.K.Clone.is_clone g.V.Clone.is_clone) _ copies are;
      },
    )
