use Rattle.std.proofs.Common.{◌≡◌, ◌∙◌, ap, sym, Some, option_map}
use Rattle.art_model.specs.Prelude.{with_links_around}
use Rattle.art_copying.specs.declared.clone.LeafEnds.{LeafEnds}
use Rattle.art_copying.proofs.clone.add_copy.Goals.{in-Some, in-None}
use Rattle.art_copying.proofs.clone.add_copy.Goals as goal

pub returns-clause-leaves : goal.returns-clause-leaves
returns-clause-leaves g c =
    let last : c.match-ends.last.1 ≡ option_map (λ (ends : LeafEnds). ends.last) c.args.ends =
    elim c.match-ends.branch [
      | in-Some w ↦ ap (λ z. z.1) w.last-is ∙ sym (ap (option_map (λ (ends : LeafEnds). ends.last)) w.in-Some.is)
      | in-None w ↦ ap (λ z. z.1) w.last-is ∙ sym (ap (option_map (λ (ends : LeafEnds). ends.last)) w.in-None.is)
    ] in
    c.write_child.ensures.leaves
    ∙ c.link.ensures.leaves
    ∙ ap (λ o. with_links_around c.args.into.now.leaves o (Some c.args.copy.min_leaf) (Some c.args.copy.min_leaf) o) last
