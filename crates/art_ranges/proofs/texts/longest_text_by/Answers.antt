use Rattle.std.proofs.Common.{rules, length-take, ap, subst, sym, ◌∙◌, arith}
use Rattle.art_model.specs.Prelude.{FindsLast, of_key}
use Rattle.art_reading.specs.Matching.{shared_len}
use Rattle.art_reading.proofs.EndNodes.{start}
use Rattle.art_ranges.proofs.FoundTexts.{has_found_last}
use Rattle.art_reading.proofs.Guides.{guide_there}
use Rattle.art_ranges.proofs.GuideTexts.{same_texts}
use Rattle.art_reading.proofs.PartNodes.{own_pair}
use Rattle.art_reading.proofs.Shared.{shared_within}
use Rattle.art_ranges.proofs.texts.longest_text_by.Goals as goal

pub find_guide-requires : goal.find_guide-requires
find_guide-requires g c =
    (search rules, (c.requires.root, λ pairs layout by. (_, start by (g.B.KeyBytes.key c.args.query.now))))

pub leaf_at-requires : goal.leaf_at-requires
leaf_at-requires g c =
    let (pairs, layout, by) = c.requires.root in
    (search rules, guide_there by (c.find_guide.ensures.guide pairs layout by))

pub slice_bounds-longest_text_unchecked-end : goal.slice_bounds-longest_text_unchecked-end
slice_bounds-longest_text_unchecked-end g c =
    let within = shared_within c.as_bytes-key.result.now (g.B.KeyBytes.key c.find_guide.new.key_bytes) in
    let cut = length-take c.shared_after-shared.result c.as_bytes-key.result.now in
    let shared = c.shared_after-shared.ensures.shared in
    omega arith

pub returns-clause-leaf : goal.returns-clause-leaf
returns-clause-leaf g c =
    has_found_last (of_key g.K.AsBytes.bytes) g.row.P c.requires.root (λ pairs layout by.
    let guide = c.find_guide.ensures.guide pairs layout by in
    let own = c.as_bytes-key.ensures ∙ ap (of_key g.K.AsBytes.bytes) (own_pair by guide.has (sym c.leaf_at.ensures)) in
    let shared = c.shared_after-shared.ensures.shared ∙ ap (shared_len c.as_bytes-key.result.now) c.find_guide.ensures.same in
    subst (λ found. FindsLast layout found c.longest_text_unchecked.result) (same_texts by guide own shared)
    (c.longest_text_unchecked.ensures.leaf pairs layout by))
