use Rattle.std.proofs.Common.{◌+◌, None, length, length-take, ap, arith, refl, rules, sym, ◌∙◌}
use Rattle.art_parts.specs.Keys.{common_front}
use Rattle.art_model.specs.Pairs.{of_key, without_last}
use Rattle.art_ranges.proofs.FoundTexts.{has_found_last}
use Rattle.art_reading.proofs.PartNodes.{leaf_is_there, own_pair}
use Rattle.art_model.specs.Texts.{text_of}
use Rattle.art_ranges.proofs.LongestTexts.{ends_at, ends_walk, found_again, found_none, found_whole, last_found}
use Rattle.art_reading.proofs.Shared.{shared_short, shared_within}
use Rattle.art_reading.proofs.Counters.{count_both}
use Rattle.art_ranges.proofs.TextReads.{at_most, with_one}
use Rattle.art_ranges.proofs.texts.longest_text_visiting.Goals as goal

pub returns-in-Whole-clause-found : goal.returns-in-Whole-clause-found
returns-in-Whole-clause-found g c =
    has_found_last (of_key g.K.AsBytes.bytes) g.row.P c.requires.root (λ pairs layout by.
    let (covering, on) = c.in-Whole.ensures.ends pairs layout by in
    last_found by c.args.end (c.requires.ended pairs layout by) c.args.query.now covering on)

pub returns-in-Passed-None-clause-found : goal.returns-in-Passed-None-clause-found
returns-in-Passed-None-clause-found g c =
    has_found_last (of_key g.K.AsBytes.bytes) g.row.P c.requires.root (λ pairs layout by.
    found_none by c.args.end (c.requires.ended pairs layout by) c.args.query.now None refl
    (ends_at by _ _ _ c.in-Passed-None.field-0-is (c.in-Passed-None.ensures.ends pairs layout by)))

pub leaf_at-node-requires : goal.leaf_at-node-requires
leaf_at-node-requires g c =
    let (pairs, layout, by) = c.requires.root in
    let covering = ends_at by _ _ _ c.in-Passed-Some.field-0-is (c.in-Passed-Some.ensures.ends pairs layout by) in
    (search rules, leaf_is_there c.args.store.now by.stands.0.holds covering.has)

pub returns-then-shared-text-clause-found : goal.returns-then-shared-text-clause-found
returns-then-shared-text-clause-found g c =
    has_found_last (of_key g.K.AsBytes.bytes) g.row.P c.requires.root (λ pairs layout by.
    let covering = ends_at by _ _ _ c.in-Passed-Some.field-0-is (c.in-Passed-Some.ensures.ends pairs layout by) in
    let own =
    c.text_of-text.ensures ∙ ap without_last c.as_bytes.ensures
    ∙ ap (text_of (of_key g.K.AsBytes.bytes)) (own_pair by covering.has (sym c.leaf_at-node.ensures)) in
    found_whole by c.args.end (c.requires.ended pairs layout by) c.args.query.now covering
    (ap (λ t. length (common_front t c.args.query.now)) (sym own) ∙ sym c.shared_len-shared.ensures ∙ c.if-shared-text.true ∙ ap length own))

pub slice_bounds-walk_to_text-end : goal.slice_bounds-walk_to_text-end
slice_bounds-walk_to_text-end g c =
    let short = shared_short c.text_of-text.result.now c.args.query.now in
    let long = length-take c.shared_len-shared.result c.args.query.now in
    let shared = c.shared_len-shared.ensures in
    omega arith

pub returns-clause-found : goal.returns-clause-found
returns-clause-found g c =
    has_found_last (of_key g.K.AsBytes.bytes) g.row.P c.requires.root (λ pairs layout by.
    let covering = ends_at by _ _ _ c.in-Passed-Some.field-0-is (c.in-Passed-Some.ensures.ends pairs layout by) in
    let own =
    c.text_of-text.ensures ∙ ap without_last c.as_bytes.ensures
    ∙ ap (text_of (of_key g.K.AsBytes.bytes)) (own_pair by covering.has (sym c.leaf_at-node.ensures)) in
    found_again by c.args.end (c.requires.ended pairs layout by) c.args.query.now covering c.shared_len-shared.result
    (c.shared_len-shared.ensures ∙ ap (λ t. length (common_front t c.args.query.now)) own) c.leaf.result
    (ends_walk by _ c.walk_to_text-2.result c.leaf.ensures (c.walk_to_text-2.ensures.ends pairs layout by)))

-- ---- the counter
pub returns-in-Whole-clause-visits : goal.returns-in-Whole-clause-visits
returns-in-Whole-clause-visits g c = at_most c.in-Whole.ensures.visits (omega arith)

pub returns-in-Passed-None-clause-visits : goal.returns-in-Passed-None-clause-visits
returns-in-Passed-None-clause-visits g c = at_most c.in-Passed-None.ensures.visits (omega arith)

pub returns-then-shared-text-clause-visits : goal.returns-then-shared-text-clause-visits
returns-then-shared-text-clause-visits g c = with_one c.in-Passed-Some.ensures.visits c.count_one.ensures (omega arith)

pub returns-clause-visits : goal.returns-clause-visits
returns-clause-visits g c =
    let first = c.in-Passed-Some.ensures.visits in
    let again = c.walk_to_text-2.ensures.visits in
    record {
      number = first.number + 1 + again.number;
      counted = count_both _ _ _ (count_both _ _ _ first.counted c.count_one.ensures) again.counted;
      is_number = λ pairs layout by.
          let covering = ends_at by _ _ _ c.in-Passed-Some.field-0-is (c.in-Passed-Some.ensures.ends pairs layout by) in
          let own =
          c.text_of-text.ensures ∙ ap without_last c.as_bytes.ensures
          ∙ ap (text_of (of_key g.K.AsBytes.bytes)) (own_pair by covering.has (sym c.leaf_at-node.ensures)) in
          let len = ap length own in
          let short = covering.short in
          let within = shared_within c.text_of-text.result.now c.args.query.now in
          let shared = c.shared_len-shared.ensures in
          let cut = length-take c.shared_len-shared.result c.args.query.now in
          let (seen, few) = first.is_number pairs layout by in
          let (more, less) = again.is_number pairs layout by in
          (omega arith, omega arith);
    }
