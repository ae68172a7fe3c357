use Rattle.std.proofs.Common.{ap, arith, rules, subst, sym, ◌∙◌}
use Rattle.art_parts.specs.Keys.{IsFront}
use Rattle.art_model.specs.Pairs.{of_key, without_last}
use Rattle.art_model.specs.Texts.{text_of}
use Rattle.art_ranges.proofs.FoundTexts.{has_found_first}
use Rattle.art_ranges.proofs.LongestTexts.{ends_at}
use Rattle.art_reading.proofs.PartNodes.{leaf_is_there, own_pair}
use Rattle.art_ranges.proofs.ShortTexts.{first_found, first_missed, first_none}
use Rattle.art_ranges.proofs.TextReads.{at_most, with_one}
use Rattle.art_ranges.proofs.texts.shortest_text_visiting.Goals as goal

pub returns-in-Whole-clause-found : goal.returns-in-Whole-clause-found
returns-in-Whole-clause-found g c =
    has_found_first (of_key g.K.AsBytes.bytes) g.row.P c.requires.root (λ pairs layout by.
    let (covering, on) = c.in-Whole.ensures.ends pairs layout by in
    first_found by c.args.end (c.requires.ended pairs layout by) c.args.query.now c.args.at_least covering on)

pub returns-in-Passed-None-clause-found : goal.returns-in-Passed-None-clause-found
returns-in-Passed-None-clause-found g c =
    has_found_first (of_key g.K.AsBytes.bytes) g.row.P c.requires.root (λ pairs layout by.
    first_none by c.args.end (c.requires.ended pairs layout by) c.args.query.now c.args.at_least
    (ends_at by _ _ _ c.in-Passed-None.field-0-is (c.in-Passed-None.ensures.ends pairs layout by)))

pub leaf_at-node-requires : goal.leaf_at-node-requires
leaf_at-node-requires g c =
    let (pairs, layout, by) = c.requires.root in
    let covering = ends_at by _ _ _ c.in-Passed-Some.field-0-is (c.in-Passed-Some.ensures.ends pairs layout by) in
    (search rules, leaf_is_there c.args.store.now by.stands.0.holds covering.has)

pub returns-then-begins_with-clause-found : goal.returns-then-begins_with-clause-found
returns-then-begins_with-clause-found g c =
    has_found_first (of_key g.K.AsBytes.bytes) g.row.P c.requires.root (λ pairs layout by.
    let covering = ends_at by _ _ _ c.in-Passed-Some.field-0-is (c.in-Passed-Some.ensures.ends pairs layout by) in
    let own = c.text_of.ensures ∙ ap without_last c.as_bytes.ensures ∙ ap (text_of (of_key g.K.AsBytes.bytes)) (own_pair by covering.has (sym c.leaf_at-node.ensures)) in
    first_found by c.args.end (c.requires.ended pairs layout by) c.args.query.now c.args.at_least covering
    (subst (λ z. IsFront z c.args.query.now) own (c.begins_with.ensures.0 c.if-begins_with.true)))

pub returns-clause-found : goal.returns-clause-found
returns-clause-found g c =
    has_found_first (of_key g.K.AsBytes.bytes) g.row.P c.requires.root (λ pairs layout by.
    let covering = ends_at by _ _ _ c.in-Passed-Some.field-0-is (c.in-Passed-Some.ensures.ends pairs layout by) in
    let own = c.text_of.ensures ∙ ap without_last c.as_bytes.ensures ∙ ap (text_of (of_key g.K.AsBytes.bytes)) (own_pair by covering.has (sym c.leaf_at-node.ensures)) in
    first_missed by c.args.end (c.requires.ended pairs layout by) c.args.query.now c.args.at_least covering
    (λ on.
    let yes = c.begins_with.ensures.1 (subst (λ z. IsFront z c.args.query.now) (sym own) on) in
    let no = c.if-begins_with.false in
    absurd cc))

-- ---- the counter
pub returns-in-Whole-clause-visits : goal.returns-in-Whole-clause-visits
returns-in-Whole-clause-visits g c = at_most c.in-Whole.ensures.visits (omega arith)

pub returns-in-Passed-None-clause-visits : goal.returns-in-Passed-None-clause-visits
returns-in-Passed-None-clause-visits g c = at_most c.in-Passed-None.ensures.visits (omega arith)

pub returns-then-begins_with-clause-visits : goal.returns-then-begins_with-clause-visits
returns-then-begins_with-clause-visits g c = with_one c.in-Passed-Some.ensures.visits c.count_one.ensures (omega arith)

pub returns-clause-visits : goal.returns-clause-visits
returns-clause-visits g c = with_one c.in-Passed-Some.ensures.visits c.count_one.ensures (omega arith)
