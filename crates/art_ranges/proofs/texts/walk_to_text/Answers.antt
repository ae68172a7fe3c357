use Rattle.std.proofs.Common.{◌+◌, ◌<◌, ◌≤◌, ap, arith, length, rules, subst, sym, ◌∙◌}
use Rattle.art_parts.specs.Keys.{IsFront}
use Rattle.art_model.specs.Pairs.{of_key, without_last}
use Rattle.art_model.specs.Roots.{ForTree}
use Rattle.art_model.specs.Stores.{pair_of}
use Rattle.art_model.proofs.stores.Shown.{inner_met, leaf_met, leaf_named, leaf_shown, shown_met}
use Rattle.art_ranges.specs.TextWays.{bytes_along}
use Rattle.art_reading.proofs.Descents.{stands_there}
use Rattle.art_reading.proofs.PartNodes.{some_there}
use Rattle.art_reading.proofs.Counters.{count_both}
use Rattle.art_ranges.proofs.TextReads.{along_least, along_query, text_kept, read_begins, read_last, read_leaf, text_read, text_reads_on}
use Rattle.art_ranges.proofs.TextWays.{IsNestedWay, none_kept, step_first, ended_all, other_leaf, over_ends, own_leaf, step_ends, step_goes, way_begins}
use Rattle.art_ranges.specs.declared.texts.TextEnd.TheVariants.{Passed, Whole}
use Rattle.art_ranges.proofs.texts.walk_to_text.Goals as goal

pub down-init : goal.down-init
down-init g c = record { within = omega arith; readings = record { number = 0; counted = omega arith; is_number = (omega arith, λ pairs layout by. read_begins (bytes_along c.args.kept c.args.at_least c.args.query.now) by) }; way = λ pairs layout by. way_begins by c.args.end c.args.query.now c.args.at_least c.args.kept }

pub leaf_at-node-requires : goal.leaf_at-node-requires
leaf_at-node-requires g c =
    let (pairs, layout, by) = c.requires.root in
    let at = (c.down.invariant.way pairs layout by).descent.at in
    (search rules, some_there _ (leaf_met (stands_there by at) c.in-Leaf.ensures.name))

pub returns-then-is_sought-clause-ends : goal.returns-then-is_sought-clause-ends
returns-then-is_sought-clause-ends g c pairs layout by =
    let way = c.down.invariant.way pairs layout by in
    let there = stands_there by way.descent.at in
    let is = leaf_shown c.args.store.now c.in-Leaf.leaf way.descent.at.node
    (there.named ∙ sym c.in-Leaf.ensures.name) there.holds c.leaf_at-node.result.now (sym c.leaf_at-node.ensures) in
    let ended = ended_all by c.args.end c.args.query.now c.args.at_least c.args.kept (c.requires.ended pairs layout by) in
    over_ends by c.args.end c.args.query.now c.args.at_least c.args.kept (Whole c.in-Leaf.leaf)
    (own_leaf by c.args.end c.args.query.now c.args.at_least c.args.kept ended way c.in-Leaf.leaf (pair_of c.leaf_at-node.result.now) is
    (subst (λ z. IsFront z c.args.query.now × (c.args.at_least ≤ length z))
    (c.text_of.ensures ∙ ap without_last c.as_bytes.ensures) (c.is_sought.ensures.0 c.if-is_sought.true)))

pub returns-in-Leaf-clause-ends : goal.returns-in-Leaf-clause-ends
returns-in-Leaf-clause-ends g c pairs layout by =
    let way = c.down.invariant.way pairs layout by in
    let there = stands_there by way.descent.at in
    let is = leaf_shown c.args.store.now c.in-Leaf.leaf way.descent.at.node
    (there.named ∙ sym c.in-Leaf.ensures.name) there.holds c.leaf_at-node.result.now (sym c.leaf_at-node.ensures) in
    let ended = ended_all by c.args.end c.args.query.now c.args.at_least c.args.kept (c.requires.ended pairs layout by) in
    over_ends by c.args.end c.args.query.now c.args.at_least c.args.kept (Passed c.down.passed)
    (other_leaf by c.args.end c.args.query.now c.args.at_least c.args.kept ended way c.in-Leaf.leaf (pair_of c.leaf_at-node.result.now) is
    (λ sought.
    let yes = c.is_sought.ensures.1
    (subst (λ z. IsFront z c.args.query.now × (c.args.at_least ≤ length z)) (sym (c.text_of.ensures ∙ ap without_last c.as_bytes.ensures)) sought) in
    let no = c.if-is_sought.false in
    absurd cc))

pub inner_at-node-requires : goal.inner_at-node-requires
inner_at-node-requires g c =
    let (pairs, layout, by) = c.requires.root in
    let at = (c.down.invariant.way pairs layout by).descent.at in
    (search rules, (search rules, some_there _ (inner_met (stands_there by at) c.in-Inner.ensures.proper c.in-Inner.ensures.name)))

pub step_at-requires : goal.step_at-requires
step_at-requires g c = (search rules, c.down.invariant.within)

pub returns-in_default-clause-ends : goal.returns-in_default-clause-ends
returns-in_default-clause-ends g c pairs layout by =
    let way = c.down.invariant.way pairs layout by in
    let at = shown_met (stands_there by way.descent.at) c.in-Inner.ensures.proper c.in-Inner.ensures.name (sym c.inner_at-node.ensures.view) in
    let ended = ended_all by c.args.end c.args.query.now c.args.at_least c.args.kept (c.requires.ended pairs layout by) in
    over_ends by c.args.end c.args.query.now c.args.at_least c.args.kept (Passed c.step_at.new.passed)
    (step_ends by c.args.end c.args.query.now c.args.at_least c.args.kept ended way at c.step_at.ensures c.in_default.is)

pub returns-then-is_kept-clause-ends : goal.returns-then-is_kept-clause-ends
returns-then-is_kept-clause-ends g c pairs layout by =
    let way = c.down.invariant.way pairs layout by in
    let at = shown_met (stands_there by way.descent.at) c.in-Inner.ensures.proper c.in-Inner.ensures.name (sym c.inner_at-node.ensures.view) in
    let ended = ended_all by c.args.end c.args.query.now c.args.at_least c.args.kept (c.requires.ended pairs layout by) in
    let (first, some) = c.is_kept.ensures.0 c.if-is_kept.true in
    over_ends by c.args.end c.args.query.now c.args.at_least c.args.kept (Passed c.step_at.new.passed)
    (step_first by c.args.end c.args.query.now c.args.at_least c.args.kept ended way at c.step_at.ensures first some)

pub down-preserved : goal.down-preserved
down-preserved g c =
    let goes : ForTree (of_key g.K.AsBytes.bytes) g.row.P c.args.store.now c.args.root
    (λ pairs layout. IsNestedWay (of_key g.K.AsBytes.bytes)
    g.row.P c.args.end c.args.query.now c.args.at_least c.args.kept layout c.in-Some.child c.in-Some.below c.step_at.new.passed
    × (c.down.depth < c.in-Some.below) × (c.in-Some.below ≤ length c.args.query.now)) = λ pairs layout by.
    let way = c.down.invariant.way pairs layout by in
    let at = shown_met (stands_there by way.descent.at) c.in-Inner.ensures.proper c.in-Inner.ensures.name (sym c.inner_at-node.ensures.view) in
    let ended = ended_all by c.args.end c.args.query.now c.args.at_least c.args.kept (c.requires.ended pairs layout by) in
    step_goes by c.args.end c.args.query.now c.args.at_least c.args.kept ended way at c.step_at.ensures
    (λ first. none_kept c.step_at.new.passed (λ some. let yes = c.is_kept.ensures.1 (first, some) in let no = c.if-is_kept.false in absurd cc))
    c.in-Some.is in
    let (pairs, layout, by) = c.requires.root in
    let (way, less, within) = goes pairs layout by in
    let before = c.down.invariant.readings in
    let (few, reads) = before.is_number in
    record {
      within = within;
      readings = record {
        number = before.number + 1;
        counted = count_both _ _ _ before.counted c.count_one.ensures;
        is_number = (
          omega arith,
          λ pairs layout by.
              let read = reads pairs layout by in
              let at = shown_met (stands_there by read.descent.at) c.in-Inner.ensures.proper c.in-Inner.ensures.name (sym c.inner_at-node.ensures.view) in
              text_reads_on read at (along_query c.args.kept c.args.at_least c.args.query.now) c.step_at.ensures c.in-Some.is,
        );
      };
      way = λ pairs layout by. (goes pairs layout by).0;
    }

-- ---- the counter
pub returns-then-is_sought-clause-visits : goal.returns-then-is_sought-clause-visits
returns-then-is_sought-clause-visits g c =
    let within = c.down.invariant.within in
    read_last c.down.invariant.readings (λ pairs layout by n r.
    let there = stands_there by r.descent.at in
    let (x, is) = leaf_named c.args.store.now c.in-Leaf.leaf r.descent.at.node (there.named ∙ sym c.in-Leaf.ensures.name) there.holds in
    read_leaf r _ x is) c.count_one.ensures (omega arith)

pub returns-in-Leaf-clause-visits : goal.returns-in-Leaf-clause-visits
returns-in-Leaf-clause-visits g c =
    let within = c.down.invariant.within in
    read_last c.down.invariant.readings (λ pairs layout by n r.
    let there = stands_there by r.descent.at in
    let (x, is) = leaf_named c.args.store.now c.in-Leaf.leaf r.descent.at.node (there.named ∙ sym c.in-Leaf.ensures.name) there.holds in
    read_leaf r _ x is) c.count_one.ensures (omega arith)

pub returns-in_default-clause-visits : goal.returns-in_default-clause-visits
returns-in_default-clause-visits g c =
    let within = c.down.invariant.within in
    read_last c.down.invariant.readings (λ pairs layout by n r.
    let at = shown_met (stands_there by r.descent.at) c.in-Inner.ensures.proper c.in-Inner.ensures.name (sym c.inner_at-node.ensures.view) in
    text_read r at (along_query c.args.kept c.args.at_least c.args.query.now) c.step_at.ensures c.in_default.is) c.count_one.ensures (omega arith)

pub returns-then-is_kept-clause-visits : goal.returns-then-is_kept-clause-visits
returns-then-is_kept-clause-visits g c =
    let within = c.down.invariant.within in
    let (first, some) = c.is_kept.ensures.0 c.if-is_kept.true in
    read_last c.down.invariant.readings (λ pairs layout by n r.
    let at = shown_met (stands_there by r.descent.at) c.in-Inner.ensures.proper c.in-Inner.ensures.name (sym c.inner_at-node.ensures.view) in
    text_kept r at (along_query c.args.kept c.args.at_least c.args.query.now) c.step_at.ensures
    (along_least c.args.kept first c.args.at_least c.args.query.now) ((c.down.invariant.way pairs layout by).fresh first) some) c.count_one.ensures (omega arith)
