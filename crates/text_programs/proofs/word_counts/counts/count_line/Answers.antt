use Rattle.std.proofs.Common.{rules, length, ap, ◌∙◌}
use Rattle.std.specs.Slice.Iter.{split_rest, split_done, split_callee}
use Rattle.std.proofs.lemmas.Iterator.Consumers.{YieldsList-end, YieldsList-turn}
use Rattle.std.proofs.lemmas.Iterator.Splits.{YieldsList-from_slice_split}
use Rattle.text_programs.specs.Words.{is_gap}
use Rattle.text_programs.proofs.WordLines.{counted_parts, one_part_more, part_plain}
use Rattle.text_programs.proofs.word_counts.counts.count_line.Goals as goal

pub count_word-requires : goal.count_word-requires
count_word-requires c =
    let turn = YieldsList-turn (YieldsList-from_slice_split _ is_gap c.args.line.now
    (ap split_rest c.into_iter-word-iterator.ensures.into_iter_gives ∙ c.split-word-items.ensures.rest)
    (ap split_done c.into_iter-word-iterator.ensures.into_iter_gives ∙ c.split-word-items.ensures.done)
    (ap split_callee c.into_iter-word-iterator.ensures.into_iter_gives ∙ c.split-word-items.ensures.closure) (λ x b q h. search rules))
    c.loop-word.yielded _ c.loop-word.yielded_by _ _ c.in-Some.word c.in-Some.is c.next.ensures.steps in
    part_plain c.args.line.now c.in-Some.word.now (length c.loop-word.yielded) turn.0 turn.1

pub loop-word-preserved-in-Continue-1 : goal.loop-word-preserved-in-Continue-1
loop-word-preserved-in-Continue-1 c before kept =
    one_part_more before c.loop-word.yielded c.in-Some.word c.count_word.new.counts (search rules)
    (c.in_ok-count_word.ensures.counted _ (c.loop-word.invariant before kept))

pub returns : goal.returns
returns c before kept =
    let all = YieldsList-end (YieldsList-from_slice_split _ is_gap c.args.line.now
    (ap split_rest c.into_iter-word-iterator.ensures.into_iter_gives ∙ c.split-word-items.ensures.rest)
    (ap split_done c.into_iter-word-iterator.ensures.into_iter_gives ∙ c.split-word-items.ensures.done)
    (ap split_callee c.into_iter-word-iterator.ensures.into_iter_gives ∙ c.split-word-items.ensures.closure) (λ x b q h. search rules))
    c.loop-word.yielded _ c.loop-word.yielded_by _ _ c.in-None.is c.next.ensures.steps in
    counted_parts before c.args.line.now _ _ all.0 (c.loop-word.invariant before kept)
