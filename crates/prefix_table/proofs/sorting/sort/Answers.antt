use Rattle.std.proofs.Common.{rules}
use Rattle.std.proofs.lemmas.List.Sorted.{answers_always}
use Rattle.prefix_table.proofs.SortingLemmas.{key_of, sorted_by_key}
use Rattle.prefix_table.proofs.sorting.sort.Goals as goal

pub returns-clause-order : goal.returns-clause-order
returns-clause-order c =
    sorted_by_key c.sort_unstable_by_key.new.self (c.sort_unstable_by_key.ensures.sorted key_of (answers_always _ _ _ (λ f a r g called. search rules)))
