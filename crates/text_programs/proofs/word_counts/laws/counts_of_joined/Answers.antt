use Rattle.text_programs.proofs.JoinedCounts.{counts_of_joined, sums_of_counts, words_of_joined}
use Rattle.text_programs.proofs.word_counts.laws.counts_of_joined.Goals as goal

pub returns : goal.returns
returns c = record { words = words_of_joined; counts = counts_of_joined; sums = sums_of_counts }
