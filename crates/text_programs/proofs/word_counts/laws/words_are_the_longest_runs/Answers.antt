use Rattle.text_programs.proofs.WordTexts.{gaps_are_no_words, words_are_runs}
use Rattle.text_programs.proofs.word_counts.laws.words_are_the_longest_runs.Goals as goal

pub returns : goal.returns
returns c = record { none = gaps_are_no_words; first = words_are_runs }
