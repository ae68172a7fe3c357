use Rattle.text_programs.proofs.Tallies.{count_is_one}
use Rattle.text_programs.proofs.word_counts.laws.a_list_of_words_has_one_count.Goals as goal

pub returns : goal.returns
returns c = count_is_one
