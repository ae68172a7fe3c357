use Rattle.text_programs.proofs.MergeLemmas.{outputs_are_rows, rows_are_determined}
use Rattle.text_programs.proofs.SumLemmas.{sums_of_outputs}
use Rattle.text_programs.proofs.word_counts.laws.merged_outputs.Goals as goal

pub returns : goal.returns
returns c = record { rows = outputs_are_rows; determined = rows_are_determined; sums = sums_of_outputs }
