use Rattle.text_programs.proofs.WordLines.{count_is}
use Rattle.text_programs.proofs.Tallies.{words_rise}
use Rattle.text_programs.proofs.word_counts.counts.count_words.Goals as goal

pub returns : goal.returns
returns g c =
    count_is (g.R.Read.remaining c.args.input.now) c.new-counts.result c.count_text.new.counts c.new-counts.ensures
    (words_rise c.count_text.new.counts c.rises.ensures) c.in_ok-count_text.ensures
