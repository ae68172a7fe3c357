use Rattle.snapshot_format.proofs.source.Source.+number_within.Given as goal

abbrev pub decreases-number_within : goal.decreases-number_within
decreases-number_within g l = l.more
