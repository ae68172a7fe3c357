use Rattle.snapshot_format.proofs.writing.+push_within.Given as goal

abbrev pub decreases-push_within : goal.decreases-push_within
decreases-push_within l = l.more
