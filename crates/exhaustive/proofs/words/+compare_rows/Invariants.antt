use Rattle.exhaustive.proofs.words.+compare_rows.Given as goal

abbrev pub decreases-compare_rows : goal.decreases-compare_rows
decreases-compare_rows l = l.more
