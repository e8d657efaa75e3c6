use Rattle.levels.proofs.+back_in.Given as goal

abbrev pub decreases-back_in : goal.decreases-back_in
decreases-back_in l = l.levels
