use Rattle.levels.proofs.+forward_in.Given as goal

abbrev pub decreases-forward_in : goal.decreases-forward_in
decreases-forward_in l = l.levels
