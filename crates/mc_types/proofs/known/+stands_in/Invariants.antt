use Rattle.mc_types.proofs.known.+stands_in.Given as goal

abbrev pub decreases-stands_in : goal.decreases-stands_in
decreases-stands_in l = l.steps
