use Rattle.types.proofs.view.View.+within.Given as goal

abbrev pub decreases-within : goal.decreases-within
decreases-within g l = l.n
