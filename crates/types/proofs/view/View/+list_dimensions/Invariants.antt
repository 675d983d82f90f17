use Rattle.types.proofs.view.View.+list_dimensions.Given as goal

abbrev pub decreases-list_dimensions : goal.decreases-list_dimensions
decreases-list_dimensions l = l.n
