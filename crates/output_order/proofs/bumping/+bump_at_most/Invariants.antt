use Rattle.output_order.proofs.bumping.+bump_at_most.Given as goal

abbrev pub decreases-bump_at_most : goal.decreases-bump_at_most
decreases-bump_at_most l = l.most
