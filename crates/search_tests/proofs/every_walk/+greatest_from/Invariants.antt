use Rattle.search_tests.proofs.every_walk.+greatest_from.Given as goal

abbrev pub decreases-greatest_from : goal.decreases-greatest_from
decreases-greatest_from l = l.steps
