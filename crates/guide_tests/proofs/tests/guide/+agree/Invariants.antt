use Rattle.guide_tests.proofs.tests.guide.+agree.Given as goal

abbrev pub decreases-agree : goal.decreases-agree
decreases-agree l = l.limit
