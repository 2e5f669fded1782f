use Rattle.test_names_calls.proofs.name_tests.walk.Given as goal

abbrev pub invariant-loop-index : goal.invariant-loop-index
invariant-loop-index g l = g.N.Labels.reaches l.name l.place l.index
