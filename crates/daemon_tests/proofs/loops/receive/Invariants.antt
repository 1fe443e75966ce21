use Rattle.daemon_tests.proofs.loops.receive.Given as goal

abbrev pub invariant-loop : goal.invariant-loop
invariant-loop g l = g.L.Link.follows l.fn.link l.link
