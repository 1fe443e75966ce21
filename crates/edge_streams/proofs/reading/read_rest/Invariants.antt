use Rattle.edge_streams.specs.Reading.{HasRead}
use Rattle.edge_streams.proofs.reading.read_rest.Given as goal

abbrev pub invariant-loop : goal.invariant-loop
invariant-loop g l = HasRead (g.S.Read.remaining l.fn.stream) (g.S.Read.remaining l.stream) l.bound l.fn.so_far l.so_far
