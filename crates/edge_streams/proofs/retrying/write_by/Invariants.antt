use Rattle.std.specs.Io.KnownBytes.{Keeps}
use Rattle.edge_streams.proofs.retrying.write_by.Given as goal

-- the interrupted writes moved nothing
abbrev pub invariant-loop : goal.invariant-loop
invariant-loop g l = Keeps (g.S.Write.contents l.fn.stream) (g.S.Write.contents l.stream)
