use Rattle.std.specs.Io.KnownBytes.{Keeps}
use Rattle.edge_streams.specs.Streams.{beneath}
use Rattle.edge_streams.proofs.waiting_stream.WaitingStreamWrite.write.Given as goal

-- the writes that were blocked moved nothing
abbrev pub invariant-loop : goal.invariant-loop
invariant-loop g l = Keeps (g.S.Write.contents (beneath l.fn.self)) (g.S.Write.contents (beneath l.self))
