use Rattle.std.proofs.Common.{◌≡◌, length}
use Rattle.std.specs.Io.KnownBytes.{Keeps}
use Rattle.edge_streams.specs.Streams.{beneath}
use Rattle.edge_streams.proofs.waiting_stream.WaitingStreamRead.read.Given as goal

-- the reads that were blocked moved nothing
abbrev pub invariant-loop : goal.invariant-loop
invariant-loop g l = record {
  kept : Keeps (g.S.Read.remaining (beneath l.fn.self)) (g.S.Read.remaining (beneath l.self));
  room : length l.room ≡ length l.fn.room;
}
