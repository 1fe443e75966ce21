use Rattle.std.proofs.Common.{◌≡◌, length}
use Rattle.std.specs.Io.KnownBytes.{Keeps}
use Rattle.edge_streams.proofs.retrying.read_once.Given as goal

-- the interrupted reads moved nothing
abbrev pub invariant-loop : goal.invariant-loop
invariant-loop g l = record {
  kept : Keeps (g.S.Read.remaining l.fn.stream) (g.S.Read.remaining l.stream);
  room : length l.room ≡ length l.fn.room;
}
