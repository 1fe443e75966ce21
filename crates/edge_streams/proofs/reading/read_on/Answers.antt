use Rattle.edge_streams.proofs.ReadLemmas.{more_read}
use Rattle.edge_streams.proofs.reading.read_on.Goals as goal

pub returns-then-count-piece-clause-read : goal.returns-then-count-piece-clause-read
returns-then-count-piece-clause-read g c =
    more_read (g.S.Read.remaining c.args.stream.now) (g.S.Read.remaining c.loop.stream) (g.S.Read.remaining c.read_once.new.stream) c.args.bound
    c.args.so_far.now c.loop.so_far c.count_in.new.self _ c.loop.invariant c.in-Ok.ensures.bytes.0 c.count_in.ensures.counted c.in_ok-count_in.ensures.kept

pub loop-preserved : goal.loop-preserved
loop-preserved g c =
    more_read (g.S.Read.remaining c.args.stream.now) (g.S.Read.remaining c.loop.stream) (g.S.Read.remaining c.read_once.new.stream) c.args.bound
    c.args.so_far.now c.loop.so_far c.count_in.new.self _ c.loop.invariant c.in-Ok.ensures.bytes.0 c.count_in.ensures.counted c.in_ok-count_in.ensures.kept
