use Rattle.stream_print.proofs.EndLemmas.{want_after}
use Rattle.stream_print.proofs.endings.finish.Goals as goal

pub returns-in-Err-Memory : goal.returns-in-Err-Memory
returns-in-Err-Memory g c =
    want_after c.args.pieces.now c.args.status _ _ _ _ c.in-Err-Memory.ensures.part c.in-Err-Memory.field-0-is c.no_memory.ensures
