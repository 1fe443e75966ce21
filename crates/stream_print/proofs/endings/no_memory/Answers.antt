use Rattle.std.proofs.Common.{Err, ap}
use Rattle.stream_print.proofs.EndLemmas.{want_whole, want_stopped, want_wanted}
use Rattle.stream_print.proofs.endings.no_memory.Goals as goal

pub returns-in-Ok : goal.returns-in-Ok
returns-in-Ok g c = want_whole c.args.notice.now _ _ _ c.in-Ok.ensures.all c.in-Ok.ensures.goes_on

pub returns-in-Err-Stopped : goal.returns-in-Err-Stopped
returns-in-Err-Stopped g c =
    want_stopped c.args.notice.now _ _ _ c.in-Err-Stopped.ensures.part
    (c.in-Err-Stopped.ensures.stopped (ap (λ e. Err e) c.in-Err-Stopped.field-0-is))

pub returns-in-Err-Memory : goal.returns-in-Err-Memory
returns-in-Err-Memory g c =
    want_wanted c.args.notice.now _ _ _ c.in-Err-Memory.ensures.part
    (c.in-Err-Memory.ensures.memory (ap (λ e. Err e) c.in-Err-Memory.field-0-is))
