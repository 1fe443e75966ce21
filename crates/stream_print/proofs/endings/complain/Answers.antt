use Rattle.std.proofs.Common.{◌∷◌, [], refl, Err, ap}
use Rattle.stream_print.specs.Printing.{complaint, sink_stopped}
use Rattle.stream_print.proofs.EndLemmas.{want_after, complaint_whole, complaint_part}
use Rattle.stream_print.specs.declared.one.PrintStop.TheVariants.{Stopped}
use Rattle.stream_print.proofs.endings.complain.Goals as goal

pub returns-in-Ok : goal.returns-in-Ok
returns-in-Ok g c = complaint_whole c.args.text.now c.args.status _ _ _ c.in-Ok.ensures.all c.in-Ok.ensures.goes_on

pub returns-in-Err-Stopped : goal.returns-in-Err-Stopped
returns-in-Err-Stopped g c =
    sink_stopped (complaint_part c.args.text.now Stopped _ _ _ c.in-Err-Stopped.ensures.part
    (λ is. c.in-Err-Stopped.ensures.stopped (ap (λ e. Err e) c.in-Err-Stopped.field-0-is)) (λ is. absurd (cc))) refl

pub returns-in-Err-Memory : goal.returns-in-Err-Memory
returns-in-Err-Memory g c =
    want_after (complaint c.args.text.now ∷ []) c.args.status _ _ _ _
    (complaint_part c.args.text.now c.in-Err-Memory.field-0 _ _ _ c.in-Err-Memory.ensures.part
    (λ is. c.in-Err-Memory.ensures.stopped (ap (λ e. Err e) is)) (λ is. c.in-Err-Memory.ensures.memory (ap (λ e. Err e) is)))
    c.in-Err-Memory.field-0-is c.no_memory.ensures
