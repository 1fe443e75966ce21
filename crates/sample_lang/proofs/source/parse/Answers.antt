use Rattle.std.proofs.Common.{ap, sym, ◌∙◌}
use Rattle.sample_lang.specs.Sources.{message_of}
use Rattle.sample_lang.proofs.Deciding.{one_source, no_both, one_fault, apart}
use Rattle.sample_lang.proofs.source.parse.Goals as goal

pub returns-in-Ok-clause-only_program : goal.returns-in-Ok-clause-only_program
returns-in-Ok-clause-only_program c items h =
    one_source c.args.text.now c.in-Ok.items items (rw c.as_slice.ensures at c.in-Ok.ensures.source) h

pub returns-in-Ok-clause-only_fault : goal.returns-in-Ok-clause-only_fault
returns-in-Ok-clause-only_fault c line message h =
    apart c.args.text.now c.in-Ok.items line message (rw c.as_slice.ensures at c.in-Ok.ensures.source) h

pub returns-in-Ok-message-clause-only_program : goal.returns-in-Ok-message-clause-only_program
returns-in-Ok-message-clause-only_program c items h =
    no_both c.args.text.now items c.in-Err-Fault.line c.in-Err-Fault.fault h
    (rw c.as_slice.ensures at (rw c.in-Err-Fault.field-0-is at c.in-Err-Fault.ensures.fault))

pub returns-in-Ok-message-clause-only_fault : goal.returns-in-Ok-message-clause-only_fault
returns-in-Ok-message-clause-only_fault c line message h =
    let same = one_fault c.args.text.now c.in-Err-Fault.line line c.in-Err-Fault.fault h.0
    (rw c.as_slice.ensures at (rw c.in-Err-Fault.field-0-is at c.in-Err-Fault.ensures.fault)) h.1 in
    (same.0, c.in-Ok-message.ensures ∙ ap message_of same.1 ∙ sym h.2)
