use Rattle.std.proofs.Common.{[]}
use Rattle.sample_compiler.specs.Samples.{task_text}
use Rattle.sample_compiler.proofs.RunLemmas.{whole_agrees, left_fault, none_unknown}
use Rattle.sample_compiler.proofs.compiler.left_by.Goals as goal

pub unreachable-requires : goal.unreachable-requires
unreachable-requires c = none_unknown (task_text c.args.files.now c.args.task.now) c.in-Err-Unknown.field-0-0
    c.in-Err-Unknown.field-0 (c.in-Err-Unknown.ensures.came c.args.files.now (whole_agrees c.args.files.now [])) c.in-Err-Unknown.field-0-is

pub returns-in-Err-Fault : goal.returns-in-Err-Fault
returns-in-Err-Fault c = left_fault c.args.files.now c.args.task.now c.in-Err-Fault.line c.in-Err-Fault.fault c.in-Err-Fault.field-0
    c.expand_failed.result (c.in-Err-Fault.ensures.came c.args.files.now (whole_agrees c.args.files.now []))
    c.in-Err-Fault.field-0-is c.expand_failed.ensures
