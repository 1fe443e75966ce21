use Rattle.std.proofs.Common.{length, ap, ◌∙◌}
use Rattle.job_list.proofs.Listing.{numbers_long, list_answer, share_answer}
use Rattle.job_list.specs.Texts.{job_lines}
use Rattle.job_list.proofs.list.read_list.Goals as goal

pub check_outputs-requires-clause-numbers : goal.check_outputs-requires-clause-numbers
check_outputs-requires-clause-numbers c =
    let e = c.in_ok-listed.ensures in
    ap length e.numbers ∙ numbers_long (job_lines c.args.text.now) c.in_ok-listed.listed.jobs e.jobs

pub returns-clause-list : goal.returns-clause-list
returns-clause-list c =
    let e = c.in_ok-listed.ensures in
    list_answer c.check_outputs.result c.args.text.now c.in_ok-listed.listed e.short e.jobs e.some e.few
    c.check_outputs.ensures.jobs c.check_outputs.ensures.apart

pub returns-clause-fault : goal.returns-clause-fault
returns-clause-fault c =
    let e = c.in_ok-listed.ensures in
    share_answer c.check_outputs.result c.args.text.now c.in_ok-listed.listed e.short e.jobs e.few e.numbers c.check_outputs.ensures.fault
