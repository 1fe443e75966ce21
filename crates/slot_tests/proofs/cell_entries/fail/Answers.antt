use Rattle.std.proofs.Common.{Some, ◌∙◌}
use Rattle.slot_table.specs.declared.calls.SlotCall.TheVariants.{GiveBad}
use Rattle.slot_table.specs.declared.calls.SlotReply.TheVariants.{Given}
use Rattle.slot_table.specs.Grants.{host_of, job_of}
use Rattle.slot_table.specs.History.{entry, outstanding}
use Rattle.slot_table.proofs.Rounds.{outstanding-more}
use Rattle.farm_cell.specs.Passes.{number_of, mine_of}
use Rattle.slot_tests.proofs.Single.{has-single, without-single}
use Rattle.slot_tests.proofs.cell_entries.fail.Goals as goal

pub give_bad-requires-clause-out : goal.give_bad-requires-clause-out
give_bad-requires-clause-out g c =
    let p = c.args.pass.now in
    has-single (number_of p) c.args._caller (job_of c.args.grant) (Some (host_of c.args.grant)) (outstanding (mine_of p))
    c.requires.pass.number c.requires.one

pub returns-clause-none : goal.returns-clause-none
returns-clause-none g c =
    let p = c.args.pass.now in
    outstanding-more (mine_of p) (mine_of c.give_bad.new.pass)
    (entry (number_of p) (GiveBad (host_of c.args.grant) (job_of c.args.grant) c.args.until) Given) c.give_bad.ensures.call.mine
    ∙ without-single (number_of p) c.args._caller (job_of c.args.grant) (Some (host_of c.args.grant)) (outstanding (mine_of p))
    c.requires.pass.number c.requires.one
