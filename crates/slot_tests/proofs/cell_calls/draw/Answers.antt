use Rattle.std.proofs.Common.{◌∙◌}
use Rattle.slot_table.specs.declared.calls.SlotCall.TheVariants.{Draw}
use Rattle.slot_table.specs.declared.calls.SlotReply.TheVariants.{Drawn}
use Rattle.slot_table.specs.History.{entry}
use Rattle.slot_table.proofs.Rounds.{outstanding-more}
use Rattle.farm_cell.specs.Passes.{number_of, mine_of}
use Rattle.slot_tests.proofs.cell_calls.draw.Goals as goal

pub returns-clause-none : goal.returns-clause-none
returns-clause-none g c =
    let p = c.args.pass.now in
    outstanding-more (mine_of p) (mine_of c.draw.new.pass) (entry (number_of p) Draw (Drawn c.draw.result)) c.draw.ensures.call.mine
    ∙ c.requires.none
