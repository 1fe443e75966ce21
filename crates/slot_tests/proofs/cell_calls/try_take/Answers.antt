use Rattle.std.proofs.Common.{ℕ, List, [], ◌∷◌, Some, sym, ap, ◌∙◌}
use Rattle.slot_table.specs.declared.grant.Take.{Take}
use Rattle.slot_table.specs.declared.calls.SlotCall.TheVariants.{Take as AskTake}
use Rattle.slot_table.specs.Grants.{host_of, reply_of}
use Rattle.slot_table.specs.History.{Holding, entry, holding, outstanding, outstanding_then}
use Rattle.slot_table.proofs.Rounds.{outstanding-more}
use Rattle.farm_cell.specs.Passes.{number_of, mine_of}
use Rattle.slot_tests.proofs.cell_calls.try_take.Goals as goal

pub returns-in-Got-clause-one : goal.returns-in-Got-clause-one
returns-in-Got-clause-one g c =
    let p = c.args.pass.now in
    let n = number_of p in
    let call = AskTake c.args.job c.args.mask 5 in
    let host = host_of c.in-Got.grant in
    outstanding-more (mine_of p) (mine_of c.take.new.pass) (entry n call (reply_of c.take.result)) c.take.ensures.call.mine
    ∙ ap (λ (t : Take). outstanding_then (outstanding (mine_of p)) (entry n call (reply_of t))) c.in-Got.is
    ∙ ap (λ (l : List Holding). holding n c.args.job (Some host) ∷ l) c.requires.none
    ∙ ap (λ (m : ℕ). holding m c.args.job (Some host) ∷ []) c.requires.pass.number
    ∙ ap (λ (j : ℕ). holding c.args._caller j (Some host) ∷ []) (sym c.in-Got.ensures.grant.1)

pub returns-in-Full-clause-none : goal.returns-in-Full-clause-none
returns-in-Full-clause-none g c =
    let p = c.args.pass.now in
    let n = number_of p in
    let call = AskTake c.args.job c.args.mask 5 in
    outstanding-more (mine_of p) (mine_of c.take.new.pass) (entry n call (reply_of c.take.result)) c.take.ensures.call.mine
    ∙ ap (λ (t : Take). outstanding_then (outstanding (mine_of p)) (entry n call (reply_of t))) c.in-Full.is ∙ c.requires.none
