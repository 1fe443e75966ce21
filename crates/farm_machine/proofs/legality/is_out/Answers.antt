use Rattle.std.proofs.Common.{List, take, nat_lt, sym, ap, ◌∙◌, arith, [], ◌∷◌}
use Rattle.std.proofs.lemmas.List.{take_more, take_all}
use Rattle.slot_table.specs.declared.calls.CallEntry.{CallEntry}
use Rattle.slot_table.specs.History.{holding, outstanding}
use Rattle.slot_table.proofs.Histories.{outstanding_from-append}
use Rattle.farm_machine.specs.Farm.{times}
use Rattle.farm_machine.proofs.Outs.{has-times}
use Rattle.farm_machine.proofs.legality.is_out.Goals as goal

pub loop-entry-preserved : goal.loop-entry-preserved
loop-entry-preserved c =
    let before = take c.loop-entry.entry-index c.args.before.now in
    let x = holding c.args.caller c.args.job c.args.host in (
      (let most = c.count_then-count.ensures.most in let inv = c.loop-entry.invariant.0 in omega (arith, most, inv)),
      ap (λ (es : List CallEntry). times x (outstanding es)) (take_more c.args.before.now c.loop-entry.entry-index _ c.loop-entry-test.true)
          ∙ ap (times x) (outstanding_from-append [] before (_ ∷ []))
          ∙ c.count_then-count.ensures.times (outstanding before) c.loop-entry.invariant.1,
    )

pub returns : goal.returns
returns c =
    let x = holding c.args.caller c.args.job c.args.host in
    ap (nat_lt 0) (sym c.loop-entry.invariant.1)
    ∙ ap (λ (es : List CallEntry). nat_lt 0 (times x (outstanding es)))
    (take_all c.loop-entry.entry-index c.args.before.now c.loop-entry-test.false) ∙ sym (has-times x (outstanding c.args.before.now))
