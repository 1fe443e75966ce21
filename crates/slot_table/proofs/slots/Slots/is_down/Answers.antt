use Rattle.std.proofs.Common.{◌∙◌, sym}
use Rattle.slot_table.specs.Step.{is_ruled_out}
use Rattle.slot_table.proofs.Searches.{all-hit, all-miss}
use Rattle.slot_table.proofs.slots.Slots.is_down.Goals as goal

pub returns-then-not-is_ruled_out : goal.returns-then-not-is_ruled_out
returns-then-not-is_ruled_out g c =
    let p = is_ruled_out c.args.self.now.state c.args.mask c.args.now in
    sym (c.loop-host.invariant ∙ all-miss p c.loop-host.host c.args.self.now.limits.count c.loop-host-test.true
    (sym c.is_ruled_out.ensures ∙ c.if-not-is_ruled_out.true))

pub loop-host-preserved : goal.loop-host-preserved
loop-host-preserved g c =
    let p = is_ruled_out c.args.self.now.state c.args.mask c.args.now in
    c.loop-host.invariant ∙ all-hit p c.loop-host.host c.args.self.now.limits.count c.loop-host-test.true
    (sym c.is_ruled_out.ensures ∙ c.if-not-is_ruled_out.false)
