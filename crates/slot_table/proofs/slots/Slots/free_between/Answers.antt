use Rattle.std.proofs.Common.{◌∙◌, sym}
use Rattle.slot_table.specs.Step.{is_free}
use Rattle.slot_table.proofs.Searches.{find-hit, find-miss}
use Rattle.slot_table.proofs.slots.Slots.free_between.Goals as goal

pub returns-then-is_free-clause-first : goal.returns-then-is_free-clause-first
returns-then-is_free-clause-first g c =
    let p = is_free c.args.self.now.limits c.args.self.now.state c.args.mask c.args.now in
    sym (c.loop-host.invariant
    ∙ find-hit p c.loop-host.host c.args.to c.loop-host-test.true (sym c.is_free.ensures ∙ c.if-is_free.true))

pub loop-host-preserved : goal.loop-host-preserved
loop-host-preserved g c =
    let p = is_free c.args.self.now.limits c.args.self.now.state c.args.mask c.args.now in
    c.loop-host.invariant ∙ find-miss p c.loop-host.host c.args.to c.loop-host-test.true (sym c.is_free.ensures ∙ c.if-is_free.false)
