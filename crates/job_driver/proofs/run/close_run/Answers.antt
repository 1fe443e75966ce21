use Rattle.std.proofs.Common.{List, ◌++◌, length, map, reverse, sym, ap, ◌∙◌, subst, arith, rules}
use Rattle.std.specs.List.{flat_map}
use Rattle.std.proofs.lemmas.List.Sorted.{IsNonDecreasingBy-from_sort_by_key}
use Rattle.slot_table.specs.declared.limits.Limits.{Limits}
use Rattle.farm_machine.specs.declared.reports.Report.{Report}
use Rattle.farm_machine.specs.Devices.{devices}
use Rattle.farm_machine.specs.Usable.{job_at}
use Rattle.farm_cell.specs.Passes.{limits_of, seen_of}
use Rattle.job_driver.specs.declared.workers.Reserve.{Reserve}
use Rattle.job_driver.specs.Workers.{kit_of, reserve_of, reports_on}
use Rattle.job_driver.specs.Driven.{reports_by, JobsRan}
use Rattle.job_driver.proofs.SettingUp.{flat-length}
use Rattle.job_driver.proofs.Building.{all-back, none-out, all-reported, own-of, ran-of}
use Rattle.job_driver.proofs.run.close_run.Goals as goal

pub close-pass-requires-clause-passes : goal.close-pass-requires-clause-passes
close-pass-requires-clause-passes g c = all-back c.requires.done.done c.take_down.new.passes.items c.take_down.ensures.passes

pub close-pass-requires-clause-back : goal.close-pass-requires-clause-back
close-pass-requires-clause-back g c = none-out c.requires.done.done c.take_down.new.passes.items c.take_down.ensures.passes

pub gather-requires-clause-room : goal.gather-requires-clause-room
gather-requires-clause-room g c =
    let done = c.requires.done.done in
    let closed = c.close-pass.ensures in
    let gathered =
    ap (λ (ds : List Reserve). length (flat_map reports_on ds)) c.take_down.ensures.reserves
    ∙ flat-length reports_on (map reserve_of c.args.run.workers.items)
    ∙ all-reported done c.take_down.new.passes.items c.take_down.ensures.passes (seen_of c.close-pass.result.1) closed.legal closed.callers
    closed.each ∙ done.slots.number in
    let room = done.room.for_reports in
    omega (arith, gathered, room)

pub returns-clause-ran : goal.returns-clause-ran
returns-clause-ran g c = λ jobs config before done.
    let d = devices g.D.Dialer.shows g.S.Station.shows g.K.Keeper.shows g.C.Clock.shows g.D.Dialer.may_give g.S.Station.ran in
    let closed = c.close-pass.ensures in
    let old = map kit_of before ++ c.args.run.unused.items in
    subst (λ (l : Limits 16). JobsRan d l (job_at jobs config) config.period (length before) c.from_vec.result
    (seen_of c.close-pass.result.1) c.close-pass.result.0.state old c.append.new.self.items) (sym closed.limits)
    (subst (λ (rs : List Report). JobsRan d (limits_of c.args.run.cell) (job_at jobs config) config.period (length before) rs
    (seen_of c.close-pass.result.1) c.close-pass.result.0.state old c.append.new.self.items) (sym c.from_vec.ensures)
    (ran-of done c.take_down.new.passes.items c.take_down.ensures.passes (seen_of c.close-pass.result.1)
    closed.legal closed.callers closed.each
    c.gather.new.reports.items
    c.sort_unstable_by_key.new.self.items c.close-pass.result.0.state c.args.run.unused.items c.append.new.self.items
    (c.gather.ensures ∙ ap (λ (ds : List Reserve). flat_map reports_on (reverse ds)) c.take_down.ensures.reserves)
    c.sort_unstable_by_key.ensures.permutation
    (IsNonDecreasingBy-from_sort_by_key (λ (r : Report). r.number) _ c.sort_unstable_by_key.ensures.sorted (λ a r q k. search rules))
    closed.state
    (c.in-Ok.ensures.items ∙ ap (λ zs. zs ++ c.args.run.unused.items) c.take_down.ensures.kits)))

pub returns-clause-reports : goal.returns-clause-reports
returns-clause-reports g c = λ jobs config before done worker other below.
    let closed = c.close-pass.ensures in
    ap (reports_by worker) c.from_vec.ensures
    ∙ own-of done c.take_down.new.passes.items c.take_down.ensures.passes (seen_of c.close-pass.result.1) closed.legal closed.callers
    closed.each c.gather.new.reports.items c.sort_unstable_by_key.new.self.items
    (c.gather.ensures ∙ ap (λ (ds : List Reserve). flat_map reports_on (reverse ds)) c.take_down.ensures.reserves)
    c.sort_unstable_by_key.ensures.permutation
    (IsNonDecreasingBy-from_sort_by_key (λ (r : Report). r.number) _ c.sort_unstable_by_key.ensures.sorted (λ a r q k. search rules))
    worker other below
