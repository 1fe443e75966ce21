use Rattle.std.proofs.Common.{◌≡◌, ◌+◌, ◌*◌, ◌≤◌, true, [], length, vec_capacity}
use Rattle.edge_traits.specs.Keepers.{IsIdle}
use Rattle.edge_traits.specs.Kits.{kit_view}
use Rattle.edge_traits.specs.Told.{SameRelation, SameRelation3}
use Rattle.slot_table.specs.History.{outstanding}
use Rattle.farm_machine.specs.Usable.{job_at}
use Rattle.job_run.specs.Events.{events_max}
use Rattle.job_driver.specs.Marks.{HasMarked}
use Rattle.job_driver.proofs.Working.{WorksTo, AreFew, AreWithin, AreCounted}
use Rattle.job_driver.proofs.worker.work.Given as goal

abbrev pub invariant-working : goal.invariant-working
invariant-working g l = record {
  works : WorksTo (g.D.Dialer.may_give l.fn.kit.dialer) (g.S.Station.ran l.fn.kit.station) (job_at l.plan.jobs.now l.plan.config.now)
      l.plan.config.now.period (g.G.Grants.limits l.fn.grants) (g.G.Grants.caller_number l.fn.grants) l.reserve.reports.items
      (g.G.Grants.mine l.grants) (kit_view g.D.Dialer.shows g.S.Station.shows g.K.Keeper.shows g.C.Clock.shows l.fn.kit)
      (kit_view g.D.Dialer.shows g.S.Station.shows g.K.Keeper.shows g.C.Clock.shows l.kit) l.places;
  few : AreFew l.reserve.reports.items;
  within : AreWithin (length l.plan.jobs.now) l.reserve.reports.items;
  counted : AreCounted l.places l.reserve.reports.items;
  rooms : length l.plan.jobs.now ≤ length l.reserve.rooms.items + length l.reserve.reports.items;
  room : length l.plan.jobs.now ≤ vec_capacity l.reserve.reports;
  spare : g.G.Grants.alone ≡ true → (events_max + 1) * length l.plan.jobs.now + 1
      ≤ g.G.Grants.spare l.grants + (events_max + 1) * length l.reserve.reports.items;
  pending : IsIdle (g.K.Keeper.shows l.kit.keeper);
  back : outstanding (g.G.Grants.mine l.grants) ≡ [];
  ready : g.G.Grants.ready l.grants;
  follows : g.G.Grants.follows l.fn.grants l.grants;
  marked : HasMarked g.M.Marks.board g.M.Marks.all g.M.Marks.rows l.fn.marks l.marks l.reserve.reports.items;
  peers : SameRelation (g.D.Dialer.may_give l.fn.kit.dialer) (g.D.Dialer.may_give l.kit.dialer);
  programs : SameRelation3 (g.S.Station.ran l.fn.kit.station) (g.S.Station.ran l.kit.station);
}
