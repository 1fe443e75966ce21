use Rattle.std.proofs.Common.{◌≡◌, ℕ, ◌*◌, List, [], length}
use Rattle.edge_traits.specs.Keepers.{IsIdle}
use Rattle.edge_traits.specs.Kits.{kit_view}
use Rattle.farm_machine.specs.declared.reports.End.TheVariants.{Failed}
use Rattle.farm_machine.specs.Causes.{HasEndCause}
use Rattle.farm_machine.specs.Course.{Tried, Send, no_host}
use Rattle.farm_machine.specs.Devices.{devices}
use Rattle.job_run.specs.Events.{try_events}
use Rattle.job_run.specs.Seen.{seen, job_in, StaysFree}
use Rattle.job_run.specs.Stages.{HasUntried}
use Rattle.job_run.specs.Went.{WentOn}
use Rattle.job_run.proofs.Asking.{stage}
use Rattle.job_run.proofs.sending.ask_hosts.Given as goal

abbrev pub invariant-loop-made : goal.invariant-loop-made
invariant-loop-made g l = record {
  free : StaysFree g.G.Grants.ready g.G.Grants.alone g.G.Grants.spare g.G.Grants.mine l.fn.grants l.grants
      l.fn.journal.left l.journal.left (try_events * l.made);
  follows : g.G.Grants.follows l.fn.grants l.grants;
  idle : IsIdle (g.K.Keeper.shows l.kit.keeper);
  tried : List Tried;
  made : length tried ≡ l.made;
  untried : HasUntried (g.G.Grants.limits l.fn.grants) l.mask tried;
  last : l.last ≡ no_host tried;
  cause : HasEndCause (Failed l.last) (kit_view g.D.Dialer.shows g.S.Station.shows g.K.Keeper.shows g.C.Clock.shows l.fn.kit)
      (kit_view g.D.Dialer.shows g.S.Station.shows g.K.Keeper.shows g.C.Clock.shows l.kit);
  went : (note : List ℕ) → WentOn (job_in l.sending.task.now) (g.G.Grants.limits l.fn.grants) (g.G.Grants.caller_number l.fn.grants) l.sending.task.now.number
      (seen (devices g.D.Dialer.shows g.S.Station.shows g.K.Keeper.shows g.C.Clock.shows g.D.Dialer.may_give g.S.Station.ran) l.fn.kit
      (g.G.Grants.mine l.fn.grants) l.fn.journal)
      (seen (devices g.D.Dialer.shows g.S.Station.shows g.K.Keeper.shows g.C.Clock.shows g.D.Dialer.may_give g.S.Station.ran) l.kit
      (g.G.Grants.mine l.grants) l.journal)
      (Send l.sending.request.now.source note []) (stage (job_in l.sending.task.now) l.sending.request.now.source note tried);
}
