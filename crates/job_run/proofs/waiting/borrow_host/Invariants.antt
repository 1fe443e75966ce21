use Rattle.std.proofs.Common.{◌≡◌, []}
use Rattle.slot_table.specs.History.{outstanding}
use Rattle.job_run.proofs.Outstanding.{Waited}
use Rattle.job_run.proofs.waiting.borrow_host.Given as goal

abbrev pub invariant-loop : goal.invariant-loop
invariant-loop g l = record {
  ready : g.G.Grants.ready l.grants;
  follows : g.G.Grants.follows l.fn.grants l.grants;
  spare : g.G.Grants.spare l.grants ≡ g.G.Grants.spare l.fn.grants;
  waited : Waited (g.G.Grants.caller_number l.fn.grants) l.number l.mask (g.G.Grants.mine l.fn.grants) (g.G.Grants.mine l.grants)
      (g.C.Clock.shows l.fn.clock).moments (g.C.Clock.shows l.clock).moments;
  none : outstanding (g.G.Grants.mine l.grants) ≡ [];
}
