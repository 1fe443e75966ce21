use Rattle.std.proofs.Common.{◌-◌, ◌≤◌, length, vec_len}
use Rattle.std.specs.Prelude.{All}
use Rattle.workload.specs.Loads.{files_of}
use Rattle.rehearsal.specs.Rehearsals.{IsFresh}
use Rattle.rehearsal.proofs.kits.kits.Given as goal

abbrev pub invariant-making : goal.invariant-making
invariant-making l = record {
  few : length l.kits.items ≤ l.count;
  fresh : All (λ kit. IsFresh (files_of l.n) kit) l.kits.items;
}

abbrev pub decreases-making : goal.decreases-making
decreases-making l = l.count - vec_len l.kits
