-- The walk of a job's acts, with each run and each fetch within its bounds. Lack of memory hides no fault of an exchange.
use Rattle.std.specs.Prelude.{◌≡◌, ◌≤◌, List, [], ◌∷◌, length}
use Rattle.farm_types.specs.Limits.{preprocessed_max}
use Rattle.edge_traits.specs.Deeds.{ran, fetched}
use Rattle.edge_traits.specs.Stations.{IsWithin, compile_bounds}
use Rattle.child_runner.specs.Runs.{preprocessor_bounds, in_place_bounds}
use Rattle.farm_machine.specs.declared.reports.End.TheVariants.{Failed}
use Rattle.farm_machine.specs.declared.reports.Why5.TheVariants.{Memory}
use Rattle.farm_machine.specs.Acts.{Gives, Act, Did, Met}
use Rattle.farm_machine.specs.Course.{At, Start, LentInPlace, Sent, Over, Next}
use Rattle.farm_machine.specs.Jobs.{Job}
use Rattle.job_run.specs.Gives.{IsUnhurt}

-- What an act keeps to that leads from one place to another. By the job's place, a run leaves no more than a preprocessor, a command in
-- place or a compile may. A fetched source has at most `preprocessed_max` bytes. If memory ran out in place of a host's answer, nothing had
-- gone wrong with the exchange.
abbrev pub IsStrict : Act → At → At → Type 0
IsStrict (Did (ran x)) Start to = IsWithin preprocessor_bounds x.ran
IsStrict (Did (ran x)) LentInPlace to = IsWithin in_place_bounds x.ran
IsStrict (Did (ran x)) at to = IsWithin compile_bounds x.ran
IsStrict (Did (fetched x)) at to = length x.bytes ≤ preprocessed_max
IsStrict (Met (Gives k)) (Sent host source note tried x) (Over (Failed Memory)) = IsUnhurt x
IsStrict act at to = Unit {0}

-- these acts lead from one place to another so
abbrev pub StrictReach : Job → At → List Act → At → Type 0
StrictReach j at [] to = at ≡ to
StrictReach j at (act ∷ acts) to = (next : At) × Next j at act next × IsStrict act at next × StrictReach j next acts to
