-- The course of a job as its contract states it: by the table, with the bounds of runs and fetches and the rule on lack of memory.
use Rattle.std.specs.Prelude.{◌≡◌, ◌⊎◌, ℕ, ◌≤◌, List, [], ◌∷◌, ◌++◌, length}
use Rattle.farm_types.specs.Limits.{preprocessed_max}
use Rattle.edge_traits.specs.declared.entries.Exchange.{Exchange}
use Rattle.edge_traits.specs.Deeds.{ran, fetched, exchanged}
use Rattle.edge_traits.specs.Stations.{IsWithin, compile_bounds}
use Rattle.child_runner.specs.Runs.{preprocessor_bounds, in_place_bounds}
use Rattle.farm_machine.specs.declared.reports.End.{End}
use Rattle.farm_machine.specs.declared.reports.End.TheVariants.{Failed}
use Rattle.farm_machine.specs.declared.reports.Why5.TheVariants.{Memory}
use Rattle.farm_machine.specs.Acts.{Gives, TakesLocal, Act, Did, Met}
use Rattle.farm_machine.specs.Jobs.{Job}
use Rattle.farm_machine.specs.Table.{Finished}
use Rattle.farm_machine.specs.TableCourse.{IsOfTable}
use Rattle.job_run.specs.Gives.{IsUnhurt}

-- These acts make no run but compiles within their bounds, and fetch no more than `preprocessed_max` bytes at once.
abbrev pub AreCompiles : List Act → Type 0
AreCompiles [] = Unit {0}
AreCompiles (Did (ran x) ∷ acts) = IsWithin compile_bounds x.ran × AreCompiles acts
AreCompiles (Did (fetched x) ∷ acts) = (length x.bytes ≤ preprocessed_max) × AreCompiles acts
AreCompiles (act ∷ acts) = AreCompiles acts

-- Each run leaves no more than its bounds let it, and each fetch is within its own. A run that is the first act is the preprocessor's, and
-- one after a local slot that was taken first is that of the whole command. All others are compiles.
abbrev pub AreBounded : List Act → Type 0
AreBounded (Did (ran x) ∷ acts) = IsWithin preprocessor_bounds x.ran × AreCompiles acts
AreBounded (Met TakesLocal ∷ Did (ran x) ∷ acts) = IsWithin in_place_bounds x.ran × AreCompiles acts
AreBounded acts = AreCompiles acts

-- these acts are the front of a whole course, and not all of it
pub record IsCourseFront (j : Job) (acts : List Act) : Type 0 where
  pub next : Act
  pub rest : List Act
  pub end : End
  pub finished : Finished j (acts ++ next ∷ rest) end

-- If these acts end with an exchange and the plain give after it, nothing went wrong with the exchange.
abbrev pub EndsUnhurt : List Act → Type 0
EndsUnhurt acts = (front : List Act) (x : Exchange) (host : ℕ) → acts ≡ front ++ Did (exchanged x) ∷ Met (Gives host) ∷ [] → IsUnhurt x

-- A course of the table, or a cut one if memory ran out. An end for lack of memory hides no fault of an exchange. If the acts end with an
-- exchange and its plain give, nothing went wrong with it, or the job could have gone on after them. Each run and each fetch is within its
-- bounds.
pub record IsJobCourse (j : Job) (acts : List Act) (end : End) : Type 0 where
  pub of_table : IsOfTable j acts end
  pub hides_none : end ≡ Failed Memory → EndsUnhurt acts ⊎ IsCourseFront j acts
  pub bounded : AreBounded acts
