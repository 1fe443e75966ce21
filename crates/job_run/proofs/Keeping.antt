-- Where objects are, and whether a put is pending.
use Rattle.std.proofs.Common.{◌≡◌, ◌≢◌, ℕ, Bool, true, false, ◌&&◌, not, cond, nat_eq, List, refl, sym, subst}
use Rattle.std.proofs.lemmas.Bool.{eqb-false}
use Rattle.farm_types.specs.declared.jobs.JobConfig.{JobConfig}
use Rattle.farm_types.specs.declared.ran.Outcome.{Outcome}
use Rattle.edge_traits.specs.Keepers.{KeeperView, IsIdle}
use Rattle.edge_traits.proofs.Putting.{is-there}
use Rattle.remote_transfer.specs.declared.answers.Landing.{Landing}
use Rattle.remote_transfer.specs.declared.answers.Landing.TheVariants as landing
use Rattle.remote_transfer.specs.Landings.{IsLanding}
use Rattle.job_run.specs.declared.step.Compiled.{Compiled}
use Rattle.job_run.specs.declared.step.Compiled.TheVariants.{ByHost, OnThisMachine}
use Rattle.job_run.specs.declared.step.Step.{Step}
use Rattle.job_run.specs.declared.step.Step.TheVariants as step
use Rattle.job_run.specs.Stages.{HasObject, CanDeliver, StepIdle, step_after}

-- what follows from a whole reply
pub whole-idle : (config : JobConfig) (host : ℕ) (o : Outcome) (where_is : Landing) (path object : List ℕ) (before : ℕ)
    (keeper : KeeperView) (s : Step)
    → s ≡ step_after config host o where_is → IsLanding where_is o path object before keeper → StepIdle s keeper
whole-idle config host o where_is path object before keeper s is lands =
    subst (λ (t : Step). StepIdle t keeper) (sym is) (go where_is lands)
  where
    other : (o.status ≢ 0 → IsIdle keeper)
        → StepIdle (cond (not (nat_eq o.status 0) && (config.fallback && config.retry)) step.Here (step.Compiled (ByHost host o))) keeper
    other idle = each (nat_eq o.status 0) refl (config.fallback && config.retry)
      where
        each : (done : Bool) → nat_eq o.status 0 ≡ done → (again : Bool)
            → StepIdle (cond (not done && again) step.Here (step.Compiled (ByHost host o))) keeper
        each true e again = tt
        each false e true = idle (eqb-false o.status 0 e)
        each false e false = tt

    go : (w : Landing) → IsLanding w o path object before keeper → StepIdle (step_after config host o w) keeper
    go landing.Pending h = other (λ failed. absurd (failed h.0))
    go landing.Lost h = h.1
    go landing.Nothing h = other (λ failed. h.1)

pub idle-step : (s : Step) (keeper : KeeperView) → IsIdle keeper → StepIdle s keeper
idle-step step.Here keeper idle = idle
idle-step (step.Compiled made) keeper idle = tt
idle-step (step.Failed why) keeper idle = idle

-- an object that is where it is to be can be delivered
pub can-deliver : (made : Compiled) (path object : List ℕ) (keeper : KeeperView) → HasObject made path object keeper → CanDeliver made keeper
can-deliver (ByHost host o) path object keeper held = (λ well. is-there keeper path object (held.pending well), held.idle)
can-deliver (OnThisMachine o) path object keeper held = held.1
