-- What a give of a host's slot keeps to.
use Rattle.std.proofs.Common.{ℕ, ◌+◌, Bool, true, false, List, length}
use Rattle.std.specs.Prelude.{cond, nat_lt}
use Rattle.edge_traits.specs.declared.cause.Cause.{Cause}
use Rattle.edge_traits.specs.declared.entries.Exchange.{Exchange}
use Rattle.farm_machine.specs.declared.reports.End.TheVariants.{Failed}
use Rattle.farm_machine.specs.declared.reports.Why5.TheVariants.{Broke, Memory}
use Rattle.farm_machine.specs.Acts.{SlotEvent, Gives, Met}
use Rattle.farm_machine.specs.Course.{At, Send, Sent, Locally, Over, Tried, tried_too, or_here, after_broken}
use Rattle.farm_machine.specs.Jobs.{Job}
use Rattle.job_run.specs.Gives.{IsUnhurt}
use Rattle.job_run.specs.Strict.{IsStrict}

-- a job that is to be sent has no exchange, and makes no run
pub strict-send : (x : SlotEvent) (source note : List ℕ) (tried : List Tried) (to : At) → IsStrict (Met x) (Send source note tried) to
strict-send (Gives k) source note tried to = tt
strict-send x source note tried to = tt

-- nothing is hidden where nothing went wrong with the exchange
pub strict-unhurt : (k host : ℕ) (source note : List ℕ) (tried : List Tried) (x : Exchange) (to : At) → IsUnhurt x
    → IsStrict (Met (Gives k)) (Sent host source note tried x) to
strict-unhurt k host source note tried x (Over (Failed Memory)) unhurt = unhurt
strict-unhurt k host source note tried x to unhurt = tt

-- nor where the job goes on as after a broken exchange
pub strict-broken : (j : Job) (k host : ℕ) (cause : Cause) (source note : List ℕ) (tried : List Tried) (x : Exchange)
    → IsStrict (Met (Gives k)) (Sent host source note tried x) (after_broken j host cause source note tried)
strict-broken j k host cause source note tried x = go (nat_lt (length tried + 1) j.config.tries)
  where
    here : (b : Bool)
        → IsStrict (Met (Gives k)) (Sent host source note tried x) (cond b (Locally source note) (Over (Failed (Broke host cause))))
    here true = tt
    here false = tt

    go : (b : Bool)
        → IsStrict (Met (Gives k)) (Sent host source note tried x)
        (cond b (Send source note (tried_too host cause tried)) (or_here j source note (Failed (Broke host cause))))
    go true = tt
    go false = here j.config.fallback
