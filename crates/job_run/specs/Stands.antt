-- When the counts of a job's keeper don't change, and by which fetch a job fails.
use Rattle.std.specs.Prelude.{◌≡◌, ◌⊎◌, ℕ, List, []}
use Rattle.farm_types.specs.Limits.{preprocessed_max}
use Rattle.edge_traits.specs.Causes.{Still, RoseOnce, IsRemoval}
use Rattle.edge_traits.specs.Deeds.{exchanges_in}
use Rattle.edge_traits.specs.declared.faults.FetchFault.{FetchFault}
use Rattle.edge_traits.specs.Keepers.{KeeperView, FetchCause}
use Rattle.farm_machine.specs.declared.reports.Why5.TheVariants.{Put as NotPut, Memory, Fetch}
use Rattle.farm_machine.specs.declared.reports.End.{End}
use Rattle.farm_machine.specs.declared.reports.End.TheVariants.{Failed}
use Rattle.farm_machine.specs.Acts.{Act, deeds_of}
use Rattle.job_run.specs.Failures.{fetch_failure}

-- Among these acts there is no exchange. With one the keeper may fail while an object comes, and the exchange may break then.
abbrev pub HasNoExchange : List Act → Type 0
HasNoExchange acts = exchanges_in (deeds_of acts) ≡ []

-- The keeper's overruns don't change, and without an exchange its faults don't either.
pub record KeepsStill (acts : List Act) (old new : KeeperView) : Type 0 where
  pub faults : HasNoExchange acts → Still old.faults new.faults
  pub overruns : Still old.overruns new.overruns

-- The same, but for a fault of a removal.
pub record KeepsOrRemoves (acts : List Act) (old new : KeeperView) : Type 0 where
  pub faults : HasNoExchange acts → IsRemoval old.faults new.faults
  pub overruns : Still old.overruns new.overruns

-- the overruns rose by one at most
abbrev pub OneOverrunAtMost : KeeperView → KeeperView → Type 0
OneOverrunAtMost old new = Still old.overruns new.overruns ⊎ RoseOnce old.overruns new.overruns

-- If a job ends otherwise than by a failed fetch, the keeper's overruns don't change: no file was missing or too long. By a failed fetch
-- they rose by one at most. If it made no exchange and ends otherwise than by a failed fetch or a failed put, the keeper's faults don't
-- change. Exception: at an end for lack of memory they rose by one at most, as what was being written couldn't be removed. A failed fetch
-- or put may raise the faults by any number, so a body that reports it as lack of memory or makes it again can't be proved.
abbrev pub KeeperStands : End → List Act → KeeperView → KeeperView → Type 0
KeeperStands (Failed Fetch) acts old new = OneOverrunAtMost old new
KeeperStands (Failed NotPut) acts old new = Still old.overruns new.overruns
KeeperStands (Failed Memory) acts old new = KeepsOrRemoves acts old new
KeeperStands end acts old new = KeepsStill acts old new

-- A job that made no exchange and ends by a failed fetch asked for this file within `preprocessed_max` bytes: the fetch failed, or the file
-- isn't there or is longer than that.
abbrev pub FetchEnds : List ℕ → End → List Act → KeeperView → KeeperView → Type 0
FetchEnds name (Failed Fetch) acts old new =
    HasNoExchange acts → (fault : FetchFault) × (fetch_failure fault ≡ Fetch) × FetchCause name preprocessed_max old new fault
FetchEnds name end acts old new = Unit {0}
