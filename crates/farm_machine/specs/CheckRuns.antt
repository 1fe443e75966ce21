-- What the check of a given run answers.
use Rattle.std.specs.Prelude.{◌≡◌, ℕ, ◌+◌, ◌<◌, List, length, take, slice_get, Some}
use Rattle.slot_table.specs.declared.limits.Limits.{Limits}
use Rattle.slot_table.specs.declared.calls.CallEntry.{CallEntry}
use Rattle.slot_table.specs.History.{IsLegal}
use Rattle.farm_machine.specs.declared.reports.Report.{Report}
use Rattle.farm_machine.specs.Machine.{Wants}
use Rattle.farm_machine.specs.Weave.{Reports, no_progress, last_progress, AllFollow, AllDrawn, IsUsedUp}

-- the report at each place is that of the job with this number
abbrev pub AreNumbered : List Report → Type 0
AreNumbered reports = (place : ℕ) (report : Report) → slice_get reports place ≡ Some report → report.number ≡ place

-- these calls are a legal history, and each of them follows those before it
pub record AreSound {h : ℕ} (l : Limits h) (r : Reports) (wants : Wants) (calls : List CallEntry) : Type 0 where
  pub legal : IsLegal l calls
  pub follow : AllFollow r wants (no_progress r) calls

-- the calls before this place are sound, and those up to it aren't
pub record BreaksAt {h : ℕ} (l : Limits h) (r : Reports) (wants : Wants) (calls : List CallEntry) (place : ℕ) : Type 0 where
  pub below : place < length calls
  pub before : AreSound l r wants (take place calls)
  pub broken : ¬ (AreSound l r wants (take (place + 1) calls))

-- no slot event of a job below this number is left over
abbrev pub AreUsedUp : ℕ → Reports → List CallEntry → Type 0
AreUsedUp jobs r calls = (j : ℕ) → j < jobs → IsUsedUp (last_progress (no_progress r) calls) j

-- all calls are sound, and yet a job wasn't drawn or a slot event of one is left over
pub record FallsShort {h : ℕ} (l : Limits h) (r : Reports) (wants : Wants) (calls : List CallEntry) : Type 0 where
  pub sound : AreSound l r wants calls
  pub short : ¬ (AllDrawn l calls × AreUsedUp l.jobs r calls)
