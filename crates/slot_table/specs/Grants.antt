-- What contracts see of a grant, and of the answers that carry one.
use Rattle.std.specs.Prelude.{◌≡◌, ℕ, ◌<◌, Bool, true, List, All, Option, Some, None, if◌then◌else◌}
use Rattle.slot_table.specs.declared.limits.Limits.{Limits}
use Rattle.slot_table.specs.declared.mask.Mask.{Mask}
use Rattle.slot_table.specs.declared.state.SlotState.{SlotState}
use Rattle.slot_table.specs.Mask.{in_mask}
use Rattle.slot_table.specs.Step.{IsHeld}
use Rattle.slot_table.specs.declared.calls.CallEntry.{CallEntry}
use Rattle.slot_table.specs.History.{Holding, holding, has, jobs_drawn}
use Rattle.slot_table.specs.declared.grant.Grant.{Grant}
use Rattle.slot_table.specs.declared.grant.LocalGrant.{LocalGrant}
use Rattle.slot_table.specs.declared.grant.Take.{Take}
use Rattle.slot_table.specs.declared.grant.Take.TheVariants.{Got as GotGrant, Full as IsFull, Down as IsDown}
use Rattle.slot_table.specs.declared.calls.SlotReply.{SlotReply}
use Rattle.slot_table.specs.declared.calls.SlotReply.TheVariants.{Got, Full, Down}

abbrev pub host_of : Grant → ℕ
host_of grant = grant.host

abbrev pub job_of : Grant → ℕ
job_of grant = grant.job

abbrev pub caller_of : Grant → ℕ
caller_of grant = grant.caller

abbrev pub local_job_of : LocalGrant → ℕ
local_job_of grant = grant.job

abbrev pub local_caller_of : LocalGrant → ℕ
local_caller_of grant = grant.caller

-- the answer of a take as a reply
abbrev pub reply_of : Take → SlotReply
reply_of (GotGrant grant) = Got (host_of grant)
reply_of IsFull = Full
reply_of IsDown = Down

-- a grant that a take answers is for this caller and job
abbrev pub IsGrantFor : ℕ → ℕ → Take → Type 0
IsGrantFor caller job (GotGrant grant) = (caller_of grant ≡ caller) × (job_of grant ≡ job)
IsGrantFor caller job IsFull = Unit {0}
IsGrantFor caller job IsDown = Unit {0}

-- a grant that a take answers can be given back
abbrev pub CanGive : {h : ℕ} → Limits h → SlotState h → Take → Type 0
CanGive l s (GotGrant grant) = IsHeld l s (host_of grant)
CanGive l s IsFull = Unit {0}
CanGive l s IsDown = Unit {0}

-- a local grant that is answered is for this caller and job
abbrev pub IsLocalGrantFor : ℕ → ℕ → Option LocalGrant → Type 0
IsLocalGrantFor caller job (Some grant) = (local_caller_of grant ≡ caller) × (local_job_of grant ≡ job)
IsLocalGrantFor caller job None = Unit {0}

-- a grant that a take answers is of an entry in the mask
abbrev pub IsEntryOf : {h : ℕ} → Limits h → Mask → Take → Type 0
IsEntryOf l mask (GotGrant grant) = (host_of grant < l.count) × (in_mask mask (host_of grant) ≡ true)
IsEntryOf l mask IsFull = Unit {0}
IsEntryOf l mask IsDown = Unit {0}

-- a grant that a take answers is outstanding to this caller
abbrev pub IsOutstanding : ℕ → List Holding → Take → Type 0
IsOutstanding caller held (GotGrant grant) = has (holding caller (job_of grant) (Some (host_of grant))) held ≡ true
IsOutstanding caller held IsFull = Unit {0}
IsOutstanding caller held IsDown = Unit {0}

-- a local grant that is answered is outstanding to this caller
abbrev pub IsLocalOutstanding : ℕ → List Holding → Option LocalGrant → Type 0
IsLocalOutstanding caller held (Some grant) = has (holding caller (local_job_of grant) None) held ≡ true
IsLocalOutstanding caller held None = Unit {0}

-- what one call spends of the calls that there is room for: one if the caller is the only one, and none otherwise
abbrev pub cost : Bool → ℕ
cost alone = if alone then 1 else 0

-- the job comes after all that these calls drew
abbrev pub IsLater : List CallEntry → ℕ → Type 0
IsLater calls job = All (λ earlier. earlier < job) (jobs_drawn calls)
