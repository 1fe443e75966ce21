-- The calls of a wait for a slot.
use Rattle.std.specs.Prelude.{◌≡◌, ℕ, ◌+◌, ◌<◌, ◌≤◌, Bool, true, false, List, [], ◌∷◌, ◌++◌, map, replicate, Option, Some, None}
use Rattle.slot_table.specs.declared.grant.Grant.{Grant}
use Rattle.slot_table.specs.declared.limits.Limits.{Limits}
use Rattle.slot_table.specs.declared.mask.Mask.{Mask}
use Rattle.slot_table.specs.declared.calls.CallEntry.{CallEntry}
use Rattle.slot_table.specs.declared.calls.SlotCall.TheVariants.{Take, TakeLocal}
use Rattle.slot_table.specs.declared.calls.SlotReply.{SlotReply}
use Rattle.slot_table.specs.declared.calls.SlotReply.TheVariants.{Got, Full, Down, Local}
use Rattle.slot_table.specs.Grants.{cost, host_of, job_of}
use Rattle.slot_table.specs.History.{entry, Holding, holding, outstanding}
use Rattle.slot_table.specs.Mask.{in_mask}

abbrev pub refused_local : ℕ → ℕ → CallEntry
refused_local caller job = entry caller (TakeLocal job) (Local false)

-- a local slot, after that many refused takes
abbrev pub borrowed : ℕ → ℕ → ℕ → List CallEntry
borrowed caller job refused = replicate refused (refused_local caller job) ++ entry caller (TakeLocal job) (Local true) ∷ []

abbrev pub refused_take : ℕ → ℕ → Mask → ℕ → CallEntry
refused_take caller job mask now = entry caller (Take job mask now) Full

-- an answer to a take, after refused takes at these moments
abbrev pub asked : ℕ → ℕ → Mask → List ℕ → ℕ → SlotReply → List CallEntry
asked caller job mask refused now reply = map (refused_take caller job mask) refused ++ entry caller (Take job mask now) reply ∷ []

-- the answer by the slot that was got, if one was
abbrev pub answered : Option Grant → SlotReply
answered None = Down
answered (Some grant) = Got (host_of grant)

-- what is outstanding then
abbrev pub held_then : ℕ → ℕ → Option Grant → List Holding
held_then caller job None = []
held_then caller job (Some grant) = holding caller job (Some (host_of grant)) ∷ []

-- the slot is for this job, and of an entry of the mask
pub record IsEntry {h : ℕ} (l : Limits h) (number : ℕ) (mask : Mask) (grant : Grant) : Type 0 where
  pub job : job_of grant ≡ number
  pub entry : host_of grant < l.count
  pub masked : in_mask mask (host_of grant) ≡ true

-- The slots are ready and none is held, and there is room for a call.
pub record CanWait {G : Type 0} (is_ready : G → Type 0) (alone : Bool) (spare_of : G → ℕ) (mine_of : G → List CallEntry) (grants : G) :
    Type 0 where
  pub ready : is_ready grants
  pub spare : cost alone ≤ spare_of grants
  pub none : outstanding (mine_of grants) ≡ []

-- They are ready, follow what they were, and have room for one call less.
pub record HasWaited {G : Type 0} (is_ready : G → Type 0) (alone : Bool) (spare_of : G → ℕ) (follows_from : G → G → Type 0) (old new : G) :
    Type 0 where
  pub ready : is_ready new
  pub follows : follows_from old new
  pub spare : spare_of new + cost alone ≡ spare_of old
