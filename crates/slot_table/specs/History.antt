-- Lists of calls with their replies: which of them are legal, what they leave, and which grants are outstanding.
use Rattle.std.specs.Prelude.{◌≡◌, ℕ, Bool, true, false, ◌&&◌, not, cond, List, [], ◌∷◌, Option, Some, None, nat_eq, length, filter}
use Rattle.std.specs.List.{list_any, filter_map}
use Rattle.slot_table.specs.declared.limits.Limits.{Limits}
use Rattle.slot_table.specs.declared.state.SlotState.{SlotState}
use Rattle.slot_table.specs.declared.calls.SlotCall.{SlotCall}
use Rattle.slot_table.specs.declared.calls.SlotCall.TheVariants.{Draw, Take, Give, GiveBad, TakeLocal, GiveLocal}
use Rattle.slot_table.specs.declared.calls.SlotReply.{SlotReply}
use Rattle.slot_table.specs.declared.calls.SlotReply.TheVariants.{Drawn, Got, Local}
use Rattle.slot_table.specs.declared.calls.CallEntry.{CallEntry}
use Rattle.slot_table.specs.Limits.{is_local}
use Rattle.slot_table.specs.Step.{opening, slot_step}

-- one call of a caller, with its reply
abbrev pub entry : ℕ → SlotCall → SlotReply → CallEntry
entry caller call reply = record { caller = caller; call = call; reply = reply }

-- a grant that is outstanding: its caller, its job and its host. A local slot has no host
pub record Holding : Type 0 where
  pub caller : ℕ
  pub job : ℕ
  pub host : Option ℕ

abbrev pub holding : ℕ → ℕ → Option ℕ → Holding
holding caller job host = record { caller = caller; job = job; host = host }

abbrev pub host_eq : Option ℕ → Option ℕ → Bool
host_eq (Some a) (Some b) = nat_eq a b
host_eq (Some a) None = false
host_eq None (Some b) = false
host_eq None None = true

abbrev pub holding_eq : Holding → Holding → Bool
holding_eq a b = nat_eq a.caller b.caller && (nat_eq a.job b.job && host_eq a.host b.host)

-- whether a grant like this one is in the list
abbrev pub has : Holding → List Holding → Bool
has a held = list_any (holding_eq a) held

-- the list without the first grant that is like this one
abbrev pub without : Holding → List Holding → List Holding
without a [] = []
without a (x ∷ xs) = cond (holding_eq a x) xs (x ∷ without a xs)

-- what a call does to the outstanding grants of its caller
pub data Change : Type 0 where
  Keeps : Change
  Takes : ℕ → Option ℕ → Change
  Gives : ℕ → Option ℕ → Change

-- a slot is taken if the reply grants one; a give gives back, whatever its reply
abbrev pub change : SlotCall → SlotReply → Change
change (Take job mask now) (Got host) = Takes job (Some host)
change (TakeLocal job) (Local true) = Takes job None
change (Give host job) reply = Gives job (Some host)
change (GiveBad host job until) reply = Gives job (Some host)
change (GiveLocal job) reply = Gives job None
change call reply = Keeps

abbrev pub changed : ℕ → List Holding → Change → List Holding
changed caller held Keeps = held
changed caller held (Takes job host) = holding caller job host ∷ held
changed caller held (Gives job host) = without (holding caller job host) held

-- the outstanding grants after one more call
abbrev pub outstanding_then : List Holding → CallEntry → List Holding
outstanding_then held e = changed e.caller held (change e.call e.reply)

-- the outstanding grants after these calls, from some that already were
abbrev pub outstanding_from : List Holding → List CallEntry → List Holding
outstanding_from held [] = held
outstanding_from held (e ∷ es) = outstanding_from (outstanding_then held e) es

-- the outstanding grants after these calls
abbrev pub outstanding : List CallEntry → List Holding
outstanding es = outstanding_from [] es

-- the state after these calls, from this one
abbrev pub state_from : {h : ℕ} → Limits h → SlotState h → List CallEntry → SlotState h
state_from l s [] = s
state_from l s (e ∷ es) = state_from l (slot_step l s e.call).0 es

-- the state after these calls
abbrev pub state_after : {h : ℕ} → Limits h → List CallEntry → SlotState h
state_after {h} l es = state_from l (opening h) es

-- a caller may make a call: what it gives back is outstanding to it, and no local entry gets a back-off
abbrev pub may_call : {h : ℕ} → Limits h → ℕ → List Holding → SlotCall → Bool
may_call l caller held Draw = true
may_call l caller held (Take job mask now) = true
may_call l caller held (Give host job) = has (holding caller job (Some host)) held
may_call l caller held (GiveBad host job until) = has (holding caller job (Some host)) held && not (is_local l host)
may_call l caller held (TakeLocal job) = true
may_call l caller held (GiveLocal job) = has (holding caller job None) held

-- a call that may be made in this state, with the reply that it has there
pub record IsNext {h : ℕ} (l : Limits h) (s : SlotState h) (held : List Holding) (e : CallEntry) : Type 0 where
  pub reply : e.reply ≡ (slot_step l s e.call).1
  pub may : may_call l e.caller held e.call ≡ true

-- each call may be made and has its reply, from this state with these outstanding grants on
abbrev pub IsLegalFrom : {h : ℕ} → Limits h → SlotState h → List Holding → List CallEntry → Type 0
IsLegalFrom l s held [] = Unit {0}
IsLegalFrom l s held (e ∷ es) = IsNext l s held e × IsLegalFrom l (slot_step l s e.call).0 (outstanding_then held e) es

-- a legal history: each call may be made and has the reply that the slots of one thread give there, from the opening state on
abbrev pub IsLegal : {h : ℕ} → Limits h → List CallEntry → Type 0
IsLegal {h} l es = IsLegalFrom l (opening h) [] es

-- the calls of one caller
abbrev pub calls_by : ℕ → List CallEntry → List CallEntry
calls_by caller es = filter (λ e. nat_eq e.caller caller) es

-- the outstanding grants of one caller
abbrev pub held_by : ℕ → List Holding → List Holding
held_by caller held = filter (λ a. nat_eq a.caller caller) held

-- how many of the grants are of this host, or local if there is none
abbrev pub count_at : Option ℕ → List Holding → ℕ
count_at host held = length (filter (λ a. host_eq a.host host) held)

-- the job that a call drew
abbrev pub job_drawn : SlotCall → SlotReply → Option ℕ
job_drawn Draw (Drawn job) = job
job_drawn call reply = None

-- the jobs that were drawn, in order
abbrev pub jobs_drawn : List CallEntry → List ℕ
jobs_drawn es = filter_map (λ e. job_drawn e.call e.reply) es
