-- What holds of every legal history.
use Rattle.std.specs.Prelude.{◌≡◌, ◌≢◌, ℕ, ◌<◌, ◌≤◌, ◌↔◌, true, List, [], ◌∷◌, ◌++◌, Some, None, slice_index}
use Rattle.std.specs.List.{range_with_len}
use Rattle.slot_table.specs.declared.limits.Limits.{Limits}
use Rattle.slot_table.specs.declared.state.SlotState.{SlotState}
use Rattle.slot_table.specs.declared.mask.Mask.{Mask}
use Rattle.slot_table.specs.declared.calls.SlotCall.{SlotCall}
use Rattle.slot_table.specs.declared.calls.SlotCall.TheVariants.{Take, TakeLocal}
use Rattle.slot_table.specs.declared.calls.SlotReply.{SlotReply}
use Rattle.slot_table.specs.declared.calls.SlotReply.TheVariants.{Got, Full, Down, Local}
use Rattle.slot_table.specs.Mask.{in_mask}
use Rattle.slot_table.specs.declared.calls.CallEntry.{CallEntry}
use Rattle.slot_table.specs.Limits.{AreValid, is_local}
use Rattle.slot_table.specs.Step.{slot_step, CanStep}
use Rattle.slot_table.specs.History.{entry, Holding, has, count_at, IsLegal, may_call, state_after, outstanding, calls_by, held_by}
use Rattle.slot_table.specs.History.{jobs_drawn}

-- A state agrees with the outstanding grants: each entry's slots that are given out are its grants, never more than its limit, and
-- the same for local slots. Each grant is of an entry, a local entry is never in back-off, and no number past the last job is drawn
pub record SlotsAgree {h : ℕ} (l : Limits h) (s : SlotState h) (out : List Holding) : Type 0 where
  pub held : (i : ℕ) → i < l.count → slice_index s.held i ≡ count_at (Some i) out
  pub limit : (i : ℕ) → i < l.count → slice_index s.held i ≤ slice_index l.limit i
  pub local_held : s.local_held ≡ count_at None out
  pub local_limit : s.local_held ≤ l.local_slots
  pub entries : (a : Holding) (i : ℕ) → has a out ≡ true → a.host ≡ Some i → i < l.count
  pub until : (i : ℕ) → i < l.count → is_local l i ≡ true → slice_index s.until i ≡ 0
  pub next : s.next ≤ l.jobs

-- the state after a legal history agrees with the grants that are outstanding then
abbrev pub StateAgrees : Type 0
StateAgrees = (h : ℕ) (l : Limits h) (es : List CallEntry) → l.count ≤ h → IsLegal l es → SlotsAgree l (state_after l es) (outstanding es)

-- the jobs drawn are 0 to next - 1, in order, each once
abbrev pub DrawsInOrder : Type 0
DrawsInOrder = (h : ℕ) (l : Limits h) (es : List CallEntry) → IsLegal l es → jobs_drawn es ≡ range_with_len 0 (state_after l es).next

-- what is outstanding to a caller depends only on its own calls
abbrev pub HoldsByOwnCalls : Type 0
HoldsByOwnCalls = (caller : ℕ) (es : List CallEntry) → held_by caller (outstanding es) ≡ outstanding (calls_by caller es)

-- A call that may be made can step, and leads to one more legal history
pub record Steps {h : ℕ} (l : Limits h) (es : List CallEntry) (caller : ℕ) (call : SlotCall) : Type 0 where
  pub can : CanStep l (state_after l es) call
  pub legal : IsLegal l (es ++ entry caller call (slot_step l (state_after l es) call).1 ∷ [])

abbrev pub PermittedSteps : Type 0
PermittedSteps = (h : ℕ) (l : Limits h) (es : List CallEntry) (caller : ℕ) (call : SlotCall) → l.count ≤ h → IsLegal l es
    → may_call l caller (outstanding es) call ≡ true → Steps l es caller call

-- entry i may be taken at this moment
pub record MayBeTaken {h : ℕ} (l : Limits h) (s : SlotState h) (mask : Mask) (now i : ℕ) : Type 0 where
  pub entry : i < l.count
  pub masked : in_mask mask i ≡ true
  pub room : slice_index s.held i < slice_index l.limit i
  pub up : slice_index s.until i ≤ now

-- What the reply to a take says of the entries in the mask. One that is got may be taken. It is Down exactly if each of them is in
-- back-off. If it is Full, each of them that isn't in back-off has at least as many slots given out as its limit.
pub record TakeTells {h : ℕ} (l : Limits h) (s : SlotState h) (mask : Mask) (now : ℕ) (reply : SlotReply) : Type 0 where
  pub got : (i : ℕ) → reply ≡ Got i → MayBeTaken l s mask now i
  pub down : (reply ≡ Down) ↔ ((i : ℕ) → i < l.count → in_mask mask i ≡ true → now < slice_index s.until i)
  pub full : reply ≡ Full → (i : ℕ) → i < l.count → in_mask mask i ≡ true → slice_index s.until i ≤ now
      → slice_index l.limit i ≤ slice_index s.held i

abbrev pub TakesTell : Type 0
TakesTell = (h : ℕ) (l : Limits h) (s : SlotState h) (job : ℕ) (mask : Mask) (now : ℕ)
    → TakeTells l s mask now (slot_step l s (Take job mask now)).1

-- no take is answered Full and no local slot is refused
pub record NothingIsFull {h : ℕ} (l : Limits h) (s : SlotState h) : Type 0 where
  pub take : (job : ℕ) (mask : Mask) (now : ℕ) → (slot_step l s (Take job mask now)).1 ≢ Full
  pub local : (job : ℕ) → (slot_step l s (TakeLocal job)).1 ≡ Local true

-- with valid limits, after a legal history with nothing outstanding, nothing is full
abbrev pub FreeWhereAllIsBack : Type 0
FreeWhereAllIsBack = (h : ℕ) (l : Limits h) (es : List CallEntry) → AreValid l → IsLegal l es → outstanding es ≡ []
    → NothingIsFull l (state_after l es)
