-- What contracts see of the slots of one thread.
use Rattle.std.specs.Prelude.{◌≡◌, ℕ, List}
use Rattle.slot_table.specs.declared.limits.Limits.{Limits}
use Rattle.slot_table.specs.declared.state.SlotState.{SlotState}
use Rattle.slot_table.specs.declared.calls.CallEntry.{CallEntry}
use Rattle.slot_table.specs.History.{IsLegal, state_after, calls_by}

-- the limits, the calls so far with their replies, and how many more there is room for
pub record Log (h : ℕ) : Type 0 where
  pub limits : Limits h
  pub mine : List CallEntry
  pub spare : ℕ

-- The calls are caller 0's, they are a legal history, and the state is the one that it leaves
pub record IsKept {h : ℕ} (l : Limits h) (es : List CallEntry) (s : SlotState h) : Type 0 where
  pub legal : IsLegal l es
  pub state : s ≡ state_after l es
  pub own : calls_by 0 es ≡ es
