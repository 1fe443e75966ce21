-- What contracts see of the desk, and what is true of it always.
use Rattle.std.specs.Prelude.{◌≡◌, ℕ, ◌+◌, ◌≤◌, List, map, length, filter}
use Rattle.slot_table.specs.declared.calls.CallEntry.{CallEntry}
use Rattle.slot_table.specs.History.{IsLegal, outstanding, state_after}
use Rattle.slot_desk.specs.declared.event.Loan.{Loan}
use Rattle.slot_desk.specs.declared.event.Waiter.{Waiter}
use Rattle.slot_desk.specs.Desk.{Rules, State, is_of, waits_as}
use Rattle.slot_desk.specs.Runs.{holding_of}

-- the rules and the state
pub record Shown (h : ℕ) : Type 0 where
  pub rules : Rules h
  pub state : State h

-- how often a caller waits
abbrev pub waits : ℕ → List Waiter → ℕ
waits caller waiting = length (filter (waits_as caller) waiting)

-- how many loans a caller has
abbrev pub loans : ℕ → List Loan → ℕ
loans caller lent = length (filter (is_of caller) lent)

-- The slots are what a legal history of their calls leaves, after which exactly the loans are outstanding; and each caller waits once
-- or has one loan at most
pub record IsKept {h : ℕ} (r : Rules h) (v : State h) : Type 0 where
  pub calls : List CallEntry
  pub legal : IsLegal r.limits calls
  pub slots : v.slots ≡ state_after r.limits calls
  pub out : outstanding calls ≡ map holding_of v.lent
  pub apart : (caller : ℕ) → waits caller v.waiting + loans caller v.lent ≤ 1
