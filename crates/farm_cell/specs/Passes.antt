-- What contracts see of a cell and of its passes.
use Rattle.std.specs.Prelude.{◌≡◌, ℕ, List, [], ◌∷◌, ◌++◌, Some}
use Rattle.atomic_table.specs.Seated.{TableId}
use Rattle.crossbeam_utils.specs.Seq.{cell_view}
use Rattle.slot_table.specs.declared.limits.Limits.{Limits}
use Rattle.slot_table.specs.declared.state.SlotState.{SlotState}
use Rattle.slot_table.specs.declared.calls.SlotCall.{SlotCall}
use Rattle.slot_table.specs.declared.calls.SlotReply.{SlotReply}
use Rattle.slot_table.specs.declared.calls.CallEntry.{CallEntry}
use Rattle.slot_table.specs.Step.{slot_step}
use Rattle.slot_table.specs.History.{entry, IsLegal, state_after, calls_by}
use Rattle.farm_cell.specs.declared.rule.View.{View}
use Rattle.farm_cell.specs.declared.cell.Cell.{Cell}
use Rattle.farm_cell.specs.declared.cell.Pass.{Pass}
use Rattle.farm_cell.specs.Rule.{IsSingle}

abbrev pub limits_of : Cell 16 34 → Limits 16
limits_of c = c.limits

-- how many callers it has
abbrev pub callers_of : Cell 16 34 → ℕ
callers_of c = c.callers

-- the cell's name, which distinguishes it from every other cell
abbrev pub name_of : Cell 16 34 → TableId
name_of c = c.words.table.shared.table_id

-- what the rule of the cell knows of the pass
abbrev pub view_of : Pass → View 16
view_of p = cell_view p.seat

-- the caller's number
abbrev pub number_of : Pass → ℕ
number_of p = p.number

-- the calls that the pass has seen, with their replies: those of all callers, in the one order of the cell
abbrev pub seen_of : Pass → List CallEntry
seen_of p = (view_of p).seen

-- the caller's own calls, with their replies
abbrev pub mine_of : Pass → List CallEntry
mine_of p = (view_of p).mine

-- The pass is that of one caller of the cell of this name, with these limits and that many callers. Its own calls are the caller's
pub record IsPassAt (name : TableId) (l : Limits 16) (callers : ℕ) (p : Pass) : Type 0 where
  pub cell : p.seat.table_id ≡ name
  pub limits : (view_of p).limits ≡ Some l
  pub single : IsSingle (view_of p)
  pub number : (view_of p).low ≡ number_of p
  pub count : number_of p ≡ 0 → (view_of p).made ≡ callers
  pub own : calls_by (number_of p) (mine_of p) ≡ mine_of p

-- the pass is this cell's
abbrev pub IsPassOf : Cell 16 34 → Pass → Type 0
IsPassOf c p = IsPassAt (name_of c) (limits_of c) (callers_of c) p

-- The call was made, with this reply, at one point of one legal history. The history begins with all that the pass had seen, and ends with
-- the call, whose reply is the one that `slot_step` gives there. The call is one more of the caller's own, and of the caller's calls the
-- history has exactly these.
pub record Made (c : Cell 16 34) (p : Pass) (call : SlotCall) (reply : SlotReply) (q : Pass) : Type 0 where
  pub between : List CallEntry
  pub seen : seen_of q ≡ (seen_of p ++ between) ++ entry (number_of p) call reply ∷ []
  pub legal : IsLegal (limits_of c) (seen_of q)
  pub answered : reply ≡ (slot_step (limits_of c) (state_after (limits_of c) (seen_of p ++ between)) call).1
  pub mine : mine_of q ≡ mine_of p ++ entry (number_of p) call reply ∷ []
  pub own : calls_by (number_of p) (seen_of q) ≡ mine_of q

-- The state is the one that one legal history leaves. The history begins with all that the pass had seen, and of the caller's calls it has
-- exactly those that the caller made.
pub record Saw (c : Cell 16 34) (p : Pass) (state : SlotState 16) (q : Pass) : Type 0 where
  pub more : List CallEntry
  pub seen : seen_of q ≡ seen_of p ++ more
  pub legal : IsLegal (limits_of c) (seen_of q)
  pub left : state ≡ state_after (limits_of c) (seen_of q)
  pub mine : mine_of q ≡ mine_of p
  pub own : calls_by (number_of p) (seen_of q) ≡ mine_of q
