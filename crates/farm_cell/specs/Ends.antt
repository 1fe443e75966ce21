-- What making and closing a cell say.
use Rattle.std.specs.Prelude.{◌≡◌, ℕ, ◌<◌, ◌≤◌, [], ◌∷◌, ◌++◌, List, length, slice_index_or}
use Rattle.slot_table.specs.declared.calls.CallEntry.{CallEntry}
use Rattle.slot_table.specs.History.{calls_by}
use Rattle.farm_cell.specs.declared.cell.Cell.{Cell}
use Rattle.farm_cell.specs.declared.cell.Pass.{Pass}
use Rattle.farm_cell.specs.Passes.{callers_of, number_of, mine_of, IsPassOf}

-- the pass of this caller
pub record IsNumbered (c : Cell 16 34) (caller : ℕ) (p : Pass) : Type 0 where
  pub pass : IsPassOf c p
  pub number : number_of p ≡ caller

-- the passes are all those of the cell: one for each caller, by number
pub record AreAllOf (c : Cell 16 34) (ps : List Pass) : Type 0 where
  pub len : length ps ≡ callers_of c
  pub each : (caller : ℕ) (d : Pass) → caller < length ps → IsNumbered c caller (slice_index_or ps caller d)

-- the own calls of all passes, one pass after the other
abbrev pub all_mine : List Pass → List CallEntry
all_mine [] = []
all_mine (p ∷ ps) = mine_of p ++ all_mine ps

-- of each caller the list has the calls that its pass has as its own, in their order
abbrev pub HasEachMine : List CallEntry → List Pass → Type 0
HasEachMine es ps = (caller : ℕ) (d : Pass) → caller < length ps → calls_by caller es ≡ mine_of (slice_index_or ps caller d)

-- each call of the list is by a caller below this number
abbrev pub AreByCallersBelow : ℕ → List CallEntry → Type 0
AreByCallersBelow n es = (caller : ℕ) → n ≤ caller → calls_by caller es ≡ []
