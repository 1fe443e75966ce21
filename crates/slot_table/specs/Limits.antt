-- What limits meet.
use Rattle.std.specs.Prelude.{ℕ, ◌<◌, ◌≤◌, Bool, false, slice_index, slice_index_or}
use Rattle.slot_table.specs.declared.limits.Limits.{Limits}
use Rattle.slot_table.specs.Mask.{mask_bits}

abbrev pub EachHasSlot : {h : ℕ} → Limits h → Type 0
EachHasSlot l = (i : ℕ) → i < l.count → 0 < slice_index l.limit i

-- the entries have their places in the arrays and in a mask, and each has a slot; there is a local slot
pub record AreValid {h : ℕ} (l : Limits h) : Type 0 where
  pub entries : l.count ≤ h
  pub masked : l.count ≤ mask_bits
  pub slots : EachHasSlot l
  pub local_slots : 0 < l.local_slots

-- entry i is this machine
abbrev pub is_local : {h : ℕ} → Limits h → ℕ → Bool
is_local l i = slice_index_or l.local i false
