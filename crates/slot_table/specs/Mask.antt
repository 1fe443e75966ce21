-- Which entries are in a mask.
use Rattle.std.specs.Prelude.{ℕ, Bool, nat_eq}
use Rattle.std.specs.Int.{bit_at}
use Rattle.slot_table.specs.declared.mask.Mask.{Mask}

-- how many host entries a mask can have
abbrev pub mask_bits : ℕ
mask_bits = 64

-- bit i is set
abbrev pub in_mask : Mask → ℕ → Bool
in_mask mask i = nat_eq (bit_at mask.bits i) 1
