use Rattle.std.proofs.Common.{◌≡◌, arith}
use Rattle.slot_table.specs.Mask.{mask_bits}
use Rattle.slot_table.proofs.Masks.{mask-all, mask-whole}
use Rattle.slot_table.proofs.mask.Mask.all.Goals as goal

pub returns-then-count-lt-MASK_BITS : goal.returns-then-count-lt-MASK_BITS
returns-then-count-lt-MASK_BITS c = λ i. mask-all c.args.count i c.if-count-lt-MASK_BITS.true

pub returns-else-count-lt-MASK_BITS : goal.returns-else-count-lt-MASK_BITS
returns-else-count-lt-MASK_BITS c = λ i. let is : c.args.count ≡ mask_bits = omega arith in mask-whole c.args.count i is
