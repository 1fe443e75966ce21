use Rattle.std.proofs.Common.{arith}
use Rattle.slot_table.proofs.Masks.{mask-without}
use Rattle.slot_table.proofs.mask.Mask.without.Goals as goal

pub returns : goal.returns
returns c = λ i. mask-without c.args.self.bits c.args.host i (omega arith) c.requires
