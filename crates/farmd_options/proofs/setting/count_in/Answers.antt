use Rattle.std.proofs.Common.{string_bytes, Global, arith}
use Rattle.farmd_options.proofs.Meaning.{count_none}
use Rattle.farmd_options.proofs.setting.count_in.Goals as goal

pub returns-clause-count : goal.returns-clause-count
returns-clause-count c = omega (
  arith,
  c.counting.invariant.counted,
  count_none (string_bytes {Z = Global}) c.args.kind c.counting.rest.now
      (omega (arith, c.in_default.len_below)),
)
