use Rattle.std.proofs.Common.{string_bytes, Global, arith}
use Rattle.farmd_options.proofs.Meaning.{all_compilers}
use Rattle.farmd_options.proofs.tables.compilers_of.Goals as goal

pub returns : goal.returns
returns c = all_compilers (string_bytes {Z = Global}) c.gathering.rest.now c.gathering.compilers _
    (omega (arith, c.in_default.len_below)) c.gathering.invariant
