use Rattle.std.proofs.Common.{string_bytes, Global, map, arith}
use Rattle.farmd_options.proofs.Meaning.{all_tools}
use Rattle.farmd_options.proofs.tables.tools_of.Goals as goal

pub returns : goal.returns
returns c = all_tools (string_bytes {Z = Global}) c.gathering.rest.now (map (string_bytes {Z = Global}) c.gathering.tools.items) _
    (omega (arith, c.in_default.len_below)) c.gathering.invariant
