use Rattle.std.proofs.Common.{◌≡◌, ◌++◌, length, map, string_bytes, Global}
use Rattle.farmd_options.specs.Tables.{tools_of}
use Rattle.farmd_options.proofs.tables.tools_of.Given as goal

abbrev pub invariant-gathering : goal.invariant-gathering
invariant-gathering l = map (string_bytes {Z = Global}) l.tools.items ++ tools_of (map (string_bytes {Z = Global}) l.rest)
    ≡ tools_of (map (string_bytes {Z = Global}) l.fn.words)

abbrev pub decreases-gathering : goal.decreases-gathering
decreases-gathering l = length l.rest
