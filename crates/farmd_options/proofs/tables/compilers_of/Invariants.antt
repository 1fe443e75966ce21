use Rattle.std.proofs.Common.{◌≡◌, ◌++◌, length, map, string_bytes, Global}
use Rattle.farmd_options.specs.Tables.{compilers_of}
use Rattle.farmd_options.proofs.tables.compilers_of.Given as goal

abbrev pub invariant-gathering : goal.invariant-gathering
invariant-gathering l = l.compilers ++ compilers_of (map (string_bytes {Z = Global}) l.rest)
    ≡ compilers_of (map (string_bytes {Z = Global}) l.fn.words)

abbrev pub decreases-gathering : goal.decreases-gathering
decreases-gathering l = length l.rest
