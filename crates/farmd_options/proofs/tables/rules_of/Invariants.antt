use Rattle.std.proofs.Common.{◌++◌, List, length, map, string_bytes, Global}
use Rattle.access_list.specs.declared.rule.Rule.{Rule}
use Rattle.farmd_options.specs.Tables.{AreRules}
use Rattle.farmd_options.proofs.tables.rules_of.Given as goal

abbrev pub invariant-gathering : goal.invariant-gathering
invariant-gathering l = (more : List Rule) → AreRules (map (string_bytes {Z = Global}) l.rest) more
    → AreRules (map (string_bytes {Z = Global}) l.fn.words) (l.found ++ more)

abbrev pub decreases-gathering : goal.decreases-gathering
decreases-gathering l = length l.rest
