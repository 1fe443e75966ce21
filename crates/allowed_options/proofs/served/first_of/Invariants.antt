use Rattle.std.proofs.Common.{◌≡◌, map, string_bytes, Global}
use Rattle.std.specs.Prelude.{None}
use Rattle.allowed_options.specs.Served.{operand_at, unserved_below}
use Rattle.allowed_options.proofs.served.first_of.Given as goal

abbrev pub invariant-loop-at : goal.invariant-loop-at
invariant-loop-at l = (l.operand ≡ operand_at l.words l.at) × (unserved_below (map (string_bytes {Z = Global}) l.tools) l.words l.at ≡ None)
