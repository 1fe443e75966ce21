use Rattle.std.proofs.Common.{◌≡◌, ℕ, ◌<◌, false, get_or}
use Rattle.arg_scan.specs.declared.names.Ending.TheVariants.{C}
use Rattle.arg_scan.specs.Names.{has_ending}
use Rattle.arg_scan.proofs.names.ending_of.Given as goal

abbrev pub invariant-loop-ending : goal.invariant-loop-ending
invariant-loop-ending l = (k : ℕ) → k < l.ending-index → has_ending l.name (get_or l.ending-items k C) ≡ false
