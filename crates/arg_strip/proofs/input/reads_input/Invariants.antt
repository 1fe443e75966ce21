use Rattle.std.proofs.Common.{◌≡◌}
use Rattle.arg_scan.specs.Roles.{owner_at, part_at}
use Rattle.arg_scan.specs.Forces.{any_below}
use Rattle.arg_strip.specs.Checks.{is_dash}
use Rattle.arg_strip.proofs.input.reads_input.Given as goal

abbrev pub invariant-loop-at : goal.invariant-loop-at
invariant-loop-at l = (l.owner ≡ owner_at l.words l.at) × (l.reads ≡ any_below (λ at. is_dash (part_at l.words at)) l.at)
