use Rattle.std.proofs.Common.{◌≡◌, None}
use Rattle.arg_scan.specs.Roles.{owner_at}
use Rattle.arg_scan.specs.Class.{first_forced}
use Rattle.arg_scan.specs.Seen.{seen_below}
use Rattle.arg_scan.proofs.verdict.verdict_by_places.Given as goal

abbrev pub invariant-loop-at : goal.invariant-loop-at
invariant-loop-at l = (l.owner ≡ owner_at l.words l.at) × (l.seen ≡ seen_below l.words l.at) × (first_forced l.words l.at ≡ None)
