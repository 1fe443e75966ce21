use Rattle.std.proofs.Common.{◌≡◌, drop}
use Rattle.slot_desk.specs.Desk.{first_as}
use Rattle.slot_desk.proofs.known.first_as.Given as goal

abbrev pub invariant-loop-waiter : goal.invariant-loop-waiter
invariant-loop-waiter l = first_as l.local (drop l.waiter-index l.waiting) ≡ first_as l.local l.waiting
