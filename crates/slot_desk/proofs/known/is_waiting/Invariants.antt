use Rattle.std.proofs.Common.{◌≡◌, drop}
use Rattle.std.specs.List.{list_any}
use Rattle.slot_desk.specs.Desk.{waits_as}
use Rattle.slot_desk.proofs.known.is_waiting.Given as goal

abbrev pub invariant-loop-waiter : goal.invariant-loop-waiter
invariant-loop-waiter l = list_any (waits_as l.caller) (drop l.waiter-index l.waiting) ≡ list_any (waits_as l.caller) l.waiting
