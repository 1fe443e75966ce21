use Rattle.std.proofs.Common.{◌≡◌, true, false, Bool, sym, ◌∙◌, ap}
use Rattle.host_list.proofs.turning.turned.Goals as goal

differ : (a : Bool) → a ≡ true → a ≡ false → ⊥
differ a e d = let unlike : true ≡ false = sym e ∙ d in cc

-- a list with `--randomize` isn't one without
pub returns-then-hosts-clause-listed : goal.returns-then-hosts-clause-listed
returns-then-hosts-clause-listed c hosts list plain =
    absurd (differ c.in-Ok.hosts.randomize c.if-hosts.true (ap (λ h. h.randomize) (c.in-Ok.ensures.only_list hosts list) ∙ plain))

-- a list has no fault
pub returns-then-hosts-clause-faulty : goal.returns-then-hosts-clause-faulty
returns-then-hosts-clause-faulty c at fault stands = absurd (c.in-Ok.ensures.only_fault at fault stands)
