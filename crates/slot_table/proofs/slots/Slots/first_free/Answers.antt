use Rattle.std.proofs.Common.{◌≤◌, ◌++◌, ◌∙◌, ap, take, drop, ℕ, arith}
use Rattle.std.specs.Prelude.{find}
use Rattle.slot_table.specs.Step.{is_free, entries}
use Rattle.slot_table.proofs.Searches.{rotated-hit, rotated-rest}
use Rattle.slot_table.proofs.slots.Slots.first_free.Goals as goal

pub returns-in-Some-clause-first : goal.returns-in-Some-clause-first
returns-in-Some-clause-first g c =
    let p = is_free c.args.self.now.limits c.args.self.now.state c.args.mask c.args.now in
    let k = c.first_place-first.result in
    let fits : k ≤ c.args.self.now.limits.count = omega arith in
    rotated-hit p k c.args.self.now.limits.count c.in-Some.host fits c.in-Some.ensures.first
    ∙ ap (λ (j : ℕ). find p (drop j (entries c.args.self.now.limits) ++ take j (entries c.args.self.now.limits)))
    c.first_place-first.ensures.place

pub returns-in-None-clause-first : goal.returns-in-None-clause-first
returns-in-None-clause-first g c =
    let p = is_free c.args.self.now.limits c.args.self.now.state c.args.mask c.args.now in
    let k = c.first_place-first.result in
    let fits : k ≤ c.args.self.now.limits.count = omega arith in
    rotated-rest p k c.args.self.now.limits.count c.free_between-in-None.result fits c.in-None.ensures.first
    c.free_between-in-None.ensures.first
    ∙ ap (λ (j : ℕ). find p (drop j (entries c.args.self.now.limits) ++ take j (entries c.args.self.now.limits)))
    c.first_place-first.ensures.place
