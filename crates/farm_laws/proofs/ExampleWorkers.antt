-- The example's workers did their jobs.
use Rattle.std.proofs.Common.{◌≡◌, inr, ℕ, zero, suc, ◌<◌, ◌≤◌, List, [], ◌∷◌, Some, cond, Bool, refl, ap, ◌∙◌, arith, ne_eqb}
use Rattle.slot_table.specs.declared.calls.CallEntry.{CallEntry}
use Rattle.slot_table.specs.declared.calls.SlotCall.TheVariants.{Draw, Take, Give}
use Rattle.slot_table.specs.declared.calls.SlotReply.TheVariants.{Drawn, Got, Full, Given}
use Rattle.slot_table.specs.History.{entry, calls_by}
use Rattle.farm_machine.specs.Driver.{AllWorked, WorkedOff, DidCourses, WorkersRun}
use Rattle.farm_machine.specs.Farm.{wanted}
use Rattle.farm_laws.specs.Example.{limits, jobs, all_hosts, calls}
use Rattle.farm_laws.proofs.ExampleCalls.{mask-is, agrees}
use Rattle.farm_laws.proofs.ExampleCourses.{is-of, courses}
use Rattle.farm_laws.specs.ExampleRun.{done_by}
use Rattle.farm_laws.proofs.Reported.{workers-run}

-- a worker's own calls but the last draw, and that they are its jobs
worked : (worker : ℕ) → worker < 2 → WorkedOff (wanted limits) worker (done_by worker) (calls_by worker calls)
worked zero below = (
  entry 0 Draw (Drawn (Some 0)) ∷ entry 0 (Take 0 all_hosts 100) (Got 0) ∷ entry 0 (Give 0 0) Given ∷ entry 0 Draw (Drawn (Some 2)) ∷ [],
  (
    entry 0 (Take 0 all_hosts 100) (Got 0) ∷ entry 0 (Give 0 0) Given ∷ [],
    entry 0 Draw (Drawn (Some 2)) ∷ [],
    refl,
    (refl, (refl, mask-is, refl, (refl, (refl, tt, refl, tt)))),
    ([], [], refl, tt, refl),
  ),
  refl,
)
worked (suc zero) below = (
  entry 1 Draw (Drawn (Some 1)) ∷ entry 1 (Take 1 all_hosts 100) Full ∷ entry 1 (Take 1 all_hosts 101) (Got 0) ∷ entry 1 (Give 0 1)
      Given ∷ [],
  (
    entry 1 (Take 1 all_hosts 100) Full ∷ entry 1 (Take 1 all_hosts 101) (Got 0) ∷ entry 1 (Give 0 1) Given ∷ [],
    [],
    refl,
    (refl, (refl, mask-is, inr (0, refl), (refl, (refl, mask-is, refl, (refl, (refl, tt, refl, tt)))))),
    refl,
  ),
  refl,
)
worked (suc (suc worker)) below = absurd (omega arith)

abbrev AreBelow : ℕ → List CallEntry → Type 0
AreBelow n [] = Unit {0}
AreBelow n (e ∷ es) = (e.caller < n) × AreBelow n es

-- who is no caller made no call
none-by : (n worker : ℕ) (es : List CallEntry) → AreBelow n es → n ≤ worker → calls_by worker es ≡ []
none-by n worker [] below above = refl
none-by n worker (e ∷ es) below above =
    let caller = below.0 in
    ap (λ (b : Bool). cond b (e ∷ calls_by worker es) (calls_by worker es))
    (ne_eqb e.caller worker (λ same. absurd (omega (arith, caller, above, same)))) ∙ none-by n worker es below.1 above

pub all-worked : AllWorked (wanted limits) 2 done_by calls
all-worked = record {
  some = omega arith;
  each = worked;
  others = λ worker above. none-by 2 worker calls (
    omega arith,
    (
      omega arith,
      (omega arith, (omega arith, (omega arith, (omega arith, (omega arith, (omega arith, (omega arith, (omega arith, tt)))))))),
    ),
  ) above;
}

did-courses : DidCourses jobs 2 done_by
did-courses zero below = (courses 0 (omega arith), (courses 2 (omega arith), tt))
did-courses (suc zero) below = (courses 1 (omega arith), tt)
did-courses (suc (suc worker)) below = absurd (omega arith)

pub workers-ran : WorkersRun limits jobs 2 done_by calls
workers-ran = workers-run 1 limits jobs 2 done_by calls is-of agrees.legal all-worked did-courses
