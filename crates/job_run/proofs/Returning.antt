-- Which jobs find no hosts down.
use Rattle.std.proofs.Common.{◌≡◌, ℕ, true, false, List, [], ◌∷◌, ◌++◌, Option, refl, subst}
use Rattle.std.specs.Prelude.{◌≢◌}
use Rattle.std.proofs.lemmas.List.Elements.{All-head, All-tail}
use Rattle.slot_table.specs.declared.calls.CallEntry.{CallEntry}
use Rattle.slot_table.specs.declared.calls.SlotCall.{SlotCall}
use Rattle.slot_table.specs.declared.calls.SlotCall.TheVariants.{Draw, Take, Give, GiveBad, TakeLocal, GiveLocal}
use Rattle.slot_table.specs.declared.calls.SlotReply.{SlotReply}
use Rattle.slot_table.specs.declared.calls.SlotReply.TheVariants.{Drawn, Got, Full, Down, Local, Given}
use Rattle.slot_table.specs.declared.mask.Mask.{Mask}
use Rattle.farm_machine.specs.Acts.{SlotEvent, Takes, Gives, GivesBad, FindsDown, TakesLocal, GivesLocal}
use Rattle.farm_machine.specs.Machine.{JobCall, Draws, Adds, Waits, Mismatched, job_call, job_call_of, Wants}
use Rattle.farm_machine.specs.Own.{Serves, ServedBy}
use Rattle.course_laws.specs.Returns.{finds_down}
use Rattle.job_run.specs.JobRuns.{NoneIsDown}

-- what finds hosts down was answered so
abbrev IsDownBy : JobCall → SlotReply → Type 0
IsDownBy (Adds j mask FindsDown) reply = reply ≡ Down
IsDownBy a reply = Unit {0}

down-by : (call : SlotCall) (reply : SlotReply) → IsDownBy (job_call call reply) reply
down-by Draw (Drawn o) = tt
down-by Draw (Got host) = tt
down-by Draw Full = tt
down-by Draw Down = tt
down-by Draw (Local given) = tt
down-by Draw Given = tt
down-by (Take job mask now) (Drawn o) = tt
down-by (Take job mask now) (Got host) = tt
down-by (Take job mask now) Full = tt
down-by (Take job mask now) Down = refl
down-by (Take job mask now) (Local given) = tt
down-by (Take job mask now) Given = tt
down-by (Give host job) (Drawn o) = tt
down-by (Give host job) (Got other) = tt
down-by (Give host job) Full = tt
down-by (Give host job) Down = tt
down-by (Give host job) (Local given) = tt
down-by (Give host job) Given = tt
down-by (GiveBad host job until) (Drawn o) = tt
down-by (GiveBad host job until) (Got other) = tt
down-by (GiveBad host job until) Full = tt
down-by (GiveBad host job until) Down = tt
down-by (GiveBad host job until) (Local given) = tt
down-by (GiveBad host job until) Given = tt
down-by (TakeLocal job) (Drawn o) = tt
down-by (TakeLocal job) (Got other) = tt
down-by (TakeLocal job) Full = tt
down-by (TakeLocal job) Down = tt
down-by (TakeLocal job) (Local true) = tt
down-by (TakeLocal job) (Local false) = tt
down-by (TakeLocal job) Given = tt
down-by (GiveLocal job) (Drawn o) = tt
down-by (GiveLocal job) (Got other) = tt
down-by (GiveLocal job) Full = tt
down-by (GiveLocal job) Down = tt
down-by (GiveLocal job) (Local given) = tt
down-by (GiveLocal job) Given = tt

-- a job of whose calls none was answered so doesn't find hosts down
pub none-down : (wants : Wants) (worker j : ℕ) (past xs : List SlotEvent) (es : List CallEntry) → Serves wants worker j past xs es
    → NoneIsDown es → finds_down xs ≡ false
none-down wants worker j past [] es serves none = refl
none-down wants worker j past (x ∷ xs) [] serves none = absurd serves
none-down wants worker j past (x ∷ xs) (e ∷ es) serves none =
    let rest = All-tail (λ e. e.reply ≢ Down) e es none in
    go (job_call_of e) serves.1 (down-by e.call e.reply) (λ s. none-down wants worker j (past ++ x ∷ []) xs es s rest)
    (λ s. none-down wants worker j past (x ∷ xs) es s rest)
  where
    met : (i : ℕ) (mask : Option Mask) (y : SlotEvent) → IsDownBy (Adds i mask y) e.reply → finds_down xs ≡ false
        → finds_down (y ∷ xs) ≡ false
    met i mask (Takes host) by more = more
    met i mask (Gives host) by more = more
    met i mask (GivesBad host until) by more = more
    met i mask FindsDown by more = absurd (All-head (λ e. e.reply ≢ Down) e es none by)
    met i mask TakesLocal by more = more
    met i mask GivesLocal by more = more

    go : (a : JobCall) → ServedBy wants j past x a (Serves wants worker j (past ++ x ∷ []) xs es) (Serves wants worker j past (x ∷ xs) es)
        → IsDownBy a e.reply
        → (Serves wants worker j (past ++ x ∷ []) xs es → finds_down xs ≡ false)
        → (Serves wants worker j past (x ∷ xs) es → finds_down (x ∷ xs) ≡ false) → finds_down (x ∷ xs) ≡ false
    go (Adds i mask y) served by now later =
        subst (λ (z : SlotEvent). finds_down (z ∷ xs) ≡ false) served.2 (met i mask y by (now served.3))
    go (Waits i mask kind) served by now later = later served.3
    go (Draws o) served by now later = absurd served
    go Mismatched served by now later = absurd served
