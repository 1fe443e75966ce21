-- The jobs that a worker's calls draw are those that it did.
use Rattle.std.proofs.Common.{◌≡◌, ℕ, ◌<◌, ◌≤◌, List, [], ◌∷◌, ◌++◌, Option, None, length, map, refl, sym, ap, ◌∙◌, subst, arith}
use Rattle.std.specs.Prelude.{All}
use Rattle.std.specs.List.{cons_option}
use Rattle.std.proofs.lemmas.List.{map-append, length-append}
use Rattle.std.proofs.lemmas.List.Elements.{All-head, All-tail, All-push, filter_map-append}
use Rattle.slot_table.specs.declared.calls.CallEntry.{CallEntry}
use Rattle.slot_table.specs.declared.calls.SlotCall.{SlotCall}
use Rattle.slot_table.specs.declared.calls.SlotCall.TheVariants.{Draw, Take, Give, GiveBad, TakeLocal, GiveLocal}
use Rattle.slot_table.specs.declared.calls.SlotReply.{SlotReply}
use Rattle.slot_table.specs.declared.calls.SlotReply.TheVariants.{Drawn, Got, Full, Down, Local, Given}
use Rattle.slot_table.specs.History.{job_drawn, jobs_drawn}
use Rattle.farm_machine.specs.declared.reports.Places.{Places}
use Rattle.farm_machine.specs.declared.reports.Report.{Report}
use Rattle.farm_machine.specs.Acts.{SlotEvent, slots_of}
use Rattle.farm_machine.specs.Machine.{Wants, JobCall, Draws, Adds, Waits, Mismatched, job_call}
use Rattle.farm_machine.specs.Numbered.{advanced}
use Rattle.farm_machine.specs.Own.{ServedBy, Serves, DoneJob, DoesJobs}
use Rattle.job_driver.specs.Works.{untimed_job, AreReportsOf}
use Rattle.job_driver.proofs.Working.{numbers_of, AreFew, AreWithin}

not-drawn : (wants : Wants) (j : ℕ) (past : List SlotEvent) (x : SlotEvent) (call : SlotCall) (reply : SlotReply) (A B : Type 0)
    → ServedBy wants j past x (job_call call reply) A B → job_drawn call reply ≡ None
not-drawn wants j past x Draw (Drawn job) A B served = absurd served
not-drawn wants j past x Draw (Got host) A B served = refl
not-drawn wants j past x Draw Full A B served = refl
not-drawn wants j past x Draw Down A B served = refl
not-drawn wants j past x Draw (Local given) A B served = refl
not-drawn wants j past x Draw Given A B served = refl
not-drawn wants j past x (Take job mask now) reply A B served = refl
not-drawn wants j past x (Give host job) reply A B served = refl
not-drawn wants j past x (GiveBad host job until) reply A B served = refl
not-drawn wants j past x (TakeLocal job) reply A B served = refl
not-drawn wants j past x (GiveLocal job) reply A B served = refl

none-first : (e : CallEntry) (es : List CallEntry) → job_drawn e.call e.reply ≡ None → jobs_drawn (e ∷ es) ≡ jobs_drawn es
none-first e es is = ap (λ (o : Option ℕ). cons_option o (jobs_drawn es)) is

-- which of the two goes on
goes-on : (wants : Wants) (j : ℕ) (past : List SlotEvent) (x : SlotEvent) (call : SlotCall) (reply : SlotReply) (A B C : Type 0)
    → (A → C) → (B → C) → ServedBy wants j past x (job_call call reply) A B → C
goes-on wants j past x call reply A B C met refused served = go (job_call call reply) served
  where
    go : (a : JobCall) → ServedBy wants j past x a A B → C
    go (Draws job) s = absurd s
    go (Adds i mask y) (same, masked, is, s) = met s
    go (Waits i mask kind) (same, masked, waited, s) = refused s
    go Mismatched s = absurd s

serves-none : (wants : Wants) (w j : ℕ) (past xs : List SlotEvent) (es : List CallEntry) → Serves wants w j past xs es → jobs_drawn es ≡ []
serves-none wants w j past [] [] serves = refl
serves-none wants w j past [] (e ∷ es) serves = absurd serves
serves-none wants w j past (x ∷ xs) [] serves = absurd serves
serves-none wants w j past (x ∷ xs) (e ∷ es) serves =
    none-first e es (not-drawn wants j past x e.call e.reply (Serves wants w j (past ++ x ∷ []) xs es) (Serves wants w j past (x ∷ xs) es)
    serves.1)
    ∙ goes-on wants j past x e.call e.reply (Serves wants w j (past ++ x ∷ []) xs es) (Serves wants w j past (x ∷ xs) es)
    (jobs_drawn es ≡ [])
    (λ s. serves-none wants w j (past ++ x ∷ []) xs es s) (λ s. serves-none wants w j past (x ∷ xs) es s) serves.1

pub drawn-append : (xs ys : List CallEntry) → jobs_drawn (xs ++ ys) ≡ jobs_drawn xs ++ jobs_drawn ys
drawn-append xs ys = filter_map-append (λ (e : CallEntry). job_drawn e.call e.reply) xs ys

pub does-drawn : (wants : Wants) (w : ℕ) (done : List DoneJob) (es : List CallEntry) → DoesJobs wants w done es
    → jobs_drawn es ≡ map (λ job. job.number) done
does-drawn wants w [] es does = ap jobs_drawn does
does-drawn wants w (job ∷ done) es (calls, more, is, serves, rest) =
    ap jobs_drawn is ∙ ap (λ (ks : List ℕ). job.number ∷ ks)
    (drawn-append calls more ∙ ap (λ (ks : List ℕ). ks ++ jobs_drawn more)
    (serves-none wants w job.number [] (slots_of job.acts) calls serves) ∙ does-drawn wants w done more rest)

pub report-numbers : (w : ℕ) (done : List DoneJob) (at : Places) (rs : List Report) → AreReportsOf w at done rs
    → numbers_of rs ≡ map (λ job. job.number) (map untimed_job done)
report-numbers w [] at [] all = refl
report-numbers w [] at (r ∷ rs) all = absurd all
report-numbers w (job ∷ done) at [] all = absurd all
report-numbers w (job ∷ done) at (r ∷ rs) all =
    ap (λ k. k ∷ numbers_of rs) all.0.number ∙ ap (λ (ks : List ℕ). job.number ∷ ks) (report-numbers w done (advanced at job.acts) rs all.1)

last-of-all : (P : ℕ → Type 0) (xs : List ℕ) (x : ℕ) → All P (xs ++ x ∷ []) → P x
last-of-all P [] x all = All-head P x [] all
last-of-all P (y ∷ xs) x all = last-of-all P xs x (All-tail P y (xs ++ x ∷ []) all)

numbers-more : (rs : List Report) (r : Report) → numbers_of (rs ++ r ∷ []) ≡ numbers_of rs ++ r.number ∷ []
numbers-more rs r = map-append (λ (report : Report). report.number) rs (r ∷ [])

pub few-more : (rs : List Report) (r : Report) (job : ℕ) → r.number ≡ job → AreFew rs → All (λ number. number < job) (numbers_of rs)
    → AreFew (rs ++ r ∷ [])
few-more rs r job is few later bound all =
    let last : r.number < bound = last-of-all (λ number. number < bound) (numbers_of rs) r.number
    (subst (All (λ number. number < bound)) (numbers-more rs r) all) in
    let less : length rs ≤ job = few job later in
    let long = length-append rs (r ∷ []) in
    omega (arith, last, less, long, is)

pub within-more : (n : ℕ) (rs : List Report) (r : Report) (job : ℕ) → r.number ≡ job → job < n → AreWithin n rs → AreWithin n (rs ++ r ∷ [])
within-more n rs r job is below all =
    subst (All (λ number. number < n)) (sym (numbers-more rs r))
    (All-push (λ number. number < n) (numbers_of rs) r.number all (let b : r.number < n = omega (arith, is, below) in b))

-- without reports
pub few-none : (rs : List Report) → rs ≡ [] → AreFew rs
few-none rs none bound all = let long = ap (λ (z : List Report). length z) none in omega (arith, long)

pub within-none : (n : ℕ) (rs : List Report) → rs ≡ [] → AreWithin n rs
within-none n rs none = subst (AreWithin n) (sym none) (λ k d below. absurd (omega (arith, below)))
