-- A job that is drawn comes after those that were drawn before.
use Rattle.std.proofs.Common.{◌≡◌, ℕ, ◌+◌, ◌<◌, Bool, true, false, cond, List, [], ◌∷◌, Option, Some, None, nat_eq, nat_lt, get_or, refl}
use Rattle.std.proofs.Common.{sym, ap, ◌∙◌, subst, arith}
use Rattle.std.specs.Prelude.{All, IfSome}
use Rattle.std.specs.List.{range_with_len, cons_option}
use Rattle.std.proofs.lemmas.List.FromFn.{length-range_with_len, get_or-range_with_len}
use Rattle.std.proofs.lemmas.List.Elements.{All-cons, All-head, All-tail, All-same}
use Rattle.slot_table.specs.declared.limits.Limits.{Limits}
use Rattle.slot_table.specs.declared.state.SlotState.{SlotState}
use Rattle.slot_table.specs.declared.calls.SlotCall.TheVariants.{Draw}
use Rattle.slot_table.specs.declared.calls.SlotReply.{SlotReply}
use Rattle.slot_table.specs.declared.calls.SlotReply.TheVariants.{Drawn}
use Rattle.slot_table.specs.declared.calls.CallEntry.{CallEntry}
use Rattle.slot_table.specs.Step.{slot_step, drawn}
use Rattle.slot_table.specs.History.{IsLegal, state_after, job_drawn, jobs_drawn, calls_by}
use Rattle.slot_table.specs.Grants.{IsLater}
use Rattle.slot_table.specs.Log.{Log, IsKept}
use Rattle.slot_table.proofs.Draws.{draws-in-order}

range-below : (n : ℕ) → All (λ k. k < n) (range_with_len 0 n)
range-below n k d below =
    let b : k < n = subst (λ m. k < m) (length-range_with_len 0 n) below in
    let e : get_or (range_with_len 0 n) k d ≡ 0 + k = get_or-range_with_len 0 n k d b in omega arith

drawn-next : {h : ℕ} (l : Limits h) (s : SlotState h) (b : Bool) (job : ℕ)
    → Drawn (Some job) ≡ (cond {A = SlotState h × SlotReply} b (drawn s, Drawn (Some s.next)) (s, Drawn None)).1 → job ≡ s.next
drawn-next l s true job is = grind arith
drawn-next l s false job is = grind arith

-- by the history before the draw
pub drawn-later : {h : ℕ} (l : Limits h) (es : List CallEntry) (o : Option ℕ) → IsLegal l es
    → Drawn o ≡ (slot_step l (state_after l es) Draw).1 → IfSome o (IsLater es)
drawn-later l es None legal is = tt
drawn-later {h} l es (Some job) legal is =
    let s : SlotState h = state_after l es in
    let e : job ≡ s.next = drawn-next l s (nat_lt s.next l.jobs) job is in
    subst (IsLater es) (sym e)
    (All-same (λ k. k < s.next) (jobs_drawn es) (range_with_len 0 s.next) (draws-in-order h l es legal) (range-below s.next))

drawn-of : (b : Bool) (e : CallEntry) (es : List CallEntry)
    → jobs_drawn (cond b (e ∷ es) es) ≡ cond b (cons_option (job_drawn e.call e.reply) (jobs_drawn es)) (jobs_drawn es)
drawn-of true e es = refl
drawn-of false e es = refl

-- what holds of all jobs drawn holds of those that one caller drew
pub drawn-by-all : (P : ℕ → Type 0) (n : ℕ) (es : List CallEntry) → All P (jobs_drawn es) → All P (jobs_drawn (calls_by n es))
drawn-by-all P n [] all = all
drawn-by-all P n (e ∷ es) all =
    subst (All P) (sym (drawn-of (nat_eq e.caller n) e (calls_by n es)))
    (go (job_drawn e.call e.reply) (nat_eq e.caller n) (λ a. drawn-by-all P n es a) all)
  where
    keep : (o : Option ℕ) → All P (cons_option o (jobs_drawn es)) → All P (jobs_drawn es)
    keep None a = a
    keep (Some job) a = All-tail P job (jobs_drawn es) a

    more : (o : Option ℕ) → (All P (jobs_drawn es) → All P (jobs_drawn (calls_by n es))) → All P (cons_option o (jobs_drawn es))
        → All P (cons_option o (jobs_drawn (calls_by n es)))
    more None rest a = rest a
    more (Some job) rest a = All-cons P job (jobs_drawn (calls_by n es)) (All-head P job (jobs_drawn es) a)
        (rest (All-tail P job (jobs_drawn es) a))

    go : (o : Option ℕ) (b : Bool) → (All P (jobs_drawn es) → All P (jobs_drawn (calls_by n es))) → All P (cons_option o (jobs_drawn es))
        → All P (cond b (cons_option o (jobs_drawn (calls_by n es))) (jobs_drawn (calls_by n es)))
    go o true rest a = more o rest a
    go o false rest a = rest (keep o a)

-- the same of slots with the list of their calls
pub kept-later : {h : ℕ} (l : Limits h) (es : List CallEntry) (s s' : SlotState h) (o : Option ℕ) (kept seen : Log h) → kept ≡ seen
    → kept.mine ≡ es
    → IsKept l es s → slot_step l s Draw ≡ (s', Drawn o) → IfSome o (IsLater seen.mine)
kept-later {h} l es s s' o kept seen same are i step =
    let at : Drawn o ≡ (slot_step l (state_after l es) Draw).1 = sym (ap (λ (r : SlotState h × SlotReply). r.1) step)
    ∙ ap (λ (t : SlotState h). (slot_step l t Draw).1) i.state in
    subst (λ (calls : List CallEntry). IfSome o (IsLater calls)) (sym are ∙ ap (λ (v : Log h). v.mine) same) (drawn-later l es o i.legal at)
