-- Whether calls agree is seen from workers and slot events alone.
use Rattle.std.proofs.Common.{◌≡◌, inl, inr, ℕ, ◌<◌, Bool, true, false, cond, List, [], ◌∷◌, ◌++◌, Option, Some, None, nat_eq, refl, sym}
use Rattle.std.proofs.Common.{ap, ◌∙◌, subst, arith}
use Rattle.std.specs.Prelude.{map, slice_get}
use Rattle.std.proofs.lemmas.Option.{slice_get_cases}
use Rattle.slot_table.specs.declared.limits.Limits.{Limits}
use Rattle.slot_table.specs.declared.state.SlotState.{SlotState}
use Rattle.slot_table.specs.declared.calls.CallEntry.{CallEntry}
use Rattle.slot_table.specs.Step.{opening, slot_step}
use Rattle.slot_table.specs.History.{Holding, outstanding_then, IsLegalFrom}
use Rattle.farm_machine.specs.declared.reports.Event.{Event}
use Rattle.farm_machine.specs.declared.reports.Event.TheVariants.{Ran, Fetched, Exchanged, Put as PutAt, Took, Gave, GaveBad, Down}
use Rattle.farm_machine.specs.declared.reports.Event.TheVariants.{TookLocal, GaveLocal}
use Rattle.farm_machine.specs.declared.reports.Report.{Report}
use Rattle.farm_machine.specs.Acts.{SlotEvent, Takes, Gives, GivesBad, FindsDown, TakesLocal, GivesLocal, Act, Did, Met, Entries, Reads}
use Rattle.farm_machine.specs.Acts.{ReadsAll, slots_of, next_met, after_met}
use Rattle.farm_machine.specs.Machine.{Wants, JobCall, Draws, Adds, Waits, Mismatched, job_call_of, MaskIs}
use Rattle.farm_machine.specs.Weave.{Reports, Progress, no_progress, progress_after, next_progress, last_progress, Follows, AllFollow}
use Rattle.farm_machine.specs.Weave.{UnreadLaw}
use Rattle.farm_machine.specs.Reading.{slots_in, AreRead, worker_at, slots_at, unread, ReadingLaw}
use Rattle.farm_laws.proofs.SetAt.{set_at-elim}
use Rattle.farm_laws.proofs.Draws.{NextIs, next_is}

abbrev first : List SlotEvent → Option SlotEvent
first [] = None
first (x ∷ xs) = Some x

abbrev behind : List SlotEvent → List SlotEvent
behind [] = []
behind (x ∷ xs) = xs

next-first : (acts : List Act) → next_met acts ≡ first (slots_of acts)
next-first [] = refl
next-first (Did d ∷ acts) = next-first acts
next-first (Met x ∷ acts) = refl

after-behind : (acts : List Act) → slots_of (after_met acts) ≡ behind (slots_of acts)
after-behind [] = refl
after-behind (Did d ∷ acts) = after-behind acts
after-behind (Met x ∷ acts) = refl

-- alike in workers' jobs, which are below n, and in the slot events of the jobs below n
record Alike (n : ℕ) (b c : Progress) : Type 0 where
  current : (w : ℕ) → b.current w ≡ c.current w
  known : (w j : ℕ) → b.current w ≡ Some j → j < n
  past : (j : ℕ) → j < n → b.past j ≡ c.past j
  rest : (j : ℕ) → j < n → slots_of (b.rest j) ≡ slots_of (c.rest j)

next-alike : (n : ℕ) (b c : Progress) → Alike n b c → (j : ℕ) → j < n → next_met (b.rest j) ≡ next_met (c.rest j)
next-alike n b c same j below = next-first (b.rest j) ∙ ap first (same.rest j below) ∙ sym (next-first (c.rest j))

-- a draw answers a job of the limits
abbrev IsBelow : ℕ → JobCall → Type 0
IsBelow n (Draws (Some j)) = j < n
IsBelow n other = Unit {0}

is-below : {h : ℕ} (l : Limits h) (a : JobCall) (n m : ℕ) → NextIs l a n m → IsBelow l.jobs a
is-below l (Draws (Some j)) n m h = let at : j ≡ n = h.0 in let room : n < l.jobs = h.1 in omega (arith, at, room)
is-below l (Draws None) n m h = tt
is-below l (Adds j mask x) n m h = tt
is-below l (Waits j mask kind) n m h = tt
is-below l Mismatched n m h = tt

follows-alike : (n : ℕ) (r s : Reports) (wants : Wants) (b c : Progress) → ((j : ℕ) → j < n → r.worker j ≡ s.worker j) → Alike n b c
    → (v : ℕ) (a : JobCall) → IsBelow n a → Follows r wants b v a → Follows s wants c v a
follows-alike n r s wants b c by same v (Draws None) below h = tt
follows-alike n r s wants b c by same v (Draws (Some j)) below h = sym (by j below) ∙ h
follows-alike n r s wants b c by same v (Adds j mask x) below h =
    let is = same.known v j h.0 in (
      sym (same.current v) ∙ h.0,
      subst (λ (p : List SlotEvent). MaskIs mask (wants p)) (same.past j is) h.1,
      sym (next-alike n b c same j is) ∙ h.2,
    )
follows-alike n r s wants b c by same v (Waits j mask kind) below h =
    let is = same.known v j h.0 in (
      sym (same.current v) ∙ h.0,
      subst (λ (p : List SlotEvent). MaskIs mask (wants p)) (same.past j is) h.1,
      (h.2.0, sym (next-alike n b c same j is) ∙ h.2.1, h.2.2),
    )
follows-alike n r s wants b c by same v Mismatched below h = h

move-alike : (n : ℕ) (r : Reports) (wants : Wants) (b c : Progress) (v : ℕ) (a : JobCall) → IsBelow n a → Follows r wants b v a
    → Alike n b c → Alike n (progress_after b v a) (progress_after c v a)
move-alike n r wants b c v (Draws None) below h same = record {
  current = λ w. ap (λ (z : Option ℕ). cond (nat_eq w v) None z) (same.current w);
  known = λ w j. set_at-elim (λ o. o ≡ Some j → j < n) b.current v None w (λ at is. cc) (λ other. same.known w j);
  past = same.past;
  rest = same.rest;
}
move-alike n r wants b c v (Draws (Some i)) below h same = record {
  current = λ w. ap (λ (z : Option ℕ). cond (nat_eq w v) (Some i) z) (same.current w);
  known = λ w j. set_at-elim (λ o. o ≡ Some j → j < n) b.current v (Some i) w (λ at is. let e : i ≡ j = cc in
      subst (λ (k : ℕ). k < n) e below) (λ other. same.known w j);
  past = same.past;
  rest = same.rest;
}
move-alike n r wants b c v (Adds j mask x) below h same = record {
  current = same.current;
  known = same.known;
  past = λ k under. go-past k under (nat_eq k j);
  rest = λ k under. go-rest k under (nat_eq k j);
}
  where
    at : j < n
    at = same.known v j h.0

    go-past : (k : ℕ) → k < n → (t : Bool) → cond t (b.past j ++ x ∷ []) (b.past k) ≡ cond t (c.past j ++ x ∷ []) (c.past k)
    go-past k under true = ap (λ (p : List SlotEvent). p ++ x ∷ []) (same.past j at)
    go-past k under false = same.past k under

    go-rest : (k : ℕ) → k < n → (t : Bool)
        → slots_of (cond t (after_met (b.rest j)) (b.rest k)) ≡ slots_of (cond t (after_met (c.rest j)) (c.rest k))
    go-rest k under true = after-behind (b.rest j) ∙ ap behind (same.rest j at) ∙ sym (after-behind (c.rest j))
    go-rest k under false = same.rest k under
move-alike n r wants b c v (Waits j mask kind) below h same = same
move-alike n r wants b c v Mismatched below h same = same

all-alike : {h : ℕ} (l : Limits h) (r t : Reports) (wants : Wants) (es : List CallEntry) (s : SlotState h) (o : List Holding)
    (b c : Progress) → IsLegalFrom l s o es → ((j : ℕ) → j < l.jobs → r.worker j ≡ t.worker j) → Alike l.jobs b c → AllFollow r wants b es
    → AllFollow t wants c es × Alike l.jobs (last_progress b es) (last_progress c es)
all-alike l r t wants [] s o b c legal by same h = (tt, same)
all-alike l r t wants (e ∷ es) s o b c legal by same h =
    let below : IsBelow l.jobs (job_call_of e) =
    is-below l (job_call_of e) s.next (slot_step l s e.call).0.next (next_is l s e.call e.reply legal.0.reply) in
    let more = all-alike l r t wants es (slot_step l s e.call).0 (outstanding_then o e) (next_progress b e) (next_progress c e)
    legal.1 by (move-alike l.jobs r wants b c e.caller (job_call_of e) below h.0 same) h.1 in
    ((follows-alike l.jobs r t wants b c by same e.caller (job_call_of e) below h.0, more.0), more.1)

pub unread-law : UnreadLaw
unread-law h l r t wants calls by slots agrees =
    let all = all-alike l r t wants calls (opening h) [] (no_progress r) (no_progress t) agrees.legal by record
    { current = λ w. refl; known = λ w j is. cc; past = λ j below. refl; rest = slots } agrees.follow in
    record {
      legal = agrees.legal;
      follow = all.0;
      drawn = agrees.drawn;
      used =
          λ j below. sym (next-alike l.jobs (last_progress (no_progress r) calls) (last_progress (no_progress t) calls) all.1 j below)
          ∙ agrees.used j below;
    }

slots-met : (xs : List SlotEvent) → slots_of (map Met xs) ≡ xs
slots-met [] = refl
slots-met (x ∷ xs) = ap (λ (l : List SlotEvent). x ∷ l) (slots-met xs)

-- an event that is read is a slot event where it is one of its report
read-one : (es : Entries) (e : Event) (events : List Event) (a : Act) (acts : List Act) → Reads es e a
    → slots_of acts ≡ slots_in events → slots_of (a ∷ acts) ≡ slots_in (e ∷ events)
read-one es (Ran at) events a acts h ih = ap (λ (b : Act). slots_of (b ∷ acts)) h.2 ∙ ih
read-one es (Fetched at) events a acts h ih = ap (λ (b : Act). slots_of (b ∷ acts)) h.2 ∙ ih
read-one es (Exchanged at) events a acts h ih = ap (λ (b : Act). slots_of (b ∷ acts)) h.2 ∙ ih
read-one es (PutAt at) events a acts h ih = ap (λ (b : Act). slots_of (b ∷ acts)) h.2 ∙ ih
read-one es (Took host) events a acts h ih = ap (λ (b : Act). slots_of (b ∷ acts)) h ∙ ap (λ (xs : List SlotEvent). Takes host ∷ xs) ih
read-one es (Gave host) events a acts h ih = ap (λ (b : Act). slots_of (b ∷ acts)) h ∙ ap (λ (xs : List SlotEvent). Gives host ∷ xs) ih
read-one es (GaveBad host until) events a acts h ih = ap (λ (b : Act). slots_of (b ∷ acts)) h
    ∙ ap (λ (xs : List SlotEvent). GivesBad host until ∷ xs) ih
read-one es Down events a acts h ih = ap (λ (b : Act). slots_of (b ∷ acts)) h ∙ ap (λ (xs : List SlotEvent). FindsDown ∷ xs) ih
read-one es TookLocal events a acts h ih = ap (λ (b : Act). slots_of (b ∷ acts)) h ∙ ap (λ (xs : List SlotEvent). TakesLocal ∷ xs) ih
read-one es GaveLocal events a acts h ih = ap (λ (b : Act). slots_of (b ∷ acts)) h ∙ ap (λ (xs : List SlotEvent). GivesLocal ∷ xs) ih

read-all : (es : Entries) (events : List Event) (acts : List Act) → ReadsAll es events acts → slots_of acts ≡ slots_in events
read-all es [] [] h = refl
read-all es (e ∷ events) (a ∷ acts) h = read-one es e events a acts h.0 (read-all es events acts h.1)
read-all es [] (a ∷ acts) h = absurd h
read-all es (e ∷ events) [] h = absurd h

record Found {h : ℕ} (l : Limits h) (list : List Report) (r : Reports) (j : ℕ) : Type 0 where
  worker : r.worker j ≡ worker_at (slice_get list j)
  slots : slots_of (r.acts j) ≡ slots_of (map Met (slots_at (slice_get list j)))

found : {h : ℕ} (l : Limits h) (entries : ℕ → Entries) (list : List Report) (r : Reports) → AreRead l entries list r → (j : ℕ)
    → j < l.jobs → Found l list r j
found l entries list r read j below =
    elim (slice_get_cases list j).1 [
      | inl here ↦
          let report = here.0 in
          let is : slice_get list j ≡ Some report = here.2 in
          let one = read.each j report is in
          record {
            worker = sym one.worker ∙ ap worker_at (sym is);
            slots = read-all (entries report.worker) report.events (r.acts j) one.acts ∙ sym (slots-met (slots_in report.events))
                ∙ ap (λ (o : Option Report). slots_of (map Met (slots_at o))) (sym is);
          }
      | inr past ↦ let count = read.one in let short = past.0 in absurd (omega (arith, short, count, below))
    ]

pub reading-law : ReadingLaw
reading-law h l entries list r wants calls read = (
  unread-law h l (unread list) r wants calls (λ j below. sym (found l entries list r read j below).worker)
      (λ j below. sym (found l entries list r read j below).slots),
  unread-law h l r (unread list) wants calls (λ j below. (found l entries list r read j below).worker)
      (λ j below. (found l entries list r read j below).slots),
)
