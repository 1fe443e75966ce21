-- What is woven of calls that agree and of courses is a run.
use Rattle.std.proofs.Common.{◌≡◌, ◌≢◌, ◌⊎◌, inl, inr, ℕ, ◌+◌, ◌<◌, ◌≤◌, true, List, [], ◌∷◌, ◌++◌, Option, Some, None, refl, sym, ap}
use Rattle.std.proofs.Common.{◌∙◌, subst, arith, append_assoc}
use Rattle.std.proofs.lemmas.List.{append-nil}
use Rattle.std.proofs.lemmas.Bool.{cases_lt, cases_eq}
use Rattle.slot_table.specs.declared.limits.Limits.{Limits}
use Rattle.slot_table.specs.declared.state.SlotState.{SlotState}
use Rattle.slot_table.specs.declared.mask.Mask.{Mask}
use Rattle.slot_table.specs.Mask.{in_mask}
use Rattle.slot_table.specs.declared.calls.CallEntry.{CallEntry}
use Rattle.slot_table.specs.Step.{slot_step}
use Rattle.slot_table.specs.History.{Holding, outstanding_then, IsLegalFrom, state_from, state_after}
use Rattle.edge_traits.specs.Deeds.{Deed}
use Rattle.farm_machine.specs.Acts.{SlotEvent, Takes, FindsDown, Act, Did, Met, slots_of, next_met, after_met}
use Rattle.farm_machine.specs.Machine.{Wants, SlotKind, HostSlot, LocalSlot, JobCall, Draws, Adds, Waits, Mismatched, job_call_of, MaskIs}
use Rattle.farm_machine.specs.Machine.{set_at, JobState, NotBegun, Begun, Returned, FarmState, start, FarmStep, Does, Returns, with_act}
use Rattle.farm_machine.specs.Machine.{jobs_after, after, Farm, MayBeNext, MayWait, MayCall, MayStep, after_steps, IsAllowedFrom}
use Rattle.farm_machine.specs.Machine.{AllReturned, FarmRun}
use Rattle.farm_machine.specs.Weave.{Reports, Progress, no_progress, progress_after, next_progress, last_progress, IsWaitedFor, Follows}
use Rattle.farm_machine.specs.Weave.{AllFollow, IsUsedUp, steps_until_met, steps_behind, weave_from, Agrees, weave}
use Rattle.course_laws.proofs.Courses.{slots_of-append}
use Rattle.farm_laws.proofs.SetAt.{set_at-elim, set_at-same, set_at-other}
use Rattle.farm_laws.proofs.Callers.{Own, own-no_progress, own-move}
use Rattle.farm_laws.proofs.Draws.{NextIs, HasRoom, next_is, has_room, next_grows, next-all}

-- the steps lead to a state in which every job has returned
abbrev pub RunsFrom : {h : ℕ} → Farm → Limits h → FarmState h → List FarmStep → Type 0
RunsFrom f l s [] = AllReturned l s
RunsFrom f l s (step ∷ steps) = MayStep f l s step × RunsFrom f l (after l s step) steps

pub run-allowed : {h : ℕ} (f : Farm) (l : Limits h) (steps : List FarmStep) (s : FarmState h) → RunsFrom f l s steps
    → IsAllowedFrom f l s steps × AllReturned l (after_steps l s steps)
run-allowed f l [] s run = (tt, run)
run-allowed f l (step ∷ steps) s run = let more = run-allowed f l steps (after l s step) run.1 in ((run.0, more.0), more.1)

-- where a job may find all hosts down, it might have taken a slot of any host of a mask that is wanted
abbrev pub TakesWhereDown : {h : ℕ} → Limits h → Farm → Type 0
TakesWhereDown l f = (j : ℕ) (acts : List Act) (host : ℕ) (mask : Mask) → j < l.jobs → host < l.count → in_mask mask host ≡ true
    → f.wants (slots_of acts) mask ≡ true → MayBeNext f j acts (Met FindsDown) → MayBeNext f j acts (Met (Takes host))

-- a begun job whose next act is a slot event
pub record IsOpen (r : Reports) (j : ℕ) (stage : JobState) (past : List SlotEvent) (rest : List Act) : Type 0 where
  pub event : SlotEvent
  pub done : List Act
  pub next : next_met rest ≡ Some event
  pub begun : stage ≡ Begun (r.worker j) done
  pub whole : done ++ Met event ∷ after_met rest ≡ r.acts j
  pub slots : slots_of done ≡ past

abbrev pub IsOver : Reports → ℕ → JobState → List Act → Type 0
IsOver r j stage rest = (next_met rest ≡ None) × (stage ≡ Returned (r.ends j))

-- a job that was drawn stands before a slot event, or has returned
abbrev pub Stands : Reports → ℕ → JobState → List SlotEvent → List Act → Type 0
Stands r j stage past rest = IsOver r j stage rest ⊎ IsOpen r j stage past rest

-- what the calls so far leave, and the state of the machine after what was woven of them
pub record Inv {h : ℕ} (l : Limits h) (r : Reports) (b : Progress) (w : FarmState h) : Type 0 where
  pub ahead : (j : ℕ) → w.slots.next ≤ j → (w.jobs j ≡ NotBegun) × (b.rest j ≡ r.acts j) × (b.past j ≡ [])
  pub stands : (j : ℕ) → j < w.slots.next → Stands r j (w.jobs j) (b.past j) (b.rest j)
  pub below : w.slots.next ≤ l.jobs
  pub own : Own r b
  pub known : (v j : ℕ) → b.current v ≡ Some j → j < w.slots.next

-- the job of no worker is left as it is
untouched-step : {h : ℕ} (l : Limits h) (r : Reports) (wants : Wants) (b : Progress) (v j n m : ℕ) → j < n
    → ((u : ℕ) → b.current u ≢ Some j) → (a : JobCall) → NextIs l a n m → Follows r wants b v a
    → ((u : ℕ) → (progress_after b v a).current u ≢ Some j) × ((progress_after b v a).rest j ≡ b.rest j)
untouched-step l r wants b v j n m below none (Draws (Some k)) next fit = (
  λ u. set_at-elim (λ o. o ≢ Some j) b.current v (Some k) u (λ at is. let same : k ≡ j = cc in absurd (omega arith))
      (λ other. none u),
  refl,
)
untouched-step l r wants b v j n m below none (Draws None) next fit =
    (λ u. set_at-elim (λ o. o ≢ Some j) b.current v None u (λ at is. cc) (λ other. none u), refl)
untouched-step l r wants b v j n m below none (Adds k mask x) next fit =
    (none, set_at-other b.rest k (after_met (b.rest k)) j (λ e. none v (fit.0 ∙ ap Some (sym e))))
untouched-step l r wants b v j n m below none (Waits k mask kind) next fit = (none, refl)
untouched-step l r wants b v j n m below none Mismatched next fit = absurd fit

untouched : {h : ℕ} (l : Limits h) (r : Reports) (wants : Wants) (j : ℕ) (es : List CallEntry) (b : Progress) (s : SlotState h)
    (o : List Holding) → IsLegalFrom l s o es → AllFollow r wants b es → j < s.next → ((u : ℕ) → b.current u ≢ Some j)
    → (last_progress b es).rest j ≡ b.rest j
untouched l r wants j [] b s o legal follow below none = refl
untouched l r wants j (e ∷ es) b s o legal follow below none =
    let next = next_is l s e.call e.reply legal.0.reply in
    let one = untouched-step l r wants b e.caller j s.next (slot_step l s e.call).0.next below none (job_call_of e) next follow.0 in
    let more : s.next ≤ (slot_step l s e.call).0.next = next_grows l (job_call_of e) s.next (slot_step l s e.call).0.next next in
    untouched l r wants j es (next_progress b e) (slot_step l s e.call).0 (outstanding_then o e) legal.1 follow.1 (omega arith)
    one.0 ∙ one.1

slots_of-did : (done : List Act) (d : Deed) → slots_of (done ++ Did d ∷ []) ≡ slots_of done
slots_of-did done d = slots_of-append done (Did d ∷ []) ∙ append-nil (slots_of done)

-- a deed in front changes nothing
stands-did : (r : Reports) (j : ℕ) (stage : JobState) (past : List SlotEvent) (d : Deed) (rest : List Act)
    → Stands r j stage past rest → Stands r j stage past (Did d ∷ rest)
stands-did r j stage past d rest (inl over) = inl over
stands-did r j stage past d rest (inr o) =
    inr record { event = o.event; done = o.done; next = o.next; begun = o.begun; whole = o.whole; slots = o.slots }

-- The deeds up to the next slot event are steps, and so is the return where there is none.
flush : {h : ℕ} (f : Farm) (l : Limits h) (r : Reports) (j : ℕ) (past : List SlotEvent) (more : List FarmStep)
    → f.Course j (r.acts j) (r.ends j) → (rest : List Act) (w : FarmState h) (done : List Act)
    → w.jobs j ≡ Begun (r.worker j) done → done ++ rest ≡ r.acts j → slots_of done ≡ past
    → ((w' : FarmState h) → w'.slots ≡ w.slots → ((k : ℕ) → k ≢ j → w'.jobs k ≡ w.jobs k) → Stands r j (w'.jobs j) past rest
    → RunsFrom f l w' more)
    → RunsFrom f l w (steps_until_met j (r.ends j) rest ++ more)
flush f l r j past more course [] w done begun whole slots go_on = (
  (r.worker j, done, begun, subst (λ (acts : List Act). f.Course j acts (r.ends j)) (sym (sym (append-nil done) ∙ whole)) course),
  go_on (after l w (Returns j (r.ends j))) refl (λ k other. set_at-other w.jobs j (Returned (r.ends j)) k other)
      (inl (refl, set_at-same w.jobs j (Returned (r.ends j)))),
)
flush f l r j past more course (Did d ∷ rest) w done begun whole slots go_on = (
  (r.worker j, done, begun, (rest, r.ends j, subst (λ (acts : List Act). f.Course j acts (r.ends j)) (sym whole) course)),
  flush f l r j past more course rest (after l w (Does j d)) (done ++ Did d ∷ [])
      (set_at-same w.jobs j (with_act (w.jobs j) (Did d)) ∙ ap (λ (st : JobState). with_act st (Did d)) begun)
      (append_assoc done (Did d ∷ []) rest ∙ whole)
      (slots_of-did done d ∙ slots)
      (λ w' same others stands. go_on w' same
      (λ k other. others k other ∙ set_at-other w.jobs j (with_act (w.jobs j) (Did d)) k other)
      (stands-did r j (w'.jobs j) past d rest stands)),
)
flush f l r j past more course (Met x ∷ rest) w done begun whole slots go_on =
    go_on w refl (λ k other. refl) (inr record { event = x; done = done; next = refl; begun = begun; whole = whole; slots = slots })

abbrev AtDraw : JobCall → Type 0 → Type 0
AtDraw (Draws o) P = P
AtDraw (Adds j mask x) P = Unit {0}
AtDraw (Waits j mask kind) P = Unit {0}
AtDraw Mismatched P = Unit {0}

-- a worker draws only where its earlier jobs are used up, since nothing is left over at the end
idle : {h : ℕ} (l : Limits h) (r : Reports) (wants : Wants) (b : Progress) (v n m : ℕ) → Own r b → (a : JobCall) → NextIs l a n m
    → Follows r wants b v a
    → ((j : ℕ) → j < n → ((u : ℕ) → (progress_after b v a).current u ≢ Some j) → next_met ((progress_after b v a).rest j) ≡ None)
    → AtDraw a ((j : ℕ) → j < n → r.worker j ≡ v → next_met (b.rest j) ≡ None)
idle l r wants b v n m own (Draws (Some k)) next fit used =
    λ j below by. used j below
    (λ u. set_at-elim (λ o. o ≢ Some j) b.current v (Some k) u (λ at is. let same : k ≡ j = cc in absurd (omega arith))
    (λ other is. other (sym (own u j is) ∙ by)))
idle l r wants b v n m own (Draws None) next fit used =
    λ j below by. used j below
    (λ u. set_at-elim (λ o. o ≢ Some j) b.current v None u (λ at is. cc) (λ other is. other (sym (own u j is) ∙ by)))
idle l r wants b v n m own (Adds j mask x) next fit used = tt
idle l r wants b v n m own (Waits j mask kind) next fit used = tt
idle l r wants b v n m own Mismatched next fit used = tt

-- an open job's next slot event may come next
open-next : (f : Farm) (r : Reports) (j : ℕ) (stage : JobState) (past : List SlotEvent) (rest : List Act)
    → f.Course j (r.acts j) (r.ends j) → (o : IsOpen r j stage past rest) → (x : SlotEvent) → next_met rest ≡ Some x
    → MayBeNext f j o.done (Met x)
open-next f r j stage past rest course o x is =
    let same : o.event ≡ x = let e : Some o.event ≡ Some x = sym o.next ∙ is in cc in
    subst (λ (y : SlotEvent). MayBeNext f j o.done (Met y)) same
    (after_met rest, r.ends j, subst (λ (acts : List Act). f.Course j acts (r.ends j)) (sym o.whole) course)

may_wait : {h : ℕ} (f : Farm) (l : Limits h) (j : ℕ) (done : List Act) (mask : Option Mask) (kind : SlotKind) (x : SlotEvent)
    → TakesWhereDown l f → j < l.jobs → HasRoom l (Waits j mask kind) → MaskIs mask (f.wants (slots_of done)) → IsWaitedFor kind x
    → MayBeNext f j done (Met x) → MayWait f j done kind
may_wait f l j done (Some mask) HostSlot x turns below room is waited next =
    elim waited [
      | inl down ↦ (
        room.0,
        turns j done room.0 mask below room.1 room.2 is
            (subst (λ (y : SlotEvent). MayBeNext f j done (Met y)) down next),
      )
      | inr got ↦ (got.0, subst (λ (y : SlotEvent). MayBeNext f j done (Met y)) got.1 next)
    ]
may_wait f l j done None HostSlot x turns below room is waited next = absurd room
may_wait f l j done mask LocalSlot x turns below room is waited next = subst (λ (y : SlotEvent). MayBeNext f j done (Met y)) waited next

may : {h : ℕ} (f : Farm) (l : Limits h) (r : Reports) (b : Progress) (w : FarmState h) (v m : ℕ) → TakesWhereDown l f
    → ((j : ℕ) → j < l.jobs → f.Course j (r.acts j) (r.ends j)) → Inv l r b w
    → (a : JobCall) → NextIs l a w.slots.next m → HasRoom l a → Follows r f.wants b v a
    → AtDraw a ((j : ℕ) → j < w.slots.next → r.worker j ≡ v → next_met (b.rest j) ≡ None) → MayCall f w.jobs v a
may f l r b w v m turns courses inv (Draws o) next room fit idle = λ j acts is.
    elim (cases_lt j w.slots.next) [
      | inl below ↦ elim (inv.stands j below) [
        | inl over ↦ let e : Returned (r.ends j) ≡ Begun v acts = sym over.1 ∙ is in cc
        | inr open_ ↦ let e : Begun (r.worker j) open_.done ≡ Begun v acts = sym open_.begun ∙ is in let by : r.worker j ≡ v = cc in
            let none : Some open_.event ≡ None = sym open_.next ∙ idle j below by in cc
      ]
      | inr above ↦ let e : NotBegun ≡ Begun v acts = sym (inv.ahead j above).0 ∙ is in cc
    ]
may f l r b w v m turns courses inv (Adds j mask x) next room fit idle =
    let below : j < w.slots.next = inv.known v j fit.0 in
    let by : r.worker j ≡ v = inv.own v j fit.0 in
    let top : w.slots.next ≤ l.jobs = inv.below in
    elim (inv.stands j below) [
      | inl over ↦ let none : Some x ≡ None = sym fit.2 ∙ over.0 in cc
      | inr o ↦ (
        o.done,
        o.begun ∙ ap (λ (u : ℕ). Begun u o.done) by,
        subst (λ (p : List SlotEvent). MaskIs mask (f.wants p))
            (sym o.slots) fit.1,
        open-next f r j (w.jobs j) (b.past j) (b.rest j) (courses j (omega arith)) o x fit.2,
      )
    ]
may f l r b w v m turns courses inv (Waits j mask kind) next room fit idle =
    let below : j < w.slots.next = inv.known v j fit.0 in
    let by : r.worker j ≡ v = inv.own v j fit.0 in
    let top : w.slots.next ≤ l.jobs = inv.below in
    elim (inv.stands j below) [
      | inl over ↦ let none : Some fit.2.0 ≡ None = sym fit.2.1 ∙ over.0 in cc
      | inr o ↦
          let is : MaskIs mask (f.wants (slots_of o.done)) =
          subst (λ (p : List SlotEvent). MaskIs mask (f.wants p)) (sym o.slots) fit.1 in (
            o.done,
            o.begun ∙ ap (λ (u : ℕ). Begun u o.done) by,
            is,
            may_wait f l j o.done mask kind fit.2.0 turns (omega arith) room
                is fit.2.2 (open-next f r j (w.jobs j) (b.past j) (b.rest j) (courses j (omega arith)) o fit.2.0 fit.2.1),
          )
    ]
may f l r b w v m turns courses inv Mismatched next room fit idle = absurd fit

stands-along : (r : Reports) (k : ℕ) (s t : JobState) (p q : List SlotEvent) (x y : List Act) → t ≡ s → q ≡ p → y ≡ x
    → Stands r k s p x → Stands r k t q y
stands-along r k s t p q x y es ep ex h =
    subst (λ (t : JobState). Stands r k t q y) (sym es)
    (subst (λ (q : List SlotEvent). Stands r k s q y) (sym ep) (subst (λ (y : List Act). Stands r k s p y) (sym ex) h))

-- what is woven after a call leads to a state that the calls so far leave
step : {h : ℕ} (f : Farm) (l : Limits h) (r : Reports) (b : Progress) (w : FarmState h) (s : SlotState h) (v : ℕ)
    (more : List FarmStep) → ((j : ℕ) → j < l.jobs → f.Course j (r.acts j) (r.ends j)) → Inv l r b w
    → (a : JobCall) → NextIs l a w.slots.next s.next → Follows r f.wants b v a
    → ((w' : FarmState h) → w'.slots ≡ s → Inv l r (progress_after b v a) w' → RunsFrom f l w' more)
    → RunsFrom f l (record { slots = s; jobs = jobs_after w.jobs v a }) (steps_behind r (progress_after b v a) a ++ more)
step {h} f l r b w s v more courses inv (Draws None) next fit go_on =
    go_on (record { slots = s; jobs = w.jobs }) refl record {
      ahead = λ j above. inv.ahead j (omega arith);
      stands = λ j below. inv.stands j (omega arith);
      below = let top : w.slots.next ≤ l.jobs = inv.below in omega arith;
      own = own-move r f.wants v b inv.own (Draws None) fit;
      known = λ u j. set_at-elim (λ o. o ≡ Some j → j < s.next) b.current v None u (λ at is. cc)
          (λ other is. let k : j < w.slots.next = inv.known u j is in omega arith);
    }
step {h} f l r b w s v more courses inv (Draws (Some j)) next fit go_on =
    flush f l r j (b.past j) more
    (courses j (let at : j ≡ w.slots.next = next.0 in let top : w.slots.next < l.jobs = next.1 in omega arith)) (b.rest j)
    (record { slots = s; jobs = set_at w.jobs j (Begun v []) }) []
    (set_at-same w.jobs j (Begun v []) ∙ ap (λ (u : ℕ). Begun u []) (sym fit))
    (inv.ahead j (omega arith)).1
    (sym (inv.ahead j (omega arith)).2)
    (λ w' same others stands.
    let n : w'.slots.next ≡ w.slots.next + 1 = ap (λ (z : SlotState h). z.next) same ∙ next.2 in
    let at : j ≡ w.slots.next = next.0 in
    go_on w' same record {
      ahead = λ k above. let apart : k ≢ j = omega arith in let was = inv.ahead k (omega arith) in
          (others k apart ∙ set_at-other w.jobs j (Begun v []) k apart ∙ was.0, was.1, was.2);
      stands = λ k below. elim (cases_eq k j) [
        | inl here ↦ subst (λ (i : ℕ). Stands r i (w'.jobs i) (b.past i) (b.rest i)) (sym here) stands
        | inr apart ↦ stands-along r k (w.jobs k) (w'.jobs k) (b.past k) (b.past k) (b.rest k) (b.rest k)
            (others k apart ∙ set_at-other w.jobs j (Begun v []) k apart) refl refl (inv.stands k (omega arith))
      ];
      below = let top : w.slots.next < l.jobs = next.1 in omega arith;
      own = own-move r f.wants v b inv.own (Draws (Some j)) fit;
      known = λ u k. set_at-elim (λ o. o ≡ Some k → k < w'.slots.next) b.current v (Some j) u (λ here is. let e : j ≡ k = cc in
          omega arith) (λ other is. let below : k < w.slots.next = inv.known u k is in omega arith);
    })
step {h} f l r b w s v more courses inv (Adds j mask x) next fit go_on =
    let below : j < w.slots.next = inv.known v j fit.0 in
    let top : w.slots.next ≤ l.jobs = inv.below in
    elim (inv.stands j below) [
      | inl over ↦ let none : Some x ≡ None = sym fit.2 ∙ over.0 in cc
      | inr o ↦
          let e : o.event ≡ x = let e : Some o.event ≡ Some x = sym o.next ∙ fit.2 in cc in
          let b' : Progress = progress_after b v (Adds j mask x) in
          flush f l r j (b'.past j) more (courses j (omega arith)) (b'.rest j)
          (record { slots = s; jobs = set_at w.jobs j (with_act (w.jobs j) (Met x)) }) (o.done ++ Met x ∷ [])
          (set_at-same w.jobs j (with_act (w.jobs j) (Met x)) ∙ ap (λ (st : JobState). with_act st (Met x)) o.begun)
          (append_assoc o.done (Met x ∷ []) (b'.rest j)
          ∙ ap (λ (z : List Act). o.done ++ Met x ∷ z) (set_at-same b.rest j (after_met (b.rest j)))
          ∙ ap (λ (y : SlotEvent). o.done ++ Met y ∷ after_met (b.rest j)) (sym e) ∙ o.whole)
          (slots_of-append o.done (Met x ∷ []) ∙ ap (λ (p : List SlotEvent). p ++ x ∷ []) o.slots
          ∙ sym (set_at-same b.past j (b.past j ++ x ∷ [])))
          (λ w' same others stands.
          let n : w'.slots.next ≡ w.slots.next = ap (λ (z : SlotState h). z.next) same ∙ next in
          go_on w' same record {
            ahead = λ k above. let apart : k ≢ j = omega arith in let was = inv.ahead k (omega arith) in (
              others k apart ∙ set_at-other w.jobs j (with_act (w.jobs j) (Met x)) k apart
                  ∙ was.0,
              set_at-other b.rest j (after_met (b.rest j)) k apart
                  ∙ was.1,
              set_at-other b.past j (b.past j ++ x ∷ []) k apart ∙ was.2,
            );
            stands = λ k under. elim (cases_eq k j) [
              | inl here ↦ subst (λ (i : ℕ). Stands r i (w'.jobs i) (b'.past i) (b'.rest i)) (sym here) stands
              | inr apart ↦ stands-along r k (w.jobs k) (w'.jobs k) (b.past k) (b'.past k) (b.rest k) (b'.rest k)
                  (others k apart ∙ set_at-other w.jobs j (with_act (w.jobs j) (Met x)) k apart)
                  (set_at-other b.past j (b.past j ++ x ∷ []) k apart) (set_at-other b.rest j (after_met (b.rest j)) k apart)
                  (inv.stands k (omega arith))
            ];
            below = omega arith;
            own = inv.own;
            known = λ u k is. let under : k < w.slots.next = inv.known u k is in omega arith;
          })
    ]
step {h} f l r b w s v more courses inv (Waits j mask kind) next fit go_on =
    go_on (record { slots = s; jobs = w.jobs }) refl record {
      ahead = λ j above. inv.ahead j (omega arith);
      stands = λ j below. inv.stands j (omega arith);
      below = let top : w.slots.next ≤ l.jobs = inv.below in omega arith;
      own = inv.own;
      known = λ u j is. let k : j < w.slots.next = inv.known u j is in omega arith;
    }
step f l r b w s v more courses inv Mismatched next fit go_on = absurd fit

woven-from : {h : ℕ} (f : Farm) (l : Limits h) (r : Reports) → TakesWhereDown l f
    → ((j : ℕ) → j < l.jobs → f.Course j (r.acts j) (r.ends j))
    → (es : List CallEntry) (b : Progress) (w : FarmState h) (o : List Holding) → Inv l r b w → IsLegalFrom l w.slots o es
    → AllFollow r f.wants b es
    → ((j : ℕ) → j < l.jobs → j < (state_from l w.slots es).next) → ((j : ℕ) → j < l.jobs → IsUsedUp (last_progress b es) j)
    → RunsFrom f l w (weave_from r b es)
woven-from f l r turns courses [] b w o inv legal follow drawn used = λ j below.
    elim (inv.stands j (drawn j below)) [
      | inl over ↦ (r.ends j, over.1)
      | inr open_ ↦ let none : Some open_.event ≡ None = sym open_.next ∙ used j below in cc
    ]
woven-from {h} f l r turns courses (e ∷ es) b w o inv legal follow drawn used =
    let s : SlotState h = (slot_step l w.slots e.call).0 in
    let next : NextIs l (job_call_of e) w.slots.next s.next = next_is l w.slots e.call e.reply legal.0.reply in
    let more : w.slots.next ≤ s.next = next_grows l (job_call_of e) w.slots.next s.next next in
    let top : w.slots.next ≤ l.jobs = inv.below in
    let free = idle l r f.wants b e.caller w.slots.next s.next inv.own (job_call_of e) next follow.0
    (λ j below none. ap next_met
    (sym (untouched l r f.wants j es (next_progress b e) s (outstanding_then o e) legal.1 follow.1 (omega arith) none))
    ∙ used j (omega arith)) in (
      (
        legal.0.reply,
        may f l r b w e.caller s.next turns courses inv (job_call_of e) next
            (has_room l w.slots e.call e.reply legal.0.reply) follow.0 free,
      ),
      step f l r b w s e.caller (weave_from r (next_progress b e) es) courses inv (job_call_of e) next follow.0
          (λ w' same inv'. woven-from f l r turns courses es (next_progress b e) w' (outstanding_then o e) inv'
          (subst (λ (z : SlotState h). IsLegalFrom l z (outstanding_then o e) es) (sym same) legal.1) follow.1
          (λ j below. subst (λ (z : SlotState h). j < (state_from l z es).next) (sym same) (drawn j below)) used),
    )

pub woven : {h : ℕ} (f : Farm) (l : Limits h) (r : Reports) (calls : List CallEntry) → TakesWhereDown l f
    → ((j : ℕ) → j < l.jobs → f.Course j (r.acts j) (r.ends j)) → Agrees l r f.wants calls → FarmRun f l (weave calls r)
woven {h} f l r calls turns courses agrees =
    let last : (state_after l calls).next ≡ l.jobs = next-all l calls agrees.legal agrees.drawn in
    let runs = woven-from f l r turns courses calls (no_progress r) (start h) []
    record {
      ahead = λ j above. (refl, refl, refl);
      stands = λ j below. absurd (omega arith);
      below = omega arith;
      own = own-no_progress r;
      known = λ v j is. cc;
    }
    agrees.legal agrees.follow
    (λ j below. omega (arith, last, below))
    agrees.used in
    let all = run-allowed f l (weave calls r) (start h) runs in
    record { allowed = all.0; returned = all.1 }
