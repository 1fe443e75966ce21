-- What each step of the machine keeps.
use Rattle.std.proofs.Common.{◌≡◌, ◌≢◌, inl, inr, ℕ, ◌+◌, ◌<◌, ◌≤◌, Bool, true, false, ◌&&◌, not, cond, List, [], ◌∷◌, ◌++◌, Option, Some}
use Rattle.std.proofs.Common.{None, nat_eq, refl, sym, ap, ◌∙◌, subst, arith, append_assoc, eq-eqb}
use Rattle.std.proofs.lemmas.Bool.{cases_lt}
use Rattle.slot_table.specs.declared.limits.Limits.{Limits}
use Rattle.slot_table.specs.declared.state.SlotState.{SlotState}
use Rattle.slot_table.specs.declared.mask.Mask.{Mask}
use Rattle.slot_table.specs.declared.calls.SlotCall.{SlotCall}
use Rattle.slot_table.specs.declared.calls.SlotCall.TheVariants.{Draw, Take, Give, GiveBad, TakeLocal, GiveLocal}
use Rattle.slot_table.specs.declared.calls.SlotReply.{SlotReply}
use Rattle.slot_table.specs.declared.calls.SlotReply.TheVariants.{Drawn, Got, Full, Down, Local, Given}
use Rattle.slot_table.specs.Limits.{is_local}
use Rattle.slot_table.specs.History.{Holding, holding, host_eq, without, has, Change, Keeps, Takes as Taking, Gives as Giving, change}
use Rattle.slot_table.specs.History.{changed, outstanding, may_call}
use Rattle.slot_table.proofs.Holdings.{host_eq-refl}
use Rattle.farm_machine.specs.declared.reports.End.{End}
use Rattle.farm_machine.specs.Acts.{SlotEvent, Takes, Gives, GivesBad, FindsDown, TakesLocal, GivesLocal, Act, Met, slots_of, Loan}
use Rattle.farm_machine.specs.Acts.{loan_of, IsTurn}
use Rattle.farm_machine.specs.Jobs.{Job, host_count, is_local_host}
use Rattle.farm_machine.specs.Course.{Course}
use Rattle.farm_machine.specs.Machine.{JobCall, Draws, Adds, Waits, Mismatched, job_call, set_at, JobState, NotBegun, Begun}
use Rattle.farm_machine.specs.Machine.{FarmState, with_act, jobs_after, after}
use Rattle.farm_machine.specs.Machine.{Farm, MayCall}
use Rattle.farm_machine.specs.Farm.{farm_of, IsOf, times, is_loan, lent, Kept}
use Rattle.course_laws.proofs.Courses.{turn-at, loan-met}
use Rattle.farm_laws.proofs.Below.{lent-below}
use Rattle.farm_laws.proofs.SetAt.{set_at-elim, set_at-other}
use Rattle.farm_laws.proofs.Draws.{NextIs}
use Rattle.farm_laws.proofs.Grants.{times-without, times-has, other-job, same-job, and-false}

-- what a call does to the grants, by what it is for its job
abbrev pub effect : JobCall → Change
effect (Adds j mask (Takes host)) = Taking j (Some host)
effect (Adds j mask TakesLocal) = Taking j None
effect (Adds j mask (Gives host)) = Giving j (Some host)
effect (Adds j mask (GivesBad host until)) = Giving j (Some host)
effect (Adds j mask GivesLocal) = Giving j None
effect a = Keeps

abbrev IsMatched : JobCall → Type 0
IsMatched Mismatched = ⊥
IsMatched a = Unit {0}

abbrev IsRemoteCall : {h : ℕ} → Limits h → JobCall → Type 0
IsRemoteCall l (Adds j mask (GivesBad host until)) = is_local l host ≡ false
IsRemoteCall l a = Unit {0}

pub change-is : (call : SlotCall) (reply : SlotReply) → IsMatched (job_call call reply) → change call reply ≡ effect (job_call call reply)
change-is Draw (Drawn o) h = refl
change-is (Take job mask now) (Got host) h = refl
change-is (Take job mask now) Down h = refl
change-is (Take job mask now) Full h = refl
change-is (Give host job) Given h = refl
change-is (GiveBad host job until) Given h = refl
change-is (TakeLocal job) (Local true) h = refl
change-is (TakeLocal job) (Local false) h = refl
change-is (GiveLocal job) Given h = refl
change-is call reply h = absurd h

-- what is given is outstanding
abbrev IsOut : ℕ → List Holding → Change → Type 0
IsOut caller out Keeps = Unit {0}
IsOut caller out (Taking job host) = Unit {0}
IsOut caller out (Giving job host) = has (holding caller job host) out ≡ true

pub may-call : {h : ℕ} (l : Limits h) (v : ℕ) (o : List Holding) (call : SlotCall) (reply : SlotReply) → IsMatched (job_call call reply)
    → IsOut v o (effect (job_call call reply)) → IsRemoteCall l (job_call call reply) → may_call l v o call ≡ true
may-call l v o Draw (Drawn job) h out r = refl
may-call l v o (Take job mask now) (Got host) h out r = refl
may-call l v o (Take job mask now) Down h out r = refl
may-call l v o (Take job mask now) Full h out r = refl
may-call l v o (Give host job) Given h out r = out
may-call l v o (GiveBad host job until) Given h out r = ap (λ (b : Bool). b && not (is_local l host)) out ∙ ap not r
may-call l v o (TakeLocal job) (Local true) h out r = refl
may-call l v o (TakeLocal job) (Local false) h out r = refl
may-call l v o (GiveLocal job) Given h out r = out
may-call l v o call reply h out r = absurd h

-- A begun job goes on to another state, in which it is begun by the same worker or no longer begun.
pub moved : {h : ℕ} (f : Farm) (l : Limits h) (o o' : List Holding) (w : FarmState h) (s : SlotState h) (j v : ℕ) (acts : List Act)
    (state : JobState) → Kept f l o w → s.next ≡ w.slots.next → w.jobs j ≡ Begun v acts → state ≢ NotBegun
    → ((u : ℕ) (a : List Act) → state ≡ Begun u a → (u ≡ v) × ((rest : List Act) × (end : End) × f.Course j (a ++ rest) end))
    → ((x : Holding) → x.job ≡ j → times x o' ≡ lent state x) → ((x : Holding) → x.job ≢ j → times x o' ≡ times x o)
    → Kept f l o' (record { slots = s; jobs = set_at w.jobs j state })
moved f l o o' w s j v acts state kept next begun not_waiting goes here there = record {
  ahead = λ k above. let apart : k ≢ j = λ e. let is : Begun v acts ≡ NotBegun = sym begun ∙ ap w.jobs (sym e)
      ∙ kept.ahead k (omega arith) in cc in set_at-other w.jobs j state k apart ∙ kept.ahead k (omega arith);
  drawn = λ k below. set_at-elim (λ st. st ≢ NotBegun) w.jobs j state k (λ e. not_waiting) (λ n. kept.drawn k (omega arith));
  below = let top : w.slots.next ≤ l.jobs = kept.below in omega arith;
  one = λ u i k a b. set_at-elim (λ st. st ≡ Begun u a → set_at w.jobs j state k ≡ Begun u b → i ≡ k) w.jobs j state i
      (λ at is. set_at-elim (λ st. st ≡ Begun u b → i ≡ k) w.jobs j state k (λ at' is'. at ∙ sym at') (λ n is'. let e : u ≡ v =
      (goes u a is).0 in at ∙ kept.one u j k acts b (begun ∙ ap (λ (z : ℕ). Begun z acts) (sym e)) is'))
      (λ n is. set_at-elim (λ st. st ≡ Begun u b → i ≡ k) w.jobs j state k (λ at' is'. let e : u ≡ v = (goes u b is').0 in
      kept.one u i j a acts is (begun ∙ ap (λ (z : ℕ). Begun z acts) (sym e)) ∙ sym at') (λ n' is'. kept.one u i k a b is is'));
  course = λ k u a. set_at-elim (λ st. st ≡ Begun u a → (rest : List Act) × (end : End) × f.Course k (a ++ rest) end) w.jobs j state k
      (λ at is. subst (λ (i : ℕ). (rest : List Act) × (end : End) × f.Course i (a ++ rest) end) (sym at) (goes u a is).1)
      (λ n is. kept.course k u a is);
  lent = λ x. set_at-elim (λ st. times x o' ≡ lent st x) w.jobs j state x.job (λ at. here x at) (λ n. there x n ∙ kept.lent x);
}

pub lent-none : (by : ℕ) (acts : List Act) (x : Holding) → loan_of None (slots_of acts) ≡ None → lent (Begun by acts) x ≡ 0
lent-none by acts x e = ap (λ (loan : Loan). cond (nat_eq x.caller by && is_loan loan x.host) 1 0) e
    ∙ ap (λ (b : Bool). cond b 1 0) (and-false (nat_eq x.caller by))

lent-some : (by : ℕ) (acts : List Act) (x : Holding) (host : Option ℕ) → loan_of None (slots_of acts) ≡ Some host
    → lent (Begun by acts) x ≡ cond (nat_eq x.caller by && host_eq x.host host) 1 0
lent-some by acts x host e = ap (λ (loan : Loan). cond (nat_eq x.caller by && is_loan loan x.host) 1 0) e

-- the grants after a take
took-here : (o : List Holding) (v j : ℕ) (host : Option ℕ) (acts acts' : List Act) (x : Holding) → times x o ≡ lent (Begun v acts) x
    → loan_of None (slots_of acts) ≡ None → loan_of None (slots_of acts') ≡ Some host → x.job ≡ j
    → times x (holding v j host ∷ o) ≡ lent (Begun v acts') x
took-here o v j host acts acts' x was none some at =
    ap (λ (b : Bool). cond b (times x o + 1) (times x o)) (same-job x v j host at)
    ∙ ap (λ (n : ℕ). cond (nat_eq x.caller v && host_eq x.host host) (n + 1) n) (was ∙ lent-none v acts x none)
    ∙ sym (lent-some v acts' x host some)

took-there : (o : List Holding) (v j : ℕ) (host : Option ℕ) (x : Holding) → x.job ≢ j → times x (holding v j host ∷ o) ≡ times x o
took-there o v j host x apart = ap (λ (b : Bool). cond b (times x o + 1) (times x o)) (other-job x v j host apart)

-- what is to be given is out
gave-out : (o : List Holding) (v j : ℕ) (host : Option ℕ) (acts : List Act)
    → times (holding v j host) o ≡ lent (Begun v acts) (holding v j host) → loan_of None (slots_of acts) ≡ Some host
    → has (holding v j host) o ≡ true
gave-out o v j host acts was some =
    let e : lent (Begun v acts) (holding v j host) ≡ 1 = lent-some v acts (holding v j host) host some
    ∙ ap (λ (b : Bool). cond (b && host_eq host host) 1 0) (eq-eqb v v refl) ∙ ap (λ (b : Bool). cond b 1 0) (host_eq-refl host) in
    times-has (holding v j host) o (omega arith)

gave-here : (o : List Holding) (v j : ℕ) (host : Option ℕ) (acts acts' : List Act) (x : Holding) → has (holding v j host) o ≡ true
    → times x o ≡ lent (Begun v acts) x → loan_of None (slots_of acts) ≡ Some host → loan_of None (slots_of acts') ≡ None → x.job ≡ j
    → times x (without (holding v j host) o) ≡ lent (Begun v acts') x
gave-here o v j host acts acts' x is_in was some none at = go (nat_eq x.caller v && host_eq x.host host) refl
    ∙ sym (lent-none v acts' x none)
  where
    less : (n : ℕ) → n + 1 ≡ 1 → n ≡ 0
    less n e = omega arith

    go : (b : Bool) → (nat_eq x.caller v && host_eq x.host host) ≡ b → times x (without (holding v j host) o) ≡ 0
    go true is = less (times x (without (holding v j host) o))
        (ap (λ (b : Bool). cond b (times x (without (holding v j host) o) + 1) (times x (without (holding v j host) o)))
        (sym (same-job x v j host at ∙ is)) ∙ sym (times-without x (holding v j host) o is_in) ∙ was ∙ lent-some v acts x host some
        ∙ ap (λ (b : Bool). cond b 1 0) is)
    go false is = ap (λ (b : Bool). cond b (times x (without (holding v j host) o) + 1) (times x (without (holding v j host) o)))
        (sym (same-job x v j host at ∙ is)) ∙ sym (times-without x (holding v j host) o is_in) ∙ was ∙ lent-some v acts x host some
        ∙ ap (λ (b : Bool). cond b 1 0) is

gave-there : (o : List Holding) (v j : ℕ) (host : Option ℕ) (x : Holding) → has (holding v j host) o ≡ true → x.job ≢ j
    → times x (without (holding v j host) o) ≡ times x o
gave-there o v j host x is_in apart =
    sym (times-without x (holding v j host) o is_in
    ∙ ap (λ (b : Bool). cond b (times x (without (holding v j host) o) + 1) (times x (without (holding v j host) o)))
    (other-job x v j host apart))

-- the grants after an event of a job
record After (o : List Holding) (v j : ℕ) (acts : List Act) (x : SlotEvent) : Type 0 where
  is_out : IsOut v o (effect (Adds j None x))
  here : (y : Holding) → y.job ≡ j → times y (changed v o (effect (Adds j None x))) ≡ lent (Begun v (acts ++ Met x ∷ [])) y
  there : (y : Holding) → y.job ≢ j → times y (changed v o (effect (Adds j None x))) ≡ times y o

after-event : (local : ℕ → Bool) (o : List Holding) (v j : ℕ) (acts : List Act) (x : SlotEvent)
    → ((y : Holding) → y.job ≡ j → times y o ≡ lent (Begun v acts) y) → IsTurn local (loan_of None (slots_of acts)) x → After o v j acts x
after-event local o v j acts (Takes host) was turn = record {
  is_out = tt;
  here = λ y at. took-here o v j (Some host) acts (acts ++ Met (Takes host) ∷ []) y (was y at) turn (loan-met acts (Takes host)) at;
  there = λ y apart. took-there o v j (Some host) y apart;
}
after-event local o v j acts TakesLocal was turn = record {
  is_out = tt;
  here = λ y at. took-here o v j None acts (acts ++ Met TakesLocal ∷ []) y (was y at) turn (loan-met acts TakesLocal) at;
  there = λ y apart. took-there o v j None y apart;
}
after-event local o v j acts (Gives host) was turn =
    let is_in = gave-out o v j (Some host) acts (was (holding v j (Some host)) refl) turn in
    record {
      is_out = is_in;
      here = λ y at. gave-here o v j (Some host) acts (acts ++ Met (Gives host) ∷ []) y is_in (was y at) turn
          (loan-met acts (Gives host)) at;
      there = λ y apart. gave-there o v j (Some host) y is_in apart;
    }
after-event local o v j acts (GivesBad host until) was turn =
    let is_in = gave-out o v j (Some host) acts (was (holding v j (Some host)) refl) turn.0 in
    record {
      is_out = is_in;
      here = λ y at. gave-here o v j (Some host) acts (acts ++ Met (GivesBad host until) ∷ []) y is_in (was y at) turn.0
          (loan-met acts (GivesBad host until)) at;
      there = λ y apart. gave-there o v j (Some host) y is_in apart;
    }
after-event local o v j acts GivesLocal was turn =
    let is_in = gave-out o v j None acts (was (holding v j None) refl) turn in
    record {
      is_out = is_in;
      here = λ y at. gave-here o v j None acts (acts ++ Met GivesLocal ∷ []) y is_in (was y at) turn (loan-met acts GivesLocal) at;
      there = λ y apart. gave-there o v j None y is_in apart;
    }
after-event local o v j acts FindsDown was turn = record {
  is_out = tt;
  here = λ y at. was y at ∙ lent-none v acts y turn ∙ sym (lent-none v (acts ++ Met FindsDown ∷ []) y (loan-met acts FindsDown ∙ turn));
  there = λ y apart. refl;
}

remote-turn : {h : ℕ} (l : Limits h) (jobs : ℕ → Job) → IsOf l jobs
    → (j : ℕ) (mask : Option Mask) (acts rest : List Act) (end : End) (x : SlotEvent) → j < l.jobs
    → Course (jobs j) (acts ++ Met x ∷ rest) end → IsTurn (is_local_host (jobs j)) (loan_of None (slots_of acts)) x
    → IsRemoteCall l (Adds j mask x)
remote-turn l jobs of j mask acts rest end (GivesBad host until) inside course turn =
    let below : host < host_count (jobs j) = lent-below (jobs j) acts (Met (GivesBad host until) ∷ rest) end host course turn.0 in
    let count = of.count j inside in sym (of.local j host inside (omega (arith, below, count))) ∙ turn.1
remote-turn l jobs of j mask acts rest end (Takes host) inside course turn = tt
remote-turn l jobs of j mask acts rest end (Gives host) inside course turn = tt
remote-turn l jobs of j mask acts rest end FindsDown inside course turn = tt
remote-turn l jobs of j mask acts rest end TakesLocal inside course turn = tt
remote-turn l jobs of j mask acts rest end GivesLocal inside course turn = tt

same-effect : (j : ℕ) (mask : Option Mask) (x : SlotEvent) → effect (Adds j mask x) ≡ effect (Adds j None x)
same-effect j mask (Takes host) = refl
same-effect j mask (Gives host) = refl
same-effect j mask (GivesBad host until) = refl
same-effect j mask FindsDown = refl
same-effect j mask TakesLocal = refl
same-effect j mask GivesLocal = refl

-- a begun job is one of the limits
begun-inside : {h : ℕ} (f : Farm) (l : Limits h) (o : List Holding) (w : FarmState h) (j v : ℕ) (acts : List Act) → Kept f l o w
    → w.jobs j ≡ Begun v acts → j < l.jobs
begun-inside f l o w j v acts kept begun = elim (cases_lt j w.slots.next) [
  | inl below ↦ let top = kept.below in omega (arith, below, top)
  | inr above ↦ let e : Begun v acts ≡ NotBegun = sym begun ∙ kept.ahead j above in cc
]

-- what a call keeps, and that it is legal
pub record Called {h : ℕ} (l : Limits h) (jobs : ℕ → Job) (o : List Holding) (w : FarmState h) (s : SlotState h) (v : ℕ)
    (a : JobCall) : Type 0 where
  pub matched : IsMatched a
  pub is_out : IsOut v o (effect a)
  pub remote : IsRemoteCall l a
  pub kept : Kept (farm_of l jobs) l (changed v o (effect a)) (record { slots = s; jobs = jobs_after w.jobs v a })

pub called : {h : ℕ} (l : Limits h) (jobs : ℕ → Job) → IsOf l jobs
    → (o : List Holding) (w : FarmState h) (s : SlotState h) (v : ℕ) (a : JobCall) → Kept (farm_of l jobs) l o w
    → NextIs l a w.slots.next s.next → MayCall (farm_of l jobs) w.jobs v a → Called l jobs o w s v a
called l jobs of o w s v (Draws None) kept next may = record {
  matched = tt;
  is_out = tt;
  remote = tt;
  kept = record {
    ahead = λ j above. kept.ahead j (omega arith);
    drawn = λ j below. kept.drawn j (omega arith);
    below = let top : w.slots.next ≤ l.jobs = kept.below in omega arith;
    one = kept.one;
    course = kept.course;
    lent = kept.lent;
  };
}
called l jobs of o w s v (Draws (Some j)) kept next may =
    let at_j : j ≡ w.slots.next = next.0 in
    let free : w.jobs j ≡ NotBegun = kept.ahead j (omega arith) in
    record {
      matched = tt;
      is_out = tt;
      remote = tt;
      kept = record {
        ahead = λ k above. let apart : k ≢ j = omega arith in set_at-other w.jobs j (Begun v []) k apart ∙ kept.ahead k (omega arith);
        drawn = λ k below. set_at-elim (λ st. st ≢ NotBegun) w.jobs j (Begun v []) k (λ at e. cc) (λ n. kept.drawn k (omega arith));
        below = let top : w.slots.next < l.jobs = next.1 in omega arith;
        one = λ u i k a b. set_at-elim (λ st. st ≡ Begun u a → set_at w.jobs j (Begun v []) k ≡ Begun u b → i ≡ k) w.jobs j (Begun v []) i
            (λ at is. set_at-elim (λ st. st ≡ Begun u b → i ≡ k) w.jobs j (Begun v []) k (λ at' is'. at ∙ sym at')
            (λ n is'. let e : v ≡ u = cc in absurd (may k b (is' ∙ ap (λ (z : ℕ). Begun z b) (sym e)))))
            (λ n is. set_at-elim (λ st. st ≡ Begun u b → i ≡ k) w.jobs j (Begun v []) k (λ at' is'. let e : v ≡ u = cc in
            absurd (may i a (is ∙ ap (λ (z : ℕ). Begun z a) (sym e)))) (λ n' is'. kept.one u i k a b is is'));
        course = λ k u a. set_at-elim (λ st. st ≡ Begun u a → (rest : List Act) × (end : End) × Course (jobs k) (a ++ rest) end)
            w.jobs j (Begun v []) k
            (λ at is. let e : [] ≡ a = cc in
            subst (λ (z : List Act). (rest : List Act) × (end : End) × Course (jobs k) (z ++ rest) end) e ([], _, inl refl))
            (λ n is. kept.course k u a is);
        lent = λ x. set_at-elim (λ st. times x o ≡ lent st x) w.jobs j (Begun v []) x.job
            (λ at. kept.lent x ∙ ap (λ (st : JobState). lent st x) (ap w.jobs at ∙ free) ∙ sym (lent-none v [] x refl))
            (λ n. kept.lent x);
      };
    }
called l jobs of o w s v (Adds j mask x) kept next may =
    let acts = may.0 in
    let begun : w.jobs j ≡ Begun v acts = may.1 in
    let turn = turn-at (jobs j) acts may.3.0 x may.3.1 may.3.2 in
    let is : with_act (w.jobs j) (Met x) ≡ Begun v (acts ++ Met x ∷ []) = ap (λ (st : JobState). with_act st (Met x)) begun in
    let af : After o v j acts x =
    after-event (is_local_host (jobs j)) o v j acts x
    (λ y at. kept.lent y ∙ ap (λ (st : JobState). lent st y) (ap w.jobs at ∙ begun)) turn in
    let e : effect (Adds j mask x) ≡ effect (Adds j None x) = same-effect j mask x in
    record {
      matched = tt;
      is_out = subst (λ (c : Change). IsOut v o c) (sym e) af.is_out;
      remote = remote-turn l jobs of j mask acts may.3.0 may.3.1 x (begun-inside (farm_of l jobs) l o w j v acts kept begun) may.3.2 turn;
      kept = subst (λ (c : Change). Kept (farm_of l jobs) l (changed v o c)
          (record { slots = s; jobs = set_at w.jobs j (with_act (w.jobs j) (Met x)) })) (sym e)
          (moved (farm_of l jobs) l o (changed v o (effect (Adds j None x))) w s j v acts (with_act (w.jobs j) (Met x)) kept next
          begun (λ waiting. let k : Begun v (acts ++ Met x ∷ []) ≡ NotBegun = sym is ∙ waiting in cc)
          (λ u a begins. let k : Begun v (acts ++ Met x ∷ []) ≡ Begun u a = sym is ∙ begins in let by : u ≡ v = cc in
          let same : acts ++ Met x ∷ [] ≡ a = cc in (
            by,
            (
              may.3.0,
              may.3.1,
              subst (λ (z : List Act). Course (jobs j) (z ++ may.3.0) may.3.1) same
                  (subst (λ (z : List Act). Course (jobs j) z may.3.1) (sym (append_assoc acts (Met x ∷ []) may.3.0)) may.3.2),
            ),
          ))
          (λ y at. af.here y at ∙ ap (λ (st : JobState). lent st y) (sym is))
          af.there);
    }
called l jobs of o w s v (Waits j mask kind) kept next may = record {
  matched = tt;
  is_out = tt;
  remote = tt;
  kept = record {
    ahead = λ j above. kept.ahead j (omega arith);
    drawn = λ j below. kept.drawn j (omega arith);
    below = let top : w.slots.next ≤ l.jobs = kept.below in omega arith;
    one = kept.one;
    course = kept.course;
    lent = kept.lent;
  };
}
called l jobs of o w s v Mismatched kept next may = absurd may
