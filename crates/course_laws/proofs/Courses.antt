-- Laws of courses.
use Rattle.std.proofs.Common.{◌≡◌, ◌⊎◌, inl, inr, ℕ, ◌+◌, ◌<◌, Bool, true, false, ◌&&◌, ◌||◌, cond, List, [], ◌∷◌, ◌++◌, Some, None}
use Rattle.std.proofs.Common.{nat_eq, nat_lt, length, refl, sym, ap, ◌∙◌, subst, append_assoc, eq-eqb}
use Rattle.std.proofs.lemmas.List.{append-nil}
use Rattle.std.proofs.lemmas.Bool.{eqb-true, true≢false, false_from_ne_true, or_right}
use Rattle.farm_types.specs.declared.ran.Ran.{Ran}
use Rattle.farm_types.specs.declared.ran.Outcome.{Outcome}
use Rattle.edge_traits.specs.declared.cause.Cause.{Cause}
use Rattle.edge_traits.specs.Deeds.{Deed, ran, fetched, exchanged, put}
use Rattle.farm_machine.specs.declared.reports.By.TheVariants.{Remote, Cpp, Here, InPlace}
use Rattle.farm_machine.specs.declared.reports.Why5.TheVariants.{Station, Memory, Broke}
use Rattle.farm_machine.specs.declared.reports.End.{End}
use Rattle.farm_machine.specs.declared.reports.End.TheVariants.{Done, Failed}
use Rattle.farm_machine.specs.Acts.{SlotEvent, Takes, Gives, GivesBad, FindsDown, TakesLocal, GivesLocal, Act, Did, Met, slots_of, took}
use Rattle.farm_machine.specs.Acts.{Loan, loan_after, loan_of, IsTurn, IsOrderly}
use Rattle.farm_machine.specs.Jobs.{Job, is_local_host, host_count}
use Rattle.farm_machine.specs.Course.{Tried, is_tried, no_host, tried_too, At, Start, LentInPlace, RanInPlace, Send, Lent, RanThere, Sent}
use Rattle.farm_machine.specs.Course.{Locally, LentHere, RanHere, Finish, Over, outcome_of, after_preprocessor, or_here, after_broken}
use Rattle.farm_machine.specs.Course.{after_whole, Next, Ends, From, Course}

-- what a job has out where it stands
abbrev pub has_out : At → Loan
has_out Start = None
has_out LentInPlace = Some None
has_out (RanInPlace r) = Some None
has_out (Send source note tried) = None
has_out (Lent host source note tried) = Some (Some host)
has_out (RanThere host note r) = Some (Some host)
has_out (Sent host source note tried x) = Some (Some host)
has_out (Locally source note) = None
has_out (LentHere source note) = Some None
has_out (RanHere note r) = Some None
has_out (Finish by note o) = None
has_out (Over e) = None

or_here-none : (j : Job) (source note : List ℕ) (end : End) → has_out (or_here j source note end) ≡ None
or_here-none j source note end = go j.config.fallback
  where
    go : (b : Bool) → has_out (cond b (Locally source note) (Over end)) ≡ None
    go true = refl
    go false = refl

after_broken-none : (j : Job) (host : ℕ) (cause : Cause) (source note : List ℕ) (tried : List Tried)
    → has_out (after_broken j host cause source note tried) ≡ None
after_broken-none j host cause source note tried = go (nat_lt (length tried + 1) j.config.tries)
  where
    go : (b : Bool) → has_out
        (cond b (Send source note (tried_too host cause tried)) (or_here j source note (Failed (Broke host cause)))) ≡ None
    go true = refl
    go false = or_here-none j source note (Failed (Broke host cause))

after_preprocessor-none : (r : Ran) → has_out (after_preprocessor r) ≡ None
after_preprocessor-none r = go (nat_eq r.status 0)
  where
    go : (b : Bool) → has_out (cond b (Send r.out r.err []) (Over (Done r.status [] r.err [] Cpp))) ≡ None
    go true = refl
    go false = refl

after_whole-none : (j : Job) (host : ℕ) (source note : List ℕ) (o : Outcome) → has_out (after_whole j host source note o) ≡ None
after_whole-none j host source note o = go (nat_eq o.status 0) (j.config.fallback && j.config.retry)
  where
    go : (a b : Bool) → has_out
        (cond a (Finish (Remote host) note o) (cond b (Locally source note) (Over (Done o.status note o.err o.out (Remote host))))) ≡ None
    go true b = refl
    go false true = refl
    go false false = refl

-- a deed changes nothing of what is out
pub next-did : (j : Job) (at c : At) (d : Deed) → Next j at (Did d) c → has_out c ≡ has_out at
next-did j Start c (fetched x) h = ap has_out h.3
next-did j Start c (ran x) h = ap has_out h.3 ∙ after_preprocessor-none x.ran
next-did j LentInPlace c (ran x) h = ap has_out h.1
next-did j (Lent host source note tried) c (ran x) h = ap has_out h.2
next-did j (Lent host source note tried) c (exchanged x) h = ap has_out h.2
next-did j (LentHere source note) c (ran x) h = ap has_out h.1
next-did j (Finish by note o) c (put x) h = ap has_out h.3
next-did j at c d h = absurd h

-- a slot event comes in its turn
pub next-met : (j : Job) (at c : At) (x : SlotEvent) → Next j at (Met x) c → IsTurn (is_local_host j) (has_out at) x
    × (has_out c ≡ loan_after (has_out at) x)
next-met j Start c TakesLocal h = (refl, ap has_out h.1)
next-met j LentInPlace c GivesLocal h = (refl, elim h [ inl e ↦ ap has_out e | inr e ↦ ap has_out e ])
next-met j (RanInPlace r) c GivesLocal h = (refl, elim h [ inl e ↦ ap has_out e | inr e ↦ ap has_out e ])
next-met j (Send source note tried) c FindsDown h = (refl, ap has_out h.1 ∙ or_here-none j source note _)
next-met j (Send source note tried) c (Takes host) h = (refl, ap has_out h.3)
next-met j (Send source note tried) c TakesLocal h = (refl, ap has_out h.1)
next-met j (Lent host source note tried) c (Gives k) h =
    (ap (λ (i : ℕ). Some (Some i)) (sym h.0), elim h.1 [ inl e ↦ ap has_out e.1 | inr e ↦ ap has_out e ])
next-met j (RanThere host note r) c (Gives k) h =
    (ap (λ (i : ℕ). Some (Some i)) (sym h.0), elim h.1 [ inl e ↦ ap has_out e | inr e ↦ ap has_out e ])
next-met j (Sent host source note tried x) c (Gives k) h = (
  ap (λ (i : ℕ). Some (Some i)) (sym h.0),
  elim h.1 [
    | inl whole ↦ ap has_out whole.2 ∙ after_whole-none j host source note whole.0
    | inr more ↦
        elim more [ inl broken ↦ ap has_out broken.3 ∙ after_broken-none j host broken.0 source note tried | inr e ↦ ap has_out e ]
  ],
)
next-met j (Sent host source note tried x) c (GivesBad k until) h = (
  (ap (λ (i : ℕ). Some (Some i)) (sym h.0), ap (is_local_host j) h.0 ∙ h.1),
  ap has_out h.2.4
      ∙ after_broken-none j host h.2.0 source note tried,
)
next-met j (Locally source note) c TakesLocal h = (refl, ap has_out h)
next-met j (LentHere source note) c GivesLocal h = (refl, elim h [ inl e ↦ ap has_out e | inr e ↦ ap has_out e ])
next-met j (RanHere note r) c GivesLocal h = (refl, elim h [ inl e ↦ ap has_out e | inr e ↦ ap has_out e ])
next-met j at c x h = absurd h

pub ends-none : (j : Job) (at : At) (end : End) → Ends j at end → has_out at ≡ None
ends-none j Start end h = refl
ends-none j (Send source note tried) end h = refl
ends-none j (Locally source note) end h = refl
ends-none j (Finish by note o) end h = refl
ends-none j (Over e) end h = refl
ends-none j at end h = absurd h

pub orderly-from : (j : Job) (acts : List Act) (at : At) (end : End) → From j at acts end
    → IsOrderly (is_local_host j) (has_out at) (slots_of acts)
orderly-from j [] at end h = ends-none j at end h
orderly-from j (Did d ∷ acts) at end (c, next, from) =
    subst (λ (loan : Loan). IsOrderly (is_local_host j) loan (slots_of acts)) (next-did j at c d next) (orderly-from j acts c end from)
orderly-from j (Met x ∷ acts) at end (c, next, from) =
    let one = next-met j at c x next in
    (one.0, subst (λ (loan : Loan). IsOrderly (is_local_host j) loan (slots_of acts)) one.1 (orderly-from j acts c end from))

pub slots_of-append : (xs ys : List Act) → slots_of (xs ++ ys) ≡ slots_of xs ++ slots_of ys
slots_of-append [] ys = refl
slots_of-append (Did d ∷ xs) ys = slots_of-append xs ys
slots_of-append (Met x ∷ xs) ys = ap (λ (l : List SlotEvent). x ∷ l) (slots_of-append xs ys)

orderly-at : (local : ℕ → Bool) (xs : List SlotEvent) (loan : Loan) (x : SlotEvent) (ys : List SlotEvent)
    → IsOrderly local loan (xs ++ x ∷ ys) → IsTurn local (loan_of loan xs) x
orderly-at local [] loan x ys h = h.0
orderly-at local (y ∷ xs) loan x ys h = orderly-at local xs (loan_after loan y) x ys h.1

orderly-end : (local : ℕ → Bool) (xs : List SlotEvent) (loan : Loan) → IsOrderly local loan xs → loan_of loan xs ≡ None
orderly-end local [] loan h = h
orderly-end local (y ∷ xs) loan h = orderly-end local xs (loan_after loan y) h.1

pub loan_of-append : (xs ys : List SlotEvent) (loan : Loan) → loan_of loan (xs ++ ys) ≡ loan_of (loan_of loan xs) ys
loan_of-append [] ys loan = refl
loan_of-append (x ∷ xs) ys loan = loan_of-append xs ys (loan_after loan x)

-- what comes next in a course comes in its turn
pub turn-at : (j : Job) (acts rest : List Act) (x : SlotEvent) (end : End) → Course j (acts ++ Met x ∷ rest) end
    → IsTurn (is_local_host j) (loan_of None (slots_of acts)) x
turn-at j acts rest x end course =
    orderly-at (is_local_host j) (slots_of acts) None x (slots_of rest)
    (subst (λ (xs : List SlotEvent). IsOrderly (is_local_host j) None xs) (slots_of-append acts (Met x ∷ rest))
    (orderly-from j (acts ++ Met x ∷ rest) Start end course))

pub nothing-out : (j : Job) (acts : List Act) (end : End) → Course j acts end → loan_of None (slots_of acts) ≡ None
nothing-out j acts end course = orderly-end (is_local_host j) (slots_of acts) None (orderly-from j acts Start end course)

pub loan-met : (acts : List Act) (x : SlotEvent)
    → loan_of None (slots_of (acts ++ Met x ∷ [])) ≡ loan_after (loan_of None (slots_of acts)) x
loan-met acts x = ap (loan_of None) (slots_of-append acts (Met x ∷ [])) ∙ loan_of-append (slots_of acts) (x ∷ []) None

pub loan-did : (acts : List Act) (d : Deed) → loan_of None (slots_of (acts ++ Did d ∷ [])) ≡ loan_of None (slots_of acts)
loan-did acts d = ap (loan_of None) (slots_of-append acts (Did d ∷ [])) ∙ loan_of-append (slots_of acts) [] None

-- each host that was tried was got
abbrev pub TriedIn : At → List SlotEvent → Type 0
TriedIn (Send source note tried) past = (i : ℕ) → is_tried i tried ≡ true → took i past ≡ true
TriedIn (Lent host source note tried) past = (took host past ≡ true) × ((i : ℕ) → is_tried i tried ≡ true → took i past ≡ true)
TriedIn (Sent host source note tried x) past = (took host past ≡ true) × ((i : ℕ) → is_tried i tried ≡ true → took i past ≡ true)
TriedIn at past = Unit {0}

took-more : (i : ℕ) (past : List SlotEvent) (x : SlotEvent) → took i past ≡ true → took i (past ++ x ∷ []) ≡ true
took-more i [] x h = cc
took-more i (Takes host ∷ past) x h = go (nat_eq host i) h (took-more i past x)
  where
    go : (b : Bool) → (b || took i past) ≡ true → (took i past ≡ true → took i (past ++ x ∷ []) ≡ true)
        → (b || took i (past ++ x ∷ [])) ≡ true
    go true h ih = refl
    go false h ih = ih h
took-more i (Gives host ∷ past) x h = took-more i past x h
took-more i (GivesBad host until ∷ past) x h = took-more i past x h
took-more i (FindsDown ∷ past) x h = took-more i past x h
took-more i (TakesLocal ∷ past) x h = took-more i past x h
took-more i (GivesLocal ∷ past) x h = took-more i past x h

took-now : (host : ℕ) (past : List SlotEvent) → took host (past ++ Takes host ∷ []) ≡ true
took-now host [] = ap (λ (b : Bool). b || false) (eq-eqb host host refl)
took-now host (Takes k ∷ past) = or_right (nat_eq k host) (took host (past ++ Takes host ∷ [])) (took-now host past)
took-now host (Gives k ∷ past) = took-now host past
took-now host (GivesBad k until ∷ past) = took-now host past
took-now host (FindsDown ∷ past) = took-now host past
took-now host (TakesLocal ∷ past) = took-now host past
took-now host (GivesLocal ∷ past) = took-now host past

tried-or_here : (j : Job) (source note : List ℕ) (end : End) (past : List SlotEvent) → TriedIn (or_here j source note end) past
tried-or_here j source note end past = go j.config.fallback
  where
    go : (b : Bool) → TriedIn (cond b (Locally source note) (Over end)) past
    go true = tt
    go false = tt

tried-after_preprocessor : (r : Ran) (past : List SlotEvent) → TriedIn (after_preprocessor r) past
tried-after_preprocessor r past = go (nat_eq r.status 0)
  where
    go : (b : Bool) → TriedIn (cond b (Send r.out r.err []) (Over (Done r.status [] r.err [] Cpp))) past
    go true = λ i e. cc
    go false = tt

tried-after_whole : (j : Job) (host : ℕ) (source note : List ℕ) (o : Outcome) (past : List SlotEvent)
    → TriedIn (after_whole j host source note o) past
tried-after_whole j host source note o past = go (nat_eq o.status 0) (j.config.fallback && j.config.retry)
  where
    go : (a b : Bool) → TriedIn
        (cond a (Finish (Remote host) note o) (cond b (Locally source note) (Over (Done o.status note o.err o.out (Remote host))))) past
    go true b = tt
    go false true = tt
    go false false = tt

tried-after_broken : (j : Job) (host : ℕ) (cause : Cause) (source note : List ℕ) (tried : List Tried) (past : List SlotEvent)
    (x : SlotEvent) → (took host past ≡ true) × ((i : ℕ) → is_tried i tried ≡ true → took i past ≡ true)
    → TriedIn (after_broken j host cause source note tried) (past ++ x ∷ [])
tried-after_broken j host cause source note tried past x h = go (nat_lt (length tried + 1) j.config.tries)
  where
    in_ : (i : ℕ) → (b : Bool) → nat_eq host i ≡ b → (b || is_tried i tried) ≡ true → took i (past ++ x ∷ []) ≡ true
    in_ i true e t = took-more i past x (ap (λ (k : ℕ). took k past) (sym (eqb-true host i e)) ∙ h.0)
    in_ i false e t = took-more i past x (h.1 i t)

    go : (b : Bool) → TriedIn
        (cond b (Send source note (tried_too host cause tried)) (or_here j source note (Failed (Broke host cause)))) (past ++ x ∷ [])
    go true = λ i. in_ i (nat_eq host i) refl
    go false = tried-or_here j source note (Failed (Broke host cause)) (past ++ x ∷ [])

at-tried : (past : List SlotEvent) (c d : At) → c ≡ d → TriedIn d past → TriedIn c past
at-tried past c d e h = subst (λ (at : At). TriedIn at past) (sym e) h

tried-did : (j : Job) (at c : At) (d : Deed) (past : List SlotEvent) → Next j at (Did d) c → TriedIn at past → TriedIn c past
tried-did j Start c (fetched x) past h t = at-tried past c (Send x.bytes [] []) h.3 (λ i e. cc)
tried-did j Start c (ran x) past h t = at-tried past c (after_preprocessor x.ran) h.3 (tried-after_preprocessor x.ran past)
tried-did j LentInPlace c (ran x) past h t = at-tried past c (RanInPlace x.ran) h.1 tt
tried-did j (Lent host source note tried) c (ran x) past h t = at-tried past c (RanThere host note x.ran) h.2 tt
tried-did j (Lent host source note tried) c (exchanged x) past h t = at-tried past c (Sent host source note tried x) h.2 t
tried-did j (LentHere source note) c (ran x) past h t = at-tried past c (RanHere note x.ran) h.1 tt
tried-did j (Finish by note o) c (put x) past h t = at-tried past c (Over (Done 0 note o.err o.out by)) h.3 tt
tried-did j at c d past h t = absurd h

one-of : (past : List SlotEvent) (c a b : At) → (c ≡ a) ⊎ (c ≡ b) → TriedIn a past → TriedIn b past → TriedIn c past
one-of past c a b (inl e) ta tb = at-tried past c a e ta
one-of past c a b (inr e) ta tb = at-tried past c b e tb

tried-met : (j : Job) (at c : At) (x : SlotEvent) (past : List SlotEvent) → Next j at (Met x) c → TriedIn at past
    → TriedIn c (past ++ x ∷ [])
tried-met j Start c TakesLocal past h t = at-tried (past ++ TakesLocal ∷ []) c LentInPlace h.1 tt
tried-met j LentInPlace c GivesLocal past h t = one-of (past ++ GivesLocal ∷ []) c (Over (Failed Station)) (Over (Failed Memory)) h tt tt
tried-met j (RanInPlace r) c GivesLocal past h t =
    one-of (past ++ GivesLocal ∷ []) c (Over (Done r.status [] r.err r.out InPlace)) (Over (Failed Memory)) h tt tt
tried-met j (Send source note tried) c FindsDown past h t =
    at-tried (past ++ FindsDown ∷ []) c (or_here j source note (Failed (no_host tried))) h.1
    (tried-or_here j source note (Failed (no_host tried)) (past ++ FindsDown ∷ []))
tried-met j (Send source note tried) c (Takes host) past h t =
    at-tried (past ++ Takes host ∷ []) c (Lent host source note tried) h.3
    (took-now host past, λ i e. took-more i past (Takes host) (t i e))
tried-met j (Send source note tried) c TakesLocal past h t = at-tried (past ++ TakesLocal ∷ []) c (LentHere source note) h.1 tt
tried-met j (Lent host source note tried) c (Gives k) past h t =
    elim h.1 [
      | inl e ↦ at-tried (past ++ Gives k ∷ []) c (Over (Failed Station)) e.1 tt
      | inr e ↦
          at-tried (past ++ Gives k ∷ []) c (Over (Failed Memory)) e tt
    ]
tried-met j (RanThere host note r) c (Gives k) past h t =
    one-of (past ++ Gives k ∷ []) c (Finish Here note (outcome_of r)) (Over (Failed Memory)) h.1 tt tt
tried-met j (Sent host source note tried x) c (Gives k) past h t =
    elim h.1 [
      | inl whole ↦ at-tried (past ++ Gives k ∷ []) c (after_whole j host source note whole.0) whole.2
          (tried-after_whole j host source note whole.0 (past ++ Gives k ∷ []))
      | inr more ↦ elim more [
        | inl broken ↦ at-tried (past ++ Gives k ∷ []) c (after_broken j host broken.0 source note tried) broken.3
            (tried-after_broken j host broken.0 source note tried past (Gives k) t)
        | inr e ↦ at-tried (past ++ Gives k ∷ []) c (Over (Failed Memory)) e tt
      ]
    ]
tried-met j (Sent host source note tried x) c (GivesBad k until) past h t =
    at-tried (past ++ GivesBad k until ∷ []) c (after_broken j host h.2.0 source note tried) h.2.4
    (tried-after_broken j host h.2.0 source note tried past (GivesBad k until) t)
tried-met j (Locally source note) c TakesLocal past h t = at-tried (past ++ TakesLocal ∷ []) c (LentHere source note) h tt
tried-met j (LentHere source note) c GivesLocal past h t =
    one-of (past ++ GivesLocal ∷ []) c (Over (Failed Station)) (Over (Failed Memory)) h tt tt
tried-met j (RanHere note r) c GivesLocal past h t =
    one-of (past ++ GivesLocal ∷ []) c (Finish Here note (outcome_of r)) (Over (Failed Memory)) h tt tt
tried-met j at c x past h t = absurd h

-- where a job may find all hosts down, it may get any host that it did not get before
turn : (j : Job) (host : ℕ) (rest : List Act) (end : End) → host < host_count j
    → (acts : List Act) (at : At) (past : List SlotEvent) → TriedIn at past → took host (past ++ slots_of acts) ≡ false
    → From j at (acts ++ Met FindsDown ∷ rest) end → From j at (acts ++ Met (Takes host) ∷ Met (Gives host) ∷ []) (Failed Memory)
turn j host rest end below [] (Send source note tried) past t new (c, next, from) =
    let fresh : is_tried host tried ≡ false =
    false_from_ne_true (is_tried host tried) (λ e. true≢false (sym (t host e) ∙ ap (took host) (sym (append-nil past)) ∙ new)) in
    (Lent host source note tried, (next.0, below, fresh, refl), (Over (Failed Memory), (refl, inr refl), refl))
turn j host rest end below [] Start past t new (c, next, from) = absurd next
turn j host rest end below [] LentInPlace past t new (c, next, from) = absurd next
turn j host rest end below [] (RanInPlace r) past t new (c, next, from) = absurd next
turn j host rest end below [] (Lent k source note tried) past t new (c, next, from) = absurd next
turn j host rest end below [] (RanThere k note r) past t new (c, next, from) = absurd next
turn j host rest end below [] (Sent k source note tried x) past t new (c, next, from) = absurd next
turn j host rest end below [] (Locally source note) past t new (c, next, from) = absurd next
turn j host rest end below [] (LentHere source note) past t new (c, next, from) = absurd next
turn j host rest end below [] (RanHere note r) past t new (c, next, from) = absurd next
turn j host rest end below [] (Finish by note o) past t new (c, next, from) = absurd next
turn j host rest end below [] (Over e) past t new (c, next, from) = absurd next
turn j host rest end below (Did d ∷ acts) at past t new (c, next, from) =
    (c, next, turn j host rest end below acts c past (tried-did j at c d past next t) new from)
turn j host rest end below (Met x ∷ acts) at past t new (c, next, from) = (
  c,
  next,
  turn j host rest end below acts c (past ++ x ∷ []) (tried-met j at c x past next t)
      (ap (took host) (append_assoc past (x ∷ []) (slots_of acts)) ∙ new) from,
)

-- Where a job may find all hosts down, it may take a slot of any host that it has not taken one of before, and then
-- give it back for want of memory.
pub take-where-down : (j : Job) (host : ℕ) (acts rest : List Act) (end : End) → host < host_count j
    → took host (slots_of acts) ≡ false → Course j (acts ++ Met FindsDown ∷ rest) end
    → Course j (acts ++ Met (Takes host) ∷ Met (Gives host) ∷ []) (Failed Memory)
take-where-down j host acts rest end below new course = turn j host rest end below acts Start [] tt new course
