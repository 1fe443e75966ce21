-- Which hosts a job took a slot of, at each place of its course.
use Rattle.std.proofs.Common.{◌≡◌, ◌⊎◌, inl, inr, ℕ, ◌+◌, Bool, true, false, ◌&&◌, ◌||◌, cond, List, [], ◌∷◌, ◌++◌, length, nat_eq}
use Rattle.std.proofs.Common.{nat_lt, refl, sym, ap, ◌∙◌, subst, append_assoc}
use Rattle.std.proofs.lemmas.List.{append-nil}
use Rattle.farm_types.specs.declared.ran.Ran.{Ran}
use Rattle.farm_types.specs.declared.ran.Outcome.{Outcome}
use Rattle.edge_traits.specs.declared.cause.Cause.{Cause}
use Rattle.edge_traits.specs.Deeds.{Deed, ran, fetched, exchanged, put}
use Rattle.farm_machine.specs.declared.reports.By.TheVariants.{Cpp, Remote, Here, InPlace}
use Rattle.farm_machine.specs.declared.reports.Why5.TheVariants.{Station, Memory, Broke}
use Rattle.farm_machine.specs.declared.reports.End.{End}
use Rattle.farm_machine.specs.declared.reports.End.TheVariants.{Done, Failed}
use Rattle.farm_machine.specs.Acts.{SlotEvent, Takes, Gives, GivesBad, FindsDown, TakesLocal, GivesLocal, Act, Did, Met, slots_of, took}
use Rattle.farm_machine.specs.Jobs.{Job}
use Rattle.farm_machine.specs.Course.{At, Start, LentInPlace, RanInPlace, Send, Lent, RanThere, Sent, Locally, LentHere, RanHere, Finish}
use Rattle.farm_machine.specs.Course.{Over, outcome_of, after_preprocessor, or_here, after_broken, after_whole, Tried, is_tried}
use Rattle.farm_machine.specs.Course.{tried_too, no_host, Next}
use Rattle.job_run.specs.Strict.{StrictReach}
use Rattle.job_run.specs.Went.{HasTaken}

or-assoc : (a b c : Bool) → ((a || b) || c) ≡ (a || (b || c))
or-assoc true b c = refl
or-assoc false b c = refl

or-false : (a : Bool) → (a || false) ≡ a
or-false true = refl
or-false false = refl

or-swap : (a b : Bool) → (a || (b || false)) ≡ (b || a)
or-swap true true = refl
or-swap true false = refl
or-swap false true = refl
or-swap false false = refl

took-append : (k : ℕ) (past ys : List SlotEvent) → took k (past ++ ys) ≡ (took k past || took k ys)
took-append k [] ys = refl
took-append k (Takes host ∷ past) ys =
    ap (λ (b : Bool). nat_eq host k || b) (took-append k past ys) ∙ sym (or-assoc (nat_eq host k) (took k past) (took k ys))
took-append k (Gives host ∷ past) ys = took-append k past ys
took-append k (GivesBad host until ∷ past) ys = took-append k past ys
took-append k (FindsDown ∷ past) ys = took-append k past ys
took-append k (TakesLocal ∷ past) ys = took-append k past ys
took-append k (GivesLocal ∷ past) ys = took-append k past ys

-- a slot event that takes no host's slot
stays : (k : ℕ) (past : List SlotEvent) (x : SlotEvent) → took k (x ∷ []) ≡ false → took k (past ++ x ∷ []) ≡ took k past
stays k past x none = took-append k past (x ∷ []) ∙ ap (λ (b : Bool). took k past || b) none ∙ or-false (took k past)

at-taken : (past : List SlotEvent) (c d : At) → c ≡ d → HasTaken past d → HasTaken past c
at-taken past c d e h = subst (λ (at : At). HasTaken past at) (sym e) h

taken-or_here : (j : Job) (source note : List ℕ) (end : End) (past : List SlotEvent) → HasTaken past (or_here j source note end)
taken-or_here j source note end past = go j.config.fallback
  where
    go : (b : Bool) → HasTaken past (cond b (Locally source note) (Over end))
    go true = tt
    go false = tt

taken-after_preprocessor : (r : Ran) (past : List SlotEvent) → ((k : ℕ) → took k past ≡ false) → HasTaken past (after_preprocessor r)
taken-after_preprocessor r past h = go (nat_eq r.status 0)
  where
    go : (b : Bool) → HasTaken past (cond b (Send r.out r.err []) (Over (Done r.status [] r.err [] Cpp)))
    go true = h
    go false = tt

taken-after_whole : (j : Job) (host : ℕ) (source note : List ℕ) (o : Outcome) (past : List SlotEvent)
    → HasTaken past (after_whole j host source note o)
taken-after_whole j host source note o past = go (nat_eq o.status 0) (j.config.fallback && j.config.retry)
  where
    go : (a b : Bool)
        → HasTaken past
        (cond a (Finish (Remote host) note o) (cond b (Locally source note) (Over (Done o.status note o.err o.out (Remote host)))))
    go true b = tt
    go false true = tt
    go false false = tt

taken-after_broken : (j : Job) (host : ℕ) (cause : Cause) (source note : List ℕ) (tried : List Tried) (past : List SlotEvent)
    → ((k : ℕ) → took k past ≡ (nat_eq host k || is_tried k tried)) → HasTaken past (after_broken j host cause source note tried)
taken-after_broken j host cause source note tried past h = go (nat_lt (length tried + 1) j.config.tries)
  where
    go : (b : Bool)
        → HasTaken past (cond b (Send source note (tried_too host cause tried)) (or_here j source note (Failed (Broke host cause))))
    go true = h
    go false = taken-or_here j source note (Failed (Broke host cause)) past

taken-did : (j : Job) (at c : At) (d : Deed) (past : List SlotEvent) → Next j at (Did d) c → HasTaken past at → HasTaken past c
taken-did j Start c (fetched x) past h t = at-taken past c (Send x.bytes [] []) h.3 t
taken-did j Start c (ran x) past h t = at-taken past c (after_preprocessor x.ran) h.3 (taken-after_preprocessor x.ran past t)
taken-did j LentInPlace c (ran x) past h t = at-taken past c (RanInPlace x.ran) h.1 tt
taken-did j (Lent host source note tried) c (ran x) past h t = at-taken past c (RanThere host note x.ran) h.2 tt
taken-did j (Lent host source note tried) c (exchanged x) past h t = at-taken past c (Sent host source note tried x) h.2 t
taken-did j (LentHere source note) c (ran x) past h t = at-taken past c (RanHere note x.ran) h.1 tt
taken-did j (Finish by note o) c (put x) past h t = at-taken past c (Over (Done 0 note o.err o.out by)) h.3 tt
taken-did j at c d past h t = absurd h

either : (past : List SlotEvent) (c a b : At) → (c ≡ a) ⊎ (c ≡ b) → HasTaken past a → HasTaken past b → HasTaken past c
either past c a b (inl e) ta tb = at-taken past c a e ta
either past c a b (inr e) ta tb = at-taken past c b e tb

taken-met : (j : Job) (at c : At) (x : SlotEvent) (past : List SlotEvent) → Next j at (Met x) c → HasTaken past at
    → HasTaken (past ++ x ∷ []) c
taken-met j Start c TakesLocal past h t = at-taken (past ++ TakesLocal ∷ []) c LentInPlace h.1 tt
taken-met j LentInPlace c GivesLocal past h t = either (past ++ GivesLocal ∷ []) c (Over (Failed Station)) (Over (Failed Memory)) h tt tt
taken-met j (RanInPlace r) c GivesLocal past h t =
    either (past ++ GivesLocal ∷ []) c (Over (Done r.status [] r.err r.out InPlace)) (Over (Failed Memory)) h tt tt
taken-met j (Send source note tried) c FindsDown past h t =
    at-taken (past ++ FindsDown ∷ []) c (or_here j source note (Failed (no_host tried))) h.1
    (taken-or_here j source note (Failed (no_host tried)) (past ++ FindsDown ∷ []))
taken-met j (Send source note tried) c (Takes host) past h t =
    at-taken (past ++ Takes host ∷ []) c (Lent host source note tried) h.3
    (λ k. took-append k past (Takes host ∷ []) ∙ or-swap (took k past) (nat_eq host k) ∙ ap (λ (b : Bool). nat_eq host k || b) (t k))
taken-met j (Send source note tried) c TakesLocal past h t = at-taken (past ++ TakesLocal ∷ []) c (LentHere source note) h.1 tt
taken-met j (Lent host source note tried) c (Gives k) past h t =
    elim h.1 [
      | inl e ↦ at-taken (past ++ Gives k ∷ []) c (Over (Failed Station)) e.1 tt
      | inr e ↦ at-taken (past ++ Gives k ∷ []) c
          (Over (Failed Memory)) e tt
    ]
taken-met j (RanThere host note r) c (Gives k) past h t =
    either (past ++ Gives k ∷ []) c (Finish Here note (outcome_of r)) (Over (Failed Memory)) h.1 tt tt
taken-met j (Sent host source note tried x) c (Gives k) past h t =
    elim h.1 [
      | inl whole ↦ at-taken (past ++ Gives k ∷ []) c (after_whole j host source note whole.0) whole.2
          (taken-after_whole j host source note whole.0 (past ++ Gives k ∷ []))
      | inr more ↦ elim more [
        | inl broken ↦ at-taken (past ++ Gives k ∷ []) c (after_broken j host broken.0 source note tried) broken.3
            (taken-after_broken j host broken.0 source note tried (past ++ Gives k ∷ []) (λ i. stays i past (Gives k) refl ∙ t i))
        | inr e ↦ at-taken (past ++ Gives k ∷ []) c (Over (Failed Memory)) e tt
      ]
    ]
taken-met j (Sent host source note tried x) c (GivesBad k until) past h t =
    at-taken (past ++ GivesBad k until ∷ []) c (after_broken j host h.2.0 source note tried) h.2.4
    (taken-after_broken j host h.2.0 source note tried (past ++ GivesBad k until ∷ [])
    (λ i. stays i past (GivesBad k until) refl ∙ t i))
taken-met j (Locally source note) c TakesLocal past h t = at-taken (past ++ TakesLocal ∷ []) c (LentHere source note) h tt
taken-met j (LentHere source note) c GivesLocal past h t =
    either (past ++ GivesLocal ∷ []) c (Over (Failed Station)) (Over (Failed Memory)) h tt tt
taken-met j (RanHere note r) c GivesLocal past h t =
    either (past ++ GivesLocal ∷ []) c (Finish Here note (outcome_of r)) (Over (Failed Memory)) h tt tt
taken-met j at c x past h t = absurd h

-- along acts
pub taken-reach : (j : Job) (xs : List Act) (past : List SlotEvent) (at c : At) → StrictReach j at xs c → HasTaken past at
    → HasTaken (past ++ slots_of xs) c
taken-reach j [] past at c e t =
    subst (λ (p : List SlotEvent). HasTaken p c) (sym (append-nil past)) (subst (λ (b : At). HasTaken past b) e t)
taken-reach j (Did d ∷ xs) past at c (b, next, strict, more) t = taken-reach j xs past b c more (taken-did j at b d past next t)
taken-reach j (Met x ∷ xs) past at c (b, next, strict, more) t =
    subst (λ (p : List SlotEvent). HasTaken p c) (append_assoc past (x ∷ []) (slots_of xs))
    (taken-reach j xs (past ++ x ∷ []) b c more (taken-met j at b x past next t))
