-- What one call more does to the job of a worker, and to what a job took and is still to do.
use Rattle.std.proofs.Common.{◌≡◌, ◌≢◌, ℕ, zero, suc, ◌+◌, Bool, true, false, ◌||◌, not, cond, List, [], ◌∷◌, ◌++◌, map, Option, nat_eq}
use Rattle.std.proofs.Common.{refl, sym, ap, ◌∙◌, arith, eq-eqb, ne_eqb}
use Rattle.std.proofs.lemmas.Bool.{eqb-true}
use Rattle.std.proofs.Math.Bool.{beq}
use Rattle.std.specs.Prelude.{slice_get}
use Rattle.slot_table.specs.declared.calls.CallEntry.{CallEntry}
use Rattle.slot_table.specs.declared.mask.Mask.{Mask}
use Rattle.farm_machine.specs.Acts.{SlotEvent, Takes, Gives, GivesBad, FindsDown, TakesLocal, GivesLocal, took, Act, Met, next_met}
use Rattle.farm_machine.specs.Acts.{after_met}
use Rattle.farm_machine.specs.Checking.{behind}
use Rattle.farm_machine.specs.Machine.{job_call_of, JobCall, Draws, Adds, Waits, Mismatched, set_at}
use Rattle.farm_machine.specs.Weave.{Progress, progress_after, next_progress, last_progress}

pub set-here : {A : Type 0} (f : ℕ → A) (k n : ℕ) (a : A) → n ≡ k → set_at f k a n ≡ a
set-here f k n a same = ap (λ (b : Bool). cond b a (f n)) (eq-eqb n k same)

pub set-there : {A : Type 0} (f : ℕ → A) (k n : ℕ) (a : A) → n ≢ k → set_at f k a n ≡ f n
set-there f k n a apart = ap (λ (b : Bool). cond b a (f n)) (ne_eqb n k apart)

-- a call that is no draw of the worker leaves its job
pub kept-job : (p : Progress) (v w : ℕ) (a : JobCall) → ((job : Option ℕ) → a ≡ Draws job → w ≢ v)
    → (progress_after p v a).current w ≡ p.current w
kept-job p v w (Draws job) apart = set-there p.current v w job (apart job refl)
kept-job p v w (Adds j mask x) apart = refl
kept-job p v w (Waits j mask kind) apart = refl
kept-job p v w Mismatched apart = refl

-- one slot event more at the end
pub took-more : (host : ℕ) (past : List SlotEvent) (x : SlotEvent) → took host (past ++ x ∷ []) ≡ (took host past || took host (x ∷ []))
took-more host [] x = refl
took-more host (Takes at ∷ past) x = ap (λ (b : Bool). nat_eq at host || b) (took-more host past x)
    ∙ join (nat_eq at host) (took host past) (took host (x ∷ []))
  where
    join : (a b c : Bool) → (a || (b || c)) ≡ ((a || b) || c)
    join true b c = refl
    join false b c = refl
took-more host (Gives at ∷ past) x = took-more host past x
took-more host (GivesBad at until ∷ past) x = took-more host past x
took-more host (FindsDown ∷ past) x = took-more host past x
took-more host (TakesLocal ∷ past) x = took-more host past x
took-more host (GivesLocal ∷ past) x = took-more host past x

or-false : (b : Bool) → b ≡ (b || false)
or-false true = refl
or-false false = refl

pub unseen : (host : ℕ) (x : SlotEvent) → x ≢ Takes host → took host (x ∷ []) ≡ false
unseen host (Takes at) apart = ap (λ (b : Bool). b || false) (ne_eqb at host (λ e. apart (ap Takes e)))
unseen host (Gives at) apart = refl
unseen host (GivesBad at until) apart = refl
unseen host FindsDown apart = refl
unseen host TakesLocal apart = refl
unseen host GivesLocal apart = refl

-- a call that is no take of the host for the job
pub took-as-before : (p : Progress) (v job host : ℕ) (a : JobCall) → ((mask : Option Mask) → a ≢ Adds job mask (Takes host))
    → took host ((progress_after p v a).past job) ≡ (took host (p.past job) || false)
took-as-before p v job host (Draws other) none = or-false (took host (p.past job))
took-as-before p v job host (Waits other mask kind) none = or-false (took host (p.past job))
took-as-before p v job host Mismatched none = or-false (took host (p.past job))
took-as-before p v job host (Adds other mask x) none = go (nat_eq job other) refl
  where
    go : (b : Bool) → nat_eq job other ≡ b → took host (cond b (p.past other ++ x ∷ []) (p.past job)) ≡ (took host (p.past job) || false)
    go true is =
        let same : job ≡ other = eqb-true job other is in
        took-more host (p.past other) x
        ∙ ap (λ (b : Bool). took host (p.past other) || b)
        (unseen host x (λ e. none mask (ap (λ (y : SlotEvent). Adds other mask y) e
        ∙ ap (λ (k : ℕ). Adds k mask (Takes host)) (sym same))))
        ∙ ap (λ (k : ℕ). took host (p.past k) || false) (sym same)
    go false is = or-false (took host (p.past job))

-- the acts that are left to the job
pub rest-kept : (p : Progress) (v job : ℕ) (a : JobCall) → ((mask : Option Mask) (x : SlotEvent) → a ≢ Adds job mask x)
    → (progress_after p v a).rest job ≡ p.rest job
rest-kept p v job (Draws other) none = refl
rest-kept p v job (Waits other mask kind) none = refl
rest-kept p v job Mismatched none = refl
rest-kept p v job (Adds other mask x) none =
    set-there p.rest other job (after_met (p.rest other)) (λ e. none mask x (ap (λ (k : ℕ). Adds k mask x) (sym e)))

pub rest-shorter : (p : Progress) (v job : ℕ) (mask : Option Mask) (x : SlotEvent)
    → (progress_after p v (Adds job mask x)).rest job ≡ after_met (p.rest job)
rest-shorter p v job mask x = set-here p.rest job job (after_met (p.rest job)) refl

pub behind-more : (n : ℕ) (acts : List Act) → behind (n + 1) acts ≡ after_met (behind n acts)
behind-more n acts = let e : n + 1 ≡ suc n = omega arith in ap (λ (k : ℕ). behind k acts) e

-- the next slot event among slot events alone
behind-first : (n : ℕ) (acts : List Act) → behind n (after_met acts) ≡ after_met (behind n acts)
behind-first zero acts = refl
behind-first (suc n) acts = ap after_met (behind-first n acts)

behind-none : (n : ℕ) → behind n [] ≡ []
behind-none zero = refl
behind-none (suc n) = ap after_met (behind-none n)

pub next-behind : (n : ℕ) (xs : List SlotEvent) → next_met (behind n (map Met xs)) ≡ slice_get xs n
next-behind n [] = ap next_met (behind-none n)
next-behind zero (x ∷ xs) = refl
next-behind (suc n) (x ∷ xs) = ap next_met (sym (behind-first n (Met x ∷ map Met xs))) ∙ next-behind n xs

-- a job that does nothing is left nothing
pub rest-empty : (p : Progress) (es : List CallEntry) (job : ℕ) → p.rest job ≡ [] → (last_progress p es).rest job ≡ []
rest-empty p [] job none = none
rest-empty p (e ∷ es) job none = rest-empty (next_progress p e) es job (one (job_call_of e))
  where
    one : (a : JobCall) → (progress_after p e.caller a).rest job ≡ []
    one (Draws other) = none
    one (Waits other mask kind) = none
    one Mismatched = none
    one (Adds other mask x) = go (nat_eq job other) refl
      where
        go : (b : Bool) → nat_eq job other ≡ b → cond b (after_met (p.rest other)) (p.rest job) ≡ []
        go true is = ap (λ (k : ℕ). after_met (p.rest k)) (sym (eqb-true job other is)) ∙ ap after_met none
        go false is = none

-- an entry is as wanted where it is in the mask or was taken, and not both
pub unwanted : (taken masked : Bool) → beq masked taken ≡ true → cond taken (not masked) masked ≡ false
unwanted true true e = refl
unwanted false false e = refl
unwanted true false e = cc
unwanted false true e = cc

pub as-wanted : (taken masked : Bool) → beq masked taken ≡ false → cond taken (not masked) masked ≡ true
as-wanted true true e = cc
as-wanted false false e = cc
as-wanted true false e = refl
as-wanted false true e = refl
