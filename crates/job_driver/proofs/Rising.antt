-- Reports whose numbers rise are known by which they are.
use Rattle.std.proofs.Common.{◌≡◌, ◌⊎◌, inl, inr, ℕ, zero, suc, ◌+◌, ◌<◌, ◌≤◌, Bool, true, false, cond, List, [], ◌∷◌, Some, None, length}
use Rattle.std.proofs.Common.{get_or, nat_eq, refl, sym, ap, ◌∙◌, subst, arith, eq-eqb}
use Rattle.std.specs.Prelude.{All}
use Rattle.std.specs.List.{range_with_len, cons_option}
use Rattle.std.proofs.lemmas.Bool.{eqb-true}
use Rattle.std.proofs.lemmas.List.Elements.{All-head, All-tail}
use Rattle.slot_table.specs.declared.calls.CallEntry.{CallEntry}
use Rattle.slot_table.specs.declared.calls.SlotCall.{SlotCall}
use Rattle.slot_table.specs.declared.calls.SlotCall.TheVariants.{Draw, Take, Give, GiveBad, TakeLocal, GiveLocal}
use Rattle.slot_table.specs.declared.calls.SlotReply.{SlotReply}
use Rattle.slot_table.specs.declared.calls.SlotReply.TheVariants.{Drawn, Got, Full, Down, Local, Given}
use Rattle.slot_table.specs.History.{job_drawn, jobs_drawn}
use Rattle.farm_machine.specs.declared.reports.Report.{Report}
use Rattle.farm_machine.specs.Machine.{job_call}
use Rattle.farm_laws.proofs.Drivers.{AscBy, Ascend}
use Rattle.job_driver.specs.Driven.{reports_by}
use Rattle.job_driver.proofs.Working.{numbers_of}

-- numbers that rise, each by one at least
abbrev pub Rise : ℕ → List ℕ → Type 0
Rise from [] = Unit {0}
Rise from (x ∷ xs) = (from ≤ x) × Rise (x + 1) xs

rise-lower : (a b : ℕ) (xs : List ℕ) → b ≤ a → Rise a xs → Rise b xs
rise-lower a b [] less rise = tt
rise-lower a b (x ∷ xs) less rise = (let low : a ≤ x = rise.0 in omega (arith, less, low), rise.1)

pub rise-range : (a n : ℕ) → Rise a (range_with_len a n)
rise-range a zero = tt
rise-range a (suc n) = (omega arith, rise-range (a + 1) n)

drawn-rise : (call : SlotCall) (reply : SlotReply) (k : ℕ) (es : List CallEntry) (xs : List ℕ)
    → ((m : ℕ) → Ascend es m → Rise m xs) → AscBy (job_call call reply) k (Ascend es) → Rise k (cons_option (job_drawn call reply) xs)
drawn-rise Draw (Drawn (Some job)) k es xs more asc = (asc.0, more (job + 1) asc.1)
drawn-rise Draw (Drawn None) k es xs more asc = more k asc
drawn-rise Draw (Got host) k es xs more asc = more k asc
drawn-rise Draw Full k es xs more asc = more k asc
drawn-rise Draw Down k es xs more asc = more k asc
drawn-rise Draw (Local given) k es xs more asc = more k asc
drawn-rise Draw Given k es xs more asc = more k asc
drawn-rise (Take job mask now) (Drawn o) k es xs more asc = more k asc
drawn-rise (Take job mask now) (Got host) k es xs more asc = more k asc
drawn-rise (Take job mask now) Full k es xs more asc = more k asc
drawn-rise (Take job mask now) Down k es xs more asc = more k asc
drawn-rise (Take job mask now) (Local given) k es xs more asc = more k asc
drawn-rise (Take job mask now) Given k es xs more asc = more k asc
drawn-rise (Give host job) (Drawn o) k es xs more asc = more k asc
drawn-rise (Give host job) (Got other) k es xs more asc = more k asc
drawn-rise (Give host job) Full k es xs more asc = more k asc
drawn-rise (Give host job) Down k es xs more asc = more k asc
drawn-rise (Give host job) (Local given) k es xs more asc = more k asc
drawn-rise (Give host job) Given k es xs more asc = more k asc
drawn-rise (GiveBad host job until) (Drawn o) k es xs more asc = more k asc
drawn-rise (GiveBad host job until) (Got other) k es xs more asc = more k asc
drawn-rise (GiveBad host job until) Full k es xs more asc = more k asc
drawn-rise (GiveBad host job until) Down k es xs more asc = more k asc
drawn-rise (GiveBad host job until) (Local given) k es xs more asc = more k asc
drawn-rise (GiveBad host job until) Given k es xs more asc = more k asc
drawn-rise (TakeLocal job) (Drawn o) k es xs more asc = more k asc
drawn-rise (TakeLocal job) (Got other) k es xs more asc = more k asc
drawn-rise (TakeLocal job) Full k es xs more asc = more k asc
drawn-rise (TakeLocal job) Down k es xs more asc = more k asc
drawn-rise (TakeLocal job) (Local true) k es xs more asc = more k asc
drawn-rise (TakeLocal job) (Local false) k es xs more asc = more k asc
drawn-rise (TakeLocal job) Given k es xs more asc = more k asc
drawn-rise (GiveLocal job) (Drawn o) k es xs more asc = more k asc
drawn-rise (GiveLocal job) (Got other) k es xs more asc = more k asc
drawn-rise (GiveLocal job) Full k es xs more asc = more k asc
drawn-rise (GiveLocal job) Down k es xs more asc = more k asc
drawn-rise (GiveLocal job) (Local given) k es xs more asc = more k asc
drawn-rise (GiveLocal job) Given k es xs more asc = more k asc

pub rise-drawn : (es : List CallEntry) (k : ℕ) → Ascend es k → Rise k (jobs_drawn es)
rise-drawn [] k asc = tt
rise-drawn (e ∷ es) k asc = drawn-rise e.call e.reply k es (jobs_drawn es) (λ m a. rise-drawn es m a) asc

-- the report is in the list
abbrev pub Has : Report → List Report → Type 0
Has r [] = ⊥
Has r (x ∷ xs) = (x ≡ r) ⊎ Has r xs

abbrev pub HasEach : List Report → List Report → Type 0
HasEach [] ys = Unit {0}
HasEach (x ∷ xs) ys = Has x ys × HasEach xs ys

has-above : (from : ℕ) (xs : List Report) (r : Report) → Rise from (numbers_of xs) → Has r xs → from ≤ r.number
has-above from [] r rise has = absurd has
has-above from (x ∷ xs) r rise (inl here) = let e = ap (λ (q : Report). q.number) here in let low : from ≤ x.number = rise.0 in omega
    (arith, e, low)
has-above from (x ∷ xs) r rise (inr there) = let more = has-above (x.number + 1) xs r rise.1 there in let low : from ≤ x.number = rise.0 in
    omega (arith, more, low)

drop-first : (xs ys : List Report) (y : Report) (from : ℕ) → y.number < from → Rise from (numbers_of xs) → HasEach xs (y ∷ ys)
    → HasEach xs ys
drop-first [] ys y from less rise all = tt
drop-first (x ∷ xs) ys y from less rise all = (
  elim all.0 [
    | inl here ↦ let e = ap (λ (q : Report). q.number) here in let low : from ≤ x.number = rise.0 in absurd (omega (arith, e, low, less))
    | inr there ↦ there
  ],
  drop-first xs ys y (x.number + 1) (let low : from ≤ x.number = rise.0 in omega (arith, low, less)) rise.1 all.1,
)

first-is : (x y : Report) (xs ys : List Report) → Rise (x.number + 1) (numbers_of xs) → Rise (y.number + 1) (numbers_of ys) → Has x (y ∷ ys)
    → Has y (x ∷ xs) → x ≡ y
first-is x y xs ys rise rise' (inl here) back = sym here
first-is x y xs ys rise rise' (inr there) (inl here) = here
first-is x y xs ys rise rise' (inr there) (inr back) =
    let up = has-above (y.number + 1) ys x rise' there in
    let down = has-above (x.number + 1) xs y rise back in
    absurd (omega (arith, up, down))

pub same-reports : (from to : ℕ) (xs ys : List Report) → Rise from (numbers_of xs) → Rise to (numbers_of ys) → HasEach xs ys → HasEach ys xs
    → xs ≡ ys
same-reports from to [] [] rise rise' all back = refl
same-reports from to [] (y ∷ ys) rise rise' all back = absurd back.0
same-reports from to (x ∷ xs) [] rise rise' all back = absurd all.0
same-reports from to (x ∷ xs) (y ∷ ys) rise rise' all back =
    let e : x ≡ y = first-is x y xs ys rise.1 rise'.1 all.0 back.0 in
    let n = ap (λ (q : Report). q.number) e in
    let tail : HasEach xs ys = drop-first xs ys y (x.number + 1) (omega (arith, n)) rise.1 all.1 in
    let tail' : HasEach ys xs = drop-first ys xs x (y.number + 1) (omega (arith, n)) rise'.1 back.1 in
    ap (λ (z : Report). z ∷ xs) e ∙ ap (λ (zs : List Report). y ∷ zs)
    (same-reports (x.number + 1) (y.number + 1) xs ys rise.1 rise'.1 tail tail')

-- the reports of one worker
pub rise-by : (w from : ℕ) (xs : List Report) → Rise from (numbers_of xs) → Rise from (numbers_of (reports_by w xs))
rise-by w from [] rise = tt
rise-by w from (x ∷ xs) rise = go (nat_eq x.worker w) (rise-by w (x.number + 1) xs rise.1)
  where
    go : (b : Bool) → Rise (x.number + 1) (numbers_of (reports_by w xs))
        → Rise from (numbers_of (cond b (x ∷ reports_by w xs) (reports_by w xs)))
    go true more = (rise.0, more)
    go false more = rise-lower (x.number + 1) from (numbers_of (reports_by w xs)) (let low : from ≤ x.number = rise.0 in omega (arith, low))
        more

pub has-at : (xs : List Report) (k : ℕ) (d : Report) → k < length xs → Has (get_or xs k d) xs
has-at [] k d below = absurd (omega (arith, below))
has-at (x ∷ xs) zero d below = inl refl
has-at (x ∷ xs) (suc k) d below = inr (has-at xs k d (omega (arith, below)))

pub has-each : (xs ys : List Report) → All (λ r. Has r ys) xs → HasEach xs ys
has-each [] ys all = tt
has-each (x ∷ xs) ys all = (All-head (λ r. Has r ys) x xs all, has-each xs ys (All-tail (λ r. Has r ys) x xs all))

has-by : (w : ℕ) (r : Report) (xs : List Report) → r.worker ≡ w → Has r xs → Has r (reports_by w xs)
has-by w r [] by has = absurd has
has-by w r (x ∷ xs) by (inl here) =
    let e : nat_eq x.worker w ≡ true = eq-eqb x.worker w (ap (λ (q : Report). q.worker) here ∙ by) in
    subst (λ (b : Bool). Has r (cond b (x ∷ reports_by w xs) (reports_by w xs))) (sym e) (inl here)
has-by w r (x ∷ xs) by (inr there) = go (nat_eq x.worker w) (has-by w r xs by there)
  where
    go : (b : Bool) → Has r (reports_by w xs) → Has r (cond b (x ∷ reports_by w xs) (reports_by w xs))
    go true more = inr more
    go false more = more

-- the worker's own reports are among its reports
pub own-by : (w : ℕ) (own xs : List Report) → All (λ r. r.worker ≡ w) own → HasEach own xs → HasEach own (reports_by w xs)
own-by w [] xs by all = tt
own-by w (r ∷ own) xs by all = (
  has-by w r xs (All-head (λ q. q.worker ≡ w) r own by) all.0,
  own-by w own xs
      (All-tail (λ q. q.worker ≡ w) r own by) all.1,
)

-- and its reports are its own, where each report is its worker's own
pub by-own : (w : ℕ) (own xs : List Report) → All (λ r. r.worker ≡ w → Has r own) xs → HasEach (reports_by w xs) own
by-own w own [] all = tt
by-own w own (x ∷ xs) all = go (nat_eq x.worker w) refl (by-own w own xs (All-tail (λ r. r.worker ≡ w → Has r own) x xs all))
  where
    go : (b : Bool) → nat_eq x.worker w ≡ b → HasEach (reports_by w xs) own → HasEach (cond b (x ∷ reports_by w xs) (reports_by w xs)) own
    go true is more = (All-head (λ r. r.worker ≡ w → Has r own) x xs all (eqb-true x.worker w is), more)
    go false is more = more
