-- One try after another.
use Rattle.std.proofs.Common.{◌≡◌, ◌≢◌, inl, inr, ℕ, suc, ◌+◌, ◌<◌, ◌≤◌, Bool, true, false, ◌&&◌, ◌||◌, not, cond, nat_eq, nat_lt, List}
use Rattle.std.proofs.Common.{[], ◌∷◌, length, get_or, refl, sym, ap, ◌∙◌, subst, arith, eq-eqb, ne_eqb}
use Rattle.slot_table.specs.declared.limits.Limits.{Limits}
use Rattle.std.proofs.lemmas.Bool.{lt-ltb, le-ltb, cases_eq}
use Rattle.std.proofs.lemmas.List.{get_or_read}
use Rattle.farm_types.specs.declared.hosts.Host.{Host}
use Rattle.farm_types.specs.declared.ran.Outcome.{Outcome}
use Rattle.reply_stream.specs.Objects.{with_object}
use Rattle.edge_traits.specs.Keepers.{HasPending}
use Rattle.remote_transfer.specs.Landings.{IsLanding}
use Rattle.remote_transfer.specs.declared.answers.Landing.{Landing}
use Rattle.remote_transfer.specs.declared.answers.Landing.TheVariants as landing
use Rattle.farm_machine.specs.declared.reports.By.TheVariants.{Remote}
use Rattle.edge_traits.specs.declared.cause.Cause.{Cause}
use Rattle.farm_machine.specs.declared.reports.Why5.{Why5}
use Rattle.farm_machine.specs.declared.reports.Why5.TheVariants.{Memory, Broke, Fetch, Station}
use Rattle.farm_machine.specs.declared.reports.End.{End}
use Rattle.farm_machine.specs.declared.reports.End.TheVariants.{Done, Failed}
use Rattle.farm_machine.specs.Causes.{HasEndCause}
use Rattle.farm_machine.specs.Course.{At, Send, Locally, Finish, Over, no_host, or_here, after_whole, after_broken, Tried, tried_too}
use Rattle.farm_machine.specs.Course.{Start, Next, Ends, From}
use Rattle.farm_machine.specs.Acts.{Act}
use Rattle.farm_machine.specs.Jobs.{Job, no_host_entry, output_name, source_name}
use Rattle.job_run.specs.declared.step.Step.{Step}
use Rattle.job_run.specs.declared.step.Step.TheVariants as step
use Rattle.job_run.specs.declared.step.Compiled.TheVariants.{ByHost}
use Rattle.job_run.specs.declared.step.Asked.{Asked}
use Rattle.job_run.specs.declared.step.Asked.TheVariants as asked
use Rattle.job_run.specs.Strict.{IsStrict, StrictReach}
use Rattle.job_run.specs.Stages.{IsAtKeeper, StepIs, SentIs, AskedIs, step_after}
use Rattle.job_run.specs.Went.{Seen, WentOn, HasEnded}
use Rattle.job_run.proofs.Composing.{cause-before, stands-by, keeps-by, unfetched, on-then, on-ended}

-- what follows from a host's whole reply, by where its object is
pub whole-step : {h : ℕ} (j : Job) {l : Limits h} {caller number : ℕ} {a b : Seen} {at : At} (host : ℕ) (source note : List ℕ)
    (o : Outcome) (where_is : Landing)
    (path object : List ℕ) (s : Step) → s ≡ step_after j.config host o where_is → output_name j ≡ path
    → IsLanding where_is o path object a.kit.keeper.faults b.kit.keeper
    → WentOn j l caller number a b at (after_whole j host source note (with_object o object))
    → StepIs j l caller number a b at source note s
whole-step j {l = l} {caller = caller} {number = number} {a = a} {b = b} {at = at} host source note o where_is path object s is named lands
    went =
    subst (λ (t : Step). StepIs j l caller number a b at source note t) (sym is) (go where_is lands)
  where
    done_at : Bool → Bool → At
    done_at done again =
        cond done (Finish (Remote host) note (with_object o object))
        (cond again (Locally source note) (Over (Done o.status note o.err o.out (Remote host))))

    at-zero : o.status ≡ 0 → after_whole j host source note (with_object o object) ≡ Finish (Remote host) note (with_object o object)
    at-zero well = ap (λ (b : Bool). done_at b (j.config.fallback && j.config.retry)) (eq-eqb o.status 0 well)

    compiled : IsAtKeeper o (output_name j) object b.kit.keeper
        → StepIs j l caller number a b at source note
        (cond (not (nat_eq o.status 0) && (j.config.fallback && j.config.retry)) step.Here (step.Compiled (ByHost host o)))
    compiled held = each (nat_eq o.status 0) refl (j.config.fallback && j.config.retry) went
      where
        said : Bool → At
        said d = cond d (Finish (Remote host) note (with_object o object)) (Over (Done o.status note o.err o.out (Remote host)))

        each : (done : Bool) → nat_eq o.status 0 ≡ done → (again : Bool) → WentOn j l caller number a b at (done_at done again)
            → StepIs j l caller number a b at source note (cond (not done && again) step.Here (step.Compiled (ByHost host o)))
        each true is again w = (object, subst (λ (d : Bool). WentOn j l caller number a b at (said d)) (sym is) w, held)
        each false is true w = w
        each false is false w = (object, subst (λ (d : Bool). WentOn j l caller number a b at (said d)) (sym is) w, held)

    go : (w : Landing) → IsLanding w o path object a.kit.keeper.faults b.kit.keeper
        → StepIs j l caller number a b at source note (step_after j.config host o w)
    go landing.Pending held = compiled (record {
      pending = λ well. subst (λ (p : List ℕ). HasPending b.kit.keeper p object) (sym named) held.1;
      idle = λ failed. absurd (failed held.0);
    })
    go landing.Lost held =
        let there = subst (λ (to : At). WentOn j l caller number a b at to) (at-zero held.0) went in
        record {
          to = Finish (Remote host) note (with_object o object);
          went = there.went;
          ends = inl (held.0, inr refl);
          cause = held.2;
          station = there.station;
          keeper = there.keeper.overruns;
          fetch = tt;
        }
    go landing.Nothing held = compiled (record { pending = λ well. absurd (held.0 well); idle = λ failed. held.1 })

-- an exchange broke with a host that is known by another name
pub broke-as : {h : ℕ} {j : Job} {l : Limits h} {caller number place host : ℕ} {a b : Seen} {at : At} (cause : Cause)
    (source note : List ℕ) (tried : List Tried)
    → place ≡ host → host < l.count → WentOn j l caller number a b at (after_broken j host cause source note tried)
    → HasEndCause (Failed (Broke host cause)) a.kit b.kit
    → AskedIs j l caller number a b at source note tried (asked.Broke place cause)
broke-as {j = j} {l = l} {caller = caller} {number = number} {place = place} {host = host} {a = a} {b = b} {at = at} cause source note tried
    same below went why =
    subst (λ (k : ℕ). (k < l.count) × WentOn j l caller number a b at (after_broken j k cause source note tried) × HasEndCause
    (Failed (Broke k cause)) a.kit b.kit) (sym same)
    (below, went, why)

-- where memory was wanting in place of an outcome
pub wanted-step : {h : ℕ} {j : Job} {l : Limits h} {caller number : ℕ} {a b : Seen} {at : At}
    → WentOn j l caller number a b at (Over (Failed Memory)) → HasEnded j l caller number a b at (Failed Memory)
wanted-step {a = a} {b = b} went =
    record {
      to = Over (Failed Memory);
      went = went.went;
      ends = refl;
      cause = tt;
      station = went.station;
      keeper = keeps-by
          (Failed Memory) went.went.acts a.kit.keeper b.kit.keeper went.keeper;
      fetch = tt;
    }

-- no fetch and no run
abbrev IsNoFetchOrRun : Why5 → Type 0
IsNoFetchOrRun why = (why ≢ Fetch) × (why ≢ Station)

-- with fallback the job is compiled here, and else it has failed
pub here-step : {h : ℕ} (j : Job) (l : Limits h) (caller number : ℕ) (a b : Seen) (at : At) (source note : List ℕ) (why : Why5)
    → WentOn j l caller number a b at (or_here j source note (Failed why)) → HasEndCause (Failed why) a.kit b.kit → IsNoFetchOrRun why
    → StepIs j l caller number a b at source note (cond j.config.fallback step.Here (step.Failed why))
here-step j l caller number a b at source note why went cause other = go j.config.fallback went
  where
    go : (fallback : Bool) → WentOn j l caller number a b at (cond fallback (Locally source note) (Over (Failed why)))
        → StepIs j l caller number a b at source note (cond fallback step.Here (step.Failed why))
    go true w = w
    go false w =
        record {
          to = Over (Failed why);
          went = w.went;
          ends = refl;
          cause = cause;
          station = stands-by why a.kit.station b.kit.station other.1 w.station;
          keeper = keeps-by (Failed why) w.went.acts a.kit.keeper b.kit.keeper w.keeper;
          fetch = unfetched
              (source_name j) why w.went.acts a.kit.keeper b.kit.keeper other.0;
        }

-- from here a job may go on by these acts to this end, each run and fetch within its bounds and no fault of an exchange hidden
abbrev pub StrictFrom : Job → At → List Act → End → Type 0
StrictFrom j at [] end = Ends j at end
StrictFrom j at (act ∷ acts) end = (next : At) × Next j at act next × IsStrict act at next × StrictFrom j next acts end

abbrev pub StrictCourse : Job → List Act → End → Type 0
StrictCourse j acts end = StrictFrom j Start acts end

-- from the start to a place where the job may end so, its acts are a course
pub course-of : (j : Job) (acts : List Act) (at to : At) (end : End) → StrictReach j at acts to → Ends j to end → StrictFrom j at acts end
course-of j [] at to end e ends = subst (λ (b : At). Ends j b end) (sym e) ends
course-of j (x ∷ acts) at to end (b, next, strict, more) ends = (b, next, strict, course-of j acts b to end more ends)

pub is-course : (j : Job) (acts : List Act) (at : At) (end : End) → StrictFrom j at acts end → From j at acts end
is-course j [] at end ends = ends
is-course j (x ∷ acts) at end (b, next, strict, more) = (b, next, is-course j acts b end more)

-- an entry of the mask was not tried
pub fresh-entry : (masked below tried : Bool) → masked ≡ true → masked ≡ (below && not tried) → tried ≡ false
fresh-entry true true true m is = cc
fresh-entry true false true m is = cc
fresh-entry false below true m is = cc
fresh-entry masked below false m is = refl

-- the entry that was read at a place is the one of the host list
pub host_found : (xs ys : List Host) (place host : ℕ) (x : Host) → xs ≡ ys → place ≡ host → x ≡ get_or xs place x → host < length ys
    → get_or ys host no_host_entry ≡ x
host_found xs ys place host x same_list same_host is below =
    let e : x ≡ get_or ys host x = is ∙ ap (λ (zs : List Host). get_or zs place x) same_list ∙ ap (λ (k : ℕ). get_or ys k x) same_host in
    sym (get_or_read ys host x below e no_host_entry)

-- what the tries came to is neither
pub no-host-left : (tried : List Tried) → IsNoFetchOrRun (no_host tried)
no-host-left [] = (λ e. cc, λ e. cc)
no-host-left (t ∷ tried) = (λ e. cc, λ e. cc)

-- where a job stands after these tries: it asks the next host, or has no tries left
abbrev pub stage : Job → List ℕ → List ℕ → List Tried → At
stage j source note tried =
    cond (nat_lt (length tried) j.config.tries) (Send source note tried) (or_here j source note (Failed (no_host tried)))

pub stage-next : (j : Job) (source note : List ℕ) (tried : List Tried) → length tried < j.config.tries
    → stage j source note tried ≡ Send source note tried
stage-next j source note tried below =
    ap (λ (b : Bool). cond b (Send source note tried) (or_here j source note (Failed (no_host tried))))
    (lt-ltb (length tried) j.config.tries below)

-- with tries left it asks the next host
pub asks-next : {h : ℕ} {j : Job} {l : Limits h} {caller number : ℕ} {a b : Seen} {at : At} {source note : List ℕ} (tried : List Tried)
    → length tried < j.config.tries → WentOn j l caller number a b at (stage j source note tried)
    → WentOn j l caller number a b at (Send source note tried)
asks-next {j = j} {l = l} {caller = caller} {number = number} {a = a} {b = b} {at = at} {source = source} {note = note} tried below went =
    subst (λ (t : At). WentOn j l caller number a b at t) (stage-next j source note tried below) went

pub stage-last : (j : Job) (source note : List ℕ) (tried : List Tried) → j.config.tries ≤ length tried
    → stage j source note tried ≡ or_here j source note (Failed (no_host tried))
stage-last j source note tried above =
    ap (λ (b : Bool). cond b (Send source note tried) (or_here j source note (Failed (no_host tried))))
    (le-ltb (length tried) j.config.tries above)

-- one part after another
pub step-then : {h : ℕ} {j : Job} {l l' : Limits h} {caller caller' number : ℕ} {a b : Seen} (c : Seen) {at mid : At}
    (source note : List ℕ) (s : Step)
    → l' ≡ l → caller' ≡ caller → WentOn j l caller number a b at mid → StepIs j l' caller' number b c mid source note s
    → StepIs j l caller number a c at source note s
step-then c source note step.Here same_limits same_caller first last = on-then same_limits same_caller first last
step-then c source note (step.Compiled made) same_limits same_caller first last =
    (last.0, on-then same_limits same_caller first last.1, last.2)
step-then c source note (step.Failed why) same_limits same_caller first last = on-ended same_limits same_caller first last

pub asked-then : {h : ℕ} {j : Job} {l l' : Limits h} {caller caller' n number : ℕ} {a b : Seen} (c : Seen) {at mid : At}
    (source note : List ℕ) (tried : List Tried) (r : Asked)
    → l' ≡ l → caller' ≡ caller → n ≡ number → WentOn j l caller number a b at mid → AskedIs j l' caller' n b c mid source note tried r
    → AskedIs j l caller number a c at source note tried r
asked-then {h = h} {j = j} {l = l} {l' = l'} {caller = caller} {caller' = caller'} {number = number} {a = a} {b = b} c {at = at} {mid = mid}
    source note tried r same_limits same_caller same_number first last =
    go r (subst (λ (k : ℕ). AskedIs j l' caller' k b c mid source note tried r) same_number last)
  where
    go : (r : Asked) → AskedIs j l' caller' number b c mid source note tried r → AskedIs j l caller number a c at source note tried r
    go asked.Down down = on-then same_limits same_caller first down
    go (asked.Over s) over = step-then c source note s same_limits same_caller first over
    go (asked.Broke host cause) broke = (
      subst (λ (k : Limits h). host < k.count) same_limits broke.0,
      on-then same_limits same_caller first broke.1,
      cause-before a.kit b.kit c.kit (Failed (Broke host cause)) first.went.later broke.2,
    )

pub arrive : {h : ℕ} {j : Job} {l : Limits h} {caller number : ℕ} {a b : Seen} {at to other : At} → to ≡ other
    → WentOn j l caller number a b at to → WentOn j l caller number a b at other
arrive {j = j} {l = l} {caller = caller} {number = number} {a = a} {b = b} {at = at} {to = to} {other = other} same went =
    subst (λ (t : At). WentOn j l caller number a b at t) same went

pub here-as : {h : ℕ} {j : Job} {l : Limits h} {caller number : ℕ} {a b : Seen} {at : At} (source note : List ℕ) (s : Step)
    (last why : Why5)
    → s ≡ cond j.config.fallback step.Here (step.Failed last) → last ≡ why
    → WentOn j l caller number a b at (or_here j source note (Failed why))
    → HasEndCause (Failed last) a.kit b.kit → IsNoFetchOrRun why → StepIs j l caller number a b at source note s
here-as {j = j} {l = l} {caller = caller} {number = number} {a = a} {b = b} {at = at} source note s last why is same went cause other =
    subst (λ (t : Step). StepIs j l caller number a b at source note t)
    (sym (is ∙ ap (λ (w : Why5). cond j.config.fallback step.Here (step.Failed w)) same))
    (here-step j l caller number a b at source note why went (subst (λ (w : Why5). HasEndCause (Failed w) a.kit b.kit) same cause) other)

-- which entries were not tried: at first all, and after a try one less
pub untried-all : (masked : Bool) (i n count : ℕ) → masked ≡ nat_lt i n → n ≡ count → masked ≡ (nat_lt i count && true)
untried-all masked i n count is same = is ∙ ap (nat_lt i) same ∙ sym (and-true (nat_lt i count))
  where
    and-true : (b : Bool) → (b && true) ≡ b
    and-true true = refl
    and-true false = refl

pub untried-more : (now was below tried : Bool) (i host : ℕ) → was ≡ (below && not tried) → now ≡ (was && not (nat_eq i host))
    → now ≡ (below && not (nat_eq host i || tried))
untried-more now was below tried i host first then =
    then ∙ ap (λ (b : Bool). b && not (nat_eq i host)) first ∙ ap (λ (e : Bool). (below && not tried) && not e) (swap i host)
    ∙ both below tried (nat_eq host i)
  where
    both : (below tried e : Bool) → ((below && not tried) && not e) ≡ (below && not (e || tried))
    both false tried e = refl
    both true true true = refl
    both true true false = refl
    both true false true = refl
    both true false false = refl

    swap : (i k : ℕ) → nat_eq i k ≡ nat_eq k i
    swap i k =
        elim (cases_eq i k) [ inl e ↦ eq-eqb i k e ∙ sym (eq-eqb k i (sym e)) | inr n ↦ ne_eqb i k n ∙ sym (ne_eqb k i (λ e. n (sym e))) ]

plus-one : (n : ℕ) → n + 1 ≡ suc n
plus-one n = omega arith

pub stage-broken : (j : Job) (host : ℕ) (cause : Cause) (source note : List ℕ) (tried : List Tried)
    → after_broken j host cause source note tried ≡ stage j source note (tried_too host cause tried)
stage-broken j host cause source note tried =
    ap (λ (n : ℕ). cond (nat_lt n j.config.tries) (Send source note (tried_too host cause tried))
    (or_here j source note (Failed (Broke host cause)))) (plus-one (length tried))

pub tried-more : (host : ℕ) (cause : Cause) (tried : List Tried) (made : ℕ) → length tried ≡ made
    → length (tried_too host cause tried) ≡ made + 1
tried-more host cause tried made is = sym (plus-one (length tried)) ∙ ap (λ (n : ℕ). n + 1) is

-- after a request within the limits
pub sent-step : {h : ℕ} (j : Job) (l : Limits h) (caller number : ℕ) (a b : Seen) (source note : List ℕ) (s : Step)
    → StepIs j l caller number a b (Send source note []) source note s → SentIs j l caller number a b source note s
sent-step j l caller number a b source note step.Here went = (Locally source note, inl refl, went)
sent-step j l caller number a b source note (step.Compiled made) went = went
sent-step j l caller number a b source note (step.Failed why) ended = ended
