-- What the answers of the reader are to graphs and to what is wrong.
use Rattle.std.proofs.Common.{◌≡◌, ℕ, ◌-◌, ◌<◌, ◌≤◌, Bool, true, false, List, [], ◌∷◌, ◌++◌, length, Option, Some, None, Result, Ok}
use Rattle.std.proofs.Common.{Err, refl, ap, sym, ◌∙◌, subst, inl, inr, arith}
use Rattle.std.specs.Prelude.{◌&&◌, nat_le, All, IfOk, IfErr}
use Rattle.std.proofs.lemmas.Bool.Decides.{nat_tests}
use Rattle.std.proofs.lemmas.List.Elements.{All-nil, All-cons, All-append}
use Rattle.job_list.specs.declared.fault.JobFault.{JobFault}
use Rattle.job_list.specs.declared.fault.JobError.{JobError}
use Rattle.job_list.specs.declared.fault.JobError.TheVariants as job
use Rattle.job_list.specs.Answers as answers
use Rattle.job_list.specs.Jobs.{JobsOf, JobFaultStands}
use Rattle.job_list.specs.Texts.{is_job}
use Rattle.job_list.proofs.TextReading.{one_jobs, one_fault, no_both}
use Rattle.job_graph.specs.declared.fault.GraphFault.{GraphFault}
use Rattle.job_graph.specs.declared.fault.GraphError.{GraphError}
use Rattle.job_graph.specs.declared.fault.GraphError.TheVariants as error
use Rattle.job_graph.specs.declared.graph.Graph.{Graph}
use Rattle.job_graph.specs.Faults.{of_jobs}
use Rattle.job_graph.specs.Lines.{is_needs, needed_words, cut_text}
use Rattle.job_graph.specs.Needs.{short_number, job_numbered, job_named, jobs_named, FaultAt, needs_fault, needs_from, needs_of}
use Rattle.job_graph.specs.Depths.{DepthsOf, NeedsWithin}
use Rattle.job_graph.specs.Cycles.{IsRing, IsCycle}
use Rattle.job_graph.specs.Graphs.{IsGraph, GraphOf, NeedsFaultStands, CycleStands, IsError, Gives, GivesError, GivesCycle}
use Rattle.job_graph.specs.Steps.{job_count, IsNeedsError}
use Rattle.job_graph.proofs.Cutting.{list_counted}
use Rattle.job_graph.proofs.Deep.{one_depths, no_ring}
use Rattle.job_list.specs.Texts.{lines_of}

-- ---- the needs are jobs

numbered_within : (count number : ℕ) (n : ℕ) → job_numbered count (Some number) ≡ Some n → n < count
numbered_within count number n e = by (nat_le 1 number && nat_le number count) refl
  where
    by : (b : Bool) → (nat_le 1 number && nat_le number count) ≡ b → n < count
    by true t =
        let is : job_numbered count (Some number) ≡ Some (number - 1) = rw t refl in
        let same : number - 1 ≡ n = let both : Some (number - 1) ≡ Some n = sym is ∙ e in cc in
        let low : 1 ≤ number = grind (arith, nat_tests) in
        let high : number ≤ count = grind (arith, nat_tests) in
        omega arith
    by false t =
        let is : job_numbered count (Some number) ≡ None = rw t refl in
        let both : None ≡ Some n = sym is ∙ e in
        absurd cc

named_within : (count : ℕ) (word : List ℕ) (n : ℕ) → job_named count word ≡ Some n → n < count
named_within count word n e = by (short_number word) refl
  where
    by : (v : Option ℕ) → short_number word ≡ v → n < count
    by None s = let both : None ≡ Some n = sym (ap (job_numbered count) s) ∙ e in absurd cc
    by (Some number) s = numbered_within count number n (sym (ap (job_numbered count) s) ∙ e)

pub names_within : (count : ℕ) (words : List (List ℕ)) → All (λ n. n < count) (jobs_named count words)
names_within count [] = All-nil (λ n. n < count)
names_within count (w ∷ ws) = by (names_within count ws) (job_named count w) refl
  where
    by : All (λ n. n < count) (jobs_named count ws) → (o : Option ℕ) → job_named count w ≡ o
        → All (λ n. n < count) (jobs_named count (w ∷ ws))
    by h None e = rw e h
    by h (Some n) e = rw e (All-cons (λ m. m < count) n (jobs_named count ws) (named_within count w n e) h)

from_within : (count : ℕ) (ls : List (List ℕ)) (ahead : List ℕ) → All (λ n. n < count) ahead
    → All (λ ns. All (λ n. n < count) ns) (needs_from count ahead ls)
from_within count [] ahead h = All-nil (λ ns. All (λ n. n < count) ns)
from_within count (l ∷ ls) ahead h = by (λ other k. from_within count ls other k) (is_needs l) refl (is_job l) refl
  where
    by : ((other : List ℕ) → All (λ n. n < count) other → All (λ ns. All (λ n. n < count) ns) (needs_from count other ls)) → (b : Bool)
        → is_needs l ≡ b → (j : Bool) → is_job l ≡ j → All (λ ns. All (λ n. n < count) ns) (needs_from count ahead (l ∷ ls))
    by more true e j f = rw e (more (ahead ++ jobs_named count (needed_words l))
        (All-append (λ n. n < count) ahead (jobs_named count (needed_words l)) h (names_within count (needed_words l))))
    by more false e true f = rw (e, f) (All-cons (λ ns. All (λ n. n < count) ns) ahead (needs_from count [] ls) h
        (more [] (All-nil (λ n. n < count))))
    by more false e false f = rw (e, f) (more ahead h)

from_long : (count : ℕ) (ls : List (List ℕ)) (ahead : List ℕ) → length (needs_from count ahead ls) ≡ job_count ls
from_long count [] ahead = refl
from_long count (l ∷ ls) ahead = by (λ other. from_long count ls other) (is_needs l) refl (is_job l) refl
  where
    by : ((other : List ℕ) → length (needs_from count other ls) ≡ job_count ls) → (b : Bool) → is_needs l ≡ b → (j : Bool)
        → is_job l ≡ j → length (needs_from count ahead (l ∷ ls)) ≡ job_count (l ∷ ls)
    by more true e j f = rw e (more (ahead ++ jobs_named count (needed_words l)))
    by more false e true f = rw (e, f) (let i = more [] in omega arith)
    by more false e false f = rw (e, f) (more ahead)

pub needs_long : (text : List ℕ) (jobs : List (List (List ℕ))) → JobsOf (cut_text text) jobs
    → length (needs_of (length jobs) text) ≡ length jobs
needs_long text jobs h = from_long (length jobs) (lines_of text) [] ∙ list_counted text jobs h

pub needs_within : (text : List ℕ) (jobs : List (List (List ℕ))) (needs : List (List ℕ)) → JobsOf (cut_text text) jobs
    → needs ≡ needs_of (length jobs) text → NeedsWithin needs
needs_within text jobs needs h e =
    let long : length needs ≡ length jobs = ap length e ∙ needs_long text jobs h in
    subst (λ n. All (λ ns. All (λ m. m < n) ns) needs) (sym long)
    (subst (λ t. All (λ ns. All (λ m. m < length jobs) ns) t) (sym e)
    (from_within (length jobs) (lines_of text) [] (All-nil (λ n. n < length jobs))))

-- ---- errors

pub jobs_error : (e : JobError) (text : List ℕ) → answers.IsError (JobFaultStands (cut_text text)) e → IsError text (of_jobs e)
jobs_error (job.Fault at fault) text h = h
jobs_error job.Memory text h = tt

pub needs_error : (e : GraphError) (text : List ℕ) (jobs : List (List (List ℕ))) → JobsOf (cut_text text) jobs
    → IsNeedsError (length jobs) text e → IsError text e
needs_error (error.Jobs at fault) text jobs h k = absurd k
needs_error (error.Fault at fault) text jobs h k = record { jobs = jobs; listed = h; first = k }
needs_error (error.Cycle cycle) text jobs h k = absurd k
needs_error error.Memory text jobs h k = tt

pub cycle_error : (text : List ℕ) (jobs : List (List (List ℕ))) (needs : List (List ℕ)) (cycle : List ℕ) → JobsOf (cut_text text) jobs
    → needs_fault (length jobs) text ≡ None → needs ≡ needs_of (length jobs) text → IsCycle needs cycle → CycleStands text cycle
cycle_error text jobs needs cycle h right e ring = record
    { jobs = jobs; listed = h; right = right; ring = subst (λ t. IsCycle t cycle) e ring }

pub graph_usable : (text : List ℕ) (graph : Graph) → GraphOf text graph → IsGraph graph
graph_usable text graph h = record {
  few = h.jobs.few;
  long = ap length h.needs ∙ needs_long text graph.jobs h.jobs;
  within = needs_within text graph.jobs graph.needs h.jobs h.needs;
  depths = h.depths;
}

-- ---- nothing else is answered

some_none : (text : List ℕ) (one other : List (List (List ℕ))) (x : FaultAt) → JobsOf (cut_text text) one → JobsOf (cut_text text) other
    → needs_fault (length one) text ≡ None → needs_fault (length other) text ≡ Some x → ⊥
some_none text one other x h k e f =
    let same = one_jobs (cut_text text) one other h k in
    let both : None ≡ Some x = sym e ∙ ap (λ (js : List (List (List ℕ))). needs_fault (length js) text) same ∙ f in
    cc

no_cycle : (text : List ℕ) (graph : Graph) (cycle : List ℕ) → GraphOf text graph → CycleStands text cycle → ⊥
no_cycle text graph cycle h k =
    let same = one_jobs (cut_text text) k.jobs graph.jobs k.listed h.jobs in
    let needs : needs_of (length k.jobs) text ≡ graph.needs = ap (λ (js : List (List (List ℕ))). needs_of (length js) text) same
    ∙ sym h.needs in
    let ring = k.ring in
    no_ring graph.needs graph.depths cycle h.depths (subst (λ t. IsRing t cycle) needs ring.ring)

same_graph : (text : List ℕ) (one other : Graph) → GraphOf text one → GraphOf text other → one ≡ other
same_graph text one other h k =
    let jobs : one.jobs ≡ other.jobs = one_jobs (cut_text text) one.jobs other.jobs h.jobs k.jobs in
    let needs : one.needs ≡ other.needs = h.needs ∙ ap (λ (js : List (List (List ℕ))). needs_of (length js) text) jobs ∙ sym k.needs in
    let depths : one.depths ≡ other.depths = one_depths one.needs one.depths other.depths h.depths
    (subst (λ t. DepthsOf t other.depths) (sym needs) k.depths) in
    ap (λ (x : List (List (List ℕ))). let g : Graph = record { jobs = x; needs = one.needs; depths = one.depths } in g) jobs
    ∙ ap (λ (x : List (List ℕ)). let g : Graph = record { jobs = other.jobs; needs = x; depths = one.depths } in g) needs
    ∙ ap (λ (x : List ℕ). let g : Graph = record { jobs = other.jobs; needs = other.needs; depths = x } in g) depths

pub only_graph : (r : Result Graph GraphError) (text : List ℕ) → IfOk r (λ graph. GraphOf text graph) → IfErr r (λ e. IsError text e)
    → (graph : Graph) → GraphOf text graph → Gives graph r
only_graph (Ok given) text h k graph w = same_graph text given graph h w
only_graph (Err (error.Jobs at fault)) text h k graph w = absurd (no_both (cut_text text) graph.jobs at fault w.jobs k)
only_graph (Err (error.Fault at fault)) text h k graph w = absurd
    (some_none text graph.jobs k.jobs (record { line = at; fault = fault }) w.jobs k.listed w.right k.first)
only_graph (Err (error.Cycle cycle)) text h k graph w = absurd (no_cycle text graph cycle w k)
only_graph (Err error.Memory) text h k graph w = refl

pub only_jobs : (r : Result Graph GraphError) (text : List ℕ) → IfOk r (λ graph. GraphOf text graph) → IfErr r (λ e. IsError text e)
    → (at : ℕ) (fault : JobFault) → JobFaultStands (cut_text text) at fault → GivesError (error.Jobs at fault) r
only_jobs (Ok given) text h k at fault w = absurd (no_both (cut_text text) given.jobs at fault h.jobs w)
only_jobs (Err (error.Jobs there other)) text h k at fault w =
    let same = one_fault (cut_text text) there at other fault k w in
    inl (ap (λ n. error.Jobs n other) same.0 ∙ ap (error.Jobs at) same.1)
only_jobs (Err (error.Fault there other)) text h k at fault w = absurd (no_both (cut_text text) k.jobs at fault k.listed w)
only_jobs (Err (error.Cycle cycle)) text h k at fault w = absurd (no_both (cut_text text) k.jobs at fault k.listed w)
only_jobs (Err error.Memory) text h k at fault w = inr refl

pub only_fault : (r : Result Graph GraphError) (text : List ℕ) → IfOk r (λ graph. GraphOf text graph) → IfErr r (λ e. IsError text e)
    → (at : ℕ) (fault : GraphFault) → NeedsFaultStands text at fault → GivesError (error.Fault at fault) r
only_fault (Ok given) text h k at fault w = absurd
    (some_none text given.jobs w.jobs (record { line = at; fault = fault }) h.jobs w.listed h.right w.first)
only_fault (Err (error.Jobs there other)) text h k at fault w = absurd (no_both (cut_text text) w.jobs there other w.listed k)
only_fault (Err (error.Fault there other)) text h k at fault w =
    let same = one_jobs (cut_text text) k.jobs w.jobs k.listed w.listed in
    let x : FaultAt = record { line = there; fault = other } in
    let y : FaultAt = record { line = at; fault = fault } in
    let both : Some x ≡ Some y = sym k.first ∙ ap (λ (js : List (List (List ℕ))). needs_fault (length js) text) same ∙ w.first in
    let eq : x ≡ y = cc in
    inl (ap (λ (z : FaultAt). error.Fault z.line z.fault) eq)
only_fault (Err (error.Cycle cycle)) text h k at fault w = absurd
    (some_none text k.jobs w.jobs (record { line = at; fault = fault }) k.listed w.listed k.right w.first)
only_fault (Err error.Memory) text h k at fault w = inr refl

pub only_cycle : (r : Result Graph GraphError) (text : List ℕ) → IfOk r (λ graph. GraphOf text graph) → IfErr r (λ e. IsError text e)
    → (cycle : List ℕ) → CycleStands text cycle → GivesCycle r
only_cycle (Ok given) text h k cycle w = no_cycle text given cycle h w
only_cycle (Err (error.Jobs at fault)) text h k cycle w = no_both (cut_text text) w.jobs at fault w.listed k
only_cycle (Err (error.Fault at fault)) text h k cycle w = some_none text w.jobs k.jobs (record { line = at; fault = fault }) w.listed
    k.listed w.right k.first
only_cycle (Err (error.Cycle other)) text h k cycle w = tt
only_cycle (Err error.Memory) text h k cycle w = tt

pub all_usable : (r : Result Graph GraphError) (text : List ℕ) → IfOk r (λ graph. GraphOf text graph) → IfOk r (λ graph. IsGraph graph)
all_usable (Ok given) text h = graph_usable text given h
all_usable (Err e) text h = tt
