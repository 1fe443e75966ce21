-- A run of all workers, from the kits that they were given.
use Rattle.std.proofs.Common.{◌≡◌, ℕ, zero, suc, ◌<◌, ◌≤◌, List, [], ◌∷◌, ◌++◌, length, get_or, map, reverse, refl, sym, ap, ◌∙◌, subst}
use Rattle.std.proofs.Common.{arith}
use Rattle.std.specs.Prelude.{All}
use Rattle.std.specs.List.{flat_map}
use Rattle.std.specs.List.Sorted.{IsPermutation, IsNonDecreasingBy}
use Rattle.std.proofs.lemmas.List.{length-map, length-append}
use Rattle.farm_types.specs.declared.jobs.JobConfig.{JobConfig}
use Rattle.slot_table.specs.declared.limits.Limits.{Limits}
use Rattle.slot_table.specs.declared.state.SlotState.{SlotState}
use Rattle.slot_table.specs.declared.calls.CallEntry.{CallEntry}
use Rattle.slot_table.specs.History.{IsLegal, state_after, outstanding, calls_by}
use Rattle.edge_traits.specs.declared.kit.Kit.{Kit}
use Rattle.edge_traits.specs.Keepers.{IsIdle}
use Rattle.farm_machine.specs.declared.reports.Report.{Report}
use Rattle.farm_machine.specs.Jobs.{Job}
use Rattle.farm_cell.specs.declared.cell.Cell.{Cell}
use Rattle.farm_cell.specs.declared.cell.Pass.{Pass}
use Rattle.farm_cell.specs.Ends.{IsNumbered, AreAllOf, HasEachMine, AreByCallersBelow}
use Rattle.farm_cell.specs.Passes.{limits_of, callers_of, mine_of}
use Rattle.job_driver.specs.declared.workers.Worker.{Worker}
use Rattle.job_driver.specs.declared.run.Run.{Run}
use Rattle.job_driver.specs.Workers.{kit_of, pass_of, reserve_of, reports_on, HasRoom, IsReady, HasWorked}
use Rattle.farm_machine.specs.Devices.{Devices}
use Rattle.job_driver.specs.Driven.{reports_by, JobsRan}
use Rattle.farm_machine.specs.Usable.{job_at}
use Rattle.job_driver.specs.Runs.{AreDone, AreFresh, IsOpen}
use Rattle.job_driver.specs.Works.{WorkedOff}
use Rattle.job_driver.proofs.Joining.{Joins, joins-of}
use Rattle.job_driver.proofs.Driving.{Stays, total, own, ran-all}

-- what holds of each in its place holds of what is made of it
at-map : {X Y : Type 0} (f : X → Y) (Q : Y → Type 0) (xs : List X) (k : ℕ) (y : Y) → k < length xs → ((x : X) → Q (f (get_or xs k x)))
    → Q (get_or (map f xs) k y)
at-map f Q [] k y below h = absurd (omega (arith, below))
at-map f Q (x ∷ xs) zero y below h = h x
at-map f Q (x ∷ xs) (suc k) y below h = at-map f Q xs k y (omega (arith, below)) h

get-map : {X Y : Type 0} (f : X → Y) (xs : List X) (k : ℕ) (x : X) (y : Y) → k < length xs → get_or (map f xs) k y ≡ f (get_or xs k x)
get-map f [] k x y below = absurd (omega (arith, below))
get-map f (z ∷ xs) zero x y below = refl
get-map f (z ∷ xs) (suc k) x y below = get-map f xs k x y (omega (arith, below))

get-left : {X : Type 0} (xs ys : List X) (k : ℕ) (x : X) → k < length xs → get_or (xs ++ ys) k x ≡ get_or xs k x
get-left [] ys k x below = absurd (omega (arith, below))
get-left (z ∷ xs) ys zero x below = refl
get-left (z ∷ xs) ys (suc k) x below = get-left xs ys k x (omega (arith, below))

get-right : {X : Type 0} (xs ys zs : List X) (k : ℕ) (x : X) → length xs ≡ length ys → length xs ≤ k
    → get_or (xs ++ zs) k x ≡ get_or (ys ++ zs) k x
get-right [] [] zs k x same above = refl
get-right [] (y ∷ ys) zs k x same above = absurd (omega (arith, same))
get-right (a ∷ xs) [] zs k x same above = absurd (omega (arith, same))
get-right (a ∷ xs) (y ∷ ys) zs zero x same above = absurd (omega (arith, above))
get-right (a ∷ xs) (y ∷ ys) zs (suc k) x same above = get-right xs ys zs k x (omega (arith, same)) (omega (arith, above))

-- a list that isn't empty has a first element
pub first-of : {X : Type 0} (P : Type 0) (xs : List X) → 0 < length xs → (X → P) → P
first-of P [] some h = absurd (omega (arith, some))
first-of P (x ∷ xs) some h = h x

module _ {D S K C : Type 0} {d : Devices (Kit D S K C)} {c : Cell 16 34} {jobs : ℕ} (vs : List (Worker D S K C))
    (fresh : AreFresh d c jobs vs) where
  numbered-at : (k : ℕ) (w : Worker D S K C) → k < length vs → IsNumbered c k (get_or vs k w).pass
  numbered-at k w below =
      let one = fresh.passes.each k (pass_of w) (let e = length-map vs pass_of in omega (arith, e, below)) in
      subst (IsNumbered c k) (get-map pass_of vs k w (pass_of w) below) one

  pub ready-all : (k : ℕ) (w : Worker D S K C) → k < length vs → IsReady d c jobs (get_or vs k w)
  ready-all k w below = record {
    pass = (numbered-at k w below).pass;
    blank =
        let one = fresh.blank k (pass_of w) (let e = length-map vs pass_of in omega (arith, e, below)) in
        ap mine_of (sym (get-map pass_of vs k w (pass_of w) below)) ∙ one.1;
    reserve =
        let one = fresh.reserves k (reserve_of w) (let e = length-map vs reserve_of in omega (arith, e, below)) in
        subst (HasRoom jobs) (get-map reserve_of vs k w (reserve_of w) below) one;
    idle =
        let one = fresh.idle k (kit_of w) (let e = length-map vs kit_of in omega (arith, e, below)) in
        subst (λ (kit : Kit D S K C). IsIdle (d.shows kit).keeper) (get-map kit_of vs k w (kit_of w) below) one;
  }

-- a run that was opened, and whose workers did all jobs
pub done-of : {D S K C : Type 0} {d : Devices (Kit D S K C)} {words : List (List (List ℕ))} {config : JobConfig} {workers : ℕ}
    {run done : Run D S K C} → 1 ≤ workers → IsOpen d words config workers run
    → done.cell ≡ run.cell → done.unused ≡ run.unused → done.passes ≡ run.passes → done.reserves ≡ run.reserves → done.reports ≡ run.reports
    → length done.workers.items ≡ length run.workers.items
    → ((k : ℕ) (w : Worker D S K C) → k < length run.workers.items
    → HasWorked d run.cell (job_at words config) config.period (get_or run.workers.items k w) (get_or done.workers.items k w))
    → AreDone d words config run.workers.items done
done-of {run = run} some opened cell unused passes reserves reports long each = record {
  some = let m = opened.many in omega (arith, m, some);
  fresh = rw cell opened.fresh;
  slots = rw cell opened.slots;
  long = long;
  each = rw cell each;
  room = record {
    passes = rw passes opened.room.passes;
    reserves = rw reserves opened.room.reserves;
    reports = rw reports opened.room.reports;
    for_passes = rw (passes, long) opened.room.for_passes;
    for_reserves = rw (reserves, long) opened.room.for_reserves;
    for_reports = rw reports opened.room.for_reports;
  };
}

module _ {D S K C : Type 0} {d : Devices (Kit D S K C)} {words : List (List (List ℕ))} {config : JobConfig} {vs : List (Worker D S K C)}
    {run : Run D S K C} (done : AreDone d words config vs run) (ps : List Pass) (back_are : ps ≡ map pass_of run.workers.items) where
  abbrev ws : List (Worker D S K C)
  ws = run.workers.items

  inside : (k : ℕ) → k < length ps → k < length vs
  inside k below = let e = ap length back_are ∙ length-map ws pass_of ∙ done.long in omega (arith, e, below)

  pub all-back : AreAllOf run.cell ps
  all-back = record {
    len = ap length back_are ∙ length-map ws pass_of ∙ done.long ∙ sym (length-map vs pass_of) ∙ done.fresh.passes.len;
    each = λ k p below.
        let low = inside k below in
        subst (IsNumbered run.cell k) (ap (λ (zs : List Pass). get_or zs k p) (sym back_are))
        (at-map pass_of (IsNumbered run.cell k) ws k p (let e = done.long in omega (arith, e, low))
        (λ w. let h = done.each k w low in record { pass = h.pass; number = h.number ∙ (numbered-at vs done.fresh k w low).number }));
  }

  pub none-out : All (λ p. outstanding (mine_of p) ≡ []) ps
  none-out k p below =
      let low = inside k below in
      subst (λ (q : Pass). outstanding (mine_of q) ≡ []) (ap (λ (zs : List Pass). get_or zs k p) (sym back_are))
      (at-map pass_of (λ q. outstanding (mine_of q) ≡ []) ws k p (let e = done.long in omega (arith, e, low))
      (λ w. (done.each k w low).back))

  module _ (H : List CallEntry) (legal : IsLegal (limits_of run.cell) H) (callers : AreByCallersBelow (callers_of run.cell) H)
      (mines : HasEachMine H ps) where
    others : (caller : ℕ) → length vs ≤ caller → calls_by caller H ≡ []
    others caller above =
        callers caller (let e = sym (length-map vs pass_of) ∙ done.fresh.passes.len in omega (arith, e, above))

    module _ (first : Worker D S K C) where
      abbrev R : ℕ → List Report
      R i = reports_on (get_or ws i first).reserve

      abbrev V : ℕ → Kit D S K C
      V i = (get_or vs i first).kit

      abbrev N : ℕ → Kit D S K C
      N i = (get_or ws i first).kit

      mine-at : (i : ℕ) → i < length vs → calls_by i H ≡ mine_of (get_or ws i first).pass
      mine-at i below =
          let low : i < length ws = let e = done.long in omega (arith, below, e) in
          let e = ap length back_are ∙ length-map ws pass_of in
          mines i (pass_of first) (omega (arith, e, low))
          ∙ ap mine_of (ap (λ (zs : List Pass). get_or zs i (pass_of first)) back_are ∙ get-map pass_of ws i first (pass_of first) low)

      worked : (i : ℕ) → i < length vs → WorkedOff (d.peers (V i)) (d.programs (V i)) (job_at words config) config.period
          (limits_of run.cell)
          i (R i) (calls_by i H) (d.shows (V i)) (d.shows (N i))
      worked i below =
          let h = done.each i first below in
          subst (λ (es : List CallEntry). WorkedOff (d.peers (V i)) (d.programs (V i)) (job_at words config) config.period
          (limits_of run.cell) i (R i) es (d.shows (V i)) (d.shows (N i))) (sym (mine-at i below))
          (subst (λ (k : ℕ). WorkedOff (d.peers (V i)) (d.programs (V i)) (job_at words config) config.period (limits_of run.cell) k (R i)
          (mine_of (get_or ws i first).pass) (d.shows (V i)) (d.shows (N i)))
          (numbered-at vs done.fresh i first below).number h.worked)

      stays : (i : ℕ) → i < length vs → Stays d (V i) (N i)
      stays i below = let h = done.each i first below in record { idle = h.idle; peers = h.peers; programs = h.programs }

      joins : Joins (length vs) R (flat_map reports_on (reverse (map reserve_of ws)))
      joins = joins-of reports_on (map reserve_of ws) (length vs) R (length-map ws reserve_of ∙ done.long)
          (λ i reserve below. ap reports_on (sym (get-map reserve_of ws i first reserve (let e = done.long in omega (arith, below, e)))))

      all-by : length (flat_map reports_on (reverse (map reserve_of ws))) ≡ (limits_of run.cell).jobs
      all-by = total d (limits_of run.cell) words config (length vs) R H V N done.some run.cell.valid done.slots.hosts legal others worked
          stays (flat_map reports_on (reverse (map reserve_of ws))) joins

      ran-by : (all sorted : List Report) (last : SlotState 16) (rest new : List (Kit D S K C))
          → all ≡ flat_map reports_on (reverse (map reserve_of ws)) → IsPermutation all sorted
          → IsNonDecreasingBy (λ (r : Report). r.number) sorted → last ≡ state_after (limits_of run.cell) H → new ≡ map kit_of ws ++ rest
          → JobsRan d (limits_of run.cell) (job_at words config) config.period (length vs) sorted H last (map kit_of vs ++ rest) new
      ran-by all sorted last rest new gathered moved order last_is new_is =
          let lists : length (map kit_of ws) ≡ length (map kit_of vs) = length-map ws kit_of ∙ done.long ∙ sym (length-map vs kit_of) in
          let many : length (map kit_of vs) ≡ length vs = length-map vs kit_of in
          let long = done.long in
          ran-all d (limits_of run.cell) words config (length vs) R H V N done.some run.cell.valid done.slots.hosts legal others
          worked stays
          all sorted (subst (Joins (length vs) R) (sym gathered) joins) moved order last (map kit_of vs ++ rest) new last_is
          (λ i other below. (
            get-left (map kit_of vs) rest i other (omega (arith, below, many)) ∙ get-map kit_of vs i first other below,
            ap (λ (zs : List (Kit D S K C)). get_or zs i other) new_is
                ∙ get-left (map kit_of ws) rest i other (omega (arith, below, many, lists))
                ∙ get-map kit_of ws i first other (omega (arith, below, long)),
          ))
          (let b = ap length new_is in let e = length-append (map kit_of vs) rest in let f = length-append (map kit_of ws) rest in
          omega (arith, b, e, f, lists))
          (λ place other above below.
          ap (λ (zs : List (Kit D S K C)). get_or zs place other) new_is
          ∙ get-right (map kit_of ws) (map kit_of vs) rest place other lists (omega (arith, above, many, lists)))

      own-by : (all sorted : List Report) → all ≡ flat_map reports_on (reverse (map reserve_of ws)) → IsPermutation all sorted
          → IsNonDecreasingBy (λ (r : Report). r.number) sorted → (i : ℕ) → i < length vs → reports_by i sorted ≡ R i
      own-by all sorted gathered moved order i below =
          own d (limits_of run.cell) words config (length vs) R H V N done.some run.cell.valid done.slots.hosts legal others worked stays all
          sorted (subst (Joins (length vs) R) (sym gathered) joins) moved order i below

    -- sorted, the reports of a worker are those that it left
    pub own-of : (all sorted : List Report) → all ≡ flat_map reports_on (reverse (map reserve_of ws)) → IsPermutation all sorted
        → IsNonDecreasingBy (λ (r : Report). r.number) sorted → (i : ℕ) (w : Worker D S K C) → i < length vs
        → reports_by i sorted ≡ reports_on (get_or ws i w).reserve
    own-of all sorted gathered moved order i w below = own-by w all sorted gathered moved order i below

    -- there is a report for each job
    pub all-reported : length (flat_map reports_on (reverse (map reserve_of ws))) ≡ (limits_of run.cell).jobs
    all-reported = first-of (length (flat_map reports_on (reverse (map reserve_of ws))) ≡ (limits_of run.cell).jobs) vs done.some
        (λ first. all-by first)

    -- and sorted they are those of a run
    pub ran-of : (all sorted : List Report) (last : SlotState 16) (rest new : List (Kit D S K C))
        → all ≡ flat_map reports_on (reverse (map reserve_of ws)) → IsPermutation all sorted
        → IsNonDecreasingBy (λ (r : Report). r.number) sorted → last ≡ state_after (limits_of run.cell) H → new ≡ map kit_of ws ++ rest
        → JobsRan d (limits_of run.cell) (job_at words config) config.period (length vs) sorted H last (map kit_of vs ++ rest) new
    ran-of all sorted last rest new gathered moved order last_is new_is =
        first-of (JobsRan d (limits_of run.cell) (job_at words config) config.period (length vs) sorted H last (map kit_of vs ++ rest) new)
        vs done.some (λ first. ran-by first all sorted last rest new gathered moved order last_is new_is)

-- by this many workers, and from these kits
pub ran-as : {K : Type 0} {d : Devices K} {l : Limits 16} {jobs : ℕ → Job} {period workers workers' : ℕ} {reports : List Report}
    {history : List CallEntry} {last : SlotState 16} {old old' new : List K} → workers ≡ workers' → old ≡ old'
    → JobsRan d l jobs period workers reports history last old new → JobsRan d l jobs period workers' reports history last old' new
ran-as {K = K} {d = d} {l = l} {jobs = jobs} {period = period} {workers' = workers'} {reports = reports} {history = history} {last = last}
    {old = old} {new = new} same_workers same_old ran =
    subst (λ (kits : List K). JobsRan d l jobs period workers' reports history last kits new) same_old
    (subst (λ (n : ℕ). JobsRan d l jobs period n reports history last old new) same_workers ran)
