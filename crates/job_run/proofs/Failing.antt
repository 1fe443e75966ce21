-- What a fault of a device makes of a job, and what a part leaves of the calls.
use Rattle.std.proofs.Common.{◌≡◌, ◌≢◌, ◌⊎◌, inl, inr, ℕ, Bool, true, false, ◌++◌, List, [], ◌∷◌, refl, sym, ap, ◌∙◌, subst, append_assoc}
use Rattle.std.proofs.Common.{arith}
use Rattle.farm_types.specs.Limits.{preprocessed_max}
use Rattle.slot_table.specs.declared.calls.CallEntry.{CallEntry}
use Rattle.slot_table.specs.declared.calls.SlotCall.TheVariants.{GiveLocal}
use Rattle.slot_table.specs.declared.calls.SlotReply.TheVariants.{Given}
use Rattle.slot_table.specs.History.{entry}
use Rattle.edge_traits.specs.declared.faults.Bounds.{Bounds}
use Rattle.edge_traits.specs.declared.faults.StationFault.{StationFault}
use Rattle.edge_traits.specs.declared.faults.StationFault.TheVariants as station
use Rattle.edge_traits.specs.declared.faults.FetchFault.{FetchFault}
use Rattle.edge_traits.specs.declared.faults.FetchFault.TheVariants as fetch
use Rattle.edge_traits.specs.declared.faults.EdgeFault.{EdgeFault}
use Rattle.edge_traits.specs.declared.faults.EdgeFault.TheVariants as edge
use Rattle.edge_traits.specs.declared.cause.Cause.{Cause}
use Rattle.edge_traits.specs.declared.cause.Cause.TheVariants.{Dial, Send as CutSend, Recv, Truncated, BadReply, Stopped}
use Rattle.edge_traits.specs.Causes.{Rose, Still, IsRemoval}
use Rattle.edge_traits.specs.Kits.{KitView}
use Rattle.edge_traits.specs.Keepers.{KeeperView, FetchCause}
use Rattle.edge_traits.specs.Stations.{StationView, StationStill, RunFault}
use Rattle.edge_traits.proofs.CountLemmas.{once-rose}
use Rattle.farm_types.specs.declared.request.Request.{Request}
use Rattle.farm_types.specs.declared.hosts.Host.{Host}
use Rattle.farm_types.specs.declared.ran.Outcome.{Outcome}
use Rattle.edge_traits.specs.declared.entries.Exchange.{Exchange}
use Rattle.edge_traits.specs.Exchanges.{IsBegun, IsWhole, IsBroken}
use Rattle.edge_traits.specs.Told.{Told, Grew}
use Rattle.remote_transfer.specs.Attempts.{Adds, AttemptAdds}
use Rattle.remote_transfer.specs.Landings.{LandedCause, IsUnasked}
use Rattle.remote_transfer.specs.declared.answers.Attempt.TheVariants.{Memory as AttemptMemory}
use Rattle.remote_transfer.specs.declared.answers.Landed.TheVariants.{Broke as LandedBroke, Memory as LandedMemory}
use Rattle.farm_machine.specs.declared.reports.Event.{Event}
use Rattle.farm_machine.specs.declared.reports.Event.TheVariants.{Took}
use Rattle.farm_machine.specs.declared.reports.Why5.{Why5}
use Rattle.farm_machine.specs.declared.reports.Why5.TheVariants.{Station, Put, Fetch, Memory, Broke}
use Rattle.farm_machine.specs.declared.reports.By.{By}
use Rattle.farm_machine.specs.declared.reports.End.{End}
use Rattle.farm_machine.specs.declared.reports.End.TheVariants.{Done, Failed}
use Rattle.farm_machine.specs.Acts.{Act, TakesLocal, Met}
use Rattle.farm_machine.specs.Causes.{HasEndCause, StationStands}
use Rattle.farm_machine.specs.Course.{At, LentHere, Over, Next}
use Rattle.farm_machine.specs.Jobs.{Job, request_for, host_at}
use Rattle.job_run.specs.Failures.{station_failure, fetch_failure, put_failure}
use Rattle.job_run.specs.Gives.{IsUnhurt}
use Rattle.job_run.specs.Stands.{KeeperStands, FetchEnds}
use Rattle.job_run.specs.Stages.{IsForHere}
use Rattle.job_run.specs.Waits.{borrowed}

-- a run that could not be made ends the job for the station or for memory
pub not-run : (fault : StationFault) (why : Why5) → why ≡ station_failure fault → (why ≡ Station) ⊎ (why ≡ Memory)
not-run station.Failed why is = inl is
not-run (station.TooMuch stream bytes) why is = inl is
not-run station.Memory why is = inr is

pub over-not-run : (fault : StationFault) (why : Why5) → why ≡ station_failure fault
    → (Over (Failed why) ≡ Over (Failed Station)) ⊎ (Over (Failed why) ≡ Over (Failed Memory))
over-not-run fault why is =
    elim (not-run fault why is) [ inl e ↦ inl (ap (λ (w : Why5). Over (Failed w)) e) | inr e ↦ inr (ap (λ (w : Why5). Over (Failed w)) e) ]

pub not-run-cause : (bounds : Bounds) (fault : StationFault) (why : Why5) (old new : KitView) → why ≡ station_failure fault
    → RunFault bounds old.station new.station fault → HasEndCause (Failed why) old new
not-run-cause bounds station.Failed why old new is failed =
    subst (λ (w : Why5). HasEndCause (Failed w) old new) (sym is) (inl (once-rose old.station.faults new.station.faults failed.rose))
not-run-cause bounds (station.TooMuch stream bytes) why old new is over =
    subst (λ (w : Why5). HasEndCause (Failed w) old new) (sym is) (inr (once-rose old.station.overruns new.station.overruns over.rose))
not-run-cause bounds station.Memory why old new is free = subst (λ (w : Why5). HasEndCause (Failed w) old new) (sym is) tt

-- by a run that failed or gave too much just one count of the station rose, and where it wanted memory none did
pub not-run-station : (bounds : Bounds) (fault : StationFault) (why : Why5) (old new : StationView) → why ≡ station_failure fault
    → RunFault bounds old new fault → StationStands (Failed why) old new
not-run-station bounds station.Failed why old new is failed =
    subst (λ (w : Why5). StationStands (Failed w) old new) (sym is) (inl (failed.rose, failed.calm))
not-run-station bounds (station.TooMuch stream bytes) why old new is over =
    subst (λ (w : Why5). StationStands (Failed w) old new) (sym is) (inr (over.calm, over.rose))
not-run-station bounds station.Memory why old new is none = subst (λ (w : Why5). StationStands (Failed w) old new) (sym is) none

-- no run is a fetch
pub not-run-unfetched : (fault : StationFault) (why : Why5) → why ≡ station_failure fault → why ≢ Fetch
not-run-unfetched station.Failed why is e = cc
not-run-unfetched (station.TooMuch stream bytes) why is e = cc
not-run-unfetched station.Memory why is e = cc

pub not-fetched : (fault : FetchFault) (why : Why5) → why ≡ fetch_failure fault → (why ≡ Fetch) ⊎ (why ≡ Memory)
not-fetched fetch.Failed why is = inl is
not-fetched fetch.Absent why is = inl is
not-fetched (fetch.TooMuch bytes) why is = inl is
not-fetched fetch.Memory why is = inr is

pub not-fetched-cause : (path : List ℕ) (bound : ℕ) (fault : FetchFault) (why : Why5) (old new : KitView) → why ≡ fetch_failure fault
    → FetchCause path bound old.keeper new.keeper fault → HasEndCause (Failed why) old new
not-fetched-cause path bound fetch.Failed why old new is failed =
    subst (λ (w : Why5). HasEndCause (Failed w) old new) (sym is) (inl failed.rose)
not-fetched-cause path bound fetch.Absent why old new is gone =
    subst (λ (w : Why5). HasEndCause (Failed w) old new) (sym is) (inr (once-rose old.keeper.overruns new.keeper.overruns gone.rose))
not-fetched-cause path bound (fetch.TooMuch bytes) why old new is long =
    subst (λ (w : Why5). HasEndCause (Failed w) old new) (sym is) (inr (once-rose old.keeper.overruns new.keeper.overruns long.rose))
not-fetched-cause path bound fetch.Memory why old new is free = subst (λ (w : Why5). HasEndCause (Failed w) old new) (sym is) tt

-- by a fetch that failed at most one overrun came in, and where it wanted memory the keeper's counts stand still
pub not-fetched-keeper : (path : List ℕ) (bound : ℕ) (fault : FetchFault) (why : Why5) (acts : List Act) (old new : KeeperView)
    → why ≡ fetch_failure fault → FetchCause path bound old new fault → KeeperStands (Failed why) acts old new
not-fetched-keeper path bound fetch.Failed why acts old new is failed =
    subst (λ (w : Why5). KeeperStands (Failed w) acts old new) (sym is) (inl failed.calm)
not-fetched-keeper path bound fetch.Absent why acts old new is gone =
    subst (λ (w : Why5). KeeperStands (Failed w) acts old new) (sym is) (inr gone.rose)
not-fetched-keeper path bound (fetch.TooMuch bytes) why acts old new is long =
    subst (λ (w : Why5). KeeperStands (Failed w) acts old new) (sym is) (inr long.rose)
not-fetched-keeper path bound fetch.Memory why acts old new is free =
    subst (λ (w : Why5). KeeperStands (Failed w) acts old new) (sym is)
    (record { faults = λ none. let e = free.faults in omega (arith, e); overruns = free.overruns })

-- where the fetch was of the job's source, the job ends by that fetch
pub fetch-ends : (name path : List ℕ) (fault : FetchFault) (why : Why5) (acts : List Act) (old new : KeeperView) → name ≡ path
    → why ≡ fetch_failure fault → FetchCause path preprocessed_max old new fault → FetchEnds name (Failed why) acts old new
fetch-ends name path fault why acts old new named is cause =
    subst (λ (p : List ℕ). FetchEnds p (Failed why) acts old new) (sym named)
    (subst (λ (w : Why5). FetchEnds path (Failed w) acts old new) (sym is) (go fault cause))
  where
    go : (f : FetchFault) → FetchCause path preprocessed_max old new f → FetchEnds path (Failed (fetch_failure f)) acts old new
    go fetch.Failed c = λ none. (fetch.Failed, refl, c)
    go fetch.Absent c = λ none. (fetch.Absent, refl, c)
    go (fetch.TooMuch bytes) c = λ none. (fetch.TooMuch bytes, refl, c)
    go fetch.Memory c = tt

pub not-put : (fault : EdgeFault) (why : Why5) → why ≡ put_failure fault → (why ≡ Put) ⊎ (why ≡ Memory)
not-put edge.Failed why is = inl is
not-put edge.Memory why is = inr is

-- no put, no fetch and no outcome is a run, so the station stands still there
pub not-put-station : (fault : EdgeFault) (why : Why5) (old new : StationView) → why ≡ put_failure fault → StationStill old new
    → StationStands (Failed why) old new
not-put-station edge.Failed why old new is still = subst (λ (w : Why5). StationStands (Failed w) old new) (sym is) still
not-put-station edge.Memory why old new is still = subst (λ (w : Why5). StationStands (Failed w) old new) (sym is) still

pub not-fetched-station : (fault : FetchFault) (why : Why5) (old new : StationView) → why ≡ fetch_failure fault → StationStill old new
    → StationStands (Failed why) old new
not-fetched-station fetch.Failed why old new is still = subst (λ (w : Why5). StationStands (Failed w) old new) (sym is) still
not-fetched-station fetch.Absent why old new is still = subst (λ (w : Why5). StationStands (Failed w) old new) (sym is) still
not-fetched-station (fetch.TooMuch bytes) why old new is still = subst (λ (w : Why5). StationStands (Failed w) old new) (sym is) still
not-fetched-station fetch.Memory why old new is still = subst (λ (w : Why5). StationStands (Failed w) old new) (sym is) still

pub done-station : {end : End} {status : ℕ} {note err out : List ℕ} {by : By} (old new : StationView) → end ≡ Done status note err out by
    → StationStill old new → StationStands end old new
done-station old new is still = subst (λ (e : End). StationStands e old new) (sym is) still

-- no put is a fetch
pub not-put-unfetched : (fault : EdgeFault) (why : Why5) → why ≡ put_failure fault → why ≢ Fetch
not-put-unfetched edge.Failed why is e = cc
not-put-unfetched edge.Memory why is e = cc

pub not-put-cause : (fault : EdgeFault) (why : Why5) (old new : KitView) → why ≡ put_failure fault
    → (fault ≡ edge.Failed → Rose old.keeper.faults new.keeper.faults) → HasEndCause (Failed why) old new
not-put-cause edge.Failed why old new is rose = subst (λ (w : Why5). HasEndCause (Failed w) old new) (sym is) (rose refl)
not-put-cause edge.Memory why old new is free = subst (λ (w : Why5). HasEndCause (Failed w) old new) (sym is) tt

-- where the put wanted memory, no more than a removal failed, and no put is an overrun
pub not-put-keeper : (fault : EdgeFault) (why : Why5) (acts : List Act) (old new : KeeperView) → why ≡ put_failure fault
    → (fault ≡ edge.Memory → IsRemoval old.faults new.faults) → Still old.overruns new.overruns → KeeperStands (Failed why) acts old new
not-put-keeper edge.Failed why acts old new is removal still = subst (λ (w : Why5). KeeperStands (Failed w) acts old new) (sym is) still
not-put-keeper edge.Memory why acts old new is removal still =
    subst (λ (w : Why5). KeeperStands (Failed w) acts old new) (sym is) (record { faults = λ none. removal refl; overruns = still })

pub broken-cause : (host : ℕ) (cause : Cause) (old new : KitView) → LandedCause (LandedBroke cause) old.dialer.faults new.dialer.faults
    → HasEndCause (Failed (Broke host cause)) old new
broken-cause host Dial old new rose = rose
broken-cause host CutSend old new rose = tt
broken-cause host Recv old new rose = tt
broken-cause host (Truncated have) old new rose = tt
broken-cause host (BadReply at fault) old new rose = tt
broken-cause host Stopped old new rose = tt

-- where a job is to be compiled here, it may take a local slot for that
pub for-here : (j : Job) (source note : List ℕ) (at : At) → IsForHere j source note at → Next j at (Met TakesLocal) (LentHere source note)
for-here j source note at (inl e) = subst (λ (a : At). Next j a (Met TakesLocal) (LentHere source note)) (sym e) refl
for-here j source note at (inr (past, e)) = subst (λ (a : At). Next j a (Met TakesLocal) (LentHere source note)) (sym e) (past, refl)

-- the give of a local slot, by the caller and the job that it was taken for
pub local-given : {w w' job job' : ℕ} (es : List CallEntry) {es' : List CallEntry} → w' ≡ w → job' ≡ job
    → es' ≡ es ++ entry w' (GiveLocal job') Given ∷ [] → es' ≡ es ++ entry w (GiveLocal job) Given ∷ []
local-given {w = w} {w' = w'} {job = job} {job' = job'} es {es' = es'} same_w same_job is =
    is ∙ ap (λ (u : ℕ). es ++ entry u (GiveLocal job') Given ∷ []) same_w ∙ ap (λ (k : ℕ). es ++ entry w (GiveLocal k) Given ∷ []) same_job

pub borrowed-given : (w job refused : ℕ) (es : List CallEntry) {es1 es2 : List CallEntry} (e : CallEntry)
    → es1 ≡ es ++ borrowed w job refused → es2 ≡ es1 ++ e ∷ [] → es2 ≡ es ++ (borrowed w job refused ++ e ∷ [])
borrowed-given w job refused es {es1 = es1} {es2 = es2} e first second =
    second ∙ ap (λ (xs : List CallEntry). xs ++ e ∷ []) first ∙ append_assoc es (borrowed w job refused) (e ∷ [])

-- the same where a slot of an entry that is this machine was lent
pub over-lent : (local : Bool) (why : Why5) → local ≡ true
    → (Over (Failed why) ≡ Over (Failed Station)) ⊎ (Over (Failed why) ≡ Over (Failed Memory))
    → ((local ≡ true) × (Over (Failed why) ≡ Over (Failed Station))) ⊎ (Over (Failed why) ≡ Over (Failed Memory))
over-lent local why here (inl e) = inl (here, e)
over-lent local why here (inr e) = inr e

pub done-cause : {end : End} {status : ℕ} {note err out : List ℕ} {by : By} (old new : KitView) → end ≡ Done status note err out by
    → HasEndCause end old new
done-cause {end = end} {status = status} {note = note} {err = err} {out = out} {by = by} old new is =
    subst (λ (e : End). HasEndCause e old new) (sym is) tt

pub done-unfetched : (name : List ℕ) (acts : List Act) (k k' : KeeperView) {end : End} {status : ℕ} {note err out : List ℕ} {by : By}
    → end ≡ Done status note err out by → FetchEnds name end acts k k'
done-unfetched name acts k k' {end = end} {status = status} {note = note} {err = err} {out = out} {by = by} is =
    subst (λ (e : End). FetchEnds name e acts k k') (sym is) tt

-- a host that is known by another name
pub took-as : (host other : ℕ) (es es' : List Event) → host ≡ other → es' ≡ es ++ Took host ∷ [] → es' ≡ es ++ Took other ∷ []
took-as host other es es' same is = is ∙ ap (λ (h : ℕ). es ++ Took h ∷ []) same

-- what is so of the request that was made and of the host that was asked is so of the job's
pub begun-as : (j : Job) (source : List ℕ) (host : ℕ) (q : Request) (h : Host) (x : Exchange) → request_for j source ≡ q
    → host_at j host ≡ h → IsBegun x q h → IsBegun x (request_for j source) (host_at j host)
begun-as j source host q h x same_q same_h is =
    subst (λ (r : Request). IsBegun x r (host_at j host)) (sym same_q) (subst (λ (k : Host). IsBegun x q k) (sym same_h) is)

pub whole-as : (j : Job) (source : List ℕ) (host : ℕ) (q : Request) (h : Host) (x : Exchange) (o : Outcome) → request_for j source ≡ q
    → host_at j host ≡ h → IsWhole x q h o → IsWhole x (request_for j source) (host_at j host) o
whole-as j source host q h x o same_q same_h is =
    subst (λ (r : Request). IsWhole x r (host_at j host) o) (sym same_q) (subst (λ (k : Host). IsWhole x q k o) (sym same_h) is)

pub broken-as : (j : Job) (source : List ℕ) (host : ℕ) (q : Request) (h : Host) (x : Exchange) (cause : Cause) → request_for j source ≡ q
    → host_at j host ≡ h → IsBroken x q h cause → IsBroken x (request_for j source) (host_at j host) cause
broken-as j source host q h x cause same_q same_h is =
    subst (λ (r : Request). IsBroken x r (host_at j host) cause) (sym same_q) (subst (λ (k : Host). IsBroken x q k cause) (sym same_h) is)

-- memory was wanting before the dial had succeeded, or after it
pub undialed : (may : List ℕ → List ℕ → Type 0) (q : Request) (host : Host) (old new : Told (List Exchange)) (dialed : Bool)
    → dialed ≡ false → AttemptAdds may q host (AttemptMemory dialed) old new → Grew old new []
undialed may q host old new dialed is adds =
    elim dialed as (λ d. d ≡ false → AttemptAdds may q host (AttemptMemory d) old new → Grew old new []) [
      | true ↦ λ i a. absurd (cc)
      | false ↦ λ i a. a
    ] is adds

pub unasked : (dialed : Bool) (old new : KeeperView) → dialed ≡ false → IsUnasked (LandedMemory dialed) old new → new ≡ old
unasked dialed old new is same =
    elim dialed as (λ d. d ≡ false → IsUnasked (LandedMemory d) old new → new ≡ old) [
      | true ↦ λ i s. absurd (cc)
      | false ↦ λ i s. s
    ] is same

pub dialed_once : (may : List ℕ → List ℕ → Type 0) (q : Request) (host : Host) (old new : Told (List Exchange)) (dialed : Bool)
    → dialed ≡ true → AttemptAdds may q host (AttemptMemory dialed) old new → Adds may old new (λ x. IsBegun x q host × IsUnhurt x)
dialed_once may q host old new dialed is adds =
    elim dialed as (λ d. d ≡ true → AttemptAdds may q host (AttemptMemory d) old new → Adds may old new
    (λ x. IsBegun x q host × IsUnhurt x)) [
      | true ↦
          λ i a. record {
            entry = a.entry;
            grew = a.grew;
            is = (a.is.0.0, record { dialed = a.is.0.1; faults = a.is.1.faults refl; stopped = a.is.1.stopped; ended = a.is.1.ended });
            may = a.may;
          }
      | false ↦ λ i a. absurd (cc)
    ] is adds
