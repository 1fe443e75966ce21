-- The course of one job, one act at a time: its place, what may come next there, and how it may end there. The
-- same courses as a table, row by row, are in Table.
use Rattle.std.specs.Prelude.{◌≡◌, ◌≢◌, ◌⊎◌, ℕ, ◌+◌, ◌<◌, ◌^◌, Bool, true, false, ◌&&◌, ◌||◌, cond, List, [], ◌∷◌, length, nat_eq, nat_lt}
use Rattle.farm_types.specs.declared.placed.Word.{Word}
use Rattle.farm_types.specs.declared.ran.Ran.{Ran}
use Rattle.farm_types.specs.declared.ran.Outcome.{Outcome}
use Rattle.edge_traits.specs.declared.entries.Run.{Run}
use Rattle.edge_traits.specs.declared.entries.Exchange.{Exchange}
use Rattle.edge_traits.specs.declared.cause.Cause.{Cause}
use Rattle.edge_traits.specs.Deeds.{ran, fetched, exchanged, put}
use Rattle.edge_traits.specs.Exchanges.{IsBegun, IsWhole, IsBroken}
use Rattle.slot_table.specs.Backoff.{bad_until}
use Rattle.farm_machine.specs.declared.reports.By.{By}
use Rattle.farm_machine.specs.declared.reports.By.TheVariants.{Cpp, Remote, Here, InPlace}
use Rattle.farm_machine.specs.declared.reports.Why5.{Why5}
use Rattle.farm_machine.specs.declared.reports.Why5.TheVariants.{Station, Put as NotPut, Broke, NoHost, Memory, Fetch}
use Rattle.farm_machine.specs.declared.reports.End.{End}
use Rattle.farm_machine.specs.declared.reports.End.TheVariants.{Done, Failed}
use Rattle.farm_machine.specs.Acts.{Takes, Gives, GivesBad, FindsDown, TakesLocal, GivesLocal, Act, Did, Met}
use Rattle.farm_machine.specs.Jobs.{Job, CanRequest, may_be_sent, is_source_ready, source_name, output_name, whole_command}
use Rattle.farm_machine.specs.Jobs.{preprocessing_command, compile_command, request_for, host_count, host_at, is_local_host}

-- the run is of these words on this input
abbrev pub IsRunOf : Run → List Word → List ℕ → Type 0
IsRunOf x words input = (x.words ≡ words) × (x.input ≡ input)

-- the exchange with the host at this place, for this source: begun, whole with this outcome, broken by this cause
abbrev pub IsBegunWith : Job → Exchange → List ℕ → ℕ → Type 0
IsBegunWith j x source host = IsBegun x (request_for j source) (host_at j host)

abbrev pub IsWholeWith : Job → Exchange → List ℕ → ℕ → Outcome → Type 0
IsWholeWith j x source host o = IsWhole x (request_for j source) (host_at j host) o

abbrev pub IsBrokenWith : Job → Exchange → List ℕ → ℕ → Cause → Type 0
IsBrokenWith j x source host cause = IsBroken x (request_for j source) (host_at j host) cause

-- a host that was tried, and how its exchange broke
pub record Tried : Type 0 where
  pub host : ℕ
  pub cause : Cause

-- the host at this place was tried
abbrev pub is_tried : ℕ → List Tried → Bool
is_tried host [] = false
is_tried host (t ∷ tried) = nat_eq t.host host || is_tried host tried

-- the hosts that were tried, the latest first
abbrev pub tried_too : ℕ → Cause → List Tried → List Tried
tried_too host cause tried = record { host = host; cause = cause } ∷ tried

-- The place of a job in its course. From `Send` on it has a preprocessed source, and the note, which is what the preprocessor wrote
-- to standard error.
pub data At : Type 0 where
  -- nothing was done yet
  Start : At
  -- it has a local slot for the whole command, which then has run
  LentInPlace : At
  RanInPlace : Ran → At
  -- source, note, hosts tried: it is to be compiled
  Send : List ℕ → List ℕ → List Tried → At
  -- it has a slot of this host; the host is local and compiled it; an exchange with the host was begun
  Lent : ℕ → List ℕ → List ℕ → List Tried → At
  RanThere : ℕ → List ℕ → Ran → At
  Sent : ℕ → List ℕ → List ℕ → List Tried → Exchange → At
  -- it is to be compiled here; it has a local slot; it was compiled
  Locally : List ℕ → List ℕ → At
  LentHere : List ℕ → List ℕ → At
  RanHere : List ℕ → Ran → At
  -- who compiled, the note, and what the compile left, of which an object is to be put
  Finish : By → List ℕ → Outcome → At
  -- it has its end
  Over : End → At

-- what a run left, as an outcome
abbrev pub outcome_of : Ran → Outcome
outcome_of r = record { status = r.status; err = r.err; out = r.out; object = r.object }

-- a preprocessor that failed ends the job; else its standard output is the source
abbrev pub after_preprocessor : Ran → At
after_preprocessor r = cond (nat_eq r.status 0) (Send r.out r.err []) (Over (Done r.status [] r.err [] Cpp))

-- with fallback the job is compiled here, and else it ends so
abbrev pub or_here : Job → List ℕ → List ℕ → End → At
or_here j source note end = cond j.config.fallback (Locally source note) (Over end)

-- why a job fails that finds all hosts down that it hasn't tried
abbrev pub no_host : List Tried → Why5
no_host [] = NoHost
no_host (t ∷ tried) = Broke t.host t.cause

-- after a broken exchange the job asks another host, as long as it has tries left
abbrev pub after_broken : Job → ℕ → Cause → List ℕ → List ℕ → List Tried → At
after_broken j host cause source note tried =
    cond (nat_lt (length tried + 1) j.config.tries) (Send source note (tried_too host cause tried))
    (or_here j source note (Failed (Broke host cause)))

-- a host's outcome of status 0 is the job's; another ends the job, or with fallback and retry the job is compiled here
-- once more
abbrev pub after_whole : Job → ℕ → List ℕ → List ℕ → Outcome → At
after_whole j host source note o =
    cond (nat_eq o.status 0) (Finish (Remote host) note o)
    (cond (j.config.fallback && j.config.retry) (Locally source note) (Over (Done o.status note o.err o.out (Remote host))))

-- the moment until which a host is not used: a moment and the period together, at most the greatest u64
abbrev pub IsBackOff : Job → ℕ → Type 0
IsBackOff j until = (moment : ℕ) × (moment < 2 ^ 64) × (until ≡ bad_until moment j.config.period)

-- From here this act may come next, and leads there. A look at the clock is no act of a course.
abbrev pub Next : Job → At → Act → At → Type 0
Next j Start (Met TakesLocal) c = (may_be_sent j ≡ false) × (c ≡ LentInPlace)
Next j Start (Did (fetched x)) c = (may_be_sent j ≡ true) × (is_source_ready j ≡ true) × (x.path ≡ source_name j) × (c ≡ Send x.bytes [] [])
Next j Start (Did (ran x)) c = (may_be_sent j ≡ true) × (is_source_ready j ≡ false) × IsRunOf x (preprocessing_command j) []
    × (c ≡ after_preprocessor x.ran)
Next j LentInPlace (Did (ran x)) c = IsRunOf x (whole_command j) [] × (c ≡ RanInPlace x.ran)
Next j LentInPlace (Met GivesLocal) c = (c ≡ Over (Failed Station)) ⊎ (c ≡ Over (Failed Memory))
Next j (RanInPlace r) (Met GivesLocal) c = (c ≡ Over (Done r.status [] r.err r.out InPlace)) ⊎ (c ≡ Over (Failed Memory))
Next j (Send source note tried) (Met FindsDown) c = CanRequest j source × (c ≡ or_here j source note (Failed (no_host tried)))
Next j (Send source note tried) (Met (Takes host)) c = CanRequest j source × (host < host_count j) × (is_tried host tried ≡ false)
    × (c ≡ Lent host source note tried)
Next j (Send source note tried) (Met TakesLocal) c = (¬ (CanRequest j source)) × (c ≡ LentHere source note)
Next j (Lent host source note tried) (Did (ran x)) c = (is_local_host j host ≡ true) × IsRunOf x (compile_command j) source
    × (c ≡ RanThere host note x.ran)
Next j (Lent host source note tried) (Did (exchanged x)) c = (is_local_host j host ≡ false) × IsBegunWith j x source host
    × (c ≡ Sent host source note tried x)
Next j (Lent host source note tried) (Met (Gives k)) c =
    (k ≡ host)
    × (((is_local_host j host ≡ true) × (c ≡ Over (Failed Station)))
    ⊎ (c ≡ Over (Failed Memory)))
Next j (RanThere host note r) (Met (Gives k)) c = (k ≡ host) × ((c ≡ Finish Here note (outcome_of r)) ⊎ (c ≡ Over (Failed Memory)))
Next j (Sent host source note tried x) (Met (Gives k)) c =
    (k ≡ host)
    × (((o : Outcome) × IsWholeWith j x source host o × (c ≡ after_whole j host source note o))
    ⊎ (((cause : Cause) × IsBrokenWith j x source host cause × (j.config.period ≡ 0) × (c ≡ after_broken j host cause source note tried))
    ⊎ (c ≡ Over (Failed Memory))))
Next j (Sent host source note tried x) (Met (GivesBad k until)) c =
    (k ≡ host) × (is_local_host j host ≡ false)
    × ((cause : Cause) × IsBrokenWith j x source host cause × (0 < j.config.period) × IsBackOff j until
    × (c ≡ after_broken j host cause source note tried))
Next j (Locally source note) (Met TakesLocal) c = c ≡ LentHere source note
Next j (LentHere source note) (Did (ran x)) c = IsRunOf x (compile_command j) source × (c ≡ RanHere note x.ran)
Next j (LentHere source note) (Met GivesLocal) c = (c ≡ Over (Failed Station)) ⊎ (c ≡ Over (Failed Memory))
Next j (RanHere note r) (Met GivesLocal) c = (c ≡ Finish Here note (outcome_of r)) ⊎ (c ≡ Over (Failed Memory))
Next j (Finish by note o) (Did (put x)) c = (o.status ≡ 0) × (x.path ≡ output_name j) × (x.bytes ≡ o.object)
    × (c ≡ Over (Done 0 note o.err o.out by))
Next j at act c = ⊥

-- A job may end here so. A run, a fetch or a put that could not be made is reported only by the end.
abbrev pub Ends : Job → At → End → Type 0
Ends j Start end =
    (end ≡ Failed Memory)
    ⊎ (((may_be_sent j ≡ true) × (is_source_ready j ≡ true) × (end ≡ Failed Fetch))
    ⊎ ((may_be_sent j ≡ true) × (is_source_ready j ≡ false) × (end ≡ Failed Station)))
Ends j (Send source note tried) end = end ≡ Failed Memory
Ends j (Locally source note) end = end ≡ Failed Memory
Ends j (Finish by note o) end =
    ((o.status ≡ 0) × ((end ≡ Failed Memory) ⊎ (end ≡ Failed NotPut)))
    ⊎ ((o.status ≢ 0) × (end ≡ Done o.status note o.err o.out by))
Ends j (Over e) end = end ≡ e
Ends j at end = ⊥

-- these acts lead from one place to another
abbrev pub Reach : Job → At → List Act → At → Type 0
Reach j at [] c = at ≡ c
Reach j at (a ∷ acts) c = (b : At) × Next j at a b × Reach j b acts c

-- from here a job may go on by these acts to this end
abbrev pub From : Job → At → List Act → End → Type 0
From j at [] end = Ends j at end
From j at (a ∷ acts) end = (c : At) × Next j at a c × From j c acts end

-- the courses of a job: what it does, in order, and how it ends
abbrev pub Course : Job → List Act → End → Type 0
Course j acts end = From j Start acts end
