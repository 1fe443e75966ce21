-- The courses of a job as a table, row by row: whole lists of acts with their ends. docs/farm.md has the rows in words.
use Rattle.std.specs.Prelude.{◌≡◌, ◌≢◌, ◌⊎◌, ◌↔◌, ℕ, ◌+◌, ◌<◌, ◌≤◌, true, false, List, [], ◌∷◌, ◌++◌, Some, None, length}
use Rattle.farm_types.specs.declared.ran.Outcome.{Outcome}
use Rattle.edge_traits.specs.declared.entries.Exchange.{Exchange}
use Rattle.edge_traits.specs.declared.cause.Cause.{Cause}
use Rattle.edge_traits.specs.Deeds.{ran, fetched, exchanged, put}
use Rattle.farm_machine.specs.declared.reports.By.{By}
use Rattle.farm_machine.specs.declared.reports.By.TheVariants.{Cpp, Remote, Here, InPlace}
use Rattle.farm_machine.specs.declared.reports.Why5.TheVariants.{Station, Put as NotPut, Broke, Memory, Fetch}
use Rattle.farm_machine.specs.declared.reports.End.{End}
use Rattle.farm_machine.specs.declared.reports.End.TheVariants.{Done, Failed}
use Rattle.farm_machine.specs.Acts.{Takes, Gives, GivesBad, FindsDown, TakesLocal, GivesLocal, Act, Did, Met, slots_of, Loan, loan_of}
use Rattle.farm_machine.specs.Jobs.{Job, CanRequest, may_be_sent, is_source_ready, source_name, output_name, whole_command}
use Rattle.farm_machine.specs.Jobs.{preprocessing_command, compile_command, host_count, is_local_host}
use Rattle.farm_machine.specs.Course.{IsRunOf, IsBegunWith, IsWholeWith, IsBrokenWith, Tried, is_tried, tried_too, no_host, outcome_of}
use Rattle.farm_machine.specs.Course.{IsBackOff, Course}

-- The end of a job by its compile: an object of status 0 is put, and is the job's; it may not be put; another status is
-- the job's, with no put.
abbrev pub EndPart : Job → By → List ℕ → Outcome → List Act → End → Type 0
EndPart j by note o (Did (put x) ∷ []) end = (o.status ≡ 0) × (x.path ≡ output_name j) × (x.bytes ≡ o.object)
    × (end ≡ Done 0 note o.err o.out by)
EndPart j by note o [] end =
    ((o.status ≢ 0) × (end ≡ Done o.status note o.err o.out by))
    ⊎ ((o.status ≡ 0) × (end ≡ Failed NotPut))
EndPart j by note o acts end = ⊥

-- the compile here, in a local slot: it ran, or it could not be run
abbrev pub HerePart : Job → List ℕ → List ℕ → List Act → End → Type 0
HerePart j source note (Met TakesLocal ∷ Did (ran x) ∷ Met GivesLocal ∷ acts) end =
    IsRunOf x (compile_command j) source × EndPart j Here note (outcome_of x.ran) acts end
HerePart j source note (Met TakesLocal ∷ Met GivesLocal ∷ []) end = end ≡ Failed Station
HerePart j source note acts end = ⊥

-- with fallback the compile here, and else this end
abbrev pub HereOr : Job → List ℕ → List ℕ → End → List Act → End → Type 0
HereOr j source note why acts end =
    ((j.config.fallback ≡ true) × HerePart j source note acts end)
    ⊎ ((j.config.fallback ≡ false) × (acts ≡ []) × (end ≡ why))

-- a slot of this host may be taken: the request is within its limits, and the host is an entry that was not tried
abbrev pub MayTake : Job → List ℕ → List Tried → ℕ → Type 0
MayTake j source tried host = CanRequest j source × (host < host_count j) × (is_tried host tried ≡ false)

-- after a host's outcome: of status 0 it is the job's; else with fallback and retry the compile here, and without it is
-- the job's
abbrev pub WholeThen : Job → ℕ → List ℕ → List ℕ → Outcome → List Act → End → Type 0
WholeThen j host source note o acts end =
    ((o.status ≡ 0) × EndPart j (Remote host) note o acts end)
    ⊎ (((o.status ≢ 0) × (j.config.fallback ≡ true) × (j.config.retry ≡ true) × HerePart j source note acts end)
    ⊎ ((o.status ≢ 0) × ((j.config.fallback ≡ false) ⊎ (j.config.retry ≡ false)) × (acts ≡ [])
    × (end ≡ Done o.status note o.err o.out (Remote host))))

-- The compile elsewhere, of a request within its limits, after these tries. All hosts are down; or a local host compiled it, or could not
-- run it; or the exchange with a host was whole; or it broke. After a broken one the host is not used for the period, if there is one, and
-- another host is asked if there are tries left.
abbrev pub SendPart : Job → List ℕ → List ℕ → List Tried → List Act → End → Type 0
SendPart j source note tried (Met FindsDown ∷ acts) end = CanRequest j source × HereOr j source note (Failed (no_host tried)) acts end
SendPart j source note tried (Met (Takes host) ∷ Did (ran x) ∷ Met (Gives k) ∷ acts) end =
    MayTake j source tried host × (k ≡ host) × (is_local_host j host ≡ true) × IsRunOf x (compile_command j) source
    × EndPart j Here note (outcome_of x.ran) acts end
SendPart j source note tried (Met (Takes host) ∷ Met (Gives k) ∷ []) end =
    MayTake j source tried host × (k ≡ host) × (is_local_host j host ≡ true) × (end ≡ Failed Station)
SendPart j source note tried (Met (Takes host) ∷ Did (exchanged x) ∷ Met (Gives k) ∷ acts) end =
    MayTake j source tried host × (k ≡ host) × (is_local_host j host ≡ false)
    × (((o : Outcome) × IsWholeWith j x source host o × WholeThen j host source note o acts end)
    ⊎ ((cause : Cause) × IsBrokenWith j x source host cause × (j.config.period ≡ 0)
    × (((length tried + 1 < j.config.tries) × SendPart j source note (tried_too host cause tried) acts end)
    ⊎ ((j.config.tries ≤ length tried + 1) × HereOr j source note (Failed (Broke host cause)) acts end))))
SendPart j source note tried (Met (Takes host) ∷ Did (exchanged x) ∷ Met (GivesBad k until) ∷ acts) end =
    MayTake j source tried host × (k ≡ host) × (is_local_host j host ≡ false)
    × ((cause : Cause) × IsBrokenWith j x source host cause × (0 < j.config.period) × IsBackOff j until
    × (((length tried + 1 < j.config.tries) × SendPart j source note (tried_too host cause tried) acts end)
    ⊎ ((j.config.tries ≤ length tried + 1) × HereOr j source note (Failed (Broke host cause)) acts end)))
SendPart j source note tried acts end = ⊥

-- a request past its limits is compiled here, whether fallback is on or off
abbrev pub CompilePart : Job → List ℕ → List ℕ → List Act → End → Type 0
CompilePart j source note acts end =
    ((¬ (CanRequest j source)) × HerePart j source note acts end)
    ⊎ SendPart j source note [] acts end

-- A whole course, lack of memory aside: a command that stays here is run unchanged; a preprocessed source is
-- fetched; any other source is preprocessed, and a preprocessor that fails ends the job.
abbrev pub Finished : Job → List Act → End → Type 0
Finished j (Met TakesLocal ∷ Did (ran x) ∷ Met GivesLocal ∷ []) end = (may_be_sent j ≡ false) × IsRunOf x (whole_command j) []
    × (end ≡ Done x.ran.status [] x.ran.err x.ran.out InPlace)
Finished j (Met TakesLocal ∷ Met GivesLocal ∷ []) end = (may_be_sent j ≡ false) × (end ≡ Failed Station)
Finished j (Did (fetched x) ∷ acts) end = (may_be_sent j ≡ true) × (is_source_ready j ≡ true) × (x.path ≡ source_name j)
    × CompilePart j x.bytes [] acts end
Finished j (Did (ran x) ∷ acts) end =
    (may_be_sent j ≡ true) × (is_source_ready j ≡ false) × IsRunOf x (preprocessing_command j) []
    × (((x.ran.status ≢ 0) × (acts ≡ []) × (end ≡ Done x.ran.status [] x.ran.err [] Cpp))
    ⊎ ((x.ran.status ≡ 0) × CompilePart j x.ran.out x.ran.err acts end))
Finished j [] end =
    ((may_be_sent j ≡ true) × (is_source_ready j ≡ true) × (end ≡ Failed Fetch))
    ⊎ ((may_be_sent j ≡ true) × (is_source_ready j ≡ false) × (end ≡ Failed Station))
Finished j acts end = ⊥

-- the courses that don't end for lack of memory are those of the table
abbrev pub TableLaw : Type 0
TableLaw = (j : Job) (acts : List Act) (end : End) → end ≢ Failed Memory → Course j acts end ↔ Finished j acts end

-- the give of what is out
abbrev pub gives_back : Loan → List Act
gives_back None = []
gives_back (Some None) = Met GivesLocal ∷ []
gives_back (Some (Some host)) = Met (Gives host) ∷ []

-- the source that a job has after these acts
abbrev pub IsSource : List Act → List ℕ → Type 0
IsSource (Did (fetched x) ∷ acts) source = source ≡ x.bytes
IsSource (Did (ran x) ∷ acts) source = source ≡ x.ran.out
IsSource acts source = ⊥

-- The first acts of a whole course, not all of them, and the give of what is out then.
pub record IsCut (j : Job) (acts : List Act) : Type 0 where
  pub front : List Act
  pub next : Act
  pub rest : List Act
  pub end : End
  pub finished : Finished j (front ++ next ∷ rest) end
  pub is : acts ≡ front ++ gives_back (loan_of None (slots_of front))

-- The first acts of a whole course up to an exchange. In its place is one that need only be begun, and then comes the give of the host's
-- slot.
pub record IsCutInExchange (j : Job) (acts : List Act) : Type 0 where
  pub front : List Act
  pub exchange : Exchange
  pub rest : List Act
  pub end : End
  pub finished : Finished j (front ++ Did (exchanged exchange) ∷ rest) end
  pub host : ℕ
  pub source : List ℕ
  pub out : loan_of None (slots_of front) ≡ Some (Some host)
  pub source_is : IsSource front source
  pub begun : Exchange
  pub is_begun : IsBegunWith j begun source host
  pub is : acts ≡ front ++ Did (exchanged begun) ∷ Met (Gives host) ∷ []

-- the courses that end for lack of memory are exactly the cut ones, whether cut in an exchange or not
abbrev pub MemoryLaw : Type 0
MemoryLaw = (j : Job) (acts : List Act) → Course j acts (Failed Memory) ↔ (IsCut j acts ⊎ IsCutInExchange j acts)
