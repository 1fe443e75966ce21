-- What a keeper of files shows of its past, and what its calls do to it.
use Rattle.std.specs.Prelude.{◌≡◌, ℕ, List, [], ◌∷◌, Result, Ok, Err, Option, Some, None, IsSome, IsTrue, ◌<◌, ◌≤◌, length}
use Rattle.std.specs.FinMap.{get}
use Rattle.edge_traits.specs.declared.entries.Put.{Put}
use Rattle.edge_traits.specs.declared.entries.Fetch.{Fetch}
use Rattle.edge_traits.specs.declared.faults.FetchFault.{FetchFault}
use Rattle.edge_traits.specs.declared.faults.FetchFault.TheVariants.{Failed, Absent, TooMuch, Memory}
use Rattle.edge_traits.specs.Calls.{one_more}
use Rattle.edge_traits.specs.Told.{Told}
use Rattle.edge_traits.specs.Causes.{Rose, RoseOnce, Still}
use Rattle.file_map.specs.FileMaps.{Files}

-- a put that was begun: the path, and the bytes so far
pub record PendingPut : Type 0 where
  pub path : List ℕ
  pub bytes : Told (List ℕ)

-- what a keeper shows
pub record KeeperView : Type 0 where
  pub files : Told Files
  pub puts : Told (List Put)
  pub fetches : Told (List Fetch)
  pub pending : Option PendingPut
  pub faults : ℕ
  pub overruns : ℕ

-- no put is pending
abbrev pub IsIdle : KeeperView → Type 0
IsIdle view = view.pending ≡ None

-- a put is pending
abbrev pub IsPending : KeeperView → Type 0
IsPending view = IsSome view.pending

-- The put is of this path, and if its bytes so far are told, they are these.
abbrev pub IsPutOf : List ℕ → List ℕ → Option PendingPut → Type 0
IsPutOf path bytes (Some put) = (put.path ≡ path) × (IsTrue put.bytes.known → put.bytes.value ≡ bytes)
IsPutOf path bytes None = ⊥

-- a put of this path with these bytes so far is pending
abbrev pub HasPending : KeeperView → List ℕ → List ℕ → Type 0
HasPending view path bytes = IsPutOf path bytes view.pending

-- the entries that a put adds: one at `Ok`
abbrev pub put_entries : {T E : Type 0} → List ℕ → List ℕ → Result T E → List Put
put_entries path bytes (Ok done) = record { path = path; bytes = bytes } ∷ []
put_entries path bytes (Err fault) = []

-- a fetch that went well gave the whole file, within the bound
pub record Fetched (path : List ℕ) (bound : ℕ) (now : KeeperView) (bytes : List ℕ) : Type 0 where
  pub within : length bytes ≤ bound
  pub whole : IsTrue now.files.known → get now.files.value path ≡ Some bytes

-- the file at this path has that many bytes
pub record HasLength (files : Files) (path : List ℕ) (bytes : ℕ) : Type 0 where
  pub content : List ℕ
  pub there : get files path ≡ Some content
  pub long : length content ≡ bytes

-- a fetch failed, which is a fault and no overrun
pub record IsFailedFetch (old now : KeeperView) : Type 0 where
  pub rose : Rose old.faults now.faults
  pub calm : Still old.overruns now.overruns

-- the file isn't there, which is one overrun and no fault
pub record IsAbsent (path : List ℕ) (old now : KeeperView) : Type 0 where
  pub rose : RoseOnce old.overruns now.overruns
  pub calm : Still old.faults now.faults
  pub absent : IsTrue now.files.known → get now.files.value path ≡ None

-- the file has that many bytes, above the bound, which is one overrun and no fault
pub record IsTooLong (path : List ℕ) (bound : ℕ) (old now : KeeperView) (bytes : ℕ) : Type 0 where
  pub rose : RoseOnce old.overruns now.overruns
  pub calm : Still old.faults now.faults
  pub above : bound < bytes
  pub long : IsTrue now.files.known → HasLength now.files.value path bytes

-- neither the faults nor the overruns rose
pub record KeeperStill (old new : KeeperView) : Type 0 where
  pub faults : Still old.faults new.faults
  pub overruns : Still old.overruns new.overruns

-- neither the faults nor the overruns fell
pub record KeeperLater (old new : KeeperView) : Type 0 where
  pub faults : old.faults ≤ new.faults
  pub overruns : old.overruns ≤ new.overruns

-- when a failed fetch may return this fault
abbrev pub FetchCause : List ℕ → ℕ → KeeperView → KeeperView → FetchFault → Type 0
FetchCause path bound old now Failed = IsFailedFetch old now
FetchCause path bound old now Absent = IsAbsent path old now
FetchCause path bound old now (TooMuch bytes) = IsTooLong path bound old now bytes
FetchCause path bound old now Memory = KeeperStill old now

-- the entries that a fetch adds: one at `Ok`
abbrev pub fetch_entries : {E : Type 0} → List ℕ → Result (List ℕ) E → List Fetch
fetch_entries path (Ok bytes) = record { path = path; bytes = bytes } ∷ []
fetch_entries path (Err fault) = []

-- the overruns after a fetch or a load: one more for a file that isn't there or is above the bound, counted up to the greatest u64
abbrev pub overruns_after_fetch : ℕ → Result (List ℕ) FetchFault → ℕ
overruns_after_fetch overruns (Ok bytes) = overruns
overruns_after_fetch overruns (Err Failed) = overruns
overruns_after_fetch overruns (Err Absent) = one_more overruns
overruns_after_fetch overruns (Err (TooMuch bytes)) = one_more overruns
overruns_after_fetch overruns (Err Memory) = overruns
