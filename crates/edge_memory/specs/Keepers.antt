-- What a keeper of files in memory is in, and what its calls do to it.
use Rattle.std.specs.Prelude.{◌≡◌, ℕ, ◌<◌, ◌≤◌, List, [], ◌++◌, length, true, false, Result, Ok, Err, Option, Some, None}
use Rattle.std.specs.FinMap.{get}
use Rattle.edge_traits.specs.declared.entries.Put.{Put}
use Rattle.edge_traits.specs.declared.entries.Fetch.{Fetch}
use Rattle.edge_traits.specs.declared.faults.EdgeFault.{EdgeFault}
use Rattle.edge_traits.specs.declared.faults.FetchFault.{FetchFault}
use Rattle.edge_traits.specs.declared.faults.FetchFault.TheVariants.{Failed, Absent, TooMuch, Memory}
use Rattle.edge_traits.specs.Told.{told}
use Rattle.file_map.specs.FileMaps.{Files}
use Rattle.edge_traits.specs.FileMaps.{files_after}
use Rattle.edge_traits.specs.Keepers.{PendingPut, KeeperView, HasLength, put_entries, fetch_entries, overruns_after_fetch}
use Rattle.edge_memory.specs.declared.keeper.MemKeeper.{MemKeeper}
use Rattle.edge_traits.specs.Calls.{names_next, one_more, failed_calls}

-- the files, which calls fail, how many calls and overruns there were, both counted up to the greatest u64, the entries, and the
-- put that is pending
pub record KeeperState : Type 0 where
  pub files : Files
  pub fails : List ℕ
  pub made : ℕ
  pub overruns : ℕ
  pub puts : List Put
  pub fetches : List Fetch
  pub pending : Option Put

abbrev pub keeper_state : MemKeeper → KeeperState
keeper_state keeper = record {
  files = keeper.files;
  fails = keeper.calls.fails;
  made = keeper.calls.made;
  overruns = keeper.overruns;
  puts = keeper.puts;
  fetches = keeper.fetches;
  pending = keeper.pending;
}

-- what a pending put shows, which is all of it
abbrev pub pending_of : Option Put → Option PendingPut
pending_of (Some put) = Some (record { path = put.path; bytes = told put.bytes })
pending_of None = None

-- what it shows
abbrev pub keeper_shows : KeeperState → KeeperView
keeper_shows keeper = record {
  files = told keeper.files;
  puts = told keeper.puts;
  fetches = told keeper.fetches;
  pending = pending_of keeper.pending;
  faults = failed_calls keeper.fails keeper.made;
  overruns = keeper.overruns;
}

-- the put that is pending after a `begin` and after an `add`: none at `Err`
abbrev pub begun : List ℕ → Result Unit EdgeFault → Option Put
begun path (Ok done) = Some (record { path = path; bytes = [] })
begun path (Err fault) = None

abbrev pub added : Option Put → List ℕ → Result Unit EdgeFault → Option Put
added (Some put) piece (Ok done) = Some (record { path = put.path; bytes = put.bytes ++ piece })
added None piece (Ok done) = None
added pending piece (Err fault) = None

abbrev pub after_begin : KeeperState → List ℕ → Result Unit EdgeFault → KeeperState
after_begin keeper path result = record keeper { made = one_more keeper.made; pending = begun path result }

abbrev pub after_add : KeeperState → List ℕ → Result Unit EdgeFault → KeeperState
after_add keeper piece result = record keeper { made = one_more keeper.made; pending = added keeper.pending piece result }

-- the files and the entries after a `commit` of what was pending
abbrev pub files_committed : Files → Option Put → Result Unit EdgeFault → Files
files_committed files (Some put) result = files_after files put.path put.bytes result
files_committed files None result = files

abbrev pub puts_committed : List Put → Option Put → Result Unit EdgeFault → List Put
puts_committed puts (Some put) result = puts ++ put_entries put.path put.bytes result
puts_committed puts None result = puts

abbrev pub after_commit : KeeperState → Result Unit EdgeFault → KeeperState
after_commit keeper result = record keeper {
  made = one_more keeper.made;
  files = files_committed keeper.files keeper.pending result;
  puts = puts_committed keeper.puts keeper.pending result;
  pending = None;
}

abbrev pub after_abandon : KeeperState → KeeperState
after_abandon keeper = record keeper { pending = None }

-- the file at this path is this, and within the bound
pub record IsHeld (keeper : KeeperState) (path : List ℕ) (bound : ℕ) (bytes : List ℕ) : Type 0 where
  pub there : get keeper.files path ≡ Some bytes
  pub within : length bytes ≤ bound

-- The next fetch may return this. Only the script decides which fetches fail. Of the others only one that has a file to give may
-- run out of memory.
abbrev pub IsFetchAnswer : KeeperState → List ℕ → ℕ → Result (List ℕ) FetchFault → Type 0
IsFetchAnswer keeper path bound (Ok bytes) = (names_next keeper.fails keeper.made ≡ false) × IsHeld keeper path bound bytes
IsFetchAnswer keeper path bound (Err Failed) = names_next keeper.fails keeper.made ≡ true
IsFetchAnswer keeper path bound (Err Absent) = (names_next keeper.fails keeper.made ≡ false) × (get keeper.files path ≡ None)
IsFetchAnswer keeper path bound (Err (TooMuch bytes)) = (names_next keeper.fails keeper.made ≡ false)
    × HasLength keeper.files path bytes × (bound < bytes)
IsFetchAnswer keeper path bound (Err Memory) = (names_next keeper.fails keeper.made ≡ false) × (bytes : List ℕ)
    × IsHeld keeper path bound bytes

abbrev pub after_fetch : KeeperState → List ℕ → Result (List ℕ) FetchFault → KeeperState
after_fetch keeper path result = record keeper {
  made = one_more keeper.made;
  overruns = overruns_after_fetch keeper.overruns result;
  fetches = keeper.fetches ++ fetch_entries path result;
}
