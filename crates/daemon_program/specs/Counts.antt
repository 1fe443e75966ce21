-- What a book is, by its door's connections and its station's runs.
use Rattle.std.specs.Prelude.{◌≡◌, ℕ, suc, ◌+◌, ◌<◌, ◌≤◌, ◌==◌, ◌||◌, Bool, true, false, not, List, [], ◌∷◌, ◌++◌, length, map}
use Rattle.std.specs.Prelude.{Result, Ok, Err, if◌then◌else◌}
use Rattle.std.specs.List.{list_any}
use Rattle.farm_types.specs.declared.placed.Word.{Word}
use Rattle.farm_types.specs.declared.ran.Ran.{Ran}
use Rattle.edge_traits.specs.declared.entries.Run.{Run}
use Rattle.edge_traits.specs.declared.faults.Bounds.{Bounds}
use Rattle.edge_traits.specs.declared.faults.StationFault.{StationFault as RunStop}
use Rattle.edge_traits.specs.Stations.{StationView}
use Rattle.edge_traits.specs.Told.{Grew}
use Rattle.daemon_service.specs.declared.compilers.Compiler.{Compiler}
use Rattle.daemon_service.specs.declared.served.Served.TheVariants as served
use Rattle.daemon_service.specs.Replies.{unknown_compiler_status, not_one_source_status}
use Rattle.daemon_worker.specs.declared.log.DoorKit.{DoorKit}
use Rattle.daemon_worker.specs.declared.log.Entry.{Entry}
use Rattle.daemon_worker.specs.declared.log.Met.{Met}
use Rattle.daemon_worker.specs.declared.log.Met.TheVariants as met
use Rattle.daemon_worker.specs.Paths.{DoorPath}
use Rattle.object_cache.specs.declared.book.Stats.{Stats}
use Rattle.object_cache.specs.Books.{BookView, new_book}
use Rattle.object_cache.specs.Entries.{sizes}
use Rattle.object_cache.specs.Stations.{CacheRun, Cached}
use Rattle.daemon_program.specs.Books.{stats_of}

-- the status isn't that of a request which isn't compiled
abbrev pub is_compile_status : ℕ → Bool
is_compile_status status = not ((status == unknown_compiler_status) || (status == not_one_source_status))

-- the answer to a connection has the status of a compile
abbrev pub is_compiled : Met → Bool
is_compiled (met.Served (served.Answered status)) = is_compile_status status
is_compiled other = false

-- how many of these have it
abbrev pub compiled_in : List Entry → ℕ
compiled_in [] = 0
compiled_in (entry ∷ entries) = (if is_compiled entry.what then 1 else 0) + compiled_in entries

-- a connection was let in, and its service ended with a fault of the station or out of memory
abbrev pub is_failed : Met → Bool
is_failed (met.Served served.StationFault) = true
is_failed (met.Served served.Memory) = true
is_failed other = false

-- each program's name is below 4 GiB, so that runs of it have names
abbrev pub AreShort : List Compiler → Type 0
AreShort [] = Unit {0}
AreShort (row ∷ rows) = (length row.program < 4294967296) × AreShort rows

-- the errors that a run returns: one, or none
abbrev pub failures : Result Ran RunStop → List RunStop
failures (Ok ran) = []
failures (Err fault) = fault ∷ []

-- Each answer with the status of a compile is a hit or a miss. Each miss is a run of the station: one that left something, which is a new run, or
-- one that failed. None failed, if no connection ended with a fault of the station or out of memory.
pub record AreCounted {S : Type 0} (shows : S → StationView) (before after : S) (entries : List Entry) (hits misses : ℕ) : Type 0 where
  pub answers : compiled_in entries ≤ hits + misses
  pub runs : List Run
  pub failed : List RunStop
  pub grew : Grew (shows before).runs (shows after).runs runs
  pub asked : length runs + length failed ≡ misses
  pub calm : list_any (λ entry. is_failed entry.what) entries ≡ false → failed ≡ []

-- what a run does to a station beside a book
abbrev pub beside_goes : {S : Type 0} → (S → StationView) → (S → List Word → List ℕ → Bounds → Result Ran RunStop → S → Type 0) → Cached S
    → List Word → List ℕ → Bounds → Result Ran RunStop → Cached S → Type 0
beside_goes shows goes cached words input bounds result new = CacheRun shows goes words input bounds cached new result

-- A door whose station is beside a new book of this bound. The entries are its own, and lead the station and the book, connection by connection,
-- to this station and this book. The book is within its bound, and its counts are those of the entries.
pub record DoorKept {S : Type 0} (shows : S → StationView) (goes : S → List Word → List ℕ → Bounds → Result Ran RunStop → S → Type 0)
    (table : List Compiler) (bound number : ℕ) (before after : S) (entries : List Entry) (book : BookView) : Type 0 where
  pub own : DoorPath (beside_goes shows goes) table number (record { station = before; book = new_book bound })
      (record { station = after; book = book }) entries
  pub within : sizes book.entries ≤ bound
  pub counted : AreShort table → AreCounted shows before after entries book.hits book.misses

-- The log is that of the doors one after the other, whose numbers go on from this one, each with its book.
abbrev pub DoorsKept : {A S : Type 0} → (S → StationView) → (S → List Word → List ℕ → Bounds → Result Ran RunStop → S → Type 0)
    → List Compiler → ℕ → ℕ → List (DoorKit A S) → List (DoorKit A S) → List Entry → List BookView → Type 0
DoorsKept shows goes table bound number [] [] log [] = log ≡ []
DoorsKept shows goes table bound number (old ∷ olds) (new ∷ news) log (book ∷ books) =
    (mine : List Entry) × (more : List Entry) × (log ≡ mine ++ more)
    × DoorKept shows goes table bound number old.station new.station mine book
    × DoorsKept shows goes table bound (suc number) olds news more books
DoorsKept shows goes table bound number [] (new ∷ news) log books = ⊥
DoorsKept shows goes table bound number [] [] log (book ∷ books) = ⊥
DoorsKept shows goes table bound number (old ∷ olds) [] log books = ⊥
DoorsKept shows goes table bound number (old ∷ olds) (new ∷ news) log [] = ⊥

-- The counts are those of the doors' books.
pub record BooksKept {A S : Type 0} (shows : S → StationView) (goes : S → List Word → List ℕ → Bounds → Result Ran RunStop → S → Type 0)
    (table : List Compiler) (bound : ℕ) (olds news : List (DoorKit A S)) (log : List Entry) (stats : List Stats) : Type 0 where
  pub books : List BookView
  pub stats_are : stats ≡ map stats_of books
  pub doors : DoorsKept shows goes table bound 1 olds news log books
