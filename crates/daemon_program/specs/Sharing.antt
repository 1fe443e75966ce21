-- Doors whose stations share one book: what they are made of, what they did, and what is printed of it.
use Rattle.std.specs.Prelude.{◌≡◌, ℕ, suc, ◌≤◌, ◌⊎◌, All, List, [], ◌∷◌, ◌++◌, length, take, drop, codes, Option, Some, None, Result, Ok, Err}
use Rattle.std.specs.Fmt.{decimal}
use Rattle.farm_types.specs.Exits.{bad_words_status, memory_status}
use Rattle.farm_types.specs.declared.placed.Word.{Word}
use Rattle.farm_types.specs.declared.ran.Ran.{Ran}
use Rattle.edge_traits.specs.declared.faults.Bounds.{Bounds}
use Rattle.edge_traits.specs.declared.faults.StationFault.{StationFault}
use Rattle.edge_traits.specs.Told.{SameRelation3}
use Rattle.edge_traits.specs.Doors.{DoorView}
use Rattle.edge_traits.specs.Stations.{StationView}
use Rattle.edge_traits.specs.Sinks.{SinkView}
use Rattle.daemon_service.specs.declared.compilers.Compiler.{Compiler}
use Rattle.daemon_worker.specs.declared.log.DaemonConfig.{DaemonConfig}
use Rattle.daemon_worker.specs.declared.log.DoorKit.{DoorKit}
use Rattle.daemon_worker.specs.declared.log.Entry.{Entry}
use Rattle.daemon_worker.specs.Logs.{DoorsServed}
use Rattle.daemon_worker.specs.Paths.{DoorPath}
use Rattle.farmd_options.specs.declared.options.Options.{Options}
use Rattle.farmd_options.specs.Options.{shared_bound}
use Rattle.farmd_options.specs.declared.command.Command.{Command}
use Rattle.farmd_options.specs.declared.command.Command.TheVariants.{Help, Version, Serve}
use Rattle.farmd_options.specs.Helps.{help, version}
use Rattle.object_cache.specs.Stations.{cached_shows}
use Rattle.shared_cache.specs.declared.book.SharedStats.{SharedStats}
use Rattle.shared_cache.specs.declared.station.Counts.{Counts}
use Rattle.shared_cache.specs.Shared.{Shared, SharedRun, no_counts}
use Rattle.daemon_program.specs.Counts.{AreShort, AreCounted}
use Rattle.daemon_program.specs.Complete.{Completed, DoorsRight}
use Rattle.daemon_program.specs.Daemons.{IsConfig, Serves, doors_used, log_status}
use Rattle.daemon_program.specs.Texts.{log_text, bad_words_text}
use Rattle.daemon_program.specs.Endings.{Ends, WantsAfter}

-- what the first station's programs may leave; of no door anything
abbrev pub first_ran : {A S : Type 0} → (S → List Word → List ℕ → Ran → Type 0) → List (DoorKit A S) → List Word → List ℕ → Ran → Type 0
first_ran ran [] = λ words input left. Unit {0}
first_ran ran (kit ∷ kits) = ran kit.station

-- the programs of all stations may leave the same
abbrev pub RunAlike : {A S : Type 0} → (S → List Word → List ℕ → Ran → Type 0) → List (DoorKit A S) → Type 0
RunAlike ran kits = All (λ kit. SameRelation3 (ran kit.station) (first_ran ran kits)) kits

-- a kit without the book that it shares
abbrev pub bare_kit : {A S : Type 0} → DoorKit A (Shared S) → DoorKit A S
bare_kit kit = record { door = kit.door; station = kit.station.station }

abbrev pub counts_of : {A S : Type 0} → DoorKit A (Shared S) → Counts
counts_of kit = kit.station.counts

-- ---- what is printed

-- one line for the counts of a door
abbrev pub counts_line : ℕ → Counts → List ℕ
counts_line door counts = codes "cache door " ++ decimal door ++ codes " hits " ++ decimal counts.hits ++ codes " misses " ++ decimal counts.misses
    ++ codes "\n"

-- the lines of doors whose numbers go on from this one
abbrev pub counts_text : ℕ → List Counts → List ℕ
counts_text door [] = []
counts_text door (counts ∷ more) = counts_line door counts ++ counts_text (suc door) more

-- one line for the book
abbrev pub shared_line : SharedStats → List ℕ
shared_line stats = codes "cache shared unkept " ++ decimal stats.unkept ++ codes " bytes " ++ decimal stats.bytes ++ codes "\n"

abbrev pub shares_text : List Counts → SharedStats → List ℕ
shares_text counts stats = counts_text 1 counts ++ shared_line stats

-- ---- what was done

module _ {S : Type 0} (shows : S → StationView) (ran : S → List Word → List ℕ → Ran → Type 0)
    (goes : S → List Word → List ℕ → Bounds → Result Ran StationFault → S → Type 0) where
  -- what a run does to a station beside a book that others use, too
  abbrev pub shared_goes : Shared S → List Word → List ℕ → Bounds → Result Ran StationFault → Shared S → Type 0
  shared_goes shared words input bounds result new = SharedRun shows ran goes words input bounds shared new result

  -- A door whose station shares a book. The entries are its own, and lead the station, connection by connection, to this station, and its
  -- counts from 0 to these.
  pub record DoorShared (table : List Compiler) (number : ℕ) (before after : S) (entries : List Entry) (counts : Counts) : Type 0 where
    pub own : DoorPath shared_goes table number (record { station = before; counts = no_counts })
        (record { station = after; counts = counts }) entries
    pub counted : AreShort table → AreCounted shows before after entries counts.hits counts.misses

  -- The log is that of the doors one after the other, whose numbers go on from this one, each with its counts.
  abbrev pub DoorsShared : {A : Type 0} → List Compiler → ℕ → List (DoorKit A S) → List (DoorKit A S) → List Entry → List Counts → Type 0
  DoorsShared table number [] [] log [] = log ≡ []
  DoorsShared table number (old ∷ olds) (new ∷ news) log (counts ∷ others) =
      (mine : List Entry) × (more : List Entry) × (log ≡ mine ++ more) × DoorShared table number old.station new.station mine counts
      × DoorsShared table (suc number) olds news more others
  DoorsShared table number [] (new ∷ news) log others = ⊥
  DoorsShared table number [] [] log (counts ∷ others) = ⊥
  DoorsShared table number (old ∷ olds) [] log others = ⊥
  DoorsShared table number (old ∷ olds) (new ∷ news) log [] = ⊥

module _ {A S : Type 0} (door : A → DoorView) (station : S → StationView) (ran : S → List Word → List ℕ → Ran → Type 0)
    (goes : S → List Word → List ℕ → Bounds → Result Ran StationFault → S → Type 0) where
  -- What was served and was to be printed, with one book for all doors. How the printing ended is in `Ends`.
  pub data Shares (words : List (List ℕ)) (options : Options) (bound : ℕ) (olds news : List (DoorKit A S)) (old new : SinkView)
      (answer : ℕ) : Type 0 where
    -- memory ran out before anything was served
    unserved : news ≡ olds → WantsAfter [] old new answer → Shares words options bound olds news old new answer
    -- The doors were served, the others are as before, and the log was to be printed. Each door's station is beside the one book and records no runs.
    -- Each door's counts begin at 0 and are by its own connections only, and the book has at most its bound. The lines of the doors and of the book were
    -- to be printed after the log.
    shared : (config : DaemonConfig) (log : List Entry) (counts : List Counts) (stats : SharedStats) → IsConfig words options config
        → DoorsServed config.table.rows config.access.rules config.serve door (λ s. cached_shows (station s)) ran 1
        (take (doors_used options olds) olds) (take (doors_used options olds) news) log
        → drop (doors_used options olds) news ≡ drop (doors_used options olds) olds
        → length counts ≡ doors_used options olds
        → DoorsShared station ran goes config.table.rows 1 (take (doors_used options olds) olds) (take (doors_used options olds) news) log
        counts
        → stats.bytes ≤ bound
        → Ends (log_text log ++ shares_text counts stats) (log_status log) old new answer
        → Shares words options bound olds news old new answer

  -- what serving does: each door with what it has of its own, or all doors with one book
  abbrev pub DoesServe : List (List ℕ) → Options → List (DoorKit A S) → List (DoorKit A S) → SinkView → SinkView → ℕ → Option ℕ → Type 0
  DoesServe words options olds news old new answer None = Serves door station ran goes words options olds news old new answer
  DoesServe words options olds news old new answer (Some bound) = Shares words options bound olds news old new answer

  -- what is done by these words: for bad ones their place is printed, and nothing is served
  abbrev pub DoesAll : List (List ℕ) → List (DoorKit A S) → List (DoorKit A S) → SinkView → SinkView → ℕ → Result Command ℕ → Type 0
  DoesAll words olds news old new answer (Err place) = (news ≡ olds) × Ends (bad_words_text place) bad_words_status old new answer
  DoesAll words olds news old new answer (Ok Help) = (news ≡ olds) × Ends help 0 old new answer
  DoesAll words olds news old new answer (Ok Version) = (news ≡ olds) × Ends version 0 old new answer
  DoesAll words olds news old new answer (Ok (Serve options)) =
      DoesServe words options olds news old new answer (shared_bound options)

module _ {A S : Type 0} (door : A → DoorView) (station : S → StationView) (ran : S → List Word → List ℕ → Ran → Type 0) where
  -- What was done with one book for all doors, if nothing failed.
  pub data CompletedShared (words : List (List ℕ)) (options : Options) (olds news : List (DoorKit A S)) (answer : ℕ) : Type 0 where
    -- memory ran out before anything was served
    nothing : news ≡ olds → answer ≡ memory_status → CompletedShared words options olds news answer
    -- every connection was answered rightly by stations that record no runs, and the status is 0 or that of lack of memory
    all : (config : DaemonConfig) (log : List Entry) → IsConfig words options config
        → DoorsRight door (λ s. cached_shows (station s)) ran config.table.rows config.access.rules config.serve 1
        (take (doors_used options olds) olds) (take (doors_used options olds) news) log
        → (answer ≡ 0) ⊎ (answer ≡ memory_status) → CompletedShared words options olds news answer

  -- the same as `Completed`, with one book for all or without
  abbrev pub CompletedAll : List (List ℕ) → Options → List (DoorKit A S) → List (DoorKit A S) → ℕ → Option ℕ → Type 0
  CompletedAll words options olds news answer None = Completed door station ran words options olds news answer
  CompletedAll words options olds news answer (Some bound) = CompletedShared words options olds news answer
