-- What `farmd` does by its words.
use Rattle.std.specs.Prelude.{◌≡◌, ℕ, min, Bool, true, false, List, [], ◌++◌, length, take, drop, unwrap_or, Some, None, Result, Ok, Err}
use Rattle.std.specs.Prelude.{if◌then◌else◌}
use Rattle.std.specs.List.{list_any}
use Rattle.farm_types.specs.Exits.{bad_words_status, memory_status, fault_status}
use Rattle.farm_types.specs.Limits.{connections_max}
use Rattle.farm_types.specs.declared.placed.Word.{Word}
use Rattle.farm_types.specs.declared.ran.Ran.{Ran}
use Rattle.edge_traits.specs.declared.faults.Bounds.{Bounds}
use Rattle.edge_traits.specs.declared.faults.StationFault.{StationFault}
use Rattle.edge_traits.specs.Doors.{DoorView}
use Rattle.edge_traits.specs.Stations.{StationView}
use Rattle.edge_traits.specs.Sinks.{SinkView}
use Rattle.daemon_worker.specs.declared.log.DaemonConfig.{DaemonConfig}
use Rattle.daemon_worker.specs.declared.log.DoorKit.{DoorKit}
use Rattle.daemon_worker.specs.declared.log.Entry.{Entry}
use Rattle.daemon_worker.specs.declared.log.Met.{Met}
use Rattle.daemon_worker.specs.declared.log.Met.TheVariants as met
use Rattle.daemon_worker.specs.Logs.{DoorsServed, is_door_fault}
use Rattle.farmd_options.specs.declared.options.Options.{Options}
use Rattle.farmd_options.specs.Options.{book_bound}
use Rattle.farmd_options.specs.declared.command.Command.{Command}
use Rattle.farmd_options.specs.declared.command.Command.TheVariants.{Help, Version, Serve}
use Rattle.farmd_options.specs.Commands.{settings_of}
use Rattle.farmd_options.specs.Helps.{help, version}
use Rattle.farmd_options.specs.Tables.{compilers_of, AreRules}
use Rattle.object_cache.specs.declared.book.Stats.{Stats}
use Rattle.object_cache.specs.Stations.{cached_shows}
use Rattle.daemon_program.specs.Counts.{BooksKept}
use Rattle.daemon_program.specs.Texts.{log_text, books_text, bad_words_text}
use Rattle.daemon_program.specs.Endings.{Ends, WantsAfter}

abbrev pub is_door_memory : Met → Bool
is_door_memory met.DoorMemory = true
is_door_memory other = false

-- 107 if a door failed, else 105 if memory ran out at one, else 0
abbrev pub log_status : List Entry → ℕ
log_status entries =
    if list_any (λ entry. is_door_fault entry.what) entries then fault_status
    else (if list_any (λ entry. is_door_memory entry.what) entries then memory_status else 0)

-- what is served by, as the words say
pub record IsConfig (words : List (List ℕ)) (options : Options) (config : DaemonConfig) : Type 0 where
  pub table : config.table.rows ≡ compilers_of (settings_of words)
  pub rules : AreRules (settings_of words) config.access.rules
  pub serve : config.serve ≡ unwrap_or options.serve connections_max

-- the doors that are used: the first ones, as many as the words say
abbrev pub doors_used : {K : Type 0} → Options → List K → ℕ
doors_used options doors = min (unwrap_or options.jobs 4) (length doors)

module _ {A S : Type 0} (door : A → DoorView) (station : S → StationView) (ran : S → List Word → List ℕ → Ran → Type 0)
    (goes : S → List Word → List ℕ → Bounds → Result Ran StationFault → S → Type 0) where
  -- What was served and was to be printed. How the printing ended is in `Ends`.
  pub data Serves (words : List (List ℕ)) (options : Options) (olds news : List (DoorKit A S)) (old new : SinkView)
      (answer : ℕ) : Type 0 where
    -- memory ran out before anything was served
    unserved : news ≡ olds → WantsAfter [] old new answer → Serves words options olds news old new answer
    -- Without a cache: the doors were served, the others are as before, and the log was to be printed.
    served : (config : DaemonConfig) (log : List Entry) → IsConfig words options config → book_bound options ≡ None
        → DoorsServed config.table.rows config.access.rules config.serve door station ran 1 (take (doors_used options olds) olds)
        (take (doors_used options olds) news) log
        → drop (doors_used options olds) news ≡ drop (doors_used options olds) olds
        → Ends (log_text log) (log_status log) old new answer → Serves words options olds news old new answer
    -- With a cache, the same, but each door's station is beside a book of its own and records no runs. Each book is what the door's own connections
    -- make of a new book of the given bound, and the lines of the books were to be printed after the log.
    cached : (config : DaemonConfig) (log : List Entry) (bound : ℕ) (books : List Stats) → IsConfig words options config
        → book_bound options ≡ Some bound
        → DoorsServed config.table.rows config.access.rules config.serve door (λ s. cached_shows (station s)) ran 1
        (take (doors_used options olds) olds) (take (doors_used options olds) news) log
        → drop (doors_used options olds) news ≡ drop (doors_used options olds) olds
        → length books ≡ doors_used options olds
        → BooksKept station goes config.table.rows bound (take (doors_used options olds) olds) (take (doors_used options olds) news) log books
        → Ends (log_text log ++ books_text 1 books) (log_status log) old new answer → Serves words options olds news old new answer

  -- what is done by these words: for bad ones their place is printed, and nothing is served
  abbrev pub Does : List (List ℕ) → List (DoorKit A S) → List (DoorKit A S) → SinkView → SinkView → ℕ → Result Command ℕ → Type 0
  Does words olds news old new answer (Err place) = (news ≡ olds) × Ends (bad_words_text place) bad_words_status old new answer
  Does words olds news old new answer (Ok Help) = (news ≡ olds) × Ends help 0 old new answer
  Does words olds news old new answer (Ok Version) = (news ≡ olds) × Ends version 0 old new answer
  Does words olds news old new answer (Ok (Serve options)) = Serves words options olds news old new answer
