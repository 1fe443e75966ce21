-- From what was read and served to what `farmd` does.
use Rattle.std.proofs.Common.{◌≡◌, ℕ, ◌≤◌, List, ◌++◌, length, take, drop, sym, ◌∙◌, subst, arith}
use Rattle.std.specs.Prelude.{unwrap_or, Option, Some, None, Result}
use Rattle.farm_types.specs.Limits.{connections_max, workers_default, workers_max}
use Rattle.farm_types.specs.declared.placed.Word.{Word}
use Rattle.farm_types.specs.declared.ran.Ran.{Ran}
use Rattle.edge_traits.specs.declared.faults.Bounds.{Bounds}
use Rattle.edge_traits.specs.declared.faults.StationFault.{StationFault}
use Rattle.edge_traits.specs.Doors.{DoorView}
use Rattle.edge_traits.specs.Stations.{StationView}
use Rattle.edge_traits.specs.Sinks.{SinkView}
use Rattle.daemon_worker.specs.declared.log.DaemonConfig.{DaemonConfig}
use Rattle.daemon_worker.specs.declared.log.DoorKit.{DoorKit}
use Rattle.daemon_worker.specs.declared.log.Entry.{Entry}
use Rattle.daemon_worker.specs.Logs.{DoorsServed}
use Rattle.farmd_options.specs.declared.options.Options.{Options}
use Rattle.farmd_options.specs.declared.command.Command.{Command}
use Rattle.farmd_options.specs.Options.{IsWithin, AreWithin, book_bound}
use Rattle.farmd_options.specs.Commands.{ReadWords}
use Rattle.farmd_options.proofs.Meaning.{once}
use Rattle.object_cache.specs.declared.book.Stats.{Stats}
use Rattle.object_cache.specs.Stations.{cached_shows}
use Rattle.daemon_program.specs.Texts.{log_text, books_text}
use Rattle.daemon_program.specs.Counts.{BooksKept}
use Rattle.daemon_program.specs.Endings.{Ends}
use Rattle.daemon_program.specs.Daemons.{IsConfig, Serves, served, cached, Does, doors_used, log_status}

given_or : (low high other : ℕ) (given : Option ℕ) → IsWithin low high given → low ≤ other → other ≤ high
    → (low ≤ unwrap_or given other) × (unwrap_or given other ≤ high)
given_or low high other None within some few = (some, few)
given_or low high other (Some n) within some few = within

pub some_jobs : (options : Options) → AreWithin options → 1 ≤ unwrap_or options.jobs workers_default
some_jobs options within = (given_or 1 workers_max workers_default options.jobs within.jobs (omega arith) (omega arith)).0

pub right_serve : (options : Options) (serve : ℕ) → AreWithin options → serve ≡ unwrap_or options.serve connections_max
    → (1 ≤ serve) × (serve ≤ connections_max)
right_serve options serve within is =
    subst (λ n. (1 ≤ n) × (n ≤ connections_max)) (sym is)
    (given_or 1 connections_max connections_max options.serve within.serve (omega arith) (omega arith))

pub ends_as : (text bytes : List ℕ) (status answered : ℕ) (old new : SinkView) (answer : ℕ) → bytes ≡ text → answered ≡ status
    → Ends bytes answered old new answer → Ends text status old new answer
ends_as text bytes status answered old new answer same also ends =
    subst (λ t. Ends t status old new answer) same (subst (λ s. Ends bytes s old new answer) also ends)

module _ {A S : Type 0} (door : A → DoorView) (station : S → StationView) (ran : S → List Word → List ℕ → Ran → Type 0)
    (goes : S → List Word → List ℕ → Bounds → Result Ran StationFault → S → Type 0) (words : List (List ℕ)) where
  pub served_first : (options : Options) (olds news : List (DoorKit A S)) (old new : SinkView) (answer count : ℕ) (config : DaemonConfig)
      (log : List Entry) → count ≡ doors_used options olds → IsConfig words options config → book_bound options ≡ None
      → DoorsServed config.table.rows config.access.rules config.serve door station ran 1 (take count olds) (take count news) log
      → drop count news ≡ drop count olds → Ends (log_text log) (log_status log) old new answer
      → Serves door station ran goes words options olds news old new answer
  served_first options olds news old new answer count config log is right none done others ends =
      served config log right none
      (subst (λ n. DoorsServed config.table.rows config.access.rules config.serve door station ran 1 (take n olds)
      (take n news) log) is done)
      (subst (λ n. drop n news ≡ drop n olds) is others) ends

  pub cached_first : (options : Options) (olds news : List (DoorKit A S)) (old new : SinkView) (answer count : ℕ) (config : DaemonConfig)
      (log : List Entry) (bound : ℕ) (books : List Stats) → count ≡ doors_used options olds → IsConfig words options config
      → book_bound options ≡ Some bound
      → DoorsServed config.table.rows config.access.rules config.serve door (λ s. cached_shows (station s)) ran 1 (take count olds)
      (take count news) log
      → drop count news ≡ drop count olds → length books ≡ count
      → BooksKept station goes config.table.rows bound (take count olds) (take count news) log books
      → Ends (log_text log ++ books_text 1 books) (log_status log) old new answer
      → Serves door station ran goes words options olds news old new answer
  cached_first options olds news old new answer count config log bound books is right some done others many kept ends =
      cached config log bound books right some
      (subst (λ n. DoorsServed config.table.rows config.access.rules config.serve door (λ s. cached_shows (station s)) ran 1 (take n olds)
      (take n news) log) is done)
      (subst (λ n. drop n news ≡ drop n olds) is others) (many ∙ is)
      (subst (λ n. BooksKept station goes config.table.rows bound (take n olds) (take n news) log books) is kept) ends

  pub does_by : (olds news : List (DoorKit A S)) (old new : SinkView) (answer : ℕ) (found read : Result Command ℕ) → ReadWords words found
      → Does door station ran goes words olds news old new answer found
      → ReadWords words read → Does door station ran goes words olds news old new answer read
  does_by olds news old new answer found read is done reads = subst (λ r. Does door station ran goes words olds news old new answer r)
      (once words found read is reads) done
