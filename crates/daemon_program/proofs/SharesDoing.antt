-- From what was read and served to what `farmd` does, where doors may share a book.
use Rattle.std.proofs.Common.{◌≡◌, ℕ, ◌*◌, ◌<◌, ◌≤◌, ◌^◌, List, ◌++◌, length, take, drop, ◌∙◌, subst, arith}
use Rattle.std.specs.Prelude.{Option, Some, None, Result}
use Rattle.farm_types.specs.declared.placed.Word.{Word}
use Rattle.farm_types.specs.declared.ran.Ran.{Ran}
use Rattle.edge_traits.specs.declared.faults.Bounds.{Bounds}
use Rattle.edge_traits.specs.declared.faults.StationFault.{StationFault}
use Rattle.edge_traits.specs.Doors.{DoorView}
use Rattle.edge_traits.specs.Stations.{StationView}
use Rattle.edge_traits.specs.Sinks.{SinkView}
use Rattle.daemon_worker.specs.declared.log.DaemonConfig.{DaemonConfig}
use Rattle.daemon_worker.specs.declared.log.DoorKit.{DoorKit}
use Rattle.daemon_worker.specs.declared.log.Entry.{Entry}
use Rattle.daemon_worker.specs.Logs.{DoorsServed}
use Rattle.farmd_options.specs.declared.options.Options.{Options}
use Rattle.farmd_options.specs.declared.command.Command.{Command}
use Rattle.farmd_options.specs.Options.{AreWithin, IsWithin, mebibytes, shared_bound, shared_cache_max}
use Rattle.farmd_options.specs.Commands.{ReadWords}
use Rattle.farmd_options.proofs.Meaning.{once}
use Rattle.object_cache.specs.Stations.{cached_shows}
use Rattle.shared_cache.specs.declared.book.SharedStats.{SharedStats}
use Rattle.shared_cache.specs.declared.station.Counts.{Counts}
use Rattle.daemon_program.specs.Texts.{log_text}
use Rattle.daemon_program.specs.Complete.{IsSmooth}
use Rattle.daemon_program.specs.Endings.{Ends}
use Rattle.daemon_program.specs.Daemons.{IsConfig, doors_used, log_status}
use Rattle.daemon_program.specs.Sharing.{DoorsShared, Shares, unserved, shared, shares_text, DoesServe, DoesAll, nothing, all, CompletedAll}
use Rattle.daemon_program.proofs.Completing.{right_doors, no_fault, smooth_beside, never, ended_as, either_status, status_by, goes_on, completed}

small_by : (n : Option ℕ) (bound : ℕ) → IsWithin 1 shared_cache_max n → mebibytes n ≡ Some bound → bound < 2 ^ 63
small_by None bound within is = absurd (cc is)
small_by (Some n) bound within is =
    let same : n * 1048576 ≡ bound = cc is in
    omega (arith, within.1, same)

pub small_bound : (options : Options) (bound : ℕ) → AreWithin options → shared_bound options ≡ Some bound → bound < 2 ^ 63
small_bound options bound within is = small_by options.shared bound within.shared is

module _ {A S : Type 0} (door : A → DoorView) (station : S → StationView) (ran : S → List Word → List ℕ → Ran → Type 0)
    (goes : S → List Word → List ℕ → Bounds → Result Ran StationFault → S → Type 0) (words : List (List ℕ)) where
  pub shared_first : (options : Options) (bound : ℕ) (olds news : List (DoorKit A S)) (old new : SinkView) (answer count : ℕ)
      (config : DaemonConfig) (log : List Entry) (counts : List Counts) (stats : SharedStats) → count ≡ doors_used options olds
      → IsConfig words options config
      → DoorsServed config.table.rows config.access.rules config.serve door (λ s. cached_shows (station s)) ran 1 (take count olds)
      (take count news) log
      → drop count news ≡ drop count olds → length counts ≡ count
      → DoorsShared station ran goes config.table.rows 1 (take count olds) (take count news) log counts → stats.bytes ≤ bound
      → Ends (log_text log ++ shares_text counts stats) (log_status log) old new answer
      → Shares door station ran goes words options bound olds news old new answer
  shared_first options bound olds news old new answer count config log counts stats is right done others many counted within ends =
      shared config log counts stats right
      (subst (λ n. DoorsServed config.table.rows config.access.rules config.serve door (λ s. cached_shows (station s)) ran 1 (take n olds)
      (take n news) log) is done)
      (subst (λ n. drop n news ≡ drop n olds) is others) (many ∙ is)
      (subst (λ n. DoorsShared station ran goes config.table.rows 1 (take n olds) (take n news) log counts) is counted) within ends

  pub does_all_by : (olds news : List (DoorKit A S)) (old new : SinkView) (answer : ℕ) (found read : Result Command ℕ) → ReadWords words found
      → DoesAll door station ran goes words olds news old new answer found
      → ReadWords words read → DoesAll door station ran goes words olds news old new answer read
  does_all_by olds news old new answer found read is done reads =
      subst (λ r. DoesAll door station ran goes words olds news old new answer r) (once words found read is reads) done

  completed_by : (options : Options) (olds news : List (DoorKit A S)) (old new : SinkView) (answer : ℕ) (bound : Option ℕ)
      → DoesServe door station ran goes words options olds news old new answer bound
      → IsSmooth door station ran options olds news old new → CompletedAll door station ran words options olds news answer bound
  completed_by options olds news old new answer None done smooth =
      completed door station ran goes words options olds news old new answer done smooth
  completed_by options olds news old new answer (Some bound) (unserved same wants) smooth =
      nothing same (never old new (goes_on door station ran goes words options olds news old new answer smooth) answer wants.told wants.noticed)
  completed_by options olds news old new answer (Some bound) (shared config log counts stats is done others many counted within ends) smooth =
      let shown : S → StationView = λ s. cached_shows (station s) in
      let calm = smooth_beside door station ran (take (doors_used options olds) olds) (take (doors_used options olds) news) smooth.doors in
      let right = right_doors door shown ran config.table.rows config.access.rules config.serve 1 (take (doors_used options olds) olds)
      (take (doors_used options olds) news) log done calm in
      let none = no_fault door shown ran config.table.rows config.access.rules config.serve 1 (take (doors_used options olds) olds)
      (take (doors_used options olds) news) log right in
      all config log is right
      (either_status (log_status log) answer
      (ended_as (log_text log ++ shares_text counts stats) (log_status log) old new answer
      (goes_on door station ran goes words options olds news old new answer smooth) ends) (status_by _ _ none))

  pub completed_all : (options : Options) (olds news : List (DoorKit A S)) (old new : SinkView) (answer : ℕ)
      → DoesServe door station ran goes words options olds news old new answer (shared_bound options)
      → IsSmooth door station ran options olds news old new
      → CompletedAll door station ran words options olds news answer (shared_bound options)
  completed_all options olds news old new answer done smooth =
      completed_by options olds news old new answer (shared_bound options) done smooth
