-- Where nothing failed, every connection is answered by what it gave.
use Rattle.std.proofs.Common.{◌≡◌, ℕ, suc, ◌⊎◌, inl, inr, Bool, true, false, List, [], ◌∷◌, ◌++◌, take, refl, ◌∙◌, ap}
use Rattle.std.specs.Prelude.{◌||◌, Result, if◌then◌else◌}
use Rattle.std.specs.List.{list_any}
use Rattle.std.proofs.lemmas.List.Folds.{list_any-append}
use Rattle.farm_types.specs.Exits.{memory_status, fault_status}
use Rattle.farm_types.specs.declared.placed.Word.{Word}
use Rattle.farm_types.specs.declared.ran.Ran.{Ran}
use Rattle.edge_traits.specs.declared.faults.Bounds.{Bounds}
use Rattle.edge_traits.specs.declared.faults.StationFault.{StationFault}
use Rattle.edge_traits.specs.Doors.{DoorView}
use Rattle.edge_traits.specs.Stations.{StationView}
use Rattle.edge_traits.specs.Sinks.{SinkView}
use Rattle.stream_print.specs.Prints.{DidStop}
use Rattle.access_list.specs.declared.rule.Rule.{Rule}
use Rattle.daemon_service.specs.declared.compilers.Compiler.{Compiler}
use Rattle.daemon_worker.specs.declared.log.Met.{Met}
use Rattle.daemon_worker.specs.declared.log.Met.TheVariants as met
use Rattle.daemon_worker.specs.declared.log.DoorKit.{DoorKit}
use Rattle.daemon_worker.specs.declared.log.Entry.{Entry}
use Rattle.daemon_worker.specs.Connections.{Connection}
use Rattle.daemon_worker.specs.Logs.{DoorsServed, numbered, is_door_fault}
use Rattle.daemon_worker.specs.Rightness.{AllRight, IsRight}
use Rattle.daemon_worker.proofs.Answering.{rightly}
use Rattle.farmd_options.specs.declared.options.Options.{Options}
use Rattle.object_cache.specs.Stations.{cached_shows}
use Rattle.daemon_program.specs.Texts.{log_text, books_text}
use Rattle.daemon_program.specs.Endings.{Noticed, told_whole, told_stopped, told_wanted, Ends, printed, stopped, wanted}
use Rattle.daemon_program.specs.Daemons.{Serves, unserved, served, cached, log_status, doors_used}
use Rattle.daemon_program.specs.Complete.{AllSmooth, DoorsRight, IsSmooth, Completed, nothing, all, beside}

-- ---- no door failed

abbrev is_fault : Entry → Bool
is_fault entry = is_door_fault entry.what

right_what : (what : Met) (c : Connection) → IsRight what c.visits → is_door_fault what ≡ false
right_what (met.Served _) c right = refl
right_what (met.Denied _ _) c right = refl
right_what met.DoorFault c right = absurd right
right_what met.DoorMemory c right = refl

numbered_right : (door number : ℕ) (cs : List Connection) → AllRight cs → list_any is_fault (numbered door number cs) ≡ false
numbered_right door number [] right = refl
numbered_right door number (c ∷ cs) right =
    ap (λ b. b || list_any is_fault (numbered door (suc number) cs)) (right_what c.what c right.0)
    ∙ numbered_right door (suc number) cs right.1

module _ {A S : Type 0} (door : A → DoorView) (station : S → StationView) (ran : S → List Word → List ℕ → Ran → Type 0)
    (table : List Compiler) (rules : List Rule) (serve : ℕ) where
  pub no_fault : (number : ℕ) (olds news : List (DoorKit A S)) (log : List Entry)
      → DoorsRight door station ran table rules serve number olds news log → list_any is_fault log ≡ false
  no_fault number [] [] log right = ap (list_any is_fault) right
  no_fault number [] (new ∷ news) log right = absurd right
  no_fault number (old ∷ olds) [] log right = absurd right
  no_fault number (old ∷ olds) (new ∷ news) log right =
      let mine : list_any is_fault right.0 ≡ false = ap (list_any is_fault) right.3.entries_are
      ∙ numbered_right number 1 right.3.cs right.4 in
      ap (list_any is_fault) right.2 ∙ list_any-append is_fault right.0 right.1 ∙ ap (λ b. b || list_any is_fault right.1) mine
      ∙ no_fault (suc number) olds news right.1 right.5

  pub right_doors : (number : ℕ) (olds news : List (DoorKit A S)) (log : List Entry)
      → DoorsServed table rules serve door station ran number olds news log → AllSmooth door station ran olds news
      → DoorsRight door station ran table rules serve number olds news log
  right_doors number [] [] log done smooth = done
  right_doors number [] (new ∷ news) log done smooth = absurd done
  right_doors number (old ∷ olds) [] log done smooth = absurd done
  right_doors number (old ∷ olds) (new ∷ news) log done smooth =
      let did = done.3.did in
      let calm = smooth.1.calm _ (did.visits.grew smooth.1.told) in (
        done.0,
        done.1,
        done.2,
        done.3,
        rightly table rules (ran new.station) (door old.door) (door new.door) (station old.station)
            (station new.station) done.3.cs did smooth.0 calm,
        right_doors (suc number) olds news done.1 done.4 smooth.2,
      )

-- what a station with a book tells of faults and overruns is what the station tells
pub smooth_beside : {A S : Type 0} (door : A → DoorView) (station : S → StationView) (ran : S → List Word → List ℕ → Ran → Type 0)
    (olds news : List (DoorKit A S)) → AllSmooth door station ran olds news
    → AllSmooth door (λ s. cached_shows (station s)) ran olds news
smooth_beside door station ran [] news smooth = smooth
smooth_beside door station ran (old ∷ olds) [] smooth = smooth
smooth_beside door station ran (old ∷ olds) (new ∷ news) smooth = (
  record { door = smooth.0.door; station = smooth.0.station; overruns = smooth.0.overruns },
  smooth.1,
  smooth_beside door station ran olds news smooth.2,
)

abbrev status_of : Bool → Bool → ℕ
status_of fault memory = if fault then fault_status else (if memory then memory_status else 0)

pub status_by : (a b : Bool) → a ≡ false → (status_of a b ≡ 0) ⊎ (status_of a b ≡ memory_status)
status_by true b none = absurd (cc none)
status_by false true none = inr refl
status_by false false none = inl refl

-- ---- the sink went on

pub never : (old new : SinkView) → ((DidStop old new) → ⊥) → (answer : ℕ) (told : List ℕ) → Noticed old new answer told → answer ≡ memory_status
never old new on answer told (told_whole is goes status) = status
never old new on answer told (told_stopped rest parts left stop status) = absurd (on stop)
never old new on answer told (told_wanted rest parts left goes status) = status

pub ended_as : (text : List ℕ) (status : ℕ) (old new : SinkView) (answer : ℕ) → ((DidStop old new) → ⊥) → Ends text status old new answer
    → (answer ≡ status) ⊎ (answer ≡ memory_status)
ended_as text status old new answer on (printed grew goes is) = inl is
ended_as text status old new answer on (stopped part stop is) = absurd (on stop)
ended_as text status old new answer on (wanted front rest parts left wants) = inr (never old new on answer wants.told wants.noticed)

pub either_status : (status answer : ℕ) → (answer ≡ status) ⊎ (answer ≡ memory_status) → (status ≡ 0) ⊎ (status ≡ memory_status)
    → (answer ≡ 0) ⊎ (answer ≡ memory_status)
either_status status answer (inl is) (inl none) = inl (is ∙ none)
either_status status answer (inl is) (inr memory) = inr (is ∙ memory)
either_status status answer (inr memory) none = inr memory

module _ {A S : Type 0} (door : A → DoorView) (station : S → StationView) (ran : S → List Word → List ℕ → Ran → Type 0)
    (goes : S → List Word → List ℕ → Bounds → Result Ran StationFault → S → Type 0) (words : List (List ℕ)) (options : Options) (olds news : List (DoorKit A S)) (old new : SinkView) (answer : ℕ) where
  pub goes_on : IsSmooth door station ran options olds news old new → DidStop old new → ⊥
  goes_on smooth (inl rose) = smooth.sink rose
  goes_on smooth (inr stop) = cc (stop, smooth.going)

  pub completed : Serves door station ran goes words options olds news old new answer → IsSmooth door station ran options olds news old new
      → Completed door station ran words options olds news answer
  completed (unserved same wants) smooth = nothing same (never old new (goes_on smooth) answer wants.told wants.noticed)
  completed (served config log is none_kept done others ends) smooth =
      let right = right_doors door station ran config.table.rows config.access.rules config.serve 1 (take (doors_used options olds) olds)
      (take (doors_used options olds) news) log done smooth.doors in
      let none = no_fault door station ran config.table.rows config.access.rules config.serve 1 (take (doors_used options olds) olds)
      (take (doors_used options olds) news) log right in
      all config log is none_kept right
      (either_status (log_status log) answer (ended_as (log_text log) (log_status log) old new answer (goes_on smooth) ends)
      (status_by _ _ none))
  completed (cached config log bound books is kept done others many counted ends) smooth =
      let shown : S → StationView = λ s. cached_shows (station s) in
      let calm = smooth_beside door station ran (take (doors_used options olds) olds) (take (doors_used options olds) news) smooth.doors in
      let right = right_doors door shown ran config.table.rows config.access.rules config.serve 1 (take (doors_used options olds) olds)
      (take (doors_used options olds) news) log done calm in
      let none = no_fault door shown ran config.table.rows config.access.rules config.serve 1 (take (doors_used options olds) olds)
      (take (doors_used options olds) news) log right in
      beside config log bound is kept right
      (either_status (log_status log) answer
      (ended_as (log_text log ++ books_text 1 books) (log_status log) old new answer (goes_on smooth) ends) (status_by _ _ none))
