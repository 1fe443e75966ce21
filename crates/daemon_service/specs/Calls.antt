-- What a service asked of its station.
use Rattle.std.specs.Prelude.{◌≡◌, ◌⊎◌, ℕ, List, Some, Result, Ok, Err, IfOk}
use Rattle.farm_types.specs.declared.placed.Word.{Word}
use Rattle.farm_types.specs.declared.request.Request.{Request}
use Rattle.farm_types.specs.declared.ran.Ran.{Ran}
use Rattle.farm_types.specs.declared.ran.Outcome.{Outcome}
use Rattle.farm_types.specs.Fits.{RequestFits}
use Rattle.edge_traits.specs.declared.faults.Bounds.{Bounds}
use Rattle.edge_traits.specs.declared.faults.StationFault.{StationFault}
use Rattle.edge_traits.specs.declared.faults.StationFault.TheVariants.{Memory}
use Rattle.edge_traits.specs.Stations.{compile_bounds}
use Rattle.arg_scan.specs.Class.{IsRemote}
use Rattle.arg_strip.specs.Words.{placed_words}
use Rattle.daemon_service.specs.declared.compilers.Compiler.{Compiler}
use Rattle.daemon_service.specs.declared.served.Served.{Served}
use Rattle.daemon_service.specs.declared.served.Served.TheVariants.{Answered}
use Rattle.daemon_service.specs.declared.served.Served.TheVariants as served
use Rattle.daemon_service.specs.Replies.{program_of, first_word, with_program, sent_outcome, unknown_compiler_status, not_one_source_status}

-- a status of a request that isn't compiled
abbrev pub IsRefused : ℕ → Type 0
IsRefused status = (status ≡ unknown_compiler_status) ⊎ (status ≡ not_one_source_status)

-- the answer isn't that of a compile
abbrev pub IsUncompiled : Served → Type 0
IsUncompiled (Answered status) = IsRefused status
IsUncompiled other = Unit {0}

-- The answer is by a run that ended so. An answer with a status has the status of that run. Any other answer but a fault of the station or lack of
-- memory is by a run that didn't fail.
abbrev pub IsEnded : Result Ran StationFault → Served → Type 0
IsEnded ended (Answered status) = (ran : Ran) × (ended ≡ Ok ran) × (ran.status ≡ status)
IsEnded ended served.StationFault = Unit {0}
IsEnded ended served.Memory = Unit {0}
IsEnded ended other = (ran : Ran) × (ended ≡ Ok ran)

module _ {S : Type 0} (goes : S → List Word → List ℕ → Bounds → Result Ran StationFault → S → Type 0) where
  -- The words that compile a request were run once, by this program, or memory ran out before.
  abbrev pub Tries : List ℕ → Request → S → S → Result Ran StationFault → Type 0
  Tries program q before after ended =
      ((after ≡ before) × (ended ≡ Err Memory)) ⊎ goes before (with_program program (placed_words q.words)) q.source compile_bounds
      ended after

  -- The station wasn't called for a request; or it was once, and the outcome is that of this run.
  pub data Asks (table : List Compiler) (q : Request) (before after : S) (result : Result Outcome Served) : Type 0 where
    unasked : after ≡ before → IfOk result (λ o. IsRefused o.status) → Asks table q before after result
    asked : (program : List ℕ) (ended : Result Ran StationFault) → IsRemote q.words → program_of table (first_word q.words) ≡ Some program
        → goes before (with_program program (placed_words q.words)) q.source compile_bounds ended after
        → IfOk result (λ o. (ran : Ran) × (ended ≡ Ok ran) × (o ≡ sent_outcome ran)) → Asks table q before after result

  -- The station wasn't called, and the answer isn't that of a compile; or it was called once, to compile a request.
  pub data Calls (table : List Compiler) (before after : S) (answer : Served) : Type 0 where
    uncalled : after ≡ before → IsUncompiled answer → Calls table before after answer
    called : (q : Request) (program : List ℕ) (ended : Result Ran StationFault) → RequestFits q.words q.source → IsRemote q.words
        → program_of table (first_word q.words) ≡ Some program
        → goes before (with_program program (placed_words q.words)) q.source compile_bounds ended after
        → IsEnded ended answer → Calls table before after answer
