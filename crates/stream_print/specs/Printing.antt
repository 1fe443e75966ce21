-- How printing ended, and the exit status that was returned.
use Rattle.std.specs.Prelude.{◌≡◌, ◌⊎◌, ℕ, List, [], ◌∷◌, ◌++◌}
use Rattle.farm_types.specs.Exits.{stopped_status, memory_status}
use Rattle.stream_print.specs.declared.one.PrintStop.{PrintStop}
use Rattle.stream_print.specs.declared.one.PrintStop.TheVariants.{Stopped, Memory}
use Rattle.stream_print.specs.declared.pieces.SinkKind.TheVariants.{Err as ErrSink}
use Rattle.stream_print.specs.declared.pieces.Piece.{Piece}
use Rattle.stream_print.specs.Prints.{SinksView, Printed, PrintedPart, IsCutPiece, GoesOn, BothGoOn, DidStopOn}

-- a text for the sink of errors
abbrev pub complaint : List ℕ → Piece
complaint text = record { sink = ErrSink; bytes = text }

-- some first texts whole, and maybe a part of the next one, which there is in any case
abbrev pub IsPrintFront : List Piece → List Piece → Type 0
IsPrintFront pieces done = ((next : Piece) × (rest : List Piece) × (pieces ≡ done ++ next ∷ rest))
    ⊎ ((next : Piece) × IsCutPiece pieces done next)

-- The sinks got some first texts whole, and maybe a part of the next one. If the printing stopped, it was in that part; if
-- memory ran out, neither sink had stopped.
pub record PrintedFront (pieces : List Piece) (stop : PrintStop) (old new : SinksView) : Type 0 where
  pub done : List Piece
  pub front : IsPrintFront pieces done
  pub printed : Printed old new done
  pub stopped : stop ≡ Stopped → PrintedPart pieces Stopped old new
  pub memory : stop ≡ Memory → BothGoOn old new

-- The notice for lack of memory was printed whole; or in part, since its sink stopped; or in part, since its sink ran out of memory.
pub data WantTold (notice : List ℕ) (old new : SinksView) (answer : ℕ) : List Piece → Type 0 where
  told_whole : GoesOn old.err new.err → answer ≡ memory_status → WantTold notice old new answer (complaint notice ∷ [])
  told_stopped : {told : List Piece} → IsCutPiece (complaint notice ∷ []) told (complaint notice) → DidStopOn ErrSink old new
      → answer ≡ stopped_status → WantTold notice old new answer told
  told_wanted : {told : List Piece} → IsCutPiece (complaint notice ∷ []) told (complaint notice) → GoesOn old.err new.err
      → answer ≡ memory_status → WantTold notice old new answer told

-- Memory ran out after these texts, and the sink of results had not stopped: the notice for it follows.
pub record WantOf (notice : List ℕ) (done : List Piece) (old new : SinksView) (answer : ℕ) : Type 0 where
  pub told : List Piece
  pub printed : Printed old new (done ++ told)
  pub out : GoesOn old.out new.out
  pub end : WantTold notice old new answer told

-- These texts were to be printed, and then this status to be returned. They were, and neither sink stopped; or a sink stopped, the
-- other did not, and nothing was printed after that; or memory ran out.
pub data Printing (notice : List ℕ) (pieces : List Piece) (status : ℕ) (old new : SinksView) (answer : ℕ) : Type 0 where
  all_printed : Printed old new pieces → BothGoOn old new → answer ≡ status → Printing notice pieces status old new answer
  sink_stopped : PrintedPart pieces Stopped old new → answer ≡ stopped_status → Printing notice pieces status old new answer
  memory_wanted : {done : List Piece} → IsPrintFront pieces done → WantOf notice done old new answer
      → Printing notice pieces status old new answer
