-- How printing on the one sink ended, and the exit status that was answered.
use Rattle.std.specs.Prelude.{◌≡◌, ◌≢◌, ℕ, List, [], ◌++◌, Result, Ok, Err}
use Rattle.farm_types.specs.Exits.{stopped_status, memory_status}
use Rattle.edge_traits.specs.Told.{Grew}
use Rattle.edge_traits.specs.Sinks.{SinkView}
use Rattle.stream_print.specs.declared.one.PrintStop.{PrintStop}
use Rattle.stream_print.specs.declared.one.PrintStop.TheVariants.{Stopped, Memory}
use Rattle.stream_print.specs.Prints.{GoesOn, DidStop}
use Rattle.daemon_program.specs.Texts.{no_memory_text}

-- a front of the text was written, and not all of it
pub record IsPart (text : List ℕ) (old new : SinkView) : Type 0 where
  pub front : List ℕ
  pub rest : List ℕ
  pub parts : text ≡ front ++ rest
  pub left : rest ≢ []
  pub grew : Grew old.written new.written front

-- The text was printed whole, and the sink goes on. Or a part of it was, and the sink stopped. Or a part was, and the sink goes on, but memory ran
-- out.
abbrev pub PrintEnded : List ℕ → Result Unit PrintStop → SinkView → SinkView → Type 0
PrintEnded text (Ok done) old new = Grew old.written new.written text × GoesOn old new
PrintEnded text (Err Stopped) old new = IsPart text old new × DidStop old new
PrintEnded text (Err Memory) old new = IsPart text old new × GoesOn old new

-- How much of the notice for lack of memory was printed, and the status by that.
pub data Noticed (old new : SinkView) (answer : ℕ) (told : List ℕ) : Type 0 where
  -- all of it
  told_whole : told ≡ no_memory_text → GoesOn old new → answer ≡ memory_status → Noticed old new answer told
  -- a part, since the sink stopped
  told_stopped : (rest : List ℕ) → no_memory_text ≡ told ++ rest → rest ≢ [] → DidStop old new → answer ≡ stopped_status
      → Noticed old new answer told
  -- a part, since memory ran out
  told_wanted : (rest : List ℕ) → no_memory_text ≡ told ++ rest → rest ≢ [] → GoesOn old new → answer ≡ memory_status
      → Noticed old new answer told

-- memory ran out after this text, and the notice for it follows
pub record WantsAfter (text : List ℕ) (old new : SinkView) (answer : ℕ) : Type 0 where
  pub told : List ℕ
  pub grew : Grew old.written new.written (text ++ told)
  pub noticed : Noticed old new answer told

-- This text was to be printed, and then this status to be answered.
pub data Ends (text : List ℕ) (status : ℕ) (old new : SinkView) (answer : ℕ) : Type 0 where
  -- the sink got it whole
  printed : Grew old.written new.written text → GoesOn old new → answer ≡ status → Ends text status old new answer
  -- the sink got a part of it, since it stopped
  stopped : IsPart text old new → DidStop old new → answer ≡ stopped_status → Ends text status old new answer
  -- the sink got a part of it, and then the notice, since memory ran out
  wanted : (front rest : List ℕ) → text ≡ front ++ rest → rest ≢ [] → WantsAfter front old new answer → Ends text status old new answer
