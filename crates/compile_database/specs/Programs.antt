-- What `farm_jobs` does.
use Rattle.std.specs.Prelude.{◌≡◌, ◌<◌, ℕ, List, [], ◌∷◌, ◌++◌, length, codes, None, Some}
use Rattle.std.specs.Fmt.{decimal}
use Rattle.farm_types.specs.Exits.{bad_words_status, fault_status, bad_text_status}
use Rattle.edge_traits.specs.Causes.{Still}
use Rattle.edge_traits.specs.Sources.{SourceView}
use Rattle.stream_print.specs.Notices.{no_memory_notice}
use Rattle.stream_print.specs.Reads.{AllRead, ReadTo, BrokeOff, HasReadSome}
use Rattle.stream_print.specs.declared.pieces.SinkKind.TheVariants.{Out}
use Rattle.stream_print.specs.declared.pieces.Piece.{Piece}
use Rattle.stream_print.specs.Prints.{SinksView}
use Rattle.stream_print.specs.Printing.{Printing, WantOf, complaint}
use Rattle.compile_database.specs.declared.fault.DatabaseFault.{DatabaseFault}
use Rattle.compile_database.specs.declared.help.Ask.{Ask}
use Rattle.compile_database.specs.Choices.{Choice}
use Rattle.compile_database.specs.Databases.{FaultStands, ListOf}
use Rattle.compile_database.specs.Faults.{fault_text}
use Rattle.compile_database.specs.Helps.{asked, text_of}
use Rattle.compile_database.specs.Words.{BadWordsAt, Chooses}

-- ---- the texts

abbrev pub no_memory_text : List ℕ
no_memory_text = no_memory_notice (codes "farm_jobs")

abbrev pub unreadable_text : List ℕ
unreadable_text = codes "farm_jobs: cannot read the database\n"

abbrev pub bad_words_text : ℕ → List ℕ
bad_words_text place = codes "farm_jobs: bad words at word " ++ decimal place ++ codes "\n"

abbrev pub refusal_text : DatabaseFault → List ℕ
refusal_text fault = codes "farm_jobs: " ++ fault_text fault ++ codes "\n"

-- this many bytes are too many
abbrev pub too_long : ℕ
too_long = 67_108_864

-- a text for the output
abbrev pub output : List ℕ → Piece
output text = record { sink = Out; bytes = text }

-- ---- the endings

-- the text was printed, or printing stopped, or memory ran out
abbrev pub Told : List ℕ → SinksView → SinksView → ℕ → Type 0
Told text sinks sinks_now answer = Printing no_memory_text (output text ∷ []) 0 sinks sinks_now answer

-- this refusal was printed, or printing stopped, or memory ran out
abbrev pub Refused : List ℕ → ℕ → SinksView → SinksView → ℕ → Type 0
Refused message status sinks sinks_now answer = Printing no_memory_text (complaint message ∷ []) status sinks sinks_now answer

-- memory ran out before anything was printed
abbrev pub Wanted : SinksView → SinksView → ℕ → Type 0
Wanted sinks sinks_now answer = WantOf no_memory_text [] sinks sinks_now answer

-- The job list of the text was printed; or the text has this fault, which was printed; or memory ran out.
pub data Listed (choice : Choice) (text : List ℕ) (sinks sinks_now : SinksView) (answer : ℕ) : Type 0 where
  printed_list : (list : List ℕ) → ListOf choice text list → Told list sinks sinks_now answer → Listed choice text sinks sinks_now answer
  faulty_text : (fault : DatabaseFault) → FaultStands choice text fault
      → Refused (refusal_text fault) bad_text_status sinks sinks_now answer → Listed choice text sinks sinks_now answer
  unlisted : Wanted sinks sinks_now answer → Listed choice text sinks sinks_now answer

-- The input was read to its end, and its text was listed; or it was too long, or couldn't be read; or memory ran out while it was
-- read. In the last case its count stays: no fault of the input is reported as lack of memory.
pub data Reads (choice : Choice) (old new : SourceView) (sinks sinks_now : SinksView) (answer : ℕ) : Type 0 where
  whole_input : (text : List ℕ) → AllRead old new text → length text < too_long → Listed choice text sinks sinks_now answer
      → Reads choice old new sinks sinks_now answer
  long_input : ReadTo too_long old new → Refused unreadable_text fault_status sinks sinks_now answer
      → Reads choice old new sinks sinks_now answer
  broken_input : BrokeOff too_long old new → Refused unreadable_text fault_status sinks sinks_now answer
      → Reads choice old new sinks sinks_now answer
  unread : HasReadSome too_long old new → Still old.faults new.faults → Wanted sinks sinks_now answer
      → Reads choice old new sinks sinks_now answer

-- The words ask for a text, which was printed; or they don't fit, at this place; or they say which entries are taken; or memory
-- ran out, and nothing was read.
pub data Does (words : List (List ℕ)) (old new : SourceView) (sinks sinks_now : SinksView) (answer : ℕ) : Type 0 where
  told : (ask : Ask) → asked words ≡ Some ask → new ≡ old → Told (text_of ask) sinks sinks_now answer
      → Does words old new sinks sinks_now answer
  bad_words : (place : ℕ) → asked words ≡ None → BadWordsAt words place → new ≡ old
      → Refused (bad_words_text place) bad_words_status sinks sinks_now answer → Does words old new sinks sinks_now answer
  listed : (choice : Choice) → asked words ≡ None → Chooses words choice → Reads choice old new sinks sinks_now answer
      → Does words old new sinks sinks_now answer
  unheard : new ≡ old → Wanted sinks sinks_now answer → Does words old new sinks sinks_now answer
