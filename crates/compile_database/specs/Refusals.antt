-- How a refusal ended.
use Rattle.std.specs.Prelude.{◌⊎◌, ℕ, List}
use Rattle.farm_types.specs.Exits.{bad_words_status, bad_text_status}
use Rattle.stream_print.specs.Prints.{SinksView}
use Rattle.compile_database.specs.Programs.{Told, Refused, Wanted, bad_words_text, refusal_text}
use Rattle.compile_database.specs.declared.fault.DatabaseFault.{DatabaseFault}

abbrev pub ToldOrWanted : List ℕ → SinksView → SinksView → ℕ → Type 0
ToldOrWanted text sinks sinks_now answer = Told text sinks sinks_now answer ⊎ Wanted sinks sinks_now answer

abbrev pub WordsRefused : ℕ → SinksView → SinksView → ℕ → Type 0
WordsRefused place sinks sinks_now answer = Refused (bad_words_text place) bad_words_status sinks sinks_now answer
    ⊎ Wanted sinks sinks_now answer

abbrev pub FaultRefused : DatabaseFault → SinksView → SinksView → ℕ → Type 0
FaultRefused fault sinks sinks_now answer = Refused (refusal_text fault) bad_text_status sinks sinks_now answer
    ⊎ Wanted sinks sinks_now answer
