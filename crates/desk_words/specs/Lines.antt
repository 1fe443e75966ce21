-- The lines between a caller and the desk, without their line feeds.
use Rattle.std.specs.Prelude.{ℕ, List, ◌++◌, codes, bytes_eq, take, drop, Option, Some, None, if◌then◌else◌}
use Rattle.desk_words.specs.declared.asking.Asked.{Asked}
use Rattle.desk_words.specs.declared.asking.Asked.TheVariants.{Hosts, Local, Within}
use Rattle.desk_words.specs.declared.told.Told.{Told}
use Rattle.desk_words.specs.declared.told.Told.TheVariants.{Done, Broke}
use Rattle.desk_words.specs.declared.answer.Answer.{Answer}
use Rattle.desk_words.specs.declared.answer.Answer.TheVariants as given

-- what a caller asks for, at the end of its greeting
abbrev pub asked_text : Asked → List ℕ
asked_text Hosts = codes ""
asked_text Local = codes " local"
asked_text Within = codes " within"

-- the line with which a caller asks
abbrev pub greeting_line : List ℕ → Asked → List ℕ
greeting_line token asked = (codes "farm-share 1 " ++ token) ++ asked_text asked

-- what a line asks for, by the token of the shared run
abbrev pub greeting_named : List ℕ → List ℕ → Option Asked
greeting_named token line =
    if bytes_eq line (greeting_line token Hosts) then Some Hosts
    else (if bytes_eq line (greeting_line token Local) then Some Local
    else (if bytes_eq line (greeting_line token Within) then Some Within
    else None))

abbrev pub told_line : Told → List ℕ
told_line Done = codes "done"
told_line Broke = codes "broke"

-- what a line reports
abbrev pub told_named : List ℕ → Option Told
told_named line =
    if bytes_eq line (told_line Done) then Some Done
    else (if bytes_eq line (told_line Broke) then Some Broke
    else None)

-- an answer without the place in memory of its text
pub data Answered : Type 0 where
  Host : List ℕ → Answered
  Here : Answered
  Alone : Answered

abbrev pub answered : Answer → Answered
answered (given.Host list) = Host list.now
answered given.Here = Here
answered given.Alone = Alone

abbrev pub shown_answer : Option Answer → Option Answered
shown_answer None = None
shown_answer (Some answer) = Some (answered answer)

abbrev pub answer_line : Answered → List ℕ
answer_line (Host list) = codes "host " ++ list
answer_line Here = codes "here"
answer_line Alone = codes "alone"

-- the answer that a line gives
abbrev pub answer_named : List ℕ → Option Answered
answer_named line =
    if bytes_eq line (answer_line Here) then Some Here
    else (if bytes_eq line (answer_line Alone) then Some Alone
    else (if bytes_eq (take 5 line) (codes "host ") then Some (Host (drop 5 line))
    else None))
