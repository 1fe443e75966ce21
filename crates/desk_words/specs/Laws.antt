-- Lines are read as what they were written for, and no other line is read.
use Rattle.std.specs.Prelude.{◌≡◌, ℕ, List, Some}
use Rattle.desk_words.specs.declared.asking.Asked.{Asked}
use Rattle.desk_words.specs.declared.told.Told.{Told}
use Rattle.desk_words.specs.Lines.{Answered, greeting_line, greeting_named, told_line, told_named, answer_line, answer_named}

abbrev pub GreetingsAreRead : Type 0
GreetingsAreRead = (token : List ℕ) (asked : Asked) → greeting_named token (greeting_line token asked) ≡ Some asked

abbrev pub OnlyGreetingsAreRead : Type 0
OnlyGreetingsAreRead = (token line : List ℕ) (asked : Asked) → greeting_named token line ≡ Some asked → line ≡ greeting_line token asked

abbrev pub TalesAreRead : Type 0
TalesAreRead = (told : Told) → told_named (told_line told) ≡ Some told

abbrev pub OnlyTalesAreRead : Type 0
OnlyTalesAreRead = (line : List ℕ) (told : Told) → told_named line ≡ Some told → line ≡ told_line told

abbrev pub AnswersAreRead : Type 0
AnswersAreRead = (answer : Answered) → answer_named (answer_line answer) ≡ Some answer

abbrev pub OnlyAnswersAreRead : Type 0
OnlyAnswersAreRead = (line : List ℕ) (answer : Answered) → answer_named line ≡ Some answer → line ≡ answer_line answer
