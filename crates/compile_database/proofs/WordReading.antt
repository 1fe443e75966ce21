-- One reading of the words.
use Rattle.std.proofs.Common.{◌≡◌, ℕ, Bool, true, false, List, Result, Ok, Err, refl, ap, sym, ◌∙◌, inl, inr}
use Rattle.std.specs.Prelude.{◌⊎◌}
use Rattle.option_reader.specs.Items.{Item}
use Rattle.option_reader.specs.Readings.{CanTell, OptionsRead}
use Rattle.option_reader.proofs.Reading.{one_items, not_both, one_place, some_reading}
use Rattle.compile_database.specs.Choices.{Choice}
use Rattle.compile_database.specs.Words.{option_of, value_fits, options, choice_by, given_by, WordsRead}

either_way : (b : Bool) → (b ≡ true) ⊎ (b ≡ true → ⊥)
either_way true = inl refl
either_way false = inr (λ is. cc is)

can_tell : CanTell options
can_tell = λ before name value. either_way (value_fits (option_of name) value)

pub words_once : (words : List (List ℕ)) (one other : Result Choice ℕ) → WordsRead words one → WordsRead words other → one ≡ other
words_once words (Ok a) (Ok b) p q =
    ap Ok (p.2 ∙ ap (λ items. choice_by (given_by items)) (one_items options words p.0 q.0 p.1 q.1) ∙ sym q.2)
words_once words (Ok a) (Err place) p q = absurd (not_both options words p.0 place p.1 q)
words_once words (Err place) (Ok b) p q = absurd (not_both options words q.0 place q.1 p)
words_once words (Err place) (Err there) p q = ap Err (one_place options words place there p q)

words_by : (words : List (List ℕ)) (found : Result (List Item) ℕ) → OptionsRead options words found
    → (read : Result Choice ℕ) × WordsRead words read
words_by words (Ok items) is = (Ok (choice_by (given_by items)), (items, is, refl))
words_by words (Err place) is = (Err place, is)

pub words_some : (words : List (List ℕ)) → (read : Result Choice ℕ) × WordsRead words read
words_some words = let read = some_reading options can_tell words in words_by words read.0 read.1
