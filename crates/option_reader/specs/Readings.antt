-- What words say as options, or the place of the first that doesn't fit.
use Rattle.std.specs.Prelude.{◌≡◌, ◌⊎◌, ℕ, ◌+◌, true, List, [], ◌∷◌, ◌++◌, length, Result, Ok, Err, MatchBool}
use Rattle.option_reader.specs.Items.{Item, items_words}
use Rattle.option_reader.specs.Tables.{Table, has_value, follows, AreItems}

-- the words are these options, one after another, which the command may have
pub record AreOptions (table : Table) (words : List (List ℕ)) (items : List Item) : Type 0 where
  pub right : AreItems table items
  pub are : words ≡ items_words items

-- the first of these words doesn't fit as the value of this option, or there is none
abbrev pub NoValue : Table → List Item → List ℕ → List (List ℕ) → Type 0
NoValue table before name [] = Unit {0}
NoValue table before name (value ∷ more) = table.Fits (items_words before) name value → ⊥

-- the option takes a value, and the word after it doesn't fit as one, or there is none: its place is 1
pub record ValueStop (table : Table) (before : List Item) (name : List ℕ) (more : List (List ℕ)) (behind : ℕ) : Type 0 where
  pub takes : has_value (table.known name) ≡ true
  pub none : NoValue table before name more
  pub at : behind ≡ 1

-- After these options the words don't go on as options: the word at this place, counted from 0 among these words, doesn't fit.
abbrev pub StopAt : Table → List Item → List (List ℕ) → ℕ → Type 0
StopAt table before [] behind = ⊥
StopAt table before (word ∷ more) behind = MatchBool (follows table before word) (ValueStop table before word more behind) (behind ≡ 0)

-- The words aren't options of the command, and this is the place, from 0, of the first that doesn't fit: options are before it,
-- one after another. The place of a missing word is after the last.
pub record BadOptionAt (table : Table) (words : List (List ℕ)) (place : ℕ) : Type 0 where
  pub items : List Item
  pub rest : List (List ℕ)
  pub behind : ℕ
  pub right : AreItems table items
  pub are : words ≡ items_words items ++ rest
  pub stop : StopAt table items rest behind
  pub at : place ≡ length (items_words items) + behind

-- the options that words are, or the place of the first that doesn't fit
abbrev pub OptionsRead : Table → List (List ℕ) → Result (List Item) ℕ → Type 0
OptionsRead table words (Ok items) = AreOptions table words items
OptionsRead table words (Err place) = BadOptionAt table words place

-- a word fits as a value, or doesn't
abbrev pub CanTell : Table → Type 0
CanTell table = (before : List (List ℕ)) (name value : List ℕ) → table.Fits before name value ⊎ (table.Fits before name value → ⊥)
