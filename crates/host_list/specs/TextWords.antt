-- The words of a text, with their places.
use Rattle.std.specs.Prelude.{ℕ, ◌≡◌, ◌≤◌, ◌+◌, List, [], ◌∷◌, ◌++◌, length, Bool, not, true, false, ◌||◌, ◌==◌, if◌then◌else◌}
use Rattle.std.specs.List.{AllPass}
use Rattle.farm_types.specs.Bytes.{tab, line_feed, form_feed, space, hash}

-- space, tab, line feed or form feed
abbrev pub is_blank_or_feed : ℕ → Bool
is_blank_or_feed c = c == space || c == tab || c == line_feed || c == form_feed

-- the text from a place that is or isn't inside a comment, with spaces in place of the comments' bytes:
-- a comment begins with `#` and ends with its line
abbrev pub without_comments : Bool → List ℕ → List ℕ
without_comments inside [] = []
without_comments inside (c ∷ cs) =
    if c == line_feed then line_feed ∷ without_comments false cs
    else if inside || c == hash then space ∷ without_comments true cs
    else c ∷ without_comments false cs

-- a word, and the place of its first byte
pub record TextWord : Type 0 where
  pub at : ℕ
  pub bytes : List ℕ

-- a blank, or nothing, comes next
abbrev pub EndsRun : List ℕ → Type 0
EndsRun [] = Unit {0}
EndsRun (c ∷ cs) = is_blank_or_feed c ≡ true

-- a text that begins at this place is blanks, then this word, a longest run without blanks, and then the rest
pub record BeginsWithWord (from : ℕ) (text : List ℕ) (word : TextWord) (rest : List ℕ) : Type 0 where
  pub gap : List ℕ
  pub split : text ≡ gap ++ (word.bytes ++ rest)
  pub blank : AllPass is_blank_or_feed gap
  pub place : word.at ≡ from + length gap
  pub some : 1 ≤ length word.bytes
  pub plain : AllPass (λ c. not (is_blank_or_feed c)) word.bytes
  pub ends : EndsRun rest

-- the longest runs without blanks of a text that begins at this place, in order
abbrev pub RunsOf : ℕ → List ℕ → List TextWord → Type 0
RunsOf from text [] = AllPass is_blank_or_feed text
RunsOf from text (w ∷ ws) = (rest : List ℕ) × BeginsWithWord from text w rest × RunsOf (w.at + length w.bytes) rest ws

-- the words of a text: the longest runs without blanks once comments are cut
abbrev pub WordsOf : List ℕ → List TextWord → Type 0
WordsOf text words = RunsOf 0 (without_comments false text) words
