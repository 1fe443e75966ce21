-- The words that can be printed on a line, and how they are.
use Rattle.std.specs.Prelude.{ℕ, ◌≤◌, List, length, [], ◌∷◌, ◌++◌, not, ◌||◌, ◌==◌, All, if◌then◌else◌}
use Rattle.std.specs.List.{AllPass, flat_map}
use Rattle.std.specs.Str.{IsUtf8}
use Rattle.farm_types.specs.Bytes.{line_feed, space, double_quote, backslash}
use Rattle.job_list.specs.Parts.{is_mark}

-- ---- the words

-- a word without a line feed and a zero byte
abbrev pub IsPrintable : List ℕ → Type 0
IsPrintable word = AllPass (λ c. not (c == line_feed || c == 0)) word

abbrev pub ArePrintable : List (List ℕ) → Type 0
ArePrintable words = All IsPrintable words

abbrev pub AreUtf8 : List (List ℕ) → Type 0
AreUtf8 words = All IsUtf8 words

-- words that a job can have
pub record AreJobWords (words : List (List ℕ)) : Type 0 where
  pub some : 1 ≤ length words
  pub printable : ArePrintable words
  pub utf8 : AreUtf8 words

-- ---- the line

-- a byte between double quotes
abbrev pub byte_text : ℕ → List ℕ
byte_text c = if is_mark c then backslash ∷ c ∷ [] else c ∷ []

abbrev pub word_text : List ℕ → List ℕ
word_text word = double_quote ∷ (flat_map byte_text word ++ double_quote ∷ [])

-- words between double quotes, with a space before each but the first
abbrev pub words_text : List (List ℕ) → List ℕ
words_text [] = []
words_text (w ∷ ws) = word_text w ++ flat_map (λ v. space ∷ word_text v) ws
