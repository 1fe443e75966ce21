-- The words of a command as a shell splits it.
use Rattle.std.specs.Prelude.{ℕ, List, [], ◌∷◌, ◌++◌, Bool, ◌||◌, ◌==◌, if◌then◌else◌, Option, Some, None}
use Rattle.farm_types.specs.Bytes.{line_feed, double_quote, single_quote, backslash, is_blank_or_line_feed}
use Rattle.compile_database.specs.declared.shell.Mode.{Mode}
use Rattle.compile_database.specs.declared.shell.Mode.TheVariants.{Outside, Escaped, Single, Double, DoubleEscaped}

-- `$`, a back quote, `"` and `\`, before which a backslash between double quotes is dropped
abbrev pub is_escapable : ℕ → Bool
is_escapable c = c == 36 || c == 96 || c == double_quote || c == backslash

-- ---- words

-- the bytes of a word, if one is open
abbrev pub opened : Option (List ℕ) → List ℕ
opened None = []
opened (Some bytes) = bytes

-- the word with one byte more
abbrev pub grown : Option (List ℕ) → ℕ → Option (List ℕ)
grown word c = Some (opened word ++ c ∷ [])

-- a word that is open ends
abbrev pub ended : List (List ℕ) → Option (List ℕ) → List (List ℕ)
ended done None = done
ended done (Some bytes) = done ++ bytes ∷ []

-- The words of a text that goes on outside quotes, after a backslash, between single quotes, between double quotes, or
-- there after a backslash, after these words and this open one. None if it ends in a quote or after a backslash.
abbrev pub words_from : Mode → List (List ℕ) → Option (List ℕ) → List ℕ → Option (List (List ℕ))
words_from Outside done word [] = Some (ended done word)
words_from Escaped done word [] = None
words_from Single done word [] = None
words_from Double done word [] = None
words_from DoubleEscaped done word [] = None
words_from Outside done word (c ∷ cs) =
    if is_blank_or_line_feed c then words_from Outside (ended done word) None cs
    else if c == single_quote then words_from Single done (Some (opened word)) cs
    else if c == double_quote then words_from Double done (Some (opened word)) cs
    else if c == backslash then words_from Escaped done word cs
    else words_from Outside done (grown word c) cs
words_from Escaped done word (c ∷ cs) =
    if c == line_feed then words_from Outside done word cs
    else words_from Outside done (grown word c) cs
words_from Single done word (c ∷ cs) =
    if c == single_quote then words_from Outside done word cs
    else words_from Single done (grown word c) cs
words_from Double done word (c ∷ cs) =
    if c == double_quote then words_from Outside done word cs
    else if c == backslash then words_from DoubleEscaped done word cs
    else words_from Double done (grown word c) cs
words_from DoubleEscaped done word (c ∷ cs) =
    if c == line_feed then words_from Double done word cs
    else if is_escapable c then words_from Double done (grown word c) cs
    else words_from Double done (grown (grown word backslash) c) cs

-- the words of a command, or None if a quote is open or a backslash is last
abbrev pub shell_words : List ℕ → Option (List (List ℕ))
shell_words text = words_from Outside [] None text
