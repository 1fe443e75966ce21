-- The words of a text, computed from its end.
use Rattle.std.specs.Prelude.{ℕ, ◌+◌, List, [], ◌∷◌, false, ◌==◌, if◌then◌else◌}
use Rattle.host_list.specs.TextWords.{TextWord, is_blank_or_feed, without_comments}

-- a byte at this place goes to the front of a word that begins right after it, or else is a word of its own
abbrev pub with_byte : ℕ → ℕ → List TextWord → List TextWord
with_byte at c [] = record { at = at; bytes = c ∷ [] } ∷ []
with_byte at c (w ∷ ws) =
    if w.at == at + 1 then record { at = at; bytes = c ∷ w.bytes } ∷ ws
    else record { at = at; bytes = c ∷ [] } ∷ w ∷ ws

-- the longest runs without blanks, in order; the text begins at this place
abbrev pub runs : ℕ → List ℕ → List TextWord
runs at [] = []
runs at (c ∷ cs) = if is_blank_or_feed c then runs (at + 1) cs else with_byte at c (runs (at + 1) cs)

-- those of a whole text once comments are cut
abbrev pub words_of : List ℕ → List TextWord
words_of text = runs 0 (without_comments false text)
