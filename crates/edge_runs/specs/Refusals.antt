-- What is answered in place of a run.
use Rattle.std.specs.Prelude.{ℕ, List, [], ◌∷◌, ◌++◌, take, codes, slice_get, Option, None, Some}
use Rattle.farm_types.specs.declared.placed.Word.{Word}
use Rattle.farm_types.specs.declared.placed.Word.TheVariants.{Text, Input, Output}
use Rattle.farm_types.specs.declared.ran.Ran.{Ran}

-- the most bytes of a word in a message
abbrev pub shown_word_max : ℕ
shown_word_max = 64

-- the front of a word's text
abbrev pub shown_word : Option Word → List ℕ
shown_word None = []
shown_word (Some (Text bytes)) = take shown_word_max bytes
shown_word (Some (Input ext)) = []
shown_word (Some Output) = []

-- `farmd: not let through: WORD` with a line feed
abbrev pub unserved_message : Option Word → List ℕ
unserved_message word = (codes "farmd: not let through: " ++ shown_word word) ++ 10 ∷ []

-- the reply in place of a run of words of which the one at this place isn't let through: exit code 111 and a message, cut to the bound
abbrev pub unserved_reply : ℕ → List Word → ℕ → Ran
unserved_reply bound words place = record {
  status = 28416;
  out = [];
  err = take bound (unserved_message (slice_get words place));
  object = [];
}
