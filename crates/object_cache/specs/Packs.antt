-- An entry, as it is kept: numbers, and one text of both outputs, the object, the coded words and the input.
use Rattle.std.specs.Prelude.{ℕ, List, [], ◌∷◌, ◌++◌, length, take, drop, zero, suc}
use Rattle.std.specs.Int.{w32, to_be_bytes, from_be_bytes}
use Rattle.std.specs.List.{flat_map}
use Rattle.farm_types.specs.declared.placed.Ext.TheVariants.{I, Ii}
use Rattle.farm_types.specs.declared.placed.Word.{Word}
use Rattle.farm_types.specs.declared.placed.Word.TheVariants.{Text, Input, Output}
use Rattle.object_cache.specs.Entries.{Entry}

-- the bytes of a length, as it is kept
unfoldable pub len_bytes : ℕ → List ℕ
len_bytes len = to_be_bytes w32 len

-- the length at the front of a text
unfoldable pub len_in : List ℕ → ℕ
len_in text = from_be_bytes w32 (take 4 text)

-- what is kept of a word before its text: its kind, and the length of the text if it has one
abbrev pub head_of : Word → List ℕ
head_of (Text bytes) = 0 ∷ len_bytes (length bytes)
head_of (Input I) = 1 ∷ []
head_of (Input Ii) = 2 ∷ []
head_of Output = 3 ∷ []

-- the text of a word, which is empty for the other kinds
abbrev pub bytes_of : Word → List ℕ
bytes_of (Text bytes) = bytes
bytes_of (Input ext) = []
bytes_of Output = []

-- a word, as it is kept
abbrev pub coded : Word → List ℕ
coded word = head_of word ++ bytes_of word

-- the word at the front of a text of coded words
abbrev pub word_in : List ℕ → Word
word_in [] = Output
word_in (zero ∷ rest) = Text (take (len_in rest) (drop 4 rest))
word_in (suc zero ∷ rest) = Input I
word_in (suc (suc zero) ∷ rest) = Input Ii
word_in (suc (suc (suc kind)) ∷ rest) = Output

-- what comes after that word
abbrev pub behind_word : List ℕ → List ℕ
behind_word [] = []
behind_word (zero ∷ rest) = drop (len_in rest) (drop 4 rest)
behind_word (suc kind ∷ rest) = rest

-- that many words at the front of a text
unfoldable pub words_in : ℕ → List ℕ → List Word
words_in zero text = []
words_in (suc count) text = word_in text ∷ words_in count (behind_word text)

-- what comes after those words
unfoldable pub behind_words : ℕ → List ℕ → List ℕ
behind_words zero text = text
behind_words (suc count) text = behind_words count (behind_word text)

-- the text of an entry
abbrev pub packed : Entry → List ℕ
packed entry = (((entry.ran.out ++ entry.ran.err) ++ entry.ran.object) ++ flat_map coded entry.words) ++ entry.input

-- what comes after both outputs and the object, of these lengths
abbrev pub behind_ran : ℕ → ℕ → ℕ → List ℕ → List ℕ
behind_ran out err object text = drop object (drop err (drop out text))

-- the entry of a text with that many words, whose outputs and object have these lengths
abbrev pub unpacked : ℕ → ℕ → ℕ → ℕ → ℕ → List ℕ → Entry
unpacked words status out err object text = record {
  words = words_in words (behind_ran out err object text);
  input = behind_words words (behind_ran out err object text);
  ran = record {
    status = status;
    out = take out text;
    err = take err (drop out text);
    object = take object (drop err (drop out text));
  };
}
